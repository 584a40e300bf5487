-- The laws, from what reading and the tests say of images.
use Rattle.std.proofs.Common.{sym, ap, ◌∙◌}
use Rattle.gx_page.specs.Reading.{read_of}
use Rattle.gx_page.specs.Faults.{fault_of}
use Rattle.gx_page.proofs.Images.{read-image}
use Rattle.gx_page.proofs.Faultless.{is_image, image_faultless}
use Rattle.gx_page.proofs.laws.format.Goals as goal

pub returns : goal.returns
returns c = record {
  images_tell = λ v w f g e. sym (read-image v f) ∙ ap read_of e ∙ read-image w g;
  read_back = read-image;
  faultless_are_images = λ bytes are. (
    λ e. let i = is_image bytes are e in (read_of bytes, (i.well_formed, i.image)),
    λ h. ap fault_of (sym h.1.1) ∙ image_faultless h.0 h.1.0,
  );
}
