-- The whole block is lent.
use Rattle.std.proofs.Common.{◌≡◌, length, ap, subst, sym, ◌∙◌}
use Rattle.gx_page.specs.Format.{image_of, IsWellFormed}
use Rattle.gx_page.specs.Reading.{read_of, IsImage}
use Rattle.gx_page.proofs.Steps.{whole_read}
use Rattle.gx_page.proofs.page.Page.image.Goals as goal

pub returns : goal.returns
returns c =
    let bytes = c.self.inside.block.bytes in
    let lent : c.slice.result.now ≡ image_of (read_of bytes) = c.slice.ensures.0 ∙ whole_read bytes c.self.invariant in
    let all : c.slice.result.now ≡ bytes = lent ∙ c.self.invariant.image in
    record {
      image = lent ∙ ap image_of c.self.view_is;
      size = ap length all ∙ c.slice.ensures.1;
      well_formed = subst IsWellFormed c.self.view_is c.self.invariant.well_formed;
      back = (subst IsImage (sym all) c.self.invariant, ap read_of all ∙ c.self.view_is);
    }
