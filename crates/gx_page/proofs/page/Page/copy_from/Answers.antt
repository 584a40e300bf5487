-- The whole block is the other's.
use Rattle.std.proofs.Common.{ap, subst, sym, ◌∙◌}
use Rattle.gx_page.specs.Reading.{read_of, IsImage}
use Rattle.gx_page.proofs.Parts.{image_size}
use Rattle.gx_page.proofs.Steps.{whole_written}
use Rattle.gx_page.proofs.page.Page.copy_from.Goals as goal

pub invariant_of-self : goal.invariant_of-self
invariant_of-self c =
    let image : IsImage c.bytes.result.now = subst IsImage (sym c.bytes.ensures) c.other.invariant in
    subst IsImage (sym (c.write_many.ensures.0 ∙ whole_written _ c.bytes.result.now c.write_many.ensures.1 (image_size c.bytes.result.now image))) image

pub returns : goal.returns
returns c =
    let image : IsImage c.bytes.result.now = subst IsImage (sym c.bytes.ensures) c.other.invariant in
    ap read_of (c.write_many.ensures.0 ∙ whole_written _ c.bytes.result.now c.write_many.ensures.1 (image_size c.bytes.result.now image) ∙ c.bytes.ensures) ∙ c.other.view_is
