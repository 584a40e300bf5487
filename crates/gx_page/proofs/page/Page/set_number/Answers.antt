-- The image with that field in place is the image of the contents with it.
use Rattle.std.proofs.Common.{ap, subst, sym, ◌∙◌}
use Rattle.gx_page.specs.Contents.{Contents}
use Rattle.gx_page.specs.Reading.{read_of, IsImage}
use Rattle.gx_page.proofs.Steps.{number_goes}
use Rattle.gx_page.proofs.page.Page.set_number.Goals as goal

pub invariant_of-self : goal.invariant_of-self
invariant_of-self c = subst IsImage (sym c.set_u32.ensures) (number_goes c.self.inside.block.bytes c.args.number c.self.invariant c.ranges.number.fits).0

pub returns : goal.returns
returns c = ap read_of c.set_u32.ensures ∙ (number_goes c.self.inside.block.bytes c.args.number c.self.invariant c.ranges.number.fits).1 ∙ ap (λ (page : Contents). record page { number = c.args.number }) c.self.view_is
