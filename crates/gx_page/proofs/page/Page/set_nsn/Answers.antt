-- The image with that field in place is the image of the contents with it.
use Rattle.std.proofs.Common.{ap, subst, sym, ◌∙◌}
use Rattle.gx_page.specs.Contents.{Contents}
use Rattle.gx_page.specs.Reading.{read_of, IsImage}
use Rattle.gx_page.proofs.Steps.{nsn_goes}
use Rattle.gx_page.proofs.page.Page.set_nsn.Goals as goal

pub invariant_of-self : goal.invariant_of-self
invariant_of-self c = subst IsImage (sym c.set_u64.ensures) (nsn_goes c.self.inside.block.bytes c.args.nsn c.self.invariant c.ranges.nsn.fits).0

pub returns : goal.returns
returns c = ap read_of c.set_u64.ensures ∙ (nsn_goes c.self.inside.block.bytes c.args.nsn c.self.invariant c.ranges.nsn.fits).1 ∙ ap (λ (page : Contents). record page { nsn = c.args.nsn }) c.self.view_is
