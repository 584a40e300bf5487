-- The number is where the header has it.
use Rattle.std.proofs.Common.{ap, ◌∙◌}
use Rattle.gx_page.specs.Contents.{Contents}
use Rattle.gx_page.proofs.Parts.{nsn_in}
use Rattle.gx_page.proofs.page.Page.nsn.Goals as goal

pub returns : goal.returns
returns c = c.u64_at.ensures ∙ nsn_in c.self.inside.block.bytes ∙ ap (λ (page : Contents). page.nsn) c.self.view_is
