-- The number is where the header has it.
use Rattle.std.proofs.Common.{ap, ◌∙◌}
use Rattle.gx_page.specs.Contents.{Contents}
use Rattle.gx_page.proofs.Parts.{right_in}
use Rattle.gx_page.proofs.page.Page.right.Goals as goal

pub returns : goal.returns
returns c = c.u32_at.ensures ∙ right_in c.self.inside.block.bytes ∙ ap (λ (page : Contents). page.right) c.self.view_is
