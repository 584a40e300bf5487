-- The number is where the header has it.
use Rattle.std.proofs.Common.{ap, ◌∙◌}
use Rattle.gx_page.specs.Contents.{Contents}
use Rattle.gx_page.proofs.Parts.{number_in}
use Rattle.gx_page.proofs.page.Page.number.Goals as goal

pub returns : goal.returns
returns c = c.u32_at.ensures ∙ number_in c.self.inside.block.bytes ∙ ap (λ (page : Contents). page.number) c.self.view_is
