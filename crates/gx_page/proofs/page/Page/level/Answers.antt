-- The number is where the header has it.
use Rattle.std.proofs.Common.{ap, ◌∙◌}
use Rattle.gx_page.specs.Contents.{Contents}
use Rattle.gx_page.proofs.Parts.{level_in}
use Rattle.gx_page.proofs.page.Page.level.Goals as goal

pub returns : goal.returns
returns c = c.u16_at.ensures ∙ level_in c.self.inside.block.bytes ∙ ap (λ (page : Contents). page.level) c.self.view_is
