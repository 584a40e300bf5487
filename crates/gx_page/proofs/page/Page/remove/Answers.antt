-- The block's edit, of the page's contents.
use Rattle.std.proofs.Common.{ap, ◌∙◌}
use Rattle.std.specs.List.{remove}
use Rattle.gx_page.specs.Contents.{Contents}
use Rattle.gx_page.specs.Edits.{with_items}
use Rattle.gx_page.proofs.page.Page.remove.Goals as goal

pub returns : goal.returns
returns c = c.remove.ensures.items ∙ ap (λ (page : Contents). with_items page (remove page.items c.args.slot)) c.self.view_is
