-- The block's edit, of the page's contents.
use Rattle.std.proofs.Common.{ap, ◌∙◌, set}
use Rattle.gx_page.specs.Contents.{Contents}
use Rattle.gx_page.specs.Edits.{with_items}
use Rattle.gx_page.proofs.page.Page.replace.Goals as goal

pub returns : goal.returns
returns c = c.replace.ensures.items ∙ ap (λ (page : Contents). with_items page (set page.items c.args.slot c.args.bytes.now)) c.self.view_is
