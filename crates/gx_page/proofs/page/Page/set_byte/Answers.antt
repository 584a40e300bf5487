-- The block's edit, of the page's contents.
use Rattle.std.proofs.Common.{ap, ◌∙◌, [], set, get_or}
use Rattle.gx_page.specs.Contents.{Contents}
use Rattle.gx_page.specs.Edits.{with_items}
use Rattle.gx_page.proofs.page.Page.set_byte.Goals as goal

pub returns : goal.returns
returns c =
    c.set_byte.ensures.items ∙ ap (λ (page : Contents). with_items page (set page.items c.args.slot (set (get_or page.items c.args.slot []) c.args.index c.args.byte))) c.self.view_is
