-- The block's edit.
use Rattle.gx_page.proofs.page.Page.reset.Goals as goal

pub returns : goal.returns
returns c = c.reset.ensures.page
