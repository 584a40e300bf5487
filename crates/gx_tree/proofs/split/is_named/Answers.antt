use Rattle.gx_tree.proofs.split.Named.{named_at}
use Rattle.gx_tree.proofs.split.is_named.Goals as goal

pub returns : goal.returns
returns g c = named_at c.args.inner.now.children c.args.page c.args.slot c.page_of.result c.requires c.page_of.ensures
