use Rattle.std.proofs.Common.{rules}
use Rattle.gx_node.proofs.entry.is_child.Goals as goal

pub returns-then-page-ge1 : goal.returns-then-page-ge1
returns-then-page-ge1 g c = search rules
