use Rattle.std.proofs.Common.{rules}
use Rattle.gx_node.proofs.entry.write_child.Goals as goal

pub returns : goal.returns
returns g c = search rules
