use Rattle.std.proofs.Common.{rules}
use Rattle.gx_node.proofs.scan.costs_less.Goals as goal

pub returns-then-a-b-2 : goal.returns-then-a-b-2
returns-then-a-b-2 c = search rules
