use Rattle.gx_node.proofs.Fresh.{fresh_legal}
use Rattle.std.proofs.Common.{refl}
use Rattle.gx_node.proofs.tree_laws.fresh_tree_is_legal.Goals as goal

pub returns-clause-legal : goal.returns-clause-legal
returns-clause-legal g c = λ r law start. fresh_legal r law start

pub returns-clause-empty : goal.returns-clause-empty
returns-clause-empty g c = λ start test. refl
