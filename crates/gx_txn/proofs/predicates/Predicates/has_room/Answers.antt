use Rattle.std.proofs.Common.{rules}
use Rattle.gx_txn.proofs.predicates.Predicates.has_room.Goals as goal

pub returns : goal.returns
returns g c = search rules
