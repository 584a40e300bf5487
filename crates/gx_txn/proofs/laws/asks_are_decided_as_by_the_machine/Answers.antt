use Rattle.gx_txn.proofs.AsMachine.{same_decision, deletes_as_inserts}
use Rattle.gx_txn.proofs.laws.asks_are_decided_as_by_the_machine.Goals as goal

pub returns : goal.returns
returns g c = record { machine = same_decision; deletes = deletes_as_inserts }
