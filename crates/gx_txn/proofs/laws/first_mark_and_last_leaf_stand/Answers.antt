use Rattle.gx_txn.proofs.FirstAndLast.{stands, noted_are_written, notes_in_order}
use Rattle.gx_txn.proofs.laws.first_mark_and_last_leaf_stand.Goals as goal

pub returns : goal.returns
returns g c = record { stand = stands; written = noted_are_written; in_order = notes_in_order }
