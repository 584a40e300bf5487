use Rattle.std.proofs.Common.{ap}
use Rattle.gx_index_laws.specs.States.{tree_now}
use Rattle.gx_index_laws.specs.Measures.{slot_left}
use Rattle.gx_index_laws.proofs.Measuring.{undo_begins, undo_right, undo_restores, commit_has_left}
use Rattle.gx_index_laws.proofs.measures.transactions_come_to_an_end.Goals as goal

pub returns-clause-begins : goal.returns-clause-begins
returns-clause-begins g c = λ k old s notes e leaf of is. undo_begins k of.lawful old of.whole s of.locks notes of.at e leaf is

pub returns-clause-right : goal.returns-clause-right
returns-clause-right g c = λ k old s notes e leaf of is none. undo_right k of.lawful old of.whole s of.locks notes of.at e leaf is none

pub returns-clause-restores : goal.returns-clause-restores
returns-clause-restores g c = λ k old s notes of r e was is_noted anew. undo_restores k of.lawful old of.whole s of.locks notes of.at r e was is_noted anew

pub returns-clause-unsealed : goal.returns-clause-unsealed
returns-clause-unsealed g c = λ k l old w s locks notes at. commit_has_left k l old w s locks notes at

pub returns-clause-sealed : goal.returns-clause-sealed
returns-clause-sealed g c = λ k old s number at. ap (λ x. slot_left k (tree_now k old) old.slots x (old.work s) (old.restored s)) at
