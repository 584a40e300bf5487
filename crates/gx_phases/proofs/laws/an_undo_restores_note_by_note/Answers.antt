use Rattle.gx_phases.proofs.Undoing.{none_restored}
use Rattle.gx_phases.proofs.laws.Events.{is_undone, one_more, is_restored}
use Rattle.gx_phases.proofs.laws.an_undo_restores_note_by_note.Goals as goal

pub returns-clause-none : goal.returns-clause-none
returns-clause-none g c =
    λ k live notes. none_restored k live notes

pub returns-clause-undoes : goal.returns-clause-undoes
returns-clause-undoes g c =
    λ k l live later older old kept works s is restored work then_work at left n next lives. is_undone k live older old kept works s is l later restored left n next lives work then_work at

pub returns-clause-restored : goal.returns-clause-restored
returns-clause-restored g c =
    λ k l live later old kept s is restored left n next lives before. one_more k live old kept s is l later restored left n next lives before

pub returns-clause-ends : goal.returns-clause-ends
returns-clause-ends g c =
    λ k live older old kept works s is restored work at past done. is_restored k live older old kept works s is restored work at past done
