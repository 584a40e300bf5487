use Rattle.gx_machine.proofs.SetLaws.{has-view}
use Rattle.gx_machine.proofs.Answered.{found_exactly}
use Rattle.gx_machine.proofs.laws.found_is_what_the_view_has.Goals as goal

pub returns-clause-found : goal.returns-clause-found
returns-clause-found g c = λ k l old new s entries kept step. found_exactly k l old new s entries kept step.1

pub returns-clause-view : goal.returns-clause-view
returns-clause-view g c = λ k l e latest changes. has-view k l e latest changes.added changes.taken
