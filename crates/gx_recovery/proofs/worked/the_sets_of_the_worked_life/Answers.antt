use Rattle.std.proofs.Common.{refl}
use Rattle.gx_recovery.proofs.worked.the_sets_of_the_worked_life.Goals as goal

pub returns-clause-fresh : goal.returns-clause-fresh
returns-clause-fresh c = refl

pub returns-clause-in_flight : goal.returns-clause-in_flight
returns-clause-in_flight c = refl

pub returns-clause-without_flight : goal.returns-clause-without_flight
returns-clause-without_flight c = refl

pub returns-clause-with_flight : goal.returns-clause-with_flight
returns-clause-with_flight c = refl

pub returns-clause-committed : goal.returns-clause-committed
returns-clause-committed c = refl

pub returns-clause-losing : goal.returns-clause-losing
returns-clause-losing c = refl

pub returns-clause-torn : goal.returns-clause-torn
returns-clause-torn c = refl

pub returns-clause-reopened : goal.returns-clause-reopened
returns-clause-reopened c = refl

pub returns-clause-notes : goal.returns-clause-notes
returns-clause-notes c = refl

pub returns-clause-undone : goal.returns-clause-undone
returns-clause-undone c = refl

pub returns-clause-either : goal.returns-clause-either
returns-clause-either c = refl

pub returns-clause-renewed : goal.returns-clause-renewed
returns-clause-renewed c = refl

pub returns-clause-undoing : goal.returns-clause-undoing
returns-clause-undoing c = refl

pub returns-clause-second : goal.returns-clause-second
returns-clause-second c = refl

pub returns-clause-second_view : goal.returns-clause-second_view
returns-clause-second_view c = refl
