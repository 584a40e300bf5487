use Rattle.std.proofs.lemmas.List.Elements.{All-nil}
use Rattle.gx_machine.specs.Sets.{InOrder}
use Rattle.gx_machine.specs.Worked.{number_keys}
use Rattle.gx_machine.proofs.laws.WorkedRun.{numbers_are_lawful, worked, worked_insert}
use Rattle.gx_machine.proofs.laws.a_run_worked_out.Goals as goal

pub returns-clause-run : goal.returns-clause-run
returns-clause-run c = worked

pub returns-clause-lawful : goal.returns-clause-lawful
returns-clause-lawful c = numbers_are_lawful

pub returns-clause-in_order : goal.returns-clause-in_order
returns-clause-in_order c = record { older = All-nil (InOrder number_keys); latest = tt }

pub returns-clause-answered_then_sealed : goal.returns-clause-answered_then_sealed
returns-clause-answered_then_sealed c = worked_insert
