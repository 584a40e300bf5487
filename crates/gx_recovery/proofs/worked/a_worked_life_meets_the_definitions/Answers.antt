use Rattle.gx_recovery.proofs.worked.WorkedProofs.{worked_lawful, fresh_healthy, worked_life}
use Rattle.gx_recovery.proofs.worked.a_worked_life_meets_the_definitions.Goals as goal

pub returns-clause-lawful : goal.returns-clause-lawful
returns-clause-lawful c = worked_lawful

pub returns-clause-fresh : goal.returns-clause-fresh
returns-clause-fresh c = fresh_healthy

pub returns-clause-life : goal.returns-clause-life
returns-clause-life c = worked_life
