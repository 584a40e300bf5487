use Rattle.gx_index_laws.proofs.worked.WorkedLife.{numbers_lawful, worked_life, last_whole}
use Rattle.gx_index_laws.proofs.worked.a_worked_life_happens.Goals as goal

pub returns-clause-lawful : goal.returns-clause-lawful
returns-clause-lawful c = numbers_lawful

pub returns-clause-happens : goal.returns-clause-happens
returns-clause-happens c = worked_life

pub returns-clause-whole : goal.returns-clause-whole
returns-clause-whole c = last_whole
