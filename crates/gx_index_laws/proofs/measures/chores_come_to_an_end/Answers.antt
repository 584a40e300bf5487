use Rattle.gx_index_laws.proofs.measures.Chores.{upkeep_below, chore_falls}
use Rattle.gx_index_laws.proofs.measures.chores_come_to_an_end.Goals as goal

pub returns-clause-most : goal.returns-clause-most
returns-clause-most c = λ u within. upkeep_below u within

pub returns-clause-falls : goal.returns-clause-falls
returns-clause-falls c = λ old new chore is. chore_falls old new chore is
