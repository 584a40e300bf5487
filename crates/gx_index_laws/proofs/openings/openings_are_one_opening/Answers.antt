use Rattle.gx_index_laws.proofs.Restarts.{restarts_whole, restarts_stand, restarts_happen}
use Rattle.gx_index_laws.proofs.openings.openings_are_one_opening.Goals as goal

pub returns-clause-whole : goal.returns-clause-whole
returns-clause-whole g c = λ class l old w one tries new r. restarts_whole class l old w one tries new r

pub returns-clause-stands : goal.returns-clause-stands
returns-clause-stands g c = λ class l old w one tries new r area log left. restarts_stand class l old w one tries new r area log left

pub returns-clause-opens : goal.returns-clause-opens
returns-clause-opens g c = λ class l old w one tries new r free. restarts_happen class l old w one tries new r free
