use Rattle.gx_index_laws.proofs.Closing.{sealed}
use Rattle.gx_index_laws.proofs.endings.a_commit_is_sealed.Goals as goal

pub returns-clause-sealed : goal.returns-clause-sealed
returns-clause-sealed g c = λ k l old w works s locks notes at set is_set. sealed k l old w works s locks notes at set is_set

pub returns-clause-stood : goal.returns-clause-stood
returns-clause-stood g c = λ k old w. w.seen.latest
