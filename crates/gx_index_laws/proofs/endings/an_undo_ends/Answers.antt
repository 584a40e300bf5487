use Rattle.gx_index_laws.proofs.Closing.{ended}
use Rattle.gx_index_laws.proofs.endings.an_undo_ends.Goals as goal

pub returns : goal.returns
returns g c = λ k l old w works s locks notes at all. ended k l old w works s locks notes at all
