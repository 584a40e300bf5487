use Rattle.gx_index_laws.proofs.Quiet.{turned}
use Rattle.gx_index_laws.proofs.looks.work_turns.Goals as goal

pub returns : goal.returns
returns g c = λ k l old w s work does. turned k l old w s work does
