use Rattle.gx_events.proofs.Views.{one_machine}
use Rattle.gx_events.proofs.engine_laws.an_engine_is_seen_as_one_machine.Goals as goal

pub returns : goal.returns
returns g c = λ k l engine m n first second. one_machine k l engine m n first second
