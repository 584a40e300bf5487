use Rattle.gx_index_laws.proofs.Logging.{renews}
use Rattle.gx_index_laws.proofs.logged.a_log_is_renewed.Goals as goal

pub returns : goal.returns
returns g c = λ k l old w no_flight no_filling written next covers upto. renews k l old w no_flight no_filling written next covers upto
