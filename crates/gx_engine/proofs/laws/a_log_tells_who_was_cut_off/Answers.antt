use Rattle.gx_engine.proofs.LosingEnds.{cut_off}
use Rattle.gx_engine.proofs.laws.a_log_tells_who_was_cut_off.Goals as goal

pub returns : goal.returns
returns g c = λ k l log is. cut_off k l log is
