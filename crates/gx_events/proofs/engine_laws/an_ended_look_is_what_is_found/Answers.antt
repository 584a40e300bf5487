use Rattle.gx_events.proofs.Views.{look_found}
use Rattle.gx_events.proofs.engine_laws.an_ended_look_is_what_is_found.Goals as goal

pub returns : goal.returns
returns g c = λ k l engine m s locks notes query seen sound sees at look. look_found k l engine m s locks notes query seen sound sees at look
