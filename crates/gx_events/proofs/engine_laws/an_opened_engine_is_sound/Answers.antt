use Rattle.gx_events.proofs.Views.{opened_sound, opened_seen}
use Rattle.gx_events.proofs.engine_laws.an_opened_engine_is_sound.Goals as goal

pub returns-clause-sound : goal.returns-clause-sound
returns-clause-sound g c = λ k number set. opened_sound k number set

pub returns-clause-seen : goal.returns-clause-seen
returns-clause-seen g c = λ k number set o. opened_seen k number set o
