use Rattle.std.proofs.Common.{refl}
use Rattle.gx_events.specs.declared.outcome.Outcome.TheVariants.{More}
use Rattle.gx_engine.specs.States.{runs}
use Rattle.gx_engine.proofs.Lessening.{checkpoint_less, few_left, log_step_less, written_less}
use Rattle.gx_engine.proofs.laws.progress.each_step_leaves_less_to_flush.Goals as goal

pub returns-clause-log : goal.returns-clause-log
returns-clause-log g c = λ old new one. log_step_less _ _ old new old.sessions.failed (runs old.checkpoint) More refl tt one.comes

pub returns-clause-page : goal.returns-clause-page
returns-clause-page g c = λ old new page one. written_less _ _ old new page _ More tt one.comes

pub returns-clause-checkpoint : goal.returns-clause-checkpoint
returns-clause-checkpoint g c = λ old new one. checkpoint_less _ _ old new _ More tt one.comes

pub returns-clause-few : goal.returns-clause-few
returns-clause-few g c = λ e few. few_left e few
