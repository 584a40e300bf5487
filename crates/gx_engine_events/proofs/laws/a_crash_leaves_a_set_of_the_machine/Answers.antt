use Rattle.gx_engine_events.proofs.Crashes.{crash_kept}
use Rattle.gx_engine_events.proofs.laws.a_crash_leaves_a_set_of_the_machine.Goals as goal

pub returns : goal.returns
returns g c = λ e m sees image may. crash_kept _ _ _ _ _ c.a_class_is_lawful.ensures e m sees image may
