use Rattle.gx_engine_events.proofs.Crashes.{step_leaves}
use Rattle.gx_engine_events.proofs.engine.Quiet.{work_is_quiet}
use Rattle.gx_engine_events.proofs.Stepping.{step_leads}
use Rattle.gx_engine_events.proofs.engine.EngineEventsEventsKey.step.Goals as goal

pub returns-clause-happens : goal.returns-clause-happens
returns-clause-happens g c = rw (← c.self.view_is) (step_leads _ _ _ _ _ c.a_class_is_lawful.ensures _ _ _ _ c.step.ensures.steps)

pub returns-clause-made : goal.returns-clause-made
returns-clause-made g c = rw (← c.self.view_is) record { comes = c.step.ensures.comes; steps = c.step.ensures.steps; calls = c.step.ensures.calls; told = c.step.ensures.told; order = c.step.ensures.order }

pub returns-clause-quiet : goal.returns-clause-quiet
returns-clause-quiet g c = λ is. work_is_quiet _ _ _ _ _ _ _ _ _ _ _ _ c.args.event c.step.result c.step.ensures.comes is

pub returns-clause-leaves : goal.returns-clause-leaves
returns-clause-leaves g c = rw (← c.self.view_is) (step_leaves _ _ _ _ _ c.a_class_is_lawful.ensures _ _ _ _ c.step.ensures.steps)
