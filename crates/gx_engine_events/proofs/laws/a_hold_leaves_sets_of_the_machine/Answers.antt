use Rattle.gx_engine_events.proofs.laws.Holds.{event_leaves, hold_leaves}
use Rattle.gx_engine_events.proofs.laws.a_hold_leaves_sets_of_the_machine.Goals as goal

pub returns-clause-event : goal.returns-clause-event
returns-clause-event g c = event_leaves _ g.K.ReadKeys.is_proper g.K.ReadKeys.said g.K.KeyClass _ c.a_class_is_lawful.ensures

pub returns-clause-hold : goal.returns-clause-hold
returns-clause-hold g c = hold_leaves _ g.K.ReadKeys.is_proper g.K.ReadKeys.said g.K.KeyClass _ c.a_class_is_lawful.ensures
