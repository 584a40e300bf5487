use Rattle.gx_events.proofs.Apart.{event_leaves}
use Rattle.gx_events.proofs.engine_laws.Meanwhile.{events_leave, match_stays}
use Rattle.gx_events.proofs.engine_laws.events_of_others_leave_a_session.Goals as goal

pub returns-clause-one : goal.returns-clause-one
returns-clause-one g c = λ k l old new event s sound is another. event_leaves k l old sound s event new is another

pub returns-clause-many : goal.returns-clause-many
returns-clause-many g c = λ k l old new m events s sound seen run others. events_leave k l s events old new m sound seen run others

pub returns-clause-looks : goal.returns-clause-looks
returns-clause-looks g c = λ k l old new m events s sound seen run others locks notes query at e is.
    match_stays k l s events old new m sound seen run others locks notes query at e is
