use Rattle.gx_shared.proofs.Sharing.{IsAmid}
use Rattle.gx_shared.proofs.session.Session.call.Given as goal

abbrev pub invariant-loop : goal.invariant-loop
invariant-loop g l = IsAmid l.fn.self l.fn.call l.self l.event
