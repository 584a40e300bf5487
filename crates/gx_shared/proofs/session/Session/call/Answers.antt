use Rattle.std.proofs.Common.{◌≡◌, ◌⊎◌, ℕ, subst}
use Rattle.gx_events.specs.declared.event.Event.TheVariants.{Move}
use Rattle.gx_shared.proofs.Sharing.{asked_first, run_of}
use Rattle.gx_shared.proofs.session.Session.call.Goals as goal

pub loop-init : goal.loop-init
loop-init g c = asked_first c.args.self.now c.args.call c.number-number.result c.number-number.ensures

pub loop-preserved : goal.loop-preserved
loop-preserved g c =
    run_of c.args.self.now c.loop.self c.hold.new.session c.args.call c.loop.event c.in-Run.next c.next-event.result c.hold.result c.hold.ensures c.in-Run.is c.loop.invariant
    (subst (λ (s : ℕ). (c.next-event.result ≡ c.in-Run.next) ⊎ (c.next-event.result ≡ Move s)) c.number-number.ensures c.next-event.ensures)
