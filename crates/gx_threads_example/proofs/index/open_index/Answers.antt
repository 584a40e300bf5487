use Rattle.std.proofs.Common.{refl}
use Rattle.gx_events.specs.Engines.{opened_machine}
use Rattle.gx_threads_example.proofs.index.open_index.Goals as goal

pub returns-in-Ok : goal.returns-in-Ok
returns-in-Ok g c = λ granted.
    let idle = c.an_opened_engine_is_idle.ensures c.args.disk _ (c.in-Ok.ensures.opened (granted c.args.disk)) in
    c.an_idle_engine_may_be_shared.ensures _ (opened_machine idle.number idle.set)
    (c.new.ensures.seen idle.limits idle.bodies idle.index (opened_machine idle.number idle.set) idle.holds idle.seen) refl refl
