use Rattle.gx_pool.specs.State.{State}
use Rattle.gx_pool.proofs.frames.Queues.{sound_placed}
use Rattle.gx_pool.proofs.frames.Frames.set_gated.Goals as goal

pub tell-requires-clause-placed : goal.tell-requires-clause-placed
tell-requires-clause-placed c =
    let s : State = record { pages = c.self.inside.pages.items; marks = c.self.inside.marks.items; places = c.self.inside.places.items; held = c.self.inside.held.items; gated = c.self.inside.gated } in
    rw (c.deref.ensures.value, c.deref-2.ensures.value) (sound_placed s c.self.invariant.0)
