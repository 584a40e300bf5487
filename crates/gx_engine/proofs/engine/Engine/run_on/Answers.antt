use Rattle.std.proofs.Common.{subst, sym, arith}
use Rattle.gx_pool.specs.State.{NoneDirty}
use Rattle.gx_engine.specs.States.{Parts}
use Rattle.gx_engine.proofs.engine.Engine.run_on.Goals as goal

pub write_next-requires-clause-dirty : goal.write_next-requires-clause-dirty
write_next-requires-clause-dirty g c = λ clean.
    let now = subst (λ (x : Parts g.row.K-Key.Denot g.row.D.Denot). NoneDirty x.volume.shelf.frames) (sym c.self.view_is) clean in
    let none = c.dirty_frames.ensures.zero.1 now in
    let some = c.if-dirty_frames-gt0.true in
    omega (arith, none, some)
