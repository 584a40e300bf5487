use Rattle.gx_engine.proofs.engine.Engine.in_order.Goals as goal

pub returns : goal.returns
returns g c = rw (← c.self.view_is) (record {
  stands = c.self.invariant.stands;
  frames = record { enough = c.self.invariant.frames; held = c.dirty_frames.ensures.held; sound = c.dirty_frames.ensures.sound };
  pages = c.in_order.ensures.few;
  most = c.most.ensures.few;
  sealed = c.stands.ensures.sealed;
})
