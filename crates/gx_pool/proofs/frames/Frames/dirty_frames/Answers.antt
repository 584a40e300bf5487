use Rattle.std.proofs.Common.{◌∙◌, sym, arith}
use Rattle.gx_pool.specs.State.{State}
use Rattle.gx_pool.proofs.Numbers.{clean_dirty_apart, none_dirty_zero, zero_none_dirty}
use Rattle.gx_pool.proofs.frames.Frames.dirty_frames.Goals as goal

pub returns : goal.returns
returns c =
    let s : State = record { pages = c.self.inside.pages.items; marks = c.self.inside.marks.items; places = c.self.inside.places.items; held = c.self.inside.held.items; gated = c.self.inside.gated } in
    let apart = clean_dirty_apart s in
    rw (← c.self.view_is) (record {
      count = c.self.invariant.2;
      few = omega (arith, c.self.invariant.2, apart);
      zero = (λ is. zero_none_dirty s c.self.invariant.0 (sym c.self.invariant.2 ∙ is), λ none. c.self.invariant.2 ∙ none_dirty_zero s c.self.invariant.0 none);
      sound = c.self.invariant.0;
      held = omega (arith, c.len.ensures.value, c.len.ensures.fits);
    })
