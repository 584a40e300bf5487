use Rattle.std.proofs.Common.{◌∙◌, ◌<◌, ap, length, arith, length-set}
use Rattle.gx_pool.specs.State.{State, mark_at, place_of}
use Rattle.gx_pool.proofs.Places.{settled_sound}
use Rattle.gx_pool.proofs.frames.Queues.{settled_listed}
use Rattle.gx_pool.proofs.frames.Frames.settle.Goals as goal

pub invariant_of-self : goal.invariant_of-self
invariant_of-self c =
    let s : State = record { pages = c.self.inside.pages.items; marks = c.self.inside.marks.items; places = c.self.inside.places.items; held = c.self.inside.held.items; gated = c.self.inside.gated } in
    let inside : c.args.i < length c.self.inside.marks.items = omega (arith, c.requires.frame.0, ap (λ v. length v.marks) c.self.view_is) in (
      rw c.set_mark-self-inside.ensures.put (settled_sound s c.args.i c.args.page c.args.stamp c.self.invariant.0 inside (ap (λ v. (mark_at v c.args.i).page) c.self.view_is ∙ c.requires.frame.1) c.requires.number c.requires.page.0 (ap (λ v. place_of v c.args.page) c.self.view_is ∙ c.requires.page.1)),
      rw (c.set_mark-self-inside.ensures.put, length-set c.self.inside.marks.items c.args.i _) c.self.invariant.1,
      c.set_mark-self-inside.ensures.counted,
      rw c.set_mark-self-inside.ensures.put (settled_listed s c.args.i c.args.page c.args.stamp c.self.inside.queue c.list.new.self c.self.invariant.0 inside (ap (λ v. place_of v c.args.page) c.self.view_is ∙ c.requires.page.1) c.self.invariant.3 c.list.ensures.listed c.list.ensures.others),
    )
