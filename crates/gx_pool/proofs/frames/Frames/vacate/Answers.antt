use Rattle.std.proofs.Common.{◌∙◌, get_or, ◌<◌, sym, ap, length, arith, length-set}
use Rattle.gx_pool.specs.Marks.{empty}
use Rattle.gx_pool.specs.State.{State}
use Rattle.gx_pool.proofs.Places.{vacated_sound, named_inside}
use Rattle.gx_pool.proofs.frames.Queues.{vacated_listed}
use Rattle.gx_pool.proofs.frames.Frames.vacate.Goals as goal

pub forget-requires : goal.forget-requires
forget-requires c =
    let s : State = record { pages = c.self.inside.pages.items; marks = c.self.inside.marks.items; places = c.self.inside.places.items; held = c.self.inside.held.items; gated = c.self.inside.gated } in
    named_inside s c.args.i c.mark_in-mark.result.page c.self.invariant.0 (ap (λ xs. (get_or xs c.args.i empty).page) (sym c.deref.ensures.value) ∙ ap (λ m. m.page) (sym c.mark_in-mark.ensures))

pub invariant_of-self : goal.invariant_of-self
invariant_of-self c =
    let s : State = record { pages = c.self.inside.pages.items; marks = c.self.inside.marks.items; places = c.self.inside.places.items; held = c.self.inside.held.items; gated = c.self.inside.gated } in
    let inside : c.args.i < length c.self.inside.marks.items = omega (arith, c.requires, ap (λ v. length v.marks) c.self.view_is) in (
      rw (c.set_mark-self-inside.ensures.put, c.forget.ensures, c.mark_in-mark.ensures, c.deref.ensures.value, c.empty.ensures) (vacated_sound s c.args.i c.self.invariant.0 inside),
      rw (c.set_mark-self-inside.ensures.put, length-set c.self.inside.marks.items c.args.i _) c.self.invariant.1,
      c.set_mark-self-inside.ensures.counted,
      rw (c.set_mark-self-inside.ensures.put, c.empty.ensures) (vacated_listed s c.args.i c.self.inside.queue inside c.self.invariant.3),
    )
