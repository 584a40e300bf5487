use Rattle.std.proofs.Common.{◌≡◌, ◌∙◌, ◌<◌, ap, length, arith, length-set, IsSome, Some}
use Rattle.std.specs.Prelude.{is_some}
use Rattle.gx_pool.specs.State.{State, mark_at}
use Rattle.gx_pool.proofs.Places.{named_inside, stamped_sound}
use Rattle.gx_pool.proofs.frames.Queues.{stamped_listed}
use Rattle.gx_pool.proofs.frames.Frames.stamp.Goals as goal

pub list-requires : goal.list-requires
list-requires c =
    let s : State = record { pages = c.self.inside.pages.items; marks = c.self.inside.marks.items; places = c.self.inside.places.items; held = c.self.inside.held.items; gated = c.self.inside.gated } in
    let inside = named_inside s c.args.i (Some c.args.page) c.self.invariant.0 (ap (λ v. (mark_at v c.args.i).page) c.self.view_is ∙ c.requires.page) in
    omega (arith, inside, c.self.invariant.0.numbers)

pub invariant_of-self : goal.invariant_of-self
invariant_of-self c =
    let s : State = record { pages = c.self.inside.pages.items; marks = c.self.inside.marks.items; places = c.self.inside.places.items; held = c.self.inside.held.items; gated = c.self.inside.gated } in
    let inside : c.args.i < length c.self.inside.marks.items = omega (arith, c.requires.frame, ap (λ v. length v.marks) c.self.view_is) in
    let its : (mark_at s c.args.i).page ≡ Some c.args.page = ap (λ v. (mark_at v c.args.i).page) c.self.view_is ∙ c.requires.page in
    let there : IsSome (mark_at s c.args.i).page = ap is_some its in (
      rw (c.set_mark-self-inside.ensures.put, c.mark_in-mark.ensures, c.deref.ensures.value) (stamped_sound s c.args.i c.args.stamp c.self.invariant.0 inside there),
      rw (c.set_mark-self-inside.ensures.put, length-set c.self.inside.marks.items c.args.i _) c.self.invariant.1,
      c.set_mark-self-inside.ensures.counted,
      rw (c.set_mark-self-inside.ensures.put, c.mark_in-mark.ensures, c.deref.ensures.value)
          (stamped_listed s c.args.i c.args.page c.args.stamp c.self.inside.queue c.list.new.self c.self.invariant.0 inside its c.self.invariant.3 c.list.ensures.listed c.list.ensures.others),
    )
