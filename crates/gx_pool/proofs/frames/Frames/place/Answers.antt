use Rattle.std.proofs.Common.{◌∙◌, get_or, None, sym, ap}
use Rattle.gx_pool.specs.State.{State}
use Rattle.gx_pool.proofs.Places.{placed_inside}
use Rattle.gx_pool.proofs.frames.Frames.place.Goals as goal

pub returns-clause-inside : goal.returns-clause-inside
returns-clause-inside c =
    let s : State = record { pages = c.self.inside.pages.items; marks = c.self.inside.marks.items; places = c.self.inside.places.items; held = c.self.inside.held.items; gated = c.self.inside.gated } in
    rw (← c.self.view_is) (placed_inside s c.args.page c.place_in.result c.self.invariant.0 (ap (λ xs. get_or xs c.args.page None) (sym c.deref.ensures.value) ∙ sym c.place_in.ensures))
