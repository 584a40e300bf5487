use Rattle.std.proofs.Common.{◌≡◌, ◌∙◌, sym, ap, length, arith}
use Rattle.gx_pool.specs.State.{State, held_clean}
use Rattle.gx_pool.proofs.Numbers.{clean_is_rest}
use Rattle.gx_pool.proofs.frames.Frames.clean_frames.Goals as goal

pub overflow_sub-result-2 : goal.overflow_sub-result-2
overflow_sub-result-2 c =
    let s : State = record { pages = c.self.inside.pages.items; marks = c.self.inside.marks.items; places = c.self.inside.places.items; held = c.self.inside.held.items; gated = c.self.inside.gated } in
    let sum = clean_is_rest s c.self.invariant.0 in
    let held : c.held_clean.result ≡ held_clean s (length s.held) = c.held_clean.ensures ∙ ap (λ v. held_clean v (length v.held)) (sym c.self.view_is) in
    omega (arith, sum, held, c.self.invariant.2, c.len.ensures)

pub returns : goal.returns
returns c =
    let s : State = record { pages = c.self.inside.pages.items; marks = c.self.inside.marks.items; places = c.self.inside.places.items; held = c.self.inside.held.items; gated = c.self.inside.gated } in
    let sum = clean_is_rest s c.self.invariant.0 in
    let held : c.held_clean.result ≡ held_clean s (length s.held) = c.held_clean.ensures ∙ ap (λ v. held_clean v (length v.held)) (sym c.self.view_is) in
    rw (← c.self.view_is) (omega (arith, sum, held, c.self.invariant.2, c.len.ensures))
