use Rattle.std.proofs.Common.{◌∙◌, sym, arith}
use Rattle.gx_pool.specs.State.{State}
use Rattle.gx_pool.proofs.Places.{empty_sound}
use Rattle.gx_pool.proofs.Numbers.{empty_counted}
use Rattle.gx_pool.proofs.frames.Queues.{empty_listed}
use Rattle.gx_pool.proofs.frames.Frames.with_capacity.Goals as goal

pub invariant_of-result : goal.invariant_of-result
invariant_of-result c =
    let marks = c.in_ok-empty_marks.ensures in
    let s : State = record { pages = c.in_ok-blank_pages.field-0.items; marks = c.in_ok-empty_marks.field-0.items; places = c.in_ok-empty_places.field-0.items; held = c.new.result.items; gated = 0 } in (
      empty_sound s (c.in_ok-blank_pages.ensures ∙ sym marks.0) (omega (arith, marks.0, c.requires)) c.in_ok-empty_places.ensures.0 marks.1 c.in_ok-empty_places.ensures.1,
      omega arith,
      empty_counted c.in_ok-empty_marks.field-0.items marks.1,
      empty_listed 0 c.in_ok-empty_marks.field-0.items c.in_ok-none.field-0 marks.1,
    )
