use Rattle.std.proofs.Common.{◌≡◌, ℤ, sym, subst, ◌∙◌, to_z, of_z, FitsSigned}
use Rattle.std.specs.Int.{w64}
use Rattle.std.proofs.lemmas.Int.{to_z-of_z}
use Rattle.gx_geom.specs.Spans.{Span, IsInterval, hull}
use Rattle.gx_geom.specs.SpanLaws.{hull_is_interval}
use Rattle.gx_geom.proofs.interval.Interval.union.Goals as goal

-- an end that fits is read back as it was stored
stored : (x y : ℤ) → x ≡ y → FitsSigned w64 y → y ≡ to_z w64 (of_z w64 x)
stored x y e fits = sym (to_z-of_z w64 x (subst (λ (z : ℤ). FitsSigned w64 z) (sym e) fits) ∙ e)

ends_stored : (a : Span) (lo hi : ℤ) → IsInterval a → lo ≡ a.lo → hi ≡ a.hi
    → IsInterval (record { lo = to_z w64 (of_z w64 lo); hi = to_z w64 (of_z w64 hi) })
ends_stored a lo hi in_order elo ehi =
    let same : a ≡ record { lo = to_z w64 (of_z w64 lo); hi = to_z w64 (of_z w64 hi) } =
    λ i. record { lo = stored lo a.lo elo in_order.lo_fits i; hi = stored hi a.hi ehi in_order.hi_fits i } in
    subst (λ (c : Span). IsInterval c) same in_order

pub invariant_of-result : goal.invariant_of-result
invariant_of-result c =
    ends_stored (hull c.args.self.now c.args.other.now) c.lesser_lo.result c.greater_hi.result
    (hull_is_interval _ _ c.lesser_lo.ensures.intervals.0 c.lesser_lo.ensures.intervals.1) c.lesser_lo.ensures.lesser c.greater_hi.ensures
