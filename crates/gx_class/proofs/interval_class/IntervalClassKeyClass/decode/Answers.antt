use Rattle.std.proofs.Common.{◌≡◌, length, ◌≤ℤ◌, FitsSigned, Some, rules, subst, ap, sym, ◌∙◌}
use Rattle.std.specs.Int.{w64}
use Rattle.std.proofs.lemmas.Int.{to_z-of_z}
use Rattle.gx_geom.specs.Spans.{IsInterval, span_of}
use Rattle.gx_class.specs.Intervals.{spelling}
use Rattle.gx_class.specs.BoxKeyLaws.{answer_is, holds_of_answer, halves_join}
use Rattle.gx_class.specs.IntervalKeyLaws.{length-spelling, same_spelling}
use Rattle.gx_class.proofs.interval_class.IntervalClassKeyClass.decode.Goals as goal

pub returns-then-bytes-ne-KEY-clause-back : goal.returns-then-bytes-ne-KEY-clause-back
returns-then-bytes-ne-KEY-clause-back c key is e =
    let long = ap length e ∙ length-spelling key in
    absurd (c.if-bytes-ne-KEY.true long)

pub returns-clause-only : goal.returns-clause-only
returns-clause-only c =
    let lo = c.number.result in
    let hi = c.number-2.result in
    let lo_fits : FitsSigned w64 lo = search rules in
    let hi_fits : FitsSigned w64 hi = search rules in
    let read : c.args.bytes.now ≡ spelling (span_of lo hi) = halves_join c.args.bytes.now _ _ _ _ 8 c.split_at.ensures.front c.split_at.ensures.back c.number.ensures c.number-2.ensures in
    let ok = simp to_z-of_z at c.new.ensures.ok in
    let ends = simp to_z-of_z at c.new.ensures.ends in
    rw c.ok.ensures.value
    (holds_of_answer (λ key. IsInterval key × (c.args.bytes.now ≡ spelling key)) c.new.result (span_of lo hi) ends
    (λ is. (record { in_order = ok.0 is; lo_fits = lo_fits; hi_fits = hi_fits }, read)))

pub returns-clause-back : goal.returns-clause-back
returns-clause-back c key is e =
    let lo = c.number.result in
    let hi = c.number-2.result in
    let lo_fits : FitsSigned w64 lo = search rules in
    let hi_fits : FitsSigned w64 hi = search rules in
    let a = span_of lo hi in
    let read : c.args.bytes.now ≡ spelling a = halves_join c.args.bytes.now _ _ _ _ 8 c.split_at.ensures.front c.split_at.ensures.back c.number.ensures c.number-2.ensures in
    let same : a ≡ key = same_spelling a key lo_fits hi_fits is (sym read ∙ e) in
    let in_order : lo ≤ℤ hi = subst (λ b. b.lo ≤ℤ b.hi) (sym same) is.in_order in
    let ok = simp to_z-of_z at c.new.ensures.ok in
    let ends = simp to_z-of_z at c.new.ensures.ends in
    c.ok.ensures.value ∙ answer_is c.new.result a (ok.1 in_order) ends ∙ ap Some same
