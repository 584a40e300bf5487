use Rattle.std.proofs.Common.{◌≡◌, ℕ, ◌+◌, Option, drop, sym, ◌∙◌, subst, arith, length-drop}
use Rattle.std.specs.Prelude.{option_and_then}
use Rattle.gx_script.specs.Numbers.{number_of}
use Rattle.gx_script.proofs.NumberLemmas.{number_after, number_of-more, number_after-end}
use Rattle.gx_script.proofs.numbers.number.Goals as goal

pub returns-in_err-value : goal.returns-in_err-value
returns-in_err-value c =
    let more = number_of-more c.args.word.now c.loop-digit.value c.loop-digit.digit-index (omega arith) c.loop-digit.invariant.1 in
    c.from_residual.ensures
    ∙ sym (subst (λ (o : Option ℕ). number_of c.args.word.now ≡ option_and_then (λ w. number_after w (drop (c.loop-digit.digit-index + 1) c.args.word.now)) o)
    (sym c.with_digit.ensures.value ∙ c.in_err-value.was) more)

pub loop-digit-preserved : goal.loop-digit-preserved
loop-digit-preserved c =
    let more = number_of-more c.args.word.now c.loop-digit.value c.loop-digit.digit-index (omega arith) c.loop-digit.invariant.1 in (
      c.in_ok-value.ensures.below,
      subst (λ (o : Option ℕ). number_of c.args.word.now ≡ option_and_then (λ w. number_after w (drop (c.loop-digit.digit-index + 1) c.args.word.now)) o)
          (sym c.with_digit.ensures.value ∙ c.in_ok-value.was) more,
    )

pub returns : goal.returns
returns c =
    number_after-end c.loop-digit.value (drop c.loop-digit.digit-index c.args.word.now) c.loop-digit.invariant.0 (omega (arith, length-drop c.loop-digit.digit-index c.args.word.now))
    ∙ sym c.loop-digit.invariant.1
