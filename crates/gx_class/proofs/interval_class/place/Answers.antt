use Rattle.std.proofs.lemmas.Grind.{common_steps}
use Rattle.std.proofs.Common.{ℕ, ◌+◌, ap, sym, ◌∙◌, arith}
use Rattle.std.specs.Prelude.{count_by}
use Rattle.gx_geom.specs.Spans.{span_cmp}
use Rattle.gx_class.specs.Halving.{comes_before}
use Rattle.gx_class.proofs.interval_class.Placed.{counted_one, counted_none, all_counted}
use Rattle.gx_class.proofs.interval_class.place.Goals as goal
use Rattle.gx_class.proofs.interval_class.place.Goals.{then-comes_before, else-comes_before}

pub loop-other_slot-preserved : goal.loop-other_slot-preserved
loop-other_slot-preserved c =
    let at = c.index-keys-other_slot in
    elim c.if-comes_before.branch [
      | then-comes_before w ↦ w.before-is ∙ ap (λ (n : ℕ). n + 1) c.loop-other_slot.invariant
          ∙ sym (counted_one c.args.keys.now c.loop-other_slot.other_slot at.result c.loop-other_slot-test.true at.is
          (λ y. comes_before span_cmp y (c.args.slot, c.args.key.now)) (sym c.comes_before.ensures ∙ w.if-comes_before.true))
      | else-comes_before w ↦ w.before-is ∙ c.loop-other_slot.invariant
          ∙ sym (counted_none c.args.keys.now c.loop-other_slot.other_slot at.result c.loop-other_slot-test.true at.is
          (λ y. comes_before span_cmp y (c.args.slot, c.args.key.now)) (sym c.comes_before.ensures ∙ w.if-comes_before.false))
    ]

pub returns : goal.returns
returns c =
    c.loop-other_slot.invariant
    ∙ ap (count_by (λ y. comes_before span_cmp y (c.args.slot, c.args.key.now))) (all_counted c.args.keys.now c.loop-other_slot.other_slot c.loop-other_slot-test.false)

pub overflow_add-before : goal.overflow_add-before
overflow_add-before c = grind (arith, common_steps)
