use Rattle.std.proofs.Common.{◌≡◌, ◌<◌, ◌+◌, ℕ, Bool, true, false, not, cond, ◌&&◌, List, ◌∷◌, ap, sym, ◌∙◌, drop, length, get_or, arith}
use Rattle.std.specs.Prelude.{Some, ◌==◌}
use Rattle.std.proofs.lemmas.List.{drop_more}
use Rattle.gx_machine.specs.Least.{least_barring}
use Rattle.gx_machine.proofs.least.least_conflicting.Goals as goal

module _ {X : Type 0} (bars : X → Bool) (s n i : ℕ) (slots : List X) (x : X) (within : i < length slots) (is : x ≡ get_or slots i x) where
  step : (t : Bool) → (not (n == s) && bars x) ≡ t
      → least_barring bars s n (drop i slots) ≡ cond t (Some n) (least_barring bars s (n + 1) (drop (i + 1) slots))
  step t e =
      ap (least_barring bars s n) (drop_more slots i x within ∙ ap (λ y. y ∷ drop (i + 1) slots) (sym is))
      ∙ ap (λ b. cond b (Some n) (least_barring bars s (n + 1) (drop (i + 1) slots))) e

pub returns-then-other_conflicts : goal.returns-then-other_conflicts
returns-then-other_conflicts g c =
    sym (step (λ x. g.S.Conflicts.bars x c.args.call.now) c.args.session c.loop-slot.number c.loop-slot.slot-index c.args.slots.now c.slot-item.result c.loop-slot-test.true
    c.slot-item.is true (sym c.other_conflicts.ensures ∙ c.if-other_conflicts.true))
    ∙ c.loop-slot.invariant.rest

pub loop-slot-preserved : goal.loop-slot-preserved
loop-slot-preserved g c = record {
  number = omega arith;
  rest = sym (step (λ x. g.S.Conflicts.bars x c.args.call.now) c.args.session c.loop-slot.number c.loop-slot.slot-index c.args.slots.now c.slot-item.result
      c.loop-slot-test.true c.slot-item.is false (sym c.other_conflicts.ensures ∙ c.if-other_conflicts.false))
      ∙ c.loop-slot.invariant.rest;
}
