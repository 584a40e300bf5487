-- Rightlinks go on above the counter of a start, and each step keeps that.
use Rattle.std.proofs.Common.{◌≡◌, ◌≢◌, ℕ, suc, ◌<◌, ◌≤◌, Bool, List, ap, sym, ◌∙◌, subst, arith}
use Rattle.gx_node.specs.Trees.{Pair, Child, Node, Tree, Rules, IsLawful, Used}
use Rattle.gx_node.specs.Legal.{Legal}
use Rattle.gx_node.specs.Steps.{IsSplit, IsRootSplit, ChangesOnly, Step, Splits, SplitsRoot, Widens, Adds, Marks, Sweeps, IsStep, AreSteps}
use Rattle.gx_node.specs.Rightlinks.{GoesOn}
use Rattle.gx_node.proofs.Sums.{each_always}
use Rattle.gx_node.proofs.Changes.{level_kept, nsn_kept, right_kept}
use Rattle.gx_node.proofs.Splits.{is_split, is_parent, is_new, is_other, place_of, split_low, level_same, right_same, split_used, split_apart}
use Rattle.gx_node.proofs.SplitReach.{nsn_same}
use Rattle.gx_node.proofs.Roots.{used_before, same_node}
use Rattle.gx_node.proofs.AllSteps.{kept_by_steps}

-- the page's rightlink is to a taken page, other than the root, of the same level
abbrev GoesRight : {K : Type 0} → Tree K → ℕ → Type 0
GoesRight t p = (2 ≤ (t.node p).right) × ((t.node p).right ≤ t.used) × ((t.node (t.node p).right).level ≡ (t.node p).level)

-- a page has the rightlink and the level that one had before; no page but the root has another level than before
right_moved : {K : Type 0} (old new : Tree K) (p q : ℕ) → old.used ≤ new.used
    → ((x : ℕ) → Used old x → 2 ≤ x → (new.node x).level ≡ (old.node x).level)
    → (new.node q).right ≡ (old.node p).right → (new.node q).level ≡ (old.node p).level → GoesRight old p → GoesRight new q
right_moved old new p q more levels right level fit =
    let low = fit.0 in let high = fit.1 in (
      omega (arith, right, low),
      omega (arith, right, high, more),
      ap (λ x. (new.node x).level) right ∙ levels (old.node p).right (omega (arith, low), high) low ∙ fit.2 ∙ sym level,
    )

-- none is above the counter
pub goes_on_begins : {K : Type 0} (r : Rules K) (t : Tree K) → Legal r t → GoesOn t t.counter
goes_on_begins r t legal = record {
  right = λ p u above. (let fit = legal.pages p u in let most = fit.nsn in absurd (omega (arith, most, above)));
  root =
      let most = legal.counter in
      let fit = legal.pages 1 (omega arith, omega (arith, most)) in
      fit.nsn;
}

module _ {K : Type 0} (r : Rules K) (floor : ℕ) (old new : Tree K) (legal : Legal r old) (goes : GoesOn old floor) where
  root_used : Used old 1
  root_used = let most = legal.counter in (omega arith, omega (arith, most))

  module _ (law : IsLawful r) (n p : ℕ) (sides : List Bool) (left right : K) (step : IsSplit r old new n p sides left right) where
    abbrev s : ℕ
    s = suc old.used

    more_split : old.used ≤ new.used
    more_split = let e = step.used in omega (arith, e)

    levels_split : (x : ℕ) → Used old x → 2 ≤ x → (new.node x).level ≡ (old.node x).level
    levels_split x u low = level_same r law old new n p sides left right legal step x u

    -- the page that is split has the new page as its rightlink
    goes_to_sibling : GoesRight new n
    goes_to_sibling =
        let e : (new.node n).right ≡ s = ap (λ (z : Node K). z.right) step.split in
        let most = legal.counter in
        let used = step.used in (
          omega (arith, e, most),
          omega (arith, e, used),
          ap (λ x. (new.node x).level) e ∙ ap (λ (z : Node K). z.level) step.sibling ∙ sym (ap (λ (z : Node K). z.level) step.split),
        )

    -- the new page has the number and the rightlink that it had
    goes_from_sibling : floor < (new.node s).nsn → GoesRight new s
    goes_from_sibling above =
        let nsn = ap (λ (z : Node K). z.nsn) step.sibling in
        right_moved old new n s more_split levels_split
        (ap (λ (z : Node K). z.right) step.sibling) (ap (λ (z : Node K). z.level) step.sibling)
        (goes.right n (split_used r law old new n p sides left right legal step) (omega (arith, above, nsn)))

    goes_from_other : (q : ℕ) → Used old q → q ≢ n → floor < (new.node q).nsn → GoesRight new q
    goes_from_other q u ne above =
        let nsn = nsn_same r law old new n p sides left right legal step q u ne in
        right_moved old new q q more_split levels_split
        (right_same r law old new n p sides left right legal step q u ne) (level_same r law old new n p sides left right legal step q u)
        (goes.right q u (omega (arith, above, nsn)))

    goes_on_split : GoesOn new floor
    goes_on_split = record {
      right = λ q u above. elim (place_of n p s q) [
        | is_split e ↦ subst (λ x. GoesRight new x) (sym e) goes_to_sibling
        | is_parent e ↦ goes_from_other q (subst (λ x. Used old x) (sym e) step.parent)
            (λ same. split_apart r law old new n p sides left right legal step (sym same ∙ e)) above
        | is_new e ↦ subst (λ x. GoesRight new x) (sym e)
            (goes_from_sibling (let same = ap (λ x. (new.node x).nsn) e in omega (arith, same, above)))
        | is_other nn np ns ↦ goes_from_other q (u.0, (let h = u.1 in let k = step.used in omega (arith, h, k, ns))) nn above
      ];
      root =
          let low = split_low r law old new n p sides left right legal step in
          let nsn = nsn_same r law old new n p sides left right legal step 1 root_used (λ e. (omega (arith, e, low))) in
          let most = goes.root in
          omega (arith, nsn, most);
    }

  module _ (sides : List Bool) (left right : K) (step : IsRootSplit r old new sides left right) where
    -- the new pages have number 0, and the root's is as before
    goes_on_root : GoesOn new floor
    goes_on_root =
        let most = goes.root in
        let nsn = ap (λ (z : Node K). z.nsn) step.root in
        record {
          right = λ q u above. elim (place_of 1 (suc old.used) (suc (suc old.used)) q) [
            | is_split e ↦ let same = ap (λ x. (new.node x).nsn) e in absurd (omega (arith, same, nsn, most, above))
            | is_parent e ↦
                let same = ap (λ x. (new.node x).nsn) e in let none = ap (λ (z : Node K). z.nsn) step.first in
                absurd (omega (arith, same, none, above))
            | is_new e ↦
                let same = ap (λ x. (new.node x).nsn) e in let none = ap (λ (z : Node K). z.nsn) step.second in
                absurd (omega (arith, same, none, above))
            | is_other n1 na nb ↦
                let before = used_before r old new sides left right legal step q u na nb in
                let used = step.used in
                let is = same_node r old new sides left right legal step q before n1 in
                let was = ap (λ (z : Node K). z.nsn) is in
                right_moved old new q q (omega (arith, used))
                (λ x ux low. ap (λ (z : Node K). z.level) (same_node r old new sides left right legal step x ux (λ e. (omega (arith, e, low)))))
                (ap (λ (z : Node K). z.right) is) (ap (λ (z : Node K). z.level) is)
                (goes.right q before (omega (arith, was, above)))
          ];
          root = omega (arith, nsn, most);
        }

  module _ (a : ℕ) (pairs : List (Pair K)) (entries : List (Child K)) (step : ChangesOnly old new a pairs entries) where
    -- one page changes, and not its level, number and rightlink
    goes_on_changed : GoesOn new floor
    goes_on_changed = record {
      right = λ q u above.
          (let used = step.used in
          let high = u.1 in
          let was = nsn_kept old new a pairs entries step q in
          right_moved old new q q (omega (arith, used)) (λ x ux low. level_kept old new a pairs entries step x)
          (right_kept old new a pairs entries step q) (level_kept old new a pairs entries step q)
          (goes.right q (u.0, omega (arith, high, used)) (omega (arith, was, above))));
      root = let nsn = nsn_kept old new a pairs entries step 1 in let most = goes.root in omega (arith, nsn, most);
    }

module _ {K : Type 0} (r : Rules K) (law : IsLawful r) (floor : ℕ) where
  pub goes_on_step : (old new : Tree K) (step : Step K) → Legal r old → IsStep r old step new → GoesOn old floor → GoesOn new floor
  goes_on_step old new (Splits n p sides left right) legal step goes = goes_on_split r floor old new legal goes law n p sides left right step
  goes_on_step old new (SplitsRoot sides left right) legal step goes = goes_on_root r floor old new legal goes sides left right step
  goes_on_step old new (Widens a x coming key) legal step goes = goes_on_changed r floor old new legal goes a _ _ step.changes
  goes_on_step old new (Adds a x) legal step goes = goes_on_changed r floor old new legal goes a _ _ step.changes
  goes_on_step old new (Marks a row key mark) legal step goes = goes_on_changed r floor old new legal goes a _ _ step.changes
  goes_on_step old new (Sweeps a claimed) legal step goes = goes_on_changed r floor old new legal goes a _ _ step.changes

  pub goes_on_steps : (steps : List (Step K)) (old new : Tree K) → Legal r old → AreSteps r old steps new → GoesOn old floor → GoesOn new floor
  goes_on_steps steps old new legal are goes =
      kept_by_steps r law (λ step. Unit {0}) (λ t. GoesOn t floor)
      (λ old new step legal is alone holds. goes_on_step old new step legal is holds) steps old new legal are
      (each_always (λ step. Unit {0}) (λ step. tt) steps) goes
