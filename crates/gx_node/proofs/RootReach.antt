-- What lies ahead of an item after a root split is what lay ahead before.
use Rattle.std.proofs.Common.{◌≡◌, ◌≢◌, ℕ, zero, suc, ◌+◌, ◌≤◌, Bool, inl, inr, List, refl, ap, sym, ◌∙◌, subst, arith}
use Rattle.std.proofs.lemmas.Bool.{cases_eq}
use Rattle.gx_node.specs.Lists.{sum_over, Each}
use Rattle.gx_node.specs.Trees.{Node, Tree, Rules, Used, child_pages}
use Rattle.gx_node.specs.Legal.{Legal}
use Rattle.gx_node.specs.Steps.{IsRootSplit}
use Rattle.gx_node.specs.Reach.{TraversalItem, Run, ends, goes, run, down, under, ahead_of, ahead}
use Rattle.gx_node.specs.Looks.{ItemFits}
use Rattle.gx_node.proofs.Sums.{sum_over_same, each_map}
use Rattle.gx_node.proofs.Roots.{root_used, used_more, same_node, sum_halves, sum_root}
use Rattle.gx_node.proofs.Runs.{run_is, length_run, each_run, each_child_used}

module _ {K : Type 0} (r : Rules K) (old new : Tree K) (sides : List Bool) (left right : K)
    (legal : Legal r old) (step : IsRootSplit r old new sides left right) where
  abbrev a : ℕ
  a = suc old.used

  abbrev b : ℕ
  b = suc (suc old.used)

  pub nsn_same : (q : ℕ) → Used old q → (new.node q).nsn ≡ (old.node q).nsn
  nsn_same q u = elim (cases_eq q 1) [
    | inl e ↦ subst (λ q. (new.node q).nsn ≡ (old.node q).nsn) (sym e) (ap (λ (z : Node K). z.nsn) step.root)
    | inr ne ↦ ap (λ (z : Node K). z.nsn) (same_node r old new sides left right legal step q u ne)
  ]

  right_same : (q : ℕ) → Used old q → (new.node q).right ≡ (old.node q).right
  right_same q u = elim (cases_eq q 1) [
    | inl e ↦ subst (λ q. (new.node q).right ≡ (old.node q).right) (sym e) (ap (λ (z : Node K). z.right) step.root)
    | inr ne ↦ ap (λ (z : Node K). z.right) (same_node r old new sides left right legal step q u ne)
  ]

  module _ (f g : ℕ → ℕ) (parted : f 1 + (f a + f b) ≡ g 1) (same : (q : ℕ) → Used old q → q ≢ 1 → f q ≡ g q) where
    down_children : (k : ℕ) → ((q : ℕ) → Used old q → q ≢ 1 → down new f k q ≡ down old g k q) → (q : ℕ) → Used old q
        → sum_over (down new f k) (child_pages (old.node q)) ≡ sum_over (down old g k) (child_pages (old.node q))
    down_children k rest q u =
        sum_over_same (down new f k) (down old g k) (child_pages (old.node q))
        (each_map (λ x. Used old x × (2 ≤ x)) (λ x. down new f k x ≡ down old g k x)
        (λ x taken. rest x taken.0 (λ e. (let h = taken.1 in absurd (omega (arith, e, h))))) (child_pages (old.node q)) (each_child_used r old legal q u))

    down_other : (k q : ℕ) → Used old q → q ≢ 1 → down new f k q ≡ down old g k q
    down_other zero q u ne = same q u ne
    down_other (suc k) q u ne =
        let here = same q u ne in
        let shape = ap (λ (z : Node K). sum_over (down new f k) (child_pages z)) (same_node r old new sides left right legal step q u ne) in
        let below = down_children k (down_other k) q u in
        omega (arith, here, shape, below)

    down_root : (k : ℕ) → down new f (suc (suc k)) 1 ≡ down old g (suc k) 1
    down_root k =
        let top = sum_root r old new sides left right legal step (down new f (suc k)) in
        let halves = sum_halves r old new sides left right legal step (down new f k) in
        let below = down_children k (down_other k) 1 (root_used r old new sides left right legal step) in
        omega (arith, parted, top, halves, below)

    root_by : (k : ℕ) → (old.node 1).level ≡ k → down new f (suc k) 1 ≡ down old g k 1
    root_by zero is = let h = legal.root in absurd (omega (arith, h, is))
    root_by (suc k) is = down_root k

    pub under_same : (q : ℕ) → Used old q → under new f q ≡ under old g q
    under_same q u = elim (cases_eq q 1) [
      | inl e ↦ subst (λ q. under new f q ≡ under old g q) (sym e)
          (ap (λ k. down new f k 1) (ap (λ (z : Node K). z.level) step.root) ∙ root_by (old.node 1).level refl)
      | inr ne ↦
          ap (λ k. down new f k q) (ap (λ (z : Node K). z.level) (same_node r old new sides left right legal step q u ne))
          ∙ down_other (old.node q).level q u ne
    ]

  run_root : (seen : ℕ) {x : ℕ} {xs : List ℕ} → Run old seen x xs → Run new seen x xs
  run_root seen {x = x} (ends u le) =
      ends (used_more r old new sides left right legal step x u) (let k = nsn_same x u in omega (arith, k, le))
  run_root seen {x = x} (goes {qs = qs} u lt rest) =
      goes (used_more r old new sides left right legal step x u) (let k = nsn_same x u in omega (arith, k, lt))
      (subst (λ q. Run new seen q qs) (sym (right_same x u)) (run_root seen rest))

  near_root : (item : TraversalItem) → ItemFits old item → run new new.used item.seen item.page ≡ run old old.used item.seen item.page
  near_root item fit =
      let most = length_run old item.seen old.used item.page in
      let e = step.used in
      run_is new item.seen (run_root item.seen fit.run) new.used (omega (arith, most, e))

  pub item_root : (item : TraversalItem) → ItemFits old item → ItemFits new item
  item_root item fit = record {
    seen = (let e = step.counter in let h = fit.seen in omega (arith, e, h));
    run = subst (λ (ys : List ℕ). Run new item.seen item.page ys) (sym (near_root item fit)) (run_root item.seen fit.run);
  }

  ahead_of_root : (f g : ℕ → ℕ) → f 1 + (f a + f b) ≡ g 1 → ((q : ℕ) → Used old q → q ≢ 1 → f q ≡ g q)
      → (item : TraversalItem) → ItemFits old item → ahead_of new f item ≡ ahead_of old g item
  ahead_of_root f g parted same item fit =
      ap (λ (ys : List ℕ). sum_over (under new f) ys) (near_root item fit)
      ∙ sum_over_same (under new f) (under old g) (run old old.used item.seen item.page)
      (each_run old item.seen (λ x. under new f x ≡ under old g x) (under_same f g parted same) fit.run)

  pub ahead_root : (f g : ℕ → ℕ) → f 1 + (f a + f b) ≡ g 1 → ((q : ℕ) → Used old q → q ≢ 1 → f q ≡ g q)
      → (stack : List TraversalItem) → Each (ItemFits old) stack → ahead new f stack ≡ ahead old g stack
  ahead_root f g parted same stack fits =
      sum_over_same (ahead_of new f) (ahead_of old g) stack
      (each_map (ItemFits old) (λ item. ahead_of new f item ≡ ahead_of old g item) (ahead_of_root f g parted same) stack fits)
