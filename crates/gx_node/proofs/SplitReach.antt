-- What lies ahead of an item after a split is what lay ahead before.
use Rattle.std.proofs.Common.{◌≡◌, ◌≢◌, ℕ, zero, suc, ◌+◌, ◌≤◌, Bool, inl, inr, List, [], ◌∷◌, refl, ap, sym, ◌∙◌, subst, arith}
use Rattle.std.proofs.lemmas.Bool.{cases_eq}
use Rattle.gx_node.specs.Lists.{sum_over, Each}
use Rattle.gx_node.specs.Trees.{Node, Tree, Rules, IsLawful, Used, child_pages, times}
use Rattle.gx_node.specs.Legal.{Legal}
use Rattle.gx_node.specs.Steps.{IsSplit}
use Rattle.gx_node.specs.Reach.{TraversalItem, Run, ends, goes, run, down, under, ahead_of, ahead}
use Rattle.gx_node.specs.Looks.{ItemFits}
use Rattle.gx_node.proofs.Sums.{sum_over_same, each_map, each-map, each_both}
use Rattle.gx_node.proofs.Chains.{one_at, one_off, after, after_at, after_off, sum_after, length_after}
use Rattle.gx_node.proofs.Splits.{is_split, is_parent, is_new, is_other, place_of, split_used, split_apart, sum_split, sum_parent, level_same, right_same, used_more, used_new, unnamed}
use Rattle.gx_node.proofs.Runs.{run_is, length_run, run_once, each_run, each_child_used}

-- a sum over pages of which one, that is in the list once, has a share more
sum_off_each : (f g : ℕ → ℕ) (a : ℕ) (xs : List ℕ) → times a xs ≡ 0 → Each (λ x. x ≢ a → f x ≡ g x) xs → sum_over f xs ≡ sum_over g xs
sum_off_each f g a [] none same = refl
sum_off_each f g a (x ∷ xs) none same =
    let ne : x ≢ a = (λ e. (let one = one_at x a e in absurd (omega (arith, one, none)))) in
    let here = same.0 ne in
    let rest = sum_off_each f g a xs (omega (arith, none)) same.1 in
    omega (arith, here, rest)

sum_on_each : (f g : ℕ → ℕ) (a : ℕ) (xs : List ℕ) → times a xs ≡ 1 → Each (λ x. x ≢ a → f x ≡ g x) xs → sum_over f xs + g a ≡ sum_over g xs + f a
sum_on_each f g a [] one same = absurd (omega arith)
sum_on_each f g a (x ∷ xs) one same = elim (cases_eq x a) [
  | inl e ↦
      let here = one_at x a e in
      let rest = sum_off_each f g a xs (omega (arith, here, one)) same.1 in
      let at_f = ap f e in let at_g = ap g e in
      omega (arith, rest, at_f, at_g)
  | inr ne ↦
      let here = one_off x a ne in
      let rest = sum_on_each f g a xs (omega (arith, here, one)) same.1 in
      let at_x = same.0 ne in
      omega (arith, rest, at_x)
]

module _ {K : Type 0} (r : Rules K) (law : IsLawful r) (old new : Tree K) (n p : ℕ) (sides : List Bool) (left right : K)
    (legal : Legal r old) (step : IsSplit r old new n p sides left right) where
  abbrev s : ℕ
  s = suc old.used

  pub nsn_same : (q : ℕ) → Used old q → q ≢ n → (new.node q).nsn ≡ (old.node q).nsn
  nsn_same q u ne = elim (place_of n p s q) [
    | is_split e ↦ absurd (ne e)
    | is_parent e ↦ subst (λ q. (new.node q).nsn ≡ (old.node q).nsn) (sym e) (ap (λ (x : Node K). x.nsn) step.named)
    | is_new e ↦ (let h = u.1 in absurd (omega (arith, e, h)))
    | is_other nn np ns ↦ ap (λ (x : Node K). x.nsn) (step.others q nn np ns)
  ]

  module _ (f g : ℕ → ℕ) (parted : f n + f s ≡ g n) (same : (q : ℕ) → Used old q → q ≢ n → f q ≡ g q) where
    children_other : (k : ℕ) → ((q : ℕ) → Used old q → q ≢ n → down new f k q ≡ down old g k q) → (q : ℕ) → Used old q
        → Each (λ x. x ≢ n → down new f k x ≡ down old g k x) (child_pages (old.node q))
    children_other k rest q u =
        each_map (λ x. Used old x × (2 ≤ x)) (λ x. x ≢ n → down new f k x ≡ down old g k x) (λ x taken ne. rest x taken.0 ne)
        (child_pages (old.node q)) (each_child_used r old legal q u)

    children_unnamed : (k : ℕ) → ((q : ℕ) → Used old q → q ≢ n → down new f k q ≡ down old g k q) → (q : ℕ) → Used old q → q ≢ p
        → sum_over (down new f k) (child_pages (old.node q)) ≡ sum_over (down old g k) (child_pages (old.node q))
    children_unnamed k rest q u ne =
        sum_over_same (down new f k) (down old g k) (child_pages (old.node q))
        (each_both (λ x. x ≢ n) (λ x. x ≢ n → down new f k x ≡ down old g k x) (λ x. down new f k x ≡ down old g k x)
        (λ x apart then. then apart) (child_pages (old.node q))
        (each-map (λ x. x ≢ n) (λ c. c.page) (old.node q).children (unnamed r law old new n p sides left right legal step q u ne))
        (children_other k rest q u))

    other_by : (k : ℕ) → ((q : ℕ) → Used old q → q ≢ n → down new f k q ≡ down old g k q)
        → down new f k n + down new f k s ≡ down old g k n → (q : ℕ) → Used old q → q ≢ n → down new f (suc k) q ≡ down old g (suc k) q
    other_by k rest both q u ne = elim (place_of n p s q) [
      | is_split e ↦ absurd (ne e)
      | is_parent e ↦ subst (λ q. down new f (suc k) q ≡ down old g (suc k) q) (sym e)
          (let here = same p step.parent (λ e. split_apart r law old new n p sides left right legal step (sym e)) in
          let more = sum_parent r law old new n p sides left right legal step (down new f k) in
          let on = sum_on_each (down new f k) (down old g k) n (child_pages (old.node p)) step.names (children_other k rest p step.parent) in
          omega (arith, here, more, on, both))
      | is_new e ↦ (let h = u.1 in absurd (omega (arith, e, h)))
      | is_other nn np ns ↦
          let here = same q u ne in
          let shape = ap (λ (x : Node K). sum_over (down new f k) (child_pages x)) (step.others q nn np ns) in
          let below = children_unnamed k rest q u np in
          omega (arith, here, shape, below)
    ]

    down_all : (k : ℕ) → ((q : ℕ) → Used old q → q ≢ n → down new f k q ≡ down old g k q) × (down new f k n + down new f k s ≡ down old g k n)
    down_all zero = (same, parted)
    down_all (suc k) =
        let rest = down_all k in (
          other_by k rest.0 rest.1,
          (let halves = sum_split r law old new n p sides left right legal step (down new f k) in
              let below = children_unnamed k rest.0 n (split_used r law old new n p sides left right legal step) (split_apart r law old new n p sides left right legal step) in
              omega (arith, parted, halves, below)),
        )

    under_other : (q : ℕ) → Used old q → q ≢ n → under new f q ≡ under old g q
    under_other q u ne =
        ap (λ k. down new f k q) (level_same r law old new n p sides left right legal step q u) ∙ (down_all (old.node q).level).0 q u ne

    under_both : under new f n + under new f s ≡ under old g n
    under_both =
        let a = ap (λ k. down new f k n) (level_same r law old new n p sides left right legal step n (split_used r law old new n p sides left right legal step)) in
        let b = ap (λ k. down new f k s) (ap (λ (x : Node K). x.level) step.sibling) in
        let c = (down_all (old.node n).level).1 in
        omega (arith, a, b, c)

  pub run_split : (seen : ℕ) → seen ≤ old.counter → {x : ℕ} {xs : List ℕ} → Run old seen x xs → Run new seen x (after n s xs)
  run_split seen early {x = x} (ends u le) = elim (cases_eq x n) [
    | inl same ↦ subst (λ (ys : List ℕ). Run new seen x ys) (sym (after_at n s x [] same))
        (goes (used_more r law old new n p sides left right legal step x u)
        (let k = ap (λ q. (new.node q).nsn) same in let m = ap (λ (z : Node K). z.nsn) step.split in omega (arith, k, m, early))
        (subst (λ q. Run new seen q (s ∷ [])) (sym (ap (λ q. (new.node q).right) same ∙ ap (λ (z : Node K). z.right) step.split))
        (ends (used_new r law old new n p sides left right legal step)
        (let k = ap (λ (z : Node K). z.nsn) step.sibling in let m = ap (λ q. (old.node q).nsn) same in omega (arith, k, m, le)))))
    | inr ne ↦ subst (λ (ys : List ℕ). Run new seen x ys) (sym (after_off n s x [] ne))
        (ends (used_more r law old new n p sides left right legal step x u) (let k = nsn_same x u ne in omega (arith, k, le)))
  ]
  run_split seen early {x = x} (goes {qs = qs} u lt rest) =
      let more = run_split seen early rest in
      elim (cases_eq x n) [
        | inl same ↦ subst (λ (ys : List ℕ). Run new seen x ys) (sym (after_at n s x qs same))
            (goes (used_more r law old new n p sides left right legal step x u)
            (let k = ap (λ q. (new.node q).nsn) same in let m = ap (λ (z : Node K). z.nsn) step.split in omega (arith, k, m, early))
            (subst (λ q. Run new seen q (s ∷ after n s qs)) (sym (ap (λ q. (new.node q).right) same ∙ ap (λ (z : Node K). z.right) step.split))
            (goes (used_new r law old new n p sides left right legal step)
            (let k = ap (λ (z : Node K). z.nsn) step.sibling in let m = ap (λ q. (old.node q).nsn) same in omega (arith, k, m, lt))
            (subst (λ q. Run new seen q (after n s qs)) (sym (ap (λ (z : Node K). z.right) step.sibling ∙ ap (λ q. (old.node q).right) (sym same))) more))))
        | inr ne ↦ subst (λ (ys : List ℕ). Run new seen x ys) (sym (after_off n s x qs ne))
            (goes (used_more r law old new n p sides left right legal step x u) (let k = nsn_same x u ne in omega (arith, k, lt))
            (subst (λ q. Run new seen q (after n s qs)) (sym (right_same r law old new n p sides left right legal step x u ne)) more))
      ]

  -- the pages near an item are as before, each that is split being followed by the new one
  near_split : (item : TraversalItem) → ItemFits old item → run new new.used item.seen item.page ≡ after n s (run old old.used item.seen item.page)
  near_split item fit =
      let long = length_after n s (run old old.used item.seen item.page) in
      let once = run_once old item.seen n fit.run in
      let most = length_run old item.seen old.used item.page in
      let e = step.used in
      run_is new item.seen (run_split item.seen fit.seen fit.run) new.used (omega (arith, long, once, most, e))

  pub item_split : (item : TraversalItem) → ItemFits old item → ItemFits new item
  item_split item fit = record {
    seen = (let e = step.counter in let h = fit.seen in omega (arith, e, h));
    run = subst (λ (ys : List ℕ). Run new item.seen item.page ys) (sym (near_split item fit)) (run_split item.seen fit.seen fit.run);
  }

  pub ahead_of_split : (f g : ℕ → ℕ) → f n + f s ≡ g n → ((q : ℕ) → Used old q → q ≢ n → f q ≡ g q)
      → (item : TraversalItem) → ItemFits old item → ahead_of new f item ≡ ahead_of old g item
  ahead_of_split f g parted same item fit =
      ap (λ (ys : List ℕ). sum_over (under new f) ys) (near_split item fit)
      ∙ sum_after (under new f) (under old g) n s (run old old.used item.seen item.page) (under_both f g parted same)
      (each_run old item.seen (λ x. x ≢ n → under new f x ≡ under old g x) (under_other f g parted same) fit.run)

  pub ahead_split : (f g : ℕ → ℕ) → f n + f s ≡ g n → ((q : ℕ) → Used old q → q ≢ n → f q ≡ g q)
      → (stack : List TraversalItem) → Each (ItemFits old) stack → ahead new f stack ≡ ahead old g stack
  ahead_split f g parted same stack fits =
      sum_over_same (ahead_of new f) (ahead_of old g) stack
      (each_map (ItemFits old) (λ item. ahead_of new f item ≡ ahead_of old g item) (ahead_of_split f g parted same) stack fits)
