-- What lies ahead of an item after one page alone has changed is what lay ahead before.
use Rattle.std.proofs.Common.{◌≡◌, ℕ, zero, suc, List, map, ap, sym, ◌∙◌, subst, arith}
use Rattle.gx_node.specs.Lists.{sum_over, Each}
use Rattle.gx_node.specs.Trees.{Pair, Child, Tree, child_pages}
use Rattle.gx_node.specs.Steps.{ChangesOnly}
use Rattle.gx_node.specs.Reach.{TraversalItem, Run, ends, goes, run, down, under, ahead_of, ahead}
use Rattle.gx_node.specs.Looks.{ItemFits}
use Rattle.gx_node.proofs.Sums.{sum_over_same, each_map, each_always}
use Rattle.gx_node.proofs.Changes.{level_kept, nsn_kept, right_kept, pages_kept, used_kept}
use Rattle.gx_node.proofs.Runs.{run_is, length_run}

module _ {K : Type 0} (old new : Tree K) (a : ℕ) (pairs : List (Pair K)) (entries : List (Child K))
    (step : ChangesOnly old new a pairs entries) where
  run_kept : (seen : ℕ) {x : ℕ} {xs : List ℕ} → Run old seen x xs → Run new seen x xs
  run_kept seen {x = x} (ends u le) =
      ends (used_kept old new a pairs entries step x u) (let k = nsn_kept old new a pairs entries step x in omega (arith, k, le))
  run_kept seen {x = x} (goes {qs = qs} u lt rest) =
      goes (used_kept old new a pairs entries step x u) (let k = nsn_kept old new a pairs entries step x in omega (arith, k, lt))
      (subst (λ q. Run new seen q qs) (sym (right_kept old new a pairs entries step x)) (run_kept seen rest))

  near_kept : (item : TraversalItem) → ItemFits old item → run new new.used item.seen item.page ≡ run old old.used item.seen item.page
  near_kept item fit =
      let most = length_run old item.seen old.used item.page in
      let e = step.used in
      run_is new item.seen (run_kept item.seen fit.run) new.used (omega (arith, most, e))

  pub item_kept : (item : TraversalItem) → ItemFits old item → ItemFits new item
  item_kept item fit = record {
    seen = (let e = step.counter in let h = fit.seen in omega (arith, e, h));
    run = subst (λ (ys : List ℕ). Run new item.seen item.page ys) (sym (near_kept item fit)) (run_kept item.seen fit.run);
  }

  module _ (pages : map (λ c. c.page) entries ≡ child_pages (old.node a)) (f g : ℕ → ℕ) (same : (q : ℕ) → f q ≡ g q) where
    down_kept : (k q : ℕ) → down new f k q ≡ down old g k q
    down_kept zero q = same q
    down_kept (suc k) q =
        let here = same q in
        let shape = ap (λ (xs : List ℕ). sum_over (down new f k) xs) (pages_kept old new a pairs entries step pages q) in
        let below = sum_over_same (down new f k) (down old g k) (child_pages (old.node q))
        (each_always (λ x. down new f k x ≡ down old g k x) (down_kept k) (child_pages (old.node q))) in
        omega (arith, here, shape, below)

    under_kept : (q : ℕ) → under new f q ≡ under old g q
    under_kept q = ap (λ k. down new f k q) (level_kept old new a pairs entries step q) ∙ down_kept (old.node q).level q

    ahead_of_kept : (item : TraversalItem) → ItemFits old item → ahead_of new f item ≡ ahead_of old g item
    ahead_of_kept item fit =
        ap (λ (ys : List ℕ). sum_over (under new f) ys) (near_kept item fit)
        ∙ sum_over_same (under new f) (under old g) (run old old.used item.seen item.page)
        (each_always (λ x. under new f x ≡ under old g x) under_kept (run old old.used item.seen item.page))

    pub ahead_kept : (stack : List TraversalItem) → Each (ItemFits old) stack → ahead new f stack ≡ ahead old g stack
    ahead_kept stack fits =
        sum_over_same (ahead_of new f) (ahead_of old g) stack
        (each_map (ItemFits old) (λ item. ahead_of new f item ≡ ahead_of old g item) ahead_of_kept stack fits)
