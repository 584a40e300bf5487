-- A look or a descent over trees that agree on pages in use.
use Rattle.std.proofs.Common.{◌≡◌, ℕ, zero, suc, ◌<◌, ◌≤◌, Bool, true, ◌&&◌, List, [], ◌∷◌, ◌++◌, filter, refl, ap, sym, ◌∙◌, subst, arith}
use Rattle.std.specs.Prelude.{nat_lt, ◌==◌, if◌then◌else◌}
use Rattle.gx_node.specs.Lists.{Each, sum_over, one_if, how_many}
use Rattle.gx_node.specs.Trees.{Pair, Child, Node, Tree, Rules, Used, child_pages}
use Rattle.gx_node.specs.Legal.{Legal}
use Rattle.gx_node.specs.Reach.{TraversalItem, Run, ends, goes, run, down, under, ahead_of, ahead}
use Rattle.gx_node.specs.Looks.{ItemFits, IsLook, beyond_of, below_of, stacked, found_with, LeadsTo}
use Rattle.gx_node.specs.Writes.{IsDescent}
use Rattle.gx_node.specs.Alike.{AgreeOnUsed}
use Rattle.gx_node.proofs.Sums.{sum_over_same, each_map}
use Rattle.gx_node.proofs.Runs.{run_is, length_run, each_run, each_child_used}
use Rattle.gx_node.proofs.AlikeTrees.{used_too, used_back, standing_too}

module _ {K : Type 0} (one other : Tree K) (agree : AgreeOnUsed one other) where
  -- what a look stacks and finds at a page in use
  pub stacked_too : (leads : K → Bool) (item : TraversalItem) (stack : List TraversalItem) → Used one item.page → stacked other leads item stack ≡ stacked one leads item stack
  stacked_too leads item stack u =
      ap (λ (n : Node K). (if nat_lt item.seen n.nsn then record { page = n.right; seen = item.seen } ∷ [] else []) ++ (below_of other leads n.children ++ stack)) (agree.nodes item.page u)
      ∙ ap (λ (c : ℕ). beyond_of one item ++ (below_of (record one { counter = c }) leads (one.node item.page).children ++ stack)) agree.counter

  pub found_too : (wants : Pair K → Bool) (item : TraversalItem) (found : List (Pair K)) → Used one item.page → found_with other wants item found ≡ found_with one wants item found
  found_too wants item found u = ap (λ (n : Node K). found ++ filter wants n.pairs) (agree.nodes item.page u)

module _ {K : Type 0} (r : Rules K) (one other : Tree K) (agree : AgreeOnUsed one other) where
  pub leads_too : (wants : Pair K → Bool) (leads : K → Bool) → LeadsTo r one wants leads → LeadsTo r other wants leads
  leads_too wants leads consistent p u =
      subst (λ (n : Node K). Each (λ c. (q : ℕ) → Used other q → Each (λ x. wants x ≡ true → r.covers c.key x.key ≡ true → leads c.key ≡ true) (other.node q).pairs) n.children)
      (sym (agree.nodes p (used_back one other agree p u)))
      (each_map (λ (c : Child K). (q : ℕ) → Used one q → Each (λ x. wants x ≡ true → r.covers c.key x.key ≡ true → leads c.key ≡ true) (one.node q).pairs)
      (λ (c : Child K). (q : ℕ) → Used other q → Each (λ x. wants x ≡ true → r.covers c.key x.key ≡ true → leads c.key ≡ true) (other.node q).pairs)
      (λ c each q v.
      subst (λ (n : Node K). Each (λ x. wants x ≡ true → r.covers c.key x.key ≡ true → leads c.key ≡ true) n.pairs) (sym (agree.nodes q (used_back one other agree q v)))
      (each q (used_back one other agree q v)))
      (one.node p).children (consistent p (used_back one other agree p u)))

  pub descent_too : (item : TraversalItem) (coming : K) → IsDescent r one item coming → IsDescent r other item coming
  descent_too item coming d = record {
    there = used_too one other agree item.page d.there;
    seen = subst (λ n. item.seen ≤ n) (sym agree.counter) d.seen;
    covered = λ early p u.
        subst (λ (n : Node K). Each (λ (c : Child K). c.page ≡ item.page → r.covers c.key coming ≡ true) n.children) (sym (agree.nodes p (used_back one other agree p u)))
        (d.covered (subst (λ (n : Node K). n.nsn ≤ item.seen) (agree.nodes item.page d.there) early) p (used_back one other agree p u));
  }

  -- What lies ahead.

  run_too : (seen : ℕ) {x : ℕ} {xs : List ℕ} → Run one seen x xs → Run other seen x xs
  run_too seen {x = x} (ends u le) = ends (used_too one other agree x u) (subst (λ (n : Node K). n.nsn ≤ seen) (sym (agree.nodes x u)) le)
  run_too seen {x = x} (goes {qs = qs} u lt rest) =
      goes (used_too one other agree x u) (subst (λ (n : Node K). seen < n.nsn) (sym (agree.nodes x u)) lt)
      (subst (λ (n : Node K). Run other seen n.right qs) (sym (agree.nodes x u)) (run_too seen rest))

  near_too : (item : TraversalItem) → ItemFits one item → run other other.used item.seen item.page ≡ run one one.used item.seen item.page
  near_too item fit =
      let most = length_run one item.seen one.used item.page in
      let e = agree.used in
      run_is other item.seen (run_too item.seen fit.run) other.used (omega (arith, most, e))

  item_too : (item : TraversalItem) → ItemFits one item → ItemFits other item
  item_too item fit = record {
    seen = subst (λ n. item.seen ≤ n) (sym agree.counter) fit.seen;
    run = subst (λ (ys : List ℕ). Run other item.seen item.page ys) (sym (near_too item fit)) (run_too item.seen fit.run);
  }

  module _ (legal : Legal r one) where
    module _ (f g : ℕ → ℕ) (same : (q : ℕ) → Used one q → f q ≡ g q) where
      down_too : (k q : ℕ) → Used one q → down other f k q ≡ down one g k q
      down_too zero q u = same q u
      down_too (suc k) q u =
          let here = same q u in
          let shape = ap (λ (n : Node K). sum_over (down other f k) (child_pages n)) (agree.nodes q u) in
          let below = sum_over_same (down other f k) (down one g k) (child_pages (one.node q))
          (each_map (λ x. Used one x × (2 ≤ x)) (λ x. down other f k x ≡ down one g k x) (λ x taken. down_too k x taken.0) (child_pages (one.node q)) (each_child_used r one legal q u)) in
          omega (arith, here, shape, below)

      under_too : (q : ℕ) → Used one q → under other f q ≡ under one g q
      under_too q u = ap (λ (n : Node K). down other f n.level q) (agree.nodes q u) ∙ down_too (one.node q).level q u

      ahead_of_too : (item : TraversalItem) → ItemFits one item → ahead_of other f item ≡ ahead_of one g item
      ahead_of_too item fit =
          ap (λ (ys : List ℕ). sum_over (under other f) ys) (near_too item fit)
          ∙ sum_over_same (under other f) (under one g) (run one one.used item.seen item.page)
          (each_run one item.seen (λ x. under other f x ≡ under one g x) under_too fit.run)

      pub ahead_too : (stack : List TraversalItem) → Each (ItemFits one) stack → ahead other f stack ≡ ahead one g stack
      ahead_too stack fits =
          sum_over_same (ahead_of other f) (ahead_of one g) stack
          (each_map (ItemFits one) (λ item. ahead_of other f item ≡ ahead_of one g item) ahead_of_too stack fits)

    pub look_too : (wants : Pair K → Bool) (stack : List TraversalItem) (found : List (Pair K)) → IsLook one wants stack found → IsLook other wants stack found
    look_too wants stack found look = record {
      items = each_map (ItemFits one) (ItemFits other) item_too stack look.items;
      complete = λ test.
          (let ahead_same = ahead_too (λ q. how_many (λ x. wants x && test x) (other.node q).pairs) (λ q. how_many (λ x. wants x && test x) (one.node q).pairs)
          (λ q u. ap (λ (n : Node K). how_many (λ x. wants x && test x) n.pairs) (agree.nodes q u)) stack look.items in
          let stands = standing_too r one other agree legal (λ x. wants x && test x) in
          let before = look.complete test in
          omega (arith, ahead_same, stands, before));
      once = λ l.
          (let same = ahead_too (λ q. one_if (q == l)) (λ q. one_if (q == l)) (λ q u. refl) stack look.items in
          let before = look.once l in
          omega (arith, same, before));
    }
