-- Steps of others keep a look, as long as they leave alone what it wants.
use Rattle.std.proofs.Common.{◌≡◌, ℕ, suc, ◌<◌, ◌≤◌, Bool, true, false, not, ◌&&◌, ◌||◌, inl, inr, List, [], ◌∷◌, ◌++◌, map, filter, refl, ap, sym, ◌∙◌, arith}
use Rattle.std.specs.Prelude.{◌==◌, if◌then◌else◌}
use Rattle.std.proofs.lemmas.Bool.{cases_eq}
use Rattle.gx_node.specs.Lists.{one_if, how_many}
use Rattle.gx_node.specs.Trees.{Pair, Child, Node, Tree, Rules, IsLawful, Used, child_pages, is_entry}
use Rattle.gx_node.specs.Legal.{Legal}
use Rattle.gx_node.specs.Steps.{IsSplit, IsRootSplit, ChangesOnly, with_key, with_mark, spares, Step, Splits, SplitsRoot, Widens, Adds, Marks, Sweeps, IsStep, LeavesAlone}
use Rattle.gx_node.specs.Reach.{TraversalItem, ahead}
use Rattle.gx_node.specs.Looks.{ItemFits, IsLook}
use Rattle.gx_node.proofs.Sums.{each_map, sum_over-append}
use Rattle.gx_node.proofs.Chains.{one_at, one_off, pages_with_key}
use Rattle.gx_node.proofs.Splits.{split_used, pairs_split, pairs_same, standing_split}
use Rattle.gx_node.proofs.Roots.{root_used, same_node, standing_root, pairs_root, no_pairs}
use Rattle.gx_node.proofs.Changes.{pairs_kept, passing_kept}
use Rattle.gx_node.proofs.PageSteps.{how_many_filter}
use Rattle.gx_node.proofs.SplitReach.{item_split, ahead_split}
use Rattle.gx_node.proofs.RootReach.{item_root, ahead_root}
use Rattle.gx_node.proofs.ChangeReach.{item_kept, ahead_kept}

module _ {K : Type 0} (wants : Pair K → Bool) (stack : List TraversalItem) (found : List (Pair K)) where
  wanted : (Pair K → Bool) → Pair K → Bool
  wanted test x = wants x && test x

  module _ (r : Rules K) (law : IsLawful r) (old new : Tree K) (n p : ℕ) (sides : List Bool) (left right : K)
      (legal : Legal r old) (step : IsSplit r old new n p sides left right) (look : IsLook old wants stack found) where
    once_after : (l : ℕ) → ahead new (λ q. one_if (q == l)) stack ≤ 1
    once_after l =
        let h = (split_used r law old new n p sides left right legal step).1 in
        elim (cases_eq l (suc old.used)) [
          | inl e ↦
              let same = ahead_split r law old new n p sides left right legal step (λ q. one_if (q == l)) (λ q. one_if (q == n))
              (let a = one_off n l (λ z. (omega (arith, z, e, h))) in let b = one_at (suc old.used) l (sym e) in let c = one_at n n refl in omega (arith, a, b, c))
              (λ q u ne. one_off q l (λ z. (let k = u.1 in omega (arith, z, e, k))) ∙ sym (one_off q n ne)) stack look.items in
              let before = look.once n in
              omega (arith, same, before)
          | inr ne ↦
              let same = ahead_split r law old new n p sides left right legal step (λ q. one_if (q == l)) (λ q. one_if (q == l))
              (let b = one_off (suc old.used) l (λ z. ne (sym z)) in omega (arith, b)) (λ q u other. refl) stack look.items in
              let before = look.once l in
              omega (arith, same, before)
        ]

    pub look_split : IsLook new wants stack found
    look_split = record {
      items = each_map (ItemFits old) (ItemFits new) (item_split r law old new n p sides left right legal step) stack look.items;
      complete = λ test.
          (let same = ahead_split r law old new n p sides left right legal step
          (λ q. how_many (λ x. wants x && test x) (new.node q).pairs) (λ q. how_many (λ x. wants x && test x) (old.node q).pairs)
          (pairs_split r law old new n p sides left right legal step (λ x. wants x && test x))
          (λ q u ne. ap (λ (xs : List (Pair K)). how_many (λ x. wants x && test x) xs) (pairs_same r law old new n p sides left right legal step q u ne))
          stack look.items in
          let stands = standing_split r law old new n p sides left right legal step (λ x. wants x && test x) in
          let before = look.complete test in
          omega (arith, same, stands, before));
      once = once_after;
    }

  module _ (r : Rules K) (old new : Tree K) (sides : List Bool) (left right : K)
      (legal : Legal r old) (step : IsRootSplit r old new sides left right) (look : IsLook old wants stack found) where
    old_off : (l q : ℕ) → old.used < l → Used old q → one_if (q == l) ≡ 0
    old_off l q far u = one_off q l (λ e. (let h = u.1 in omega (arith, e, h, far)))

    once_root : (l : ℕ) → ahead new (λ q. one_if (q == l)) stack ≤ 1
    once_root l =
        let h = (root_used r old new sides left right legal step).1 in
        elim (cases_eq l (suc old.used)) [
          | inl e ↦
              let same = ahead_root r old new sides left right legal step (λ q. one_if (q == l)) (λ q. one_if (q == 1))
              (let a = one_off 1 l (λ z. (omega (arith, z, e, h))) in let b = one_at (suc old.used) l (sym e) in
              let c = one_off (suc (suc old.used)) l (λ z. (omega (arith, z, e))) in omega (arith, a, b, c))
              (λ q u ne. old_off l q (omega (arith, e)) u ∙ sym (one_off q 1 ne)) stack look.items in
              let before = look.once 1 in
              omega (arith, same, before)
          | inr na ↦ elim (cases_eq l (suc (suc old.used))) [
            | inl e ↦
                let same = ahead_root r old new sides left right legal step (λ q. one_if (q == l)) (λ q. one_if (q == 1))
                (let a = one_off 1 l (λ z. (omega (arith, z, e, h))) in let b = one_off (suc old.used) l (λ z. na (sym z)) in
                let c = one_at (suc (suc old.used)) l (sym e) in omega (arith, a, b, c))
                (λ q u ne. old_off l q (omega (arith, e)) u ∙ sym (one_off q 1 ne)) stack look.items in
                let before = look.once 1 in
                omega (arith, same, before)
            | inr nb ↦
                let same = ahead_root r old new sides left right legal step (λ q. one_if (q == l)) (λ q. one_if (q == l))
                (let b = one_off (suc old.used) l (λ z. na (sym z)) in let c = one_off (suc (suc old.used)) l (λ z. nb (sym z)) in omega (arith, b, c))
                (λ q u other. refl) stack look.items in
                let before = look.once l in
                omega (arith, same, before)
          ]
        ]

    pub look_root : IsLook new wants stack found
    look_root = record {
      items = each_map (ItemFits old) (ItemFits new) (item_root r old new sides left right legal step) stack look.items;
      complete = λ test.
          (let none = ap (λ (xs : List (Pair K)). how_many (λ x. wants x && test x) xs) (no_pairs r old new sides left right legal step) in
          let top = pairs_root r old new sides left right legal step (λ x. wants x && test x) in
          let first = ap (λ (z : Node K). how_many (λ x. wants x && test x) z.pairs) step.first in
          let second = ap (λ (z : Node K). how_many (λ x. wants x && test x) z.pairs) step.second in
          let same = ahead_root r old new sides left right legal step
          (λ q. how_many (λ x. wants x && test x) (new.node q).pairs) (λ q. how_many (λ x. wants x && test x) (old.node q).pairs)
          (omega (arith, none, top, first, second))
          (λ q u ne. ap (λ (z : Node K). how_many (λ x. wants x && test x) z.pairs) (same_node r old new sides left right legal step q u ne))
          stack look.items in
          let stands = standing_root r old new sides left right legal step (λ x. wants x && test x) in
          let before = look.complete test in
          omega (arith, same, stands, before));
      once = once_root;
    }

  module _ (r : Rules K) (old new : Tree K) (a : ℕ) (pairs : List (Pair K)) (entries : List (Child K)) (legal : Legal r old)
      (step : ChangesOnly old new a pairs entries) (pages : map (λ c. c.page) entries ≡ child_pages (old.node a))
      (alone : (test : Pair K → Bool) → how_many (λ x. wants x && test x) pairs ≡ how_many (λ x. wants x && test x) (old.node a).pairs)
      (look : IsLook old wants stack found) where
    pub look_changed : IsLook new wants stack found
    look_changed = record {
      items = each_map (ItemFits old) (ItemFits new) (item_kept old new a pairs entries step) stack look.items;
      complete = λ test.
          (let same = ahead_kept old new a pairs entries step pages
          (λ q. how_many (λ x. wants x && test x) (new.node q).pairs) (λ q. how_many (λ x. wants x && test x) (old.node q).pairs)
          (pairs_kept old new a pairs entries step (λ x. wants x && test x) (alone test)) stack look.items in
          let stands = passing_kept old new a pairs entries step (λ x. wants x && test x) (alone test) 2 legal.chain in
          let before = look.complete test in
          omega (arith, same, stands, before));
      once = λ l.
          (let same = ahead_kept old new a pairs entries step pages (λ q. one_if (q == l)) (λ q. one_if (q == l)) (λ q. refl) stack look.items in
          let before = look.once l in
          omega (arith, same, before));
    }

-- A step that doesn't change the wanted pairs leaves as many of them.

module _ {K : Type 0} (wants : Pair K → Bool) (test : Pair K → Bool) where
  unwanted : (x : Pair K) → wants x ≡ false → one_if (wants x && test x) ≡ 0
  unwanted x e = ap (λ b. one_if (b && test x)) e

  pub alone_added : (x : Pair K) (xs : List (Pair K)) → wants x ≡ false
      → how_many (λ y. wants y && test y) (xs ++ x ∷ []) ≡ how_many (λ y. wants y && test y) xs
  alone_added x xs e =
      let more = sum_over-append (λ y. one_if (wants y && test y)) xs (x ∷ []) in
      let none = unwanted x e in
      omega (arith, more, none)

  pub alone_marked : (r : Rules K) (row : ℕ) (key : K) (mark : Bool)
      → ((x : Pair K) → is_entry r row key x ≡ true → (wants x ≡ false) × (wants (record { row = x.row; key = x.key; marked = mark }) ≡ false))
      → (xs : List (Pair K)) → how_many (λ y. wants y && test y) (with_mark r row key mark xs) ≡ how_many (λ y. wants y && test y) xs
  alone_marked r row key mark spared [] = refl
  alone_marked r row key mark spared (y ∷ ys) =
      let rest = alone_marked r row key mark spared ys in
      let here = by (is_entry r row key y) refl in
      omega (arith, rest, here)
    where
      by : (b : Bool) → is_entry r row key y ≡ b
          → one_if (wants (if b then record { row = y.row; key = y.key; marked = mark } else y) && test (if b then record { row = y.row; key = y.key; marked = mark } else y))
          ≡ one_if (wants y && test y)
      by true is = unwanted (record { row = y.row; key = y.key; marked = mark }) (spared y is).1 ∙ sym (unwanted y (spared y is).0)
      by false is = refl

  spared_by : (w t s : Bool) → (w ≡ true → s ≡ true) → one_if ((w && t) && not s) ≡ 0
  spared_by true true s spared = ap (λ b. one_if (not b)) (spared refl)
  spared_by true false s spared = refl
  spared_by false t s spared = refl

  claimed_spared : (m c : Bool) → (m ≡ true → c ≡ true) → (not m || c) ≡ true
  claimed_spared true c claims = claims refl
  claimed_spared false c claims = refl

  none_of : (claimed : Pair K → Bool) → ((x : Pair K) → wants x ≡ true → spares claimed x ≡ true) → (xs : List (Pair K))
      → how_many (λ y. (wants y && test y) && not (spares claimed y)) xs ≡ 0
  none_of claimed spared [] = refl
  none_of claimed spared (y ∷ ys) =
      let rest = none_of claimed spared ys in
      let here = spared_by (wants y) (test y) (spares claimed y) (spared y) in
      omega (arith, rest, here)

  pub alone_swept : (claimed : Pair K → Bool) → ((x : Pair K) → wants x ≡ true → x.marked ≡ true → claimed x ≡ true) → (xs : List (Pair K))
      → how_many (λ y. wants y && test y) (filter (spares claimed) xs) ≡ how_many (λ y. wants y && test y) xs
  alone_swept claimed claims xs =
      let parts = how_many_filter (λ y. wants y && test y) (spares claimed) xs in
      let none = none_of claimed (λ x wanted. claimed_spared x.marked (claimed x) (claims x wanted)) xs in
      omega (arith, parts, none)

-- any step of others
pub look_step : {K : Type 0} (r : Rules K) → IsLawful r → (wants : Pair K → Bool) (stack : List TraversalItem) (found : List (Pair K))
    → (old new : Tree K) (step : Step K) → Legal r old → IsStep r old step new → LeavesAlone r wants step
    → IsLook old wants stack found → IsLook new wants stack found
look_step r law wants stack found old new (Splits n p sides left right) legal step alone look =
    look_split wants stack found r law old new n p sides left right legal step look
look_step r law wants stack found old new (SplitsRoot sides left right) legal step alone look =
    look_root wants stack found r old new sides left right legal step look
look_step r law wants stack found old new (Widens a x coming key) legal step alone look =
    look_changed wants stack found r old new a (old.node a).pairs (with_key x key (old.node a).children) legal step.changes
    (pages_with_key x key (old.node a).children) (λ test. refl) look
look_step r law wants stack found old new (Adds a x) legal step alone look =
    look_changed wants stack found r old new a ((old.node a).pairs ++ x ∷ []) (old.node a).children legal step.changes refl
    (λ test. alone_added wants test x (old.node a).pairs alone) look
look_step r law wants stack found old new (Marks a row key mark) legal step alone look =
    look_changed wants stack found r old new a (with_mark r row key mark (old.node a).pairs) (old.node a).children legal step.changes refl
    (λ test. alone_marked wants test r row key mark alone (old.node a).pairs) look
look_step r law wants stack found old new (Sweeps a claimed) legal step alone look =
    look_changed wants stack found r old new a (filter (spares claimed) (old.node a).pairs) (old.node a).children legal step.changes refl
    (λ test. alone_swept wants test claimed alone (old.node a).pairs) look
