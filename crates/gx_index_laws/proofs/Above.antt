-- An inner page in use stays one, whatever is done to the tree: so a descent's page of before does.
use Rattle.std.proofs.Common.{ℕ, ◌≤◌, Bool, inl, inr, List, ◌∷◌, [], ◌++◌, filter, ap, arith}
use Rattle.std.proofs.lemmas.Bool.{cases_eq}
use Rattle.gx_node.specs.Trees.{Pair, Child, Node, Tree, Rules, IsLawful, Used}
use Rattle.gx_node.specs.Legal.{Legal}
use Rattle.gx_node.specs.Alike.{AgreeOnUsed}
use Rattle.gx_node.specs.Steps.{IsRootSplit, ChangesOnly, with_key, with_mark, spares, Step, Splits, SplitsRoot, Widens, Adds, Marks, Sweeps, IsStep}
use Rattle.gx_node.proofs.Splits.{level_same, used_more as split_more}
use Rattle.gx_node.proofs.Roots.{used_more as root_more, same_node}
use Rattle.gx_node.proofs.Changes.{level_kept, used_kept}
use Rattle.gx_index_laws.specs.Working.{CameFrom}

module _ {K : Type 0} (r : Rules K) (law : IsLawful r) (old new : Tree K) (legal : Legal r old) where
  -- it is taken, and its level is no lower
  abbrev StaysInner : ℕ → Type 0
  StaysInner q = Used new q × ((old.node q).level ≤ (new.node q).level)

  changed : (a : ℕ) (pairs : List (Pair K)) (entries : List (Child K)) → ChangesOnly old new a pairs entries → (q : ℕ) → Used old q → StaysInner q
  changed a pairs entries step q u = (used_kept old new a pairs entries step q u, (let same = level_kept old new a pairs entries step q in omega (arith, same)))

  root_split : (sides : List Bool) (left right : K) → IsRootSplit r old new sides left right → (q : ℕ) → Used old q → StaysInner q
  root_split sides left right step q u = (
    root_more r old new sides left right legal step q u,
    elim (cases_eq q 1) [
      | inl one ↦
          let was = ap (λ p. (old.node p).level) one in
          let now = ap (λ p. (new.node p).level) one in
          let risen = ap (λ (n : Node K). n.level) step.root in
          omega (arith, was, now, risen)
      | inr other ↦ (let same = ap (λ (n : Node K). n.level) (same_node r old new sides left right legal step q u other) in omega (arith, same))
    ],
  )

  stays_inner : (step : Step K) → IsStep r old step new → (q : ℕ) → Used old q → StaysInner q
  stays_inner (Splits n p sides left right) step q u = (
    split_more r law old new n p sides left right legal step q u,
    (let same = level_same r law old new n p sides left right legal step q u in omega (arith, same)),
  )
  stays_inner (SplitsRoot sides left right) step q u = root_split sides left right step q u
  stays_inner (Widens a x coming key) step q u = changed a (old.node a).pairs (with_key x key (old.node a).children) step.changes q u
  stays_inner (Adds a x) step q u = changed a ((old.node a).pairs ++ x ∷ []) (old.node a).children step.changes q u
  stays_inner (Marks a row key mark) step q u = changed a (with_mark r row key mark (old.node a).pairs) (old.node a).children step.changes q u
  stays_inner (Sweeps a claimed) step q u = changed a (filter (spares claimed) (old.node a).pairs) (old.node a).children step.changes q u

  pub came_kept : (step : Step K) → IsStep r old step new → (parent page : ℕ) → CameFrom old parent page → CameFrom new parent page
  came_kept step is parent page (inl began) = inl began
  came_kept step is parent page (inr from) =
      let stays = stays_inner step is parent from.0 in
      inr (stays.0, (let was = from.1 in let now = stays.1 in omega (arith, was, now)))

-- and so it is in a tree that agrees on pages in use
pub came_too : {K : Type 0} (one other : Tree K) → AgreeOnUsed one other → (parent page : ℕ) → CameFrom one parent page → CameFrom other parent page
came_too one other agree parent page (inl began) = inl began
came_too {K} one other agree parent page (inr from) =
    let same = ap (λ (n : Node K). n.level) (agree.nodes parent from.0) in
    let used = agree.used in
    inr ((from.0.0, (let high = from.0.1 in omega (arith, used, high))), (let was = from.1 in omega (arith, same, was)))
