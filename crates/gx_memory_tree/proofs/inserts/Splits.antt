-- A full node in an insert's way is split, or swept.
use Rattle.std.proofs.Common.{◌≢◌, ◌<◌, ◌≤◌, ◌+◌, ◌^◌, ℕ, Bool, List, inl, inr, ap, sym, arith}
use Rattle.std.specs.Prelude.{IfSome, Option, None, Some}
use Rattle.gx_node.specs.Trees.{Rules, Used, size}
use Rattle.gx_node.specs.Legal.{Legal}
use Rattle.gx_memory_tree.specs.declared.inserts.DescentPlace.{DescentPlace}
use Rattle.gx_tree.specs.declared.split.Split.{Split}
use Rattle.gx_memory_tree.specs.Inserting.{IsFullAt, SplitsOrNot}
use Rattle.gx_tree.specs.Splitting.{Splits, keys_in, least_of}
use Rattle.gx_node.specs.Store.{Store, node_at, tree_of}
use Rattle.gx_tree.proofs.Restarts.{restarts}

module _ {B : Type 0} (r : Rules B) (old : Store B) (place : DescentPlace) (at : IsFullAt r (tree_of old) place) (below : place.item.page ≢ 1) where
  -- what a split below the parent came to
  pub splits_below : (IsKey : B → Type 0) (sides_of : List B → ℕ → List Bool) (new : Store B) (did : Option (Split B))
      → Splits r sides_of old new place.item.page place.parent did → IfSome did (λ split. IsKey split.left × IsKey split.right)
      → SplitsOrNot r IsKey (tree_of old) (tree_of new) place
  splits_below IsKey sides_of new (Some did) splits keys = inl (record {
    sides = sides_of (keys_in (node_at old.nodes place.item.page)) (least_of r.most);
    left = did.left;
    right = did.right;
    split = inr splits.split;
    keys = keys;
  })
  splits_below IsKey sides_of new None splits keys = elim at.came [
    | inl top ↦ absurd (below top)
    | inr came ↦ inr (ap (λ s. tree_of s) splits.0, restarts r (tree_of old) place.parent place.item at.legal at.used below came.there splits.1)
  ]

  -- it isn't refused as damaged
  pub never_damaged_below : (tree_of old).used < 2 ^ 32
      → (Legal r (tree_of old) → Used (tree_of old) place.item.page → Used (tree_of old) place.parent → place.item.page ≢ place.parent
      → 0 < (node_at old.nodes place.parent).level → r.most ≤ size (node_at old.nodes place.item.page) → old.counter + 1 < 2 ^ 64 → ⊥) → ⊥
  never_damaged_below few fails = elim at.came [
    | inl top ↦ absurd (below top)
    | inr came ↦
        let counted = at.legal.counter in
        fails at.legal at.used came.there (λ same. came.apart (sym same)) came.inner at.full (omega (arith, counted, few))
  ]
