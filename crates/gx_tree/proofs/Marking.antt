-- A pair that is appended or marked, as a step of the tree.
use Rattle.std.proofs.Common.{◌≡◌, ℕ, zero, suc, ◌<◌, ◌≤◌, Bool, true, List, [], ◌∷◌, length, inl, inr, sym, ap, ◌∙◌, subst, arith, Some}
use Rattle.std.specs.Prelude.{slice_get}
use Rattle.std.proofs.lemmas.Bool.{cases_eq}
use Rattle.gx_machine.specs.declared.entry.Entry.{Entry}
use Rattle.gx_node.proofs.OneChanged.{mark_once}
use Rattle.gx_node.specs.Legal.{Legal}
use Rattle.gx_node.specs.Lists.{Each, sum_over, how_many}
use Rattle.gx_node.specs.Steps.{ChangesOnly, EntriesCover, IsAdding, IsMarking}
use Rattle.gx_node.specs.Trees.{Pair, Tree, Rules, Used, times, leaves, standing, is_entry}
use Rattle.gx_node.proofs.Chains.{one_off}
use Rattle.gx_node.specs.Store.{Store, tree_of, node_at}
use Rattle.gx_tree.specs.Writing.{Appends, SetsMark, live}
use Rattle.gx_tree.specs.declared.seek.Sought.TheVariants.{Here}

-- what holds of each element holds of a slot's
each_slot : {X : Type 0} (P : X → Type 0) (xs : List X) (slot : ℕ) (x : X) → slice_get xs slot ≡ Some x → Each P xs → P x
each_slot P [] slot x at e = cc
each_slot P (y ∷ ys) zero x at e = let same : y ≡ x = cc in subst P same e.0
each_slot P (y ∷ ys) (suc slot) x at e = each_slot P ys slot x at e.1

-- a sum is no less than what an element of the list brings
part_of_sum : (f : ℕ → ℕ) (a : ℕ) (xs : List ℕ) → 0 < times a xs → f a ≤ sum_over f xs
part_of_sum f a [] some = absurd (omega (arith, some))
part_of_sum f a (x ∷ xs) some = elim (cases_eq x a) [
  | inl same ↦ let here = ap f same in omega (arith, here)
  | inr other ↦
      let none = one_off x a other in
      let rest = part_of_sum f a xs (omega (arith, some, none)) in
      omega (arith, rest)
]

module _ {K : Type 0} (r : Rules K) where
  -- a leaf of a legal tree has a row and key once at most
  once_in : (t : Tree K) → Legal r t → (a row : ℕ) (key : K) → Used t a → (t.node a).level ≡ 0 → how_many (is_entry r row key) (t.node a).pairs ≤ 1
  once_in t legal a row key used leaf =
      let one = legal.once a used leaf in
      let part = part_of_sum (λ q. how_many (is_entry r row key) (t.node q).pairs) a (leaves t) (omega (arith, one)) in
      let most = legal.single row key in
      omega (arith, part, most)

  pub adding : (old new : Tree K) → Legal r old → (a : ℕ) (entry : Entry K) → Appends r.most old new a entry
      → standing (is_entry r entry.row entry.key) old ≡ 0 → EntriesCover r old a entry.key → IsAdding r old new a (live entry)
  adding old new legal a entry appends absent covered =
      let none = ap (λ cs. length cs) ((legal.pages a appends.changes.there).leaf appends.leaf) in
      let room = appends.room in
      record { leaf = appends.leaf; room = omega (arith, none, room); changes = appends.changes; absent = absent; covered = covered }

  pub marking : (old new : Store K) → Legal r (tree_of old) → (a row : ℕ) (key : K) (wants : Pair K → Bool)
      → Each (λ x. wants x ≡ is_entry r row key x) ((tree_of old).node a).pairs
      → (slot : ℕ) (before marked : Bool) → SetsMark wants old new a marked (Here slot before)
      → IsMarking r (tree_of old) (tree_of new) a row key marked
  marking old new legal a row key wants exact slot before marked sets =
      let pairs = (node_at old.nodes a).pairs in
      let leaf = sets.0.0 in
      let x = sets.0.1.0 in
      let at = sets.0.1.1 in
      let only = sets.1 x at in
      let is : is_entry r row key x ≡ true = sym (each_slot (λ (y : Pair K). wants y ≡ is_entry r row key y) pairs slot x at exact) ∙ sets.0.1.2 in
      let few = once_in (tree_of old) legal a row key only.there leaf in
      record {
        leaf = leaf;
        changes = subst (λ (ps : List (Pair K)). ChangesOnly (tree_of old) (tree_of new) a ps (node_at old.nodes a).children)
            (mark_once r row key marked pairs slot x few at is) only;
      }
