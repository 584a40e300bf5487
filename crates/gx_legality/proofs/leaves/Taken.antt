-- The pairs of pages, taken one after another.
use Rattle.std.proofs.Common.{◌≡◌, ◌≢◌, ℕ, zero, suc, ◌+◌, ◌≤◌, List, [], ◌∷◌, ◌++◌, length, map, drop, Some, None, refl, ap, ◌∙◌, subst, arith}
use Rattle.std.specs.Prelude.{slice_get}
use Rattle.std.specs.declared.cmp.Ordering.{Ordering}
use Rattle.gx_machine.specs.declared.entry.Entry.{Entry}
use Rattle.gx_node.specs.Edits.{entry_of}
use Rattle.gx_node.specs.Legal.{Linked}
use Rattle.gx_node.specs.Trees.{Tree, Used, walk}
use Rattle.gx_legality.specs.Entries.{entries_on}
use Rattle.gx_legality.specs.Gathered.{Gathered, Gathers}
use Rattle.gx_legality.proofs.Walks.{walk_on, walk_none}

drop_at : {X : Type 0} (xs : List X) (k : ℕ) (x : X) → slice_get xs k ≡ Some x → drop k xs ≡ x ∷ drop (suc k) xs
drop_at [] k x at = absurd (cc)
drop_at (y ∷ ys) zero x at = let same : y ≡ x = cc in ap (λ z. z ∷ ys) same
drop_at (y ∷ ys) (suc k) x at = drop_at ys k x at

drop_past : {X : Type 0} (xs : List X) (k : ℕ) → length xs ≤ k → drop k xs ≡ []
drop_past [] zero past = refl
drop_past [] (suc k) past = refl
drop_past (x ∷ xs) zero past = absurd (omega arith)
drop_past (x ∷ xs) (suc k) past = drop_past xs k (omega arith)

pub none_past : {X : Type 0} (xs : List X) (k : ℕ) → slice_get xs k ≡ None → length xs ≤ k
none_past [] k none = omega arith
none_past (x ∷ xs) zero none = absurd (cc)
none_past (x ∷ xs) (suc k) none = let rest = none_past xs k none in omega (arith, rest)

module _ {X E : Type 0} (cmp : E → E → Ordering) (f : X → E) where
  pub page_goes : (g : Gathered E) (all rest : List E) (xs : List X) (k : ℕ) (x : X) (e : E) → slice_get xs k ≡ Some x → f x ≡ e
      → Gathers cmp g all (map f (drop k xs) ++ rest) → Gathers cmp g all (e ∷ (map f (drop (k + 1) xs) ++ rest))
  page_goes g all rest xs k x e at is was =
      let next : suc k ≡ k + 1 = omega arith in
      let here : map f (drop k xs) ++ rest ≡ e ∷ (map f (drop (suc k) xs) ++ rest) =
      ap (λ ys. map f ys ++ rest) (drop_at xs k x at) ∙ ap (λ y. y ∷ (map f (drop (suc k) xs) ++ rest)) is in
      subst (λ n. Gathers cmp g all (e ∷ (map f (drop n xs) ++ rest))) next (subst (λ ys. Gathers cmp g all ys) here was)

  pub page_ends : (g : Gathered E) (all rest : List E) (xs : List X) (k : ℕ) → length xs ≤ k
      → Gathers cmp g all (map f (drop k xs) ++ rest) → Gathers cmp g all rest
  page_ends g all rest xs k past was = subst (λ ys. Gathers cmp g all (map f ys ++ rest)) (drop_past xs k past) was

module _ {B : Type 0} (cmp : Entry B → Entry B → Ordering) where
  -- the next page of the chain, with its entries and what comes then
  pub chain_goes : (t : Tree B) (g : Gathered (Entry B)) (all : List (Entry B)) (long left page : ℕ) → long ≡ suc left → page ≢ 0
      → Linked t page (walk t long page) → Gathers cmp g all (entries_on t (walk t long page))
      → Used t page × Linked t (t.node page).right (walk t left (t.node page).right)
      × Gathers cmp g all (map entry_of (t.node page).pairs ++ entries_on t (walk t left (t.node page).right))
  chain_goes t g all long left page is some linked was =
      let here : walk t long page ≡ page ∷ walk t left (t.node page).right = ap (λ n. walk t n page) is ∙ walk_on t left page some in
      let link = subst (λ qs. Linked t page qs) here linked in
      (link.1, link.3, subst (λ qs. Gathers cmp g all (entries_on t qs)) here was)

  pub chain_ends : (t : Tree B) (g : Gathered (Entry B)) (all : List (Entry B)) (left page : ℕ) → page ≡ 0
      → Gathers cmp g all (entries_on t (walk t left page)) → Gathers cmp g all []
  chain_ends t g all left page end was =
      subst (λ qs. Gathers cmp g all (entries_on t qs)) (ap (λ p. walk t left p) end ∙ walk_none t left) was

  pub chain_is_done : (t : Tree B) (g : Gathered (Entry B)) (all : List (Entry B)) (left page : ℕ) → left ≡ 0
      → Gathers cmp g all (entries_on t (walk t left page)) → Gathers cmp g all []
  chain_is_done t g all left page none was = subst (λ n. Gathers cmp g all (entries_on t (walk t n page))) none was
