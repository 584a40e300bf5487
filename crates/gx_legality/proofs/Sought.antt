-- A pass along the chain, and what it says of pairs that are sought.
use Rattle.std.proofs.Common.{◌≡◌, ◌≢◌, ℕ, zero, suc, ◌+◌, ◌<◌, ◌≤◌, ◌==◌, Bool, true, false, ◌⊎◌, inl, inr, List, [], ◌∷◌, length, map, drop, Some, refl, ap, sym, ◌∙◌, subst, arith}
use Rattle.std.specs.Prelude.{slice_get, if◌then◌else◌}
use Rattle.std.specs.Ordering.{is_eq}
use Rattle.std.specs.declared.cmp.Ordering.{Ordering}
use Rattle.std.proofs.lemmas.Bool.{cases_eq, ne_eqb, eq-eqb}
use Rattle.gx_machine.specs.Keys.{entry_cmp}
use Rattle.gx_machine.specs.declared.entry.Entry.{Entry}
use Rattle.gx_node.specs.Edits.{entry_of}
use Rattle.gx_node.specs.Legal.{Legal, Linked}
use Rattle.gx_node.specs.Lists.{Each, SomeOf, how_many, one_if}
use Rattle.gx_node.specs.Trees.{Pair, Tree, Rules, Used, leaves, times, walk, passing, is_entry}
use Rattle.gx_node.proofs.Chains.{one_at, one_off, walk_is, length_walk}
use Rattle.gx_node.proofs.SeekSteps.{seek_at_leaf}
use Rattle.gx_legality.specs.declared.notes.NotedPair.{NotedPair}
use Rattle.gx_legality.specs.declared.notes.NoteStage.{NoteStage}
use Rattle.gx_legality.specs.declared.notes.NoteStage.TheVariants.{Ahead, Reached, Found}
use Rattle.gx_legality.specs.Placing.{IsPlaced, Moves, come_to, is_noted, meets, met, passed, stage_at}
use Rattle.gx_legality.proofs.Once.{count_pairs}
use Rattle.gx_legality.proofs.Slots.{each_slot, some_slot}
use Rattle.gx_legality.proofs.Walks.{walk_on, walk_none}

-- the pages from this one on
abbrev from : ℕ → List ℕ → List ℕ
from a [] = []
from a (q ∷ qs) = if q == a then (q ∷ qs) else from a qs

from_here : (a q : ℕ) (qs : List ℕ) → q ≡ a → from a (q ∷ qs) ≡ q ∷ qs
from_here a q qs is = ap (λ b. if b then (q ∷ qs) else from a qs) (eq-eqb q a is)

from_there : (a q : ℕ) (qs : List ℕ) → q ≢ a → from a (q ∷ qs) ≡ from a qs
from_there a q qs ne = ap (λ b. if b then (q ∷ qs) else from a qs) (ne_eqb q a ne)

module _ {E : Type 0} (is : E → Bool) where
  met_found : (xs : List E) → met is xs Found ≡ Found
  met_found [] = refl
  met_found (x ∷ xs) = met_found xs

  met_ahead : (xs : List E) → met is xs Ahead ≡ Ahead
  met_ahead [] = refl
  met_ahead (x ∷ xs) = met_ahead xs

  -- once the leaf is reached, the pair is found on the first page that has it
  met_reached : (xs : List E) → ((how_many is xs ≡ 0) × (met is xs Reached ≡ Reached)) ⊎ ((0 < how_many is xs) × (met is xs Reached ≡ Found))
  met_reached [] = inl (refl, refl)
  met_reached (x ∷ xs) = by_case (is x) refl (met_reached xs)
    where
      by_case : (b : Bool) → is x ≡ b → ((how_many is xs ≡ 0) × (met is xs Reached ≡ Reached)) ⊎ ((0 < how_many is xs) × (met is xs Reached ≡ Found))
          → ((how_many is (x ∷ xs) ≡ 0) × (met is (x ∷ xs) Reached ≡ Reached)) ⊎ ((0 < how_many is (x ∷ xs)) × (met is (x ∷ xs) Reached ≡ Found))
      by_case true at rest =
          let one = ap one_if at in
          inr (omega (arith, one), ap (λ b. met is xs (if b then Found else Reached)) at ∙ met_found xs)
      by_case false at (inl rest) =
          let none = ap one_if at in
          let zero = rest.0 in
          inl (omega (arith, none, zero), ap (λ b. met is xs (if b then Found else Reached)) at ∙ rest.1)
      by_case false at (inr rest) =
          let some = rest.0 in
          inr (omega (arith, some), ap (λ b. met is xs (if b then Found else Reached)) at ∙ rest.1)

  -- one entry more
  met_next : {X : Type 0} (f : X → E) (xs : List X) (k : ℕ) (x : X) (e : E) (s : NoteStage) → slice_get xs k ≡ Some x → f x ≡ e
      → met is (map f (drop k xs)) s ≡ met is (map f (drop (suc k) xs)) (meets (is e) s)
  met_next f [] k x e s at same = absurd (cc)
  met_next f (y ∷ ys) zero x e s at same = let one : f y ≡ e = cc in ap (λ e. met is (map f ys) (meets (is e) s)) one
  met_next f (y ∷ ys) (suc k) x e s at same = met_next f ys k x e s at same

  pub met_more : {X : Type 0} (f : X → E) (xs : List X) (k : ℕ) (x : X) (e : E) (s : NoteStage) → slice_get xs k ≡ Some x → f x ≡ e
      → met is (map f (drop k xs)) s ≡ met is (map f (drop (k + 1) xs)) (meets (is e) s)
  met_more f xs k x e s at same =
      let next : suc k ≡ k + 1 = omega arith in
      subst (λ n. met is (map f (drop k xs)) s ≡ met is (map f (drop n xs)) (meets (is e) s)) next (met_next f xs k x e s at same)

  pub met_all : {X : Type 0} (f : X → E) (xs : List X) (k : ℕ) (s : NoteStage) → length xs ≤ k → met is (map f (drop k xs)) s ≡ s
  met_all f [] zero s past = refl
  met_all f [] (suc k) s past = refl
  met_all f (x ∷ xs) zero s past = absurd (omega arith)
  met_all f (x ∷ xs) (suc k) s past = met_all f xs k s (omega arith)

module _ {B : Type 0} (t : Tree B) (is : Entry B → Bool) (a : ℕ) where
  abbrev found_on : List ℕ → ℕ
  found_on qs = passing (λ x. is (entry_of x)) t qs

  counted : (xs : List (Pair B)) → how_many is (map entry_of xs) ≡ how_many (λ x. is (entry_of x)) xs
  counted [] = refl
  counted (x ∷ xs) = ap (λ n. one_if (is (entry_of x)) + n) (counted xs)

  passed_found : (qs : List ℕ) → passed t is a qs Found ≡ Found
  passed_found [] = refl
  passed_found (q ∷ qs) = ap (passed t is a qs) (met_found is (map entry_of (t.node q).pairs)) ∙ passed_found qs

  passed_reached : (qs : List ℕ) → ((found_on qs ≡ 0) × (passed t is a qs Reached ≡ Reached)) ⊎ ((0 < found_on qs) × (passed t is a qs Reached ≡ Found))
  passed_reached [] = inl (refl, refl)
  passed_reached (q ∷ qs) = by_page (met_reached is (map entry_of (t.node q).pairs)) (passed_reached qs)
    where
      by_page : ((how_many is (map entry_of (t.node q).pairs) ≡ 0) × (met is (map entry_of (t.node q).pairs) Reached ≡ Reached))
          ⊎ ((0 < how_many is (map entry_of (t.node q).pairs)) × (met is (map entry_of (t.node q).pairs) Reached ≡ Found))
          → ((found_on qs ≡ 0) × (passed t is a qs Reached ≡ Reached)) ⊎ ((0 < found_on qs) × (passed t is a qs Reached ≡ Found))
          → ((found_on (q ∷ qs) ≡ 0) × (passed t is a (q ∷ qs) Reached ≡ Reached)) ⊎ ((0 < found_on (q ∷ qs)) × (passed t is a (q ∷ qs) Reached ≡ Found))
      by_page (inr here) rest =
          let some = here.0 in
          let same = counted (t.node q).pairs in
          inr (omega (arith, some, same), ap (passed t is a qs) here.1 ∙ passed_found qs)
      by_page (inl here) (inl rest) =
          let none = here.0 in
          let zero = rest.0 in
          let same = counted (t.node q).pairs in
          inl (omega (arith, none, zero, same), ap (passed t is a qs) here.1 ∙ rest.1)
      by_page (inl here) (inr rest) =
          let some = rest.0 in
          inr (omega (arith, some), ap (passed t is a qs) here.1 ∙ rest.1)

  -- a pass over the chain finds the pair exactly if the pages from the leaf on have it
  pub passed_ahead : (qs : List ℕ) → ((found_on (from a qs) ≡ 0) × (passed t is a qs Ahead ≢ Found)) ⊎ ((0 < found_on (from a qs)) × (passed t is a qs Ahead ≡ Found))
  passed_ahead [] = inl (refl, λ bad. (cc))
  passed_ahead (q ∷ qs) = elim (cases_eq q a) [
    | inl same ↦ by_page (passed_reached (q ∷ qs))
        (ap (λ b. passed t is a qs (met is (map entry_of (t.node q).pairs) (if b then Reached else Ahead))) (eq-eqb q a same)) (from_here a q qs same)
    | inr ne ↦ by_rest (passed_ahead qs)
        (ap (λ b. passed t is a qs (met is (map entry_of (t.node q).pairs) (if b then Reached else Ahead))) (ne_eqb q a ne)
        ∙ ap (passed t is a qs) (met_ahead is (map entry_of (t.node q).pairs))) (from_there a q qs ne)
  ]
    where
      by_page : ((found_on (q ∷ qs) ≡ 0) × (passed t is a (q ∷ qs) Reached ≡ Reached)) ⊎ ((0 < found_on (q ∷ qs)) × (passed t is a (q ∷ qs) Reached ≡ Found))
          → passed t is a (q ∷ qs) Ahead ≡ passed t is a (q ∷ qs) Reached → from a (q ∷ qs) ≡ q ∷ qs
          → ((found_on (from a (q ∷ qs)) ≡ 0) × (passed t is a (q ∷ qs) Ahead ≢ Found)) ⊎ ((0 < found_on (from a (q ∷ qs))) × (passed t is a (q ∷ qs) Ahead ≡ Found))
      by_page (inl none) first here = inl (ap found_on here ∙ none.0, λ found. (let bad : Reached ≡ Found = sym none.1 ∙ sym first ∙ found in cc))
      by_page (inr some) first here = inr (subst (λ ys. 0 < found_on ys) (sym here) some.0, first ∙ some.1)

      by_rest : ((found_on (from a qs) ≡ 0) × (passed t is a qs Ahead ≢ Found)) ⊎ ((0 < found_on (from a qs)) × (passed t is a qs Ahead ≡ Found))
          → passed t is a (q ∷ qs) Ahead ≡ passed t is a qs Ahead → from a (q ∷ qs) ≡ from a qs
          → ((found_on (from a (q ∷ qs)) ≡ 0) × (passed t is a (q ∷ qs) Ahead ≢ Found)) ⊎ ((0 < found_on (from a (q ∷ qs))) × (passed t is a (q ∷ qs) Ahead ≡ Found))
      by_rest (inl none) first here = inl (ap found_on here ∙ none.0, λ found. none.1 (sym first ∙ found))
      by_rest (inr some) first here = inr (subst (λ ys. 0 < found_on ys) (sym here) some.0, first ∙ some.1)

module _ {K : Type 0} (t : Tree K) where
  -- the pages from a leaf of a chain on are the chain from it
  linked_on : (a p : ℕ) (qs : List ℕ) → Linked t p qs → 0 < times a qs → Linked t a (from a qs) × (length (from a qs) ≤ length qs)
  linked_on a p [] linked some = absurd (omega arith)
  linked_on a p (q ∷ qs) linked some = elim (cases_eq q a) [
    | inl same ↦ subst (λ ys. Linked t a ys × (length ys ≤ length (q ∷ qs))) (sym (from_here a q qs same)) ((sym same, linked.1, linked.2, linked.3), omega arith)
    | inr ne ↦
        let none = one_off q a ne in
        let rest = linked_on a (t.node q).right qs linked.3 (omega (arith, none, some)) in
        subst (λ ys. Linked t a ys × (length ys ≤ length (q ∷ qs))) (sym (from_there a q qs ne)) (rest.0, (let le = rest.1 in omega (arith, le)))
  ]

  -- if there are none, it isn't on the chain
  from_some : {X : Type 0} (a : ℕ) (qs : List ℕ) → (from a qs ≡ [] → X) → (0 < times a qs → X) → X
  from_some a [] none some = none refl
  from_some a (q ∷ qs) none some = elim (cases_eq q a) [
    | inl same ↦ some (let one = one_at q a same in omega (arith, one))
    | inr ne ↦ from_some a qs (λ end. none (from_there a q qs ne ∙ end)) (λ more. some (omega (arith, more)))
  ]

  walk_from : (a : ℕ) → Linked t 2 (leaves t) → 0 < times a (leaves t) → Linked t a (walk t t.used a) × (walk t t.used a ≡ from a (leaves t))
  walk_from a linked some =
      let on = linked_on a 2 (leaves t) linked some in
      let few = length_walk t t.used 2 in
      let short = on.1 in
      let is = walk_is t (from a (leaves t)) a t.used on.0 (omega (arith, few, short)) in
      (subst (λ ys. Linked t a ys) (sym is) on.0, is)

module _ {B : Type 0} (order : B → B → Ordering) (overlap inside : B → B → Bool) (most : ℕ) (t : Tree B) where
  abbrev rules_here : Rules B
  rules_here = record { covers = λ a b. inside b a; same = λ a b. is_eq (order a b); most = most }

  abbrev order_here : Entry B → Entry B → Ordering
  order_here = entry_cmp (record { cmp = order; overlaps = overlap; within = inside })

  same_count : (n : NotedPair (Entry B)) (qs : List ℕ) → passing (λ x. is_noted order_here n (entry_of x)) t qs ≡ passing (is_entry rules_here n.entry.row n.entry.key) t qs
  same_count n [] = refl
  same_count n (q ∷ qs) =
      let here : how_many (is_noted order_here n) (map entry_of (t.node q).pairs) ≡ how_many (is_entry rules_here n.entry.row n.entry.key) (t.node q).pairs =
      count_pairs order overlap inside most n.entry (t.node q).pairs in
      let same = counted t (is_noted order_here n) n.leaf (t.node q).pairs in
      let rest = same_count n qs in
      omega (arith, here, same, rest)

  placed_by : (n : NotedPair (Entry B)) → Legal rules_here t
      → 0 < passing (λ x. is_noted order_here n (entry_of x)) t (from n.leaf (leaves t)) → IsPlaced rules_here t n
  placed_by n legal some = from_some t n.leaf (leaves t)
      (λ none. absurd (let zero = ap (λ ys. passing (λ x. is_noted order_here n (entry_of x)) t ys) none in omega (arith, zero, some)))
      (λ on. (
      let walk = walk_from t n.leaf legal.chain on in
      let same = same_count n (from n.leaf (leaves t)) in
      record {
        chain = walk.0;
        stands = subst (λ ys. 0 < passing (is_entry rules_here n.entry.row n.entry.key) t ys) (sym walk.1) (omega (arith, same, some));
      }
      ))

  placed_some : (n : NotedPair (Entry B)) → Legal rules_here t → IsPlaced rules_here t n
      → 0 < passing (λ x. is_noted order_here n (entry_of x)) t (from n.leaf (leaves t))
  placed_some n legal seek =
      let here = seek_at_leaf rules_here n.leaf n.entry.row n.entry.key t seek in
      let once = legal.once n.leaf here.0 here.1 in
      let walk = walk_from t n.leaf legal.chain (omega (arith, once)) in
      let same = same_count n (from n.leaf (leaves t)) in
      let stands = subst (λ ys. 0 < passing (is_entry rules_here n.entry.row n.entry.key) t ys) walk.1 seek.stands in
      omega (arith, same, stands)

  -- if the pass has come to a note's pair it is placed, and if it hasn't it isn't
  pub found_placed : (n : NotedPair (Entry B)) → Legal rules_here t → passed t (is_noted order_here n) n.leaf (leaves t) Ahead ≡ Found → IsPlaced rules_here t n
  found_placed n legal found = elim (passed_ahead t (is_noted order_here n) n.leaf (leaves t)) [
    | inl none ↦ absurd (none.1 found)
    | inr some ↦ placed_by n legal some.0
  ]

  pub missed_placed : (n : NotedPair (Entry B)) → Legal rules_here t → passed t (is_noted order_here n) n.leaf (leaves t) Ahead ≢ Found → ¬ IsPlaced rules_here t n
  missed_placed n legal missed = elim (passed_ahead t (is_noted order_here n) n.leaf (leaves t)) [
    | inl none ↦ λ placed. (let zero = none.0 in let some = placed_some n legal placed in omega (arith, zero, some))
    | inr some ↦ absurd (missed some.1)
  ]

  pub all_placed : (notes : List (NotedPair (Entry B))) (stages done : List NoteStage) → Legal rules_here t → ((i : ℕ) → stage_at stages i ≡ Ahead)
      → Moves (λ n s. passed t (is_noted order_here n) n.leaf (leaves t) s) notes stages done
      → ((i : ℕ) (n : NotedPair (Entry B)) → slice_get notes i ≡ Some n → stage_at done i ≡ Found) → Each (IsPlaced rules_here t) notes
  all_placed notes stages done legal begun moves found =
      each_slot (IsPlaced rules_here t) notes (λ i n here. found_placed n legal
      (ap (passed t (is_noted order_here n) n.leaf (leaves t)) (sym (begun i)) ∙ sym (moves i n here) ∙ found i n here))

  pub one_missed : (notes : List (NotedPair (Entry B))) (stages done : List NoteStage) (leaf : ℕ) → Legal rules_here t → ((i : ℕ) → stage_at stages i ≡ Ahead)
      → Moves (λ n s. passed t (is_noted order_here n) n.leaf (leaves t) s) notes stages done
      → ((i : ℕ) × (n : NotedPair (Entry B)) × (slice_get notes i ≡ Some n) × (n.leaf ≡ leaf) × (stage_at done i ≢ Found))
      → SomeOf (λ n. (n.leaf ≡ leaf) × (¬ IsPlaced rules_here t n)) notes
  one_missed notes stages done leaf legal begun moves missed =
      let i = missed.0 in
      let n = missed.1 in
      some_slot (λ n. (n.leaf ≡ leaf) × (¬ IsPlaced rules_here t n)) notes i n (
        missed.3,
        missed_placed n legal (λ found. missed.4
            (moves i n missed.2 ∙ ap (passed t (is_noted order_here n) n.leaf (leaves t)) (begun i) ∙ found)),
      ) missed.2

module _ {B : Type 0} (t : Tree B) where
  -- the next page of the chain
  pub passed_page : (is : Entry B → Bool) (a long left page : ℕ) (s : NoteStage) → long ≡ suc left → page ≢ 0
      → passed t is a (walk t long page) s ≡ passed t is a (walk t left (t.node page).right) (met is (map entry_of (t.node page).pairs) (come_to page a s))
  passed_page is a long left page s on some =
      ap (λ qs. passed t is a qs s) (ap (λ n. walk t n page) on ∙ walk_on t left page some)

  pub passed_end : (is : Entry B → Bool) (a left page : ℕ) (s : NoteStage) → page ≡ 0 → passed t is a (walk t left page) s ≡ s
  passed_end is a left page s end = ap (λ qs. passed t is a qs s) (ap (λ p. walk t left p) end ∙ walk_none t left)

  pub passed_done : (is : Entry B → Bool) (a left page : ℕ) (s : NoteStage) → left ≡ 0 → passed t is a (walk t left page) s ≡ s
  passed_done is a left page s none = ap (λ n. passed t is a (walk t n page) s) none

  pub chain_on : (long left page : ℕ) → long ≡ suc left → page ≢ 0 → Linked t page (walk t long page)
      → Used t page × Linked t (t.node page).right (walk t left (t.node page).right)
  chain_on long left page on some linked =
      let here = subst (λ qs. Linked t page qs) (ap (λ n. walk t n page) on ∙ walk_on t left page some) linked in
      (here.1, here.3)
