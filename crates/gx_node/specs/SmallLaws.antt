-- What small changes leave, read as nodes.
use Rattle.std.specs.Prelude.{◌≡◌, ℕ, ◌^◌, ◌<◌, ◌≤◌, ◌==◌, ◌&&◌, Bool, true, false, not, nat_lt, List, [], ◌∷◌, ◌++◌, length, filter, Some, slice_get, slice_set, slice_index_or, map}
use Rattle.std.specs.List.{list_any}
use Rattle.gx_page.specs.Bytes.{AreBytes}
use Rattle.gx_page.specs.Contents.{Contents}
use Rattle.gx_page.specs.Edits.{with_items}
use Rattle.gx_page.specs.Format.{IsWellFormed}
use Rattle.gx_node.specs.Lists.{Each, staying}
use Rattle.gx_node.specs.Trees.{Pair, Child, Rules, is_entry}
use Rattle.gx_node.specs.declared.items.TheConstants.{MAX_ENTRIES}
use Rattle.gx_node.specs.Edits.{with_pairs, with_children, marked_as, bounded_by}
use Rattle.gx_node.specs.Reading.{Format, is_leaf, is_inner, is_node, leaf_of, inner_of}
use Rattle.gx_node.specs.Small.{mark_fits, mark_made, pair_fits, pair_made, bound_fits, bound_made, slots_fit, slots_made, sides_of}

-- bytes that spell this key
pub record Spells {B : Type 0} (f : Format B) (bytes : List ℕ) (key : B) : Type 0 where
  pub are : AreBytes bytes
  pub read : f.reading bytes ≡ Some key

-- with these items a page can still be written, and is still a node
pub record KeepsNodes {B : Type 0} (f : Format B) (page : Contents) (items : List (List ℕ)) : Type 0 where
  pub well_formed : IsWellFormed (with_items page items)
  pub node : (used : ℕ) → used < 2 ^ 32 → is_node f used page ≡ true → is_node f used (with_items page items) ≡ true

-- a small change that fits keeps its page one that can be written, and a node, whatever the bytes of its key
pub record ChangesKeepNodes {B : Type 0} (f : Format B) : Type 0 where
  pub mark : (row : ℕ) (bytes : List ℕ) (marked : Bool) (page : Contents) → IsWellFormed page → mark_fits f row bytes page ≡ true
      → KeepsNodes f page (mark_made f row bytes marked page.items)
  pub pair : (most row : ℕ) (bytes : List ℕ) (page : Contents) → most ≤ MAX_ENTRIES → row < 2 ^ 64 → AreBytes bytes → IsWellFormed page
      → pair_fits f most row bytes page ≡ true → KeepsNodes f page (pair_made row bytes page.items)
  pub bound : (slot : ℕ) (bytes : List ℕ) (page : Contents) → AreBytes bytes → IsWellFormed page → bound_fits f slot bytes page ≡ true
      → KeepsNodes f page (bound_made f slot bytes page.items)
  pub slots : (slots : List ℕ) (page : Contents) → IsWellFormed page → slots_fit f slots page ≡ true → KeepsNodes f page (slots_made slots page.items)

-- with these items a page that can be written is the leaf with these pairs
pub record MakesLeaf {B : Type 0} (f : Format B) (page : Contents) (items : List (List ℕ)) (pairs : List (Pair B)) : Type 0 where
  pub well_formed : IsWellFormed (with_items page items)
  pub leaf : is_leaf f (with_items page items) ≡ true
  pub node : leaf_of f (with_items page items) ≡ with_pairs (leaf_of f page) pairs

-- a live pair
abbrev pub live_pair : {B : Type 0} → ℕ → B → Pair B
live_pair row key = record { row = row; key = key; marked = false }

-- the first pair of the leaf that is the entry has this mark
pub record MarksFirst {B : Type 0} (f : Format B) (r : Rules B) (row : ℕ) (key : B) (marked : Bool) (page : Contents) (items : List (List ℕ)) : Type 0 where
  pub slot : ℕ
  pub pair : Pair B
  pub there : slice_get (leaf_of f page).pairs slot ≡ Some pair
  pub is : is_entry r row key pair ≡ true
  pub made : MakesLeaf f page items (slice_set (leaf_of f page).pairs slot (marked_as marked pair))

-- a mark fits the leaves that have the entry, and is set in one
pub record MarkMeans {B : Type 0} (f : Format B) (r : Rules B) (row : ℕ) (bytes : List ℕ) (key : B) (page : Contents) : Type 0 where
  pub fits : mark_fits f row bytes page ≡ (is_leaf f page && list_any (is_entry r row key) (leaf_of f page).pairs)
  pub made : (marked : Bool) → mark_fits f row bytes page ≡ true → MarksFirst f r row key marked page (mark_made f row bytes marked page.items)

abbrev pub MarksMean : {B : Type 0} → Format B → Rules B → Type 0
MarksMean {B} f r = (row : ℕ) (bytes : List ℕ) (key : B) (page : Contents) → Spells f bytes key → IsWellFormed page → MarkMeans f r row bytes key page

-- a pair fits the leaves that have room and don't have the entry, and is put after the last
pub record PairMeans {B : Type 0} (f : Format B) (r : Rules B) (most row : ℕ) (bytes : List ℕ) (key : B) (page : Contents) : Type 0 where
  pub fits : pair_fits f most row bytes page
      ≡ (is_leaf f page && (nat_lt (length (leaf_of f page).pairs) most && not (list_any (is_entry r row key) (leaf_of f page).pairs)))
  pub made : most ≤ MAX_ENTRIES → pair_fits f most row bytes page ≡ true
      → MakesLeaf f page (pair_made row bytes page.items) ((leaf_of f page).pairs ++ live_pair row key ∷ [])

abbrev pub PairsMean : {B : Type 0} → Format B → Rules B → Type 0
PairsMean {B} f r = (most row : ℕ) (bytes : List ℕ) (key : B) (page : Contents) → row < 2 ^ 64 → Spells f bytes key → IsWellFormed page
    → PairMeans f r most row bytes key page

-- with these items an inner node is the one with these children
pub record MakesInner {B : Type 0} (f : Format B) (used : ℕ) (page : Contents) (items : List (List ℕ)) (children : List (Child B)) : Type 0 where
  pub inner : is_inner f used (with_items page items) ≡ true
  pub node : inner_of f (with_items page items) ≡ with_children (inner_of f page) children

-- a bound fits the inner nodes that have the slot, and is set there
pub record BoundMeans {B : Type 0} (f : Format B) (slot : ℕ) (bytes : List ℕ) (key : B) (page : Contents) : Type 0 where
  pub well_formed : bound_fits f slot bytes page ≡ true → IsWellFormed (with_items page (bound_made f slot bytes page.items))
  pub fits : (used : ℕ) → is_inner f used page ≡ true → bound_fits f slot bytes page ≡ nat_lt slot (length (inner_of f page).children)
  pub made : (used : ℕ) (child : Child B) → used < 2 ^ 32 → is_inner f used page ≡ true → slice_get (inner_of f page).children slot ≡ Some child
      → MakesInner f used page (bound_made f slot bytes page.items) (slice_set (inner_of f page).children slot (bounded_by key child))

abbrev pub BoundsMean : {B : Type 0} → Format B → Type 0
BoundsMean {B} f = (slot : ℕ) (bytes : List ℕ) (key : B) (page : Contents) → Spells f bytes key → IsWellFormed page → BoundMeans f slot bytes key page

-- a slot of a marked pair
abbrev pub HasMarked : {B : Type 0} → List (Pair B) → ℕ → Type 0
HasMarked {B} pairs slot = (x : Pair B) × (slice_get pairs slot ≡ Some x) × (x.marked ≡ true)

-- slots fit the leaves in which each has a marked pair, and these go
pub record SlotsMean {B : Type 0} (f : Format B) (slots : List ℕ) (page : Contents) : Type 0 where
  pub told : slots_fit f slots page ≡ true → (is_leaf f page ≡ true) × Each (HasMarked (leaf_of f page).pairs) slots
  pub back : is_leaf f page ≡ true → Each (HasMarked (leaf_of f page).pairs) slots → slots_fit f slots page ≡ true
  pub made : IsWellFormed page → slots_fit f slots page ≡ true
      → MakesLeaf f page (slots_made slots page.items) (staying (sides_of (length (leaf_of f page).pairs) slots) (leaf_of f page).pairs)

abbrev pub RemovalsMean : {B : Type 0} → Format B → Type 0
RemovalsMean f = (slots : List ℕ) (page : Contents) → SlotsMean f slots page

-- these are the slots at which a test passes
abbrev pub AreSlotsOf : {X : Type 0} → (X → Bool) → List X → List ℕ → Type 0
AreSlotsOf test xs slots = (k : ℕ) → k < length xs → list_any (λ slot. slot == k) slots ≡ slice_index_or (map test xs) k false

-- if those go that pass a test, what stays is those that don't
abbrev pub RemovalsAreAFilter : Type 0 → Type 0
RemovalsAreAFilter X = (test : X → Bool) (xs : List X) (slots : List ℕ) → AreSlotsOf test xs slots
    → staying (sides_of (length xs) slots) xs ≡ filter (λ x. not (test x)) xs
