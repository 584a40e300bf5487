-- What the reading of pages has to do with what is written on them.
use Rattle.std.specs.Prelude.{◌≡◌, ℕ, ◌<◌, ◌≤◌, ◌^◌, Bool, true, List, Some, map, slice_get, slice_set}
use Rattle.gx_page.specs.Contents.{Contents}
use Rattle.gx_page.specs.Edits.{blank}
use Rattle.gx_page.specs.Format.{IsWellFormed}
use Rattle.gx_node.specs.Lists.{how_many}
use Rattle.gx_node.specs.Trees.{Pair, Child, Rules, times, is_entry}
use Rattle.gx_node.specs.Steps.{node_with, with_key, with_mark}
use Rattle.gx_node.specs.Edits.{marked_as, bounded_by}
use Rattle.gx_node.specs.Entries.{HoldsPairs, HoldsChildren}
use Rattle.gx_node.specs.Reading.{Format, is_leaf, is_inner, leaf_of, inner_of}

-- what is read of a leaf is on it
abbrev pub LeavesHold : {B : Type 0} → (B → Type 0) → (B → List ℕ) → Format B → Type 0
LeavesHold IsKey spelling f = (page : Contents) → IsWellFormed page → is_leaf f page ≡ true → HoldsPairs IsKey spelling page (leaf_of f page).pairs

-- a page with pairs is a leaf, and they are what is read of it
abbrev pub HeldPairsAreRead : {B : Type 0} → (B → Type 0) → (B → List ℕ) → Format B → Type 0
HeldPairsAreRead {B} IsKey spelling f = (page : Contents) (pairs : List (Pair B)) → HoldsPairs IsKey spelling page pairs
    → (is_leaf f page ≡ true) × ((leaf_of f page).pairs ≡ pairs)

abbrev pub InnersHold : {B : Type 0} → (B → Type 0) → (B → List ℕ) → Format B → Type 0
InnersHold IsKey spelling f = (page : Contents) (used : ℕ) → IsWellFormed page → is_inner f used page ≡ true → HoldsChildren IsKey spelling used page (inner_of f page).children

abbrev pub HeldChildrenAreRead : {B : Type 0} → (B → Type 0) → (B → List ℕ) → Format B → Type 0
HeldChildrenAreRead {B} IsKey spelling f = (page : Contents) (used : ℕ) (children : List (Child B)) → used < 2 ^ 32 → HoldsChildren IsKey spelling used page children
    → (is_inner f used page ≡ true) × ((inner_of f page).children ≡ children)

-- ---- edits

-- a blank page is an empty node
abbrev pub BlanksAreNodes : {B : Type 0} → Format B → Type 0
BlanksAreNodes f = ((number : ℕ) → is_leaf f (blank 0 number) ≡ true) × ((level number used : ℕ) → 1 ≤ level → is_inner f used (blank level number) ≡ true)

-- the page with this sequence number, rightlink and number
abbrev pub relinked : Contents → (nsn right number : ℕ) → Contents
relinked page nsn right number = record page { nsn = nsn; right = right; number = number }

-- it is the same node except for these two
pub record FollowsLinks {B : Type 0} (f : Format B) (page : Contents) (nsn right number used : ℕ) : Type 0 where
  pub leaf : is_leaf f (relinked page nsn right number) ≡ is_leaf f page
  pub leaf_node : leaf_of f (relinked page nsn right number) ≡ node_with (leaf_of f page) nsn right (leaf_of f page).pairs (leaf_of f page).children
  pub inner : is_inner f used (relinked page nsn right number) ≡ is_inner f used page
  pub inner_node : inner_of f (relinked page nsn right number) ≡ node_with (inner_of f page) nsn right (inner_of f page).pairs (inner_of f page).children

abbrev pub NodesFollowLinks : {B : Type 0} → Format B → Type 0
NodesFollowLinks f = (page : Contents) (nsn right number used : ℕ) → FollowsLinks f page nsn right number used

-- an inner node is one if more pages are taken
abbrev pub MoreAreTaken : {B : Type 0} → Format B → Type 0
MoreAreTaken f = (page : Contents) (used more : ℕ) → used ≤ more → is_inner f used page ≡ true → is_inner f more page ≡ true

-- a mark set at the slot of the one pair of a row and key is set at each such pair
abbrev pub OneMark : Type 0 → Type 0
OneMark B = (r : Rules B) (row : ℕ) (key : B) (mark : Bool) (pairs : List (Pair B)) (slot : ℕ) (pair : Pair B)
    → how_many (is_entry r row key) pairs ≤ 1 → slice_get pairs slot ≡ Some pair → is_entry r row key pair ≡ true
    → slice_set pairs slot (marked_as mark pair) ≡ with_mark r row key mark pairs

-- a bound set at the slot of the one child on a page is set at each such child
abbrev pub OneBound : Type 0 → Type 0
OneBound B = (n : ℕ) (key : B) (children : List (Child B)) (slot : ℕ) (child : Child B)
    → times n (map (λ c. c.page) children) ≤ 1 → slice_get children slot ≡ Some child → child.page ≡ n
    → slice_set children slot (bounded_by key child) ≡ with_key n key children
