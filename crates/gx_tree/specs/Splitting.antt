-- How a node is split.
use Rattle.std.specs.Prelude.{◌≡◌, ℕ, suc, ◌<◌, ◌≤◌, ◌+◌, ◌*◌, ◌/◌, ◌^◌, ◌⊎◌, max, Bool, true, false, List, [], ◌∷◌, ◌++◌, length, map, slice_get, Option, Some, None}
use Rattle.gx_node.specs.Edits.{with_children}
use Rattle.gx_node.specs.declared.items.TheConstants.{MAX_ENTRIES}
use Rattle.gx_node.specs.Lists.{Each, staying, going}
use Rattle.gx_node.specs.Trees.{Child, Node, Tree, Rules, size, times, child_pages}
use Rattle.gx_node.specs.Steps.{IsUnion, IsSplit, IsRootSplit, node_with, with_key}
use Rattle.gx_node.specs.Writes.{has_place}
use Rattle.gx_tree.specs.Halved.{Halved}
use Rattle.gx_node.specs.Store.{Store, node_at, tree_of, with_node, with_page, with_split}
use Rattle.gx_tree.specs.declared.split.Split.{Split}
use Rattle.gx_tree.specs.declared.split_root.RootSplit.{RootSplit}

-- the keys of a node's entries
abbrev pub keys_in : {B : Type 0} → Node B → List B
keys_in node = map (λ x. x.key) node.pairs ++ map (λ c. c.key) node.children

-- how many entries a split leaves on each side at least, where a node has at most so many
abbrev pub least_of : ℕ → ℕ
least_of most = max 2 (2 * most / 5)

-- the node with the entries that stay, and with those that go
abbrev pub left_of : {B : Type 0} → List Bool → Node B → Node B
left_of sides node = node_with node node.nsn node.right (staying sides node.pairs) (staying sides node.children)

abbrev pub right_of : {B : Type 0} → List Bool → Node B → Node B
right_of sides node = node_with node node.nsn node.right (going sides node.pairs) (going sides node.children)

-- the class's split of a node's keys, and the union of each side, of which none is empty
pub record AreHalves {B : Type 0} (r : Rules B) (sides_of : List B → ℕ → List Bool) (node : Node B) (sides : List Bool) (left right : B) : Type 0 where
  pub split : sides ≡ sides_of (keys_in node) (least_of r.most)
  pub as_many : length sides ≡ size node
  pub left_some : 0 < size (left_of sides node)
  pub right_some : 0 < size (right_of sides node)
  pub left_union : IsUnion r left (left_of sides node)
  pub right_union : IsUnion r right (right_of sides node)

-- this slot's child is the only one on that page
pub record NamesOnce {B : Type 0} (children : List (Child B)) (named slot : ℕ) : Type 0 where
  pub child : Child B
  pub at : slice_get children slot ≡ Some child
  pub page : child.page ≡ named
  pub once : times named (map (λ c. c.page) children) ≡ 1

-- what a node's parent is once the node has this bound, and the new sibling that one
abbrev pub parent_of : {B : Type 0} → Node B → ℕ → B → ℕ → B → Node B
parent_of node page left sibling right = with_children node (with_key page left node.children ++ record { key = right; page = sibling } ∷ [])

-- the pages once a node is split by sides
abbrev pub split_store : {B : Type 0} → Store B → ℕ → ℕ → List Bool → B → B → Store B
split_store s page parent sides left right =
    with_split (with_node (with_node (with_page s (right_of sides (node_at s.nodes page)))
    page (node_with (node_at s.nodes page) (suc s.counter) (suc (length s.nodes)) (staying sides (node_at s.nodes page).pairs) (staying sides (node_at s.nodes page).children)))
    parent (parent_of (node_at s.nodes parent) page left (suc (length s.nodes)) right))

-- a split that can be made
pub record CanSplit {B : Type 0} (r : Rules B) (sides_of : List B → ℕ → List Bool) (s : Store B) (page parent slot : ℕ) (sides : List Bool) (left right : B) : Type 0 where
  pub inner : 0 < (node_at s.nodes parent).level
  pub names : NamesOnce (node_at s.nodes parent).children page slot
  pub few : size (node_at s.nodes parent) < r.most
  pub fits : length sides ≤ MAX_ENTRIES
  pub halves : AreHalves r sides_of (node_at s.nodes page) sides left right
  pub room : length s.nodes < s.room
  pub counter : s.counter + 1 < 2 ^ 64

-- the parent has no place for a split of this page, or names the page more than once
abbrev pub HasNoPlace : {B : Type 0} → Rules B → Tree B → ℕ → ℕ → Type 0
HasNoPlace r t page parent = (has_place r t parent page ≡ false) ⊎ (1 < times page (child_pages (t.node parent)))

-- what a split did
pub record DidSplit {B : Type 0} (r : Rules B) (sides_of : List B → ℕ → List Bool) (old new : Store B) (page parent : ℕ) (did : Split B) : Type 0 where
  pub split : IsSplit r (tree_of old) (tree_of new) page parent (sides_of (keys_in (node_at old.nodes page)) (least_of r.most)) did.left did.right
  pub sibling : did.sibling ≡ suc (length old.nodes)
  pub slot : NamesOnce (node_at old.nodes parent).children page did.slot
  pub room : new.room ≡ old.room

-- a node is split below its parent; or the parent has no place for that, and nothing has changed
abbrev pub Splits : {B : Type 0} → Rules B → (List B → ℕ → List Bool) → Store B → Store B → ℕ → ℕ → Option (Split B) → Type 0
Splits r sides_of old new page parent None = (new ≡ old) × HasNoPlace r (tree_of old) page parent
Splits r sides_of old new page parent (Some did) = DidSplit r sides_of old new page parent did

-- whether a node was split below its parent
abbrev pub has_split : {B : Type 0} → Option (Split B) → Bool
has_split None = false
has_split (Some did) = true

-- a split of the root that can be made
pub record CanSplitRoot {B : Type 0} (r : Rules B) (sides_of : List B → ℕ → List Bool) (s : Store B) (sides : List Bool) (left right : B) : Type 0 where
  pub inner : 0 < (node_at s.nodes 1).level
  pub rises : (node_at s.nodes 1).level + 1 < 2 ^ 16
  pub no_pairs : (node_at s.nodes 1).pairs ≡ []
  pub fits : length sides ≤ MAX_ENTRIES
  pub halves : AreHalves r sides_of (node_at s.nodes 1) sides left right
  pub room : length s.nodes + 2 ≤ s.room

-- what a split of the root did
pub record DidSplitRoot {B : Type 0} (r : Rules B) (sides_of : List B → ℕ → List Bool) (old new : Store B) (did : RootSplit B) : Type 0 where
  pub split : IsRootSplit r (tree_of old) (tree_of new) (sides_of (keys_in (node_at old.nodes 1)) (least_of r.most)) did.left did.right
  pub first : did.first ≡ suc (length old.nodes)
  pub second : did.second ≡ suc (suc (length old.nodes))
  pub room : new.room ≡ old.room

-- ---- on the way to halves

-- the keys of a side
abbrev pub on_side : {B : Type 0} → Bool → List Bool → List B → List B
on_side false sides keys = staying sides keys
on_side true sides keys = going sides keys

-- the union of some keys: each lies in it, and it lies in whatever each lies in
pub record Unites {B : Type 0} (inside : B → B → Bool) (union : B) (keys : List B) : Type 0 where
  pub some : 0 < length keys
  pub covers : Each (λ k. inside k union ≡ true) keys
  pub least : (b : B) → Each (λ k. inside k b ≡ true) keys → inside union b ≡ true

-- the union of keys, if there are any
abbrev pub UnitesAny : {B : Type 0} → (B → B → Bool) → Option B → List B → Type 0
UnitesAny inside None keys = keys ≡ []
UnitesAny inside (Some union) keys = Unites inside union keys

-- the keys split by these sides
pub record HalvesKeys {B : Type 0} (inside : B → B → Bool) (sides : List Bool) (keys : List B) (halves : Halved B) : Type 0 where
  pub split : halves.sides ≡ sides
  pub as_many : length halves.sides ≡ length keys
  pub left : Unites inside halves.left (staying halves.sides keys)
  pub right : Unites inside halves.right (going halves.sides keys)
