-- A page read as a node: what each item says, and whether it is an entry.
use Rattle.std.specs.Prelude.{◌≡◌, ℕ, ◌+◌, ◌==◌, nat_lt, nat_le, Bool, true, not, ◌&&◌, if◌then◌else◌, List, [], length, map, take, slice_index, Option, is_some, unwrap_or}
use Rattle.std.specs.List.{list_all, All}
use Rattle.gx_class.specs.declared.class.KeyClass.{Ghosts}
use Rattle.gx_page.specs.Bytes.{number_32_at, number_64_at}
use Rattle.gx_page.specs.Contents.{Contents}
use Rattle.gx_node.specs.Trees.{Pair, Child, Node}

-- what the reading of entries knows of a class: how many bytes a key is written in, which key bytes spell, and a key
-- for bytes that spell none
pub record Format (B : Type 0) : Type 0 where
  pub key : ℕ
  pub reading : List ℕ → Option B
  pub start : B

abbrev pub format : {B : Type 0} → ℕ → (List ℕ → Option B) → B → Format B
format key reading start = record { key = key; reading = reading; start = start }

-- a class's format, from what its trait says of its keys
abbrev pub format_of : {Class Key : Type 0} → Ghosts Class Key → Format Key
format_of class = format class.KEY class.reading class.start_key

-- how many bytes a leaf's entry has, and an inner node's
abbrev pub leaf_size : {B : Type 0} → Format B → ℕ
leaf_size f = f.key + 9

abbrev pub inner_size : {B : Type 0} → Format B → ℕ
inner_size f = f.key + 4

-- an item's first bytes spell a key
abbrev pub has_key : {B : Type 0} → Format B → List ℕ → Bool
has_key f item = is_some (f.reading (take f.key item))

-- the key that an item's first bytes spell
abbrev pub key_of : {B : Type 0} → Format B → List ℕ → B
key_of f item = unwrap_or (f.reading (take f.key item)) f.start

-- the item is a leaf's entry
abbrev pub is_pair : {B : Type 0} → Format B → List ℕ → Bool
is_pair f item = (length item == leaf_size f) && (has_key f item && nat_lt (slice_index item (f.key + 8)) 2)

abbrev pub pair_of : {B : Type 0} → Format B → List ℕ → Pair B
pair_of f item = record { row = number_64_at item f.key; key = key_of f item; marked = slice_index item (f.key + 8) == 1 }

-- the item is an inner node's entry, where `used` is the greatest page in use
abbrev pub is_child : {B : Type 0} → Format B → ℕ → List ℕ → Bool
is_child f used item = (length item == inner_size f) && (has_key f item && (nat_le 1 (number_32_at item f.key) && nat_le (number_32_at item f.key) used))

abbrev pub child_of : {B : Type 0} → Format B → List ℕ → Child B
child_of f item = record { key = key_of f item; page = number_32_at item f.key }

-- each item is an entry of its kind
unfoldable pub are_pairs : {B : Type 0} → Format B → List (List ℕ) → Bool
are_pairs f items = list_all (is_pair f) items

unfoldable pub are_children : {B : Type 0} → Format B → ℕ → List (List ℕ) → Bool
are_children f used items = list_all (is_child f used) items

-- the page is a leaf
abbrev pub is_leaf : {B : Type 0} → Format B → Contents → Bool
is_leaf f page = (page.level == 0) && are_pairs f page.items

-- the page is an inner node
abbrev pub is_inner : {B : Type 0} → Format B → ℕ → Contents → Bool
is_inner f used page = not (page.level == 0) && are_children f used page.items

-- the page is a node
abbrev pub is_node : {B : Type 0} → Format B → ℕ → Contents → Bool
is_node f used page = if page.level == 0 then are_pairs f page.items else are_children f used page.items

-- the node of a page that is a leaf
abbrev pub leaf_of : {B : Type 0} → Format B → Contents → Node B
leaf_of f page = record { level = page.level; nsn = page.nsn; right = page.right; pairs = map (pair_of f) page.items; children = [] }

-- the node of a page that is an inner node
abbrev pub inner_of : {B : Type 0} → Format B → Contents → Node B
inner_of f page = record { level = page.level; nsn = page.nsn; right = page.right; pairs = []; children = map (child_of f) page.items }

-- ---- what the readings of a node's slots rest on

-- an item of this length that begins with a key
pub record IsKeyed {B : Type 0} (f : Format B) (size : ℕ) (item : List ℕ) : Type 0 where
  pub long : length item ≡ size
  pub key : has_key f item ≡ true

abbrev pub AreKeyed : {B : Type 0} → Format B → ℕ → List (List ℕ) → Type 0
AreKeyed f size items = All (IsKeyed f size) items
