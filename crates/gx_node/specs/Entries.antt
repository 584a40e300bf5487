-- The entries of a node, and how each is written on a page.
use Rattle.std.specs.Prelude.{◌≡◌, ◌⊎◌, ℕ, ◌^◌, ◌<◌, ◌≤◌, Bool, if◌then◌else◌, List, [], ◌∷◌, ◌++◌, map}
use Rattle.std.specs.List.{All}
use Rattle.gx_page.specs.Bytes.{spell_32, spell_64}
use Rattle.gx_page.specs.Contents.{Contents}
use Rattle.gx_node.specs.Trees.{Pair, Child, Node}

-- the byte of a mark: 0 if the pair is live, 1 if it is marked as deleted
abbrev pub mark_byte : Bool → ℕ
mark_byte marked = if marked then 1 else 0

-- a leaf's entry: the key's bytes, the row in eight, and the mark
abbrev pub pair_bytes : {B : Type 0} → (B → List ℕ) → Pair B → List ℕ
pair_bytes spelling p = spelling p.key ++ (spell_64 p.row ++ mark_byte p.marked ∷ [])

-- an inner node's entry: the key's bytes, and the child's page in four
abbrev pub child_bytes : {B : Type 0} → (B → List ℕ) → Child B → List ℕ
child_bytes spelling c = spelling c.key ++ spell_32 c.page

-- a pair that can be written
pub record IsPair {B : Type 0} (IsKey : B → Type 0) (p : Pair B) : Type 0 where
  pub key : IsKey p.key
  pub row : p.row < 2 ^ 64

-- a child that can be written, where `used` is the greatest page in use
pub record IsChild {B : Type 0} (IsKey : B → Type 0) (used : ℕ) (c : Child B) : Type 0 where
  pub key : IsKey c.key
  pub some : 1 ≤ c.page
  pub taken : c.page ≤ used

-- a page of level 0 whose items are these pairs, written in their order
pub record HoldsPairs {B : Type 0} (IsKey : B → Type 0) (spelling : B → List ℕ) (page : Contents) (pairs : List (Pair B)) : Type 0 where
  pub leaf : page.level ≡ 0
  pub each : All (IsPair IsKey) pairs
  pub items : page.items ≡ map (pair_bytes spelling) pairs

-- a page of a level above whose items are these children
pub record HoldsChildren {B : Type 0} (IsKey : B → Type 0) (spelling : B → List ℕ) (used : ℕ) (page : Contents) (children : List (Child B)) : Type 0 where
  pub inner : 1 ≤ page.level
  pub each : All (IsChild IsKey used) children
  pub items : page.items ≡ map (child_bytes spelling) children

-- the page holds this node
pub record HoldsNode {B : Type 0} (IsKey : B → Type 0) (spelling : B → List ℕ) (used : ℕ) (page : Contents) (node : Node B) : Type 0 where
  pub level : node.level ≡ page.level
  pub nsn : node.nsn ≡ page.nsn
  pub right : node.right ≡ page.right
  pub entries : (HoldsPairs IsKey spelling page node.pairs × (node.children ≡ [])) ⊎ (HoldsChildren IsKey spelling used page node.children × (node.pairs ≡ []))
