-- Pages as a tree's nodes.
use Rattle.std.specs.Prelude.{◌≡◌, ℕ, zero, suc, ◌==◌, if◌then◌else◌, Bool, true, ◌&&◌, List, [], ◌∷◌, ◌++◌, length, slice_index_or, ◌-◌, slice_set}
use Rattle.gx_page.specs.Contents.{Contents}
use Rattle.gx_node.specs.Reading.{Format, leaf_of, inner_of}
use Rattle.gx_node.specs.Trees.{Node, Tree}

-- what the steps see of pages: the node of each page in use, page 1 first; the counter of splits; and how many pages
-- there are, taken or not
pub record Store (B : Type 0) : Type 0 where
  pub nodes : List (Node B)
  pub counter : ℕ
  pub room : ℕ

-- the node that a page is read as
abbrev pub node_of : {B : Type 0} → Format B → Contents → Node B
node_of f page = if page.level == 0 then leaf_of f page else inner_of f page

-- each page has its own number: the first this one, the next the next
unfoldable pub numbered : ℕ → List Contents → Bool
numbered n [] = true
numbered n (page ∷ pages) = (page.number == n) && numbered (suc n) pages

-- a page that isn't taken
abbrev pub blank : {B : Type 0} → Node B
blank = record { level = 0; nsn = 0; right = 0; pairs = []; children = [] }

-- the node of a page; there is no page 0
abbrev pub node_at : {B : Type 0} → List (Node B) → ℕ → Node B
node_at nodes zero = blank
node_at nodes (suc p) = slice_index_or nodes p blank

-- the tree
abbrev pub tree_of : {B : Type 0} → Store B → Tree B
tree_of s = record { node = node_at s.nodes; used = length s.nodes; counter = s.counter }

-- the store with another node for a page
abbrev pub with_node : {B : Type 0} → Store B → ℕ → Node B → Store B
with_node s p node = record { nodes = slice_set s.nodes (p - 1) node; counter = s.counter; room = s.room }

-- the store with one page more, of this node
abbrev pub with_page : {B : Type 0} → Store B → Node B → Store B
with_page s node = record { nodes = s.nodes ++ node ∷ []; counter = s.counter; room = s.room }

-- the store with one split more
abbrev pub with_split : {B : Type 0} → Store B → Store B
with_split s = record { nodes = s.nodes; counter = suc s.counter; room = s.room }

-- pages were brought: as many are in use as before, and if pages are steady, no node has changed
pub record Stays {B : Type 0} (steady : Type 0) (old new : Store B) : Type 0 where
  pub nodes : steady → new.nodes ≡ old.nodes
  pub used : length new.nodes ≡ length old.nodes
  pub counter : new.counter ≡ old.counter
  pub room : new.room ≡ old.room
