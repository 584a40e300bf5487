-- When a tree is legal.
use Rattle.std.specs.Prelude.{ℕ, suc, ◌≡◌, ◌+◌, ◌<◌, ◌≤◌, true, List, [], ◌∷◌, length}
use Rattle.gx_node.specs.Lists.{Each}
use Rattle.gx_node.specs.Trees.{Child, Node, Tree, Rules, Used, size, times, parents, leaves, standing, is_entry}

-- this key covers every key of the node
pub record Bounds {K : Type 0} (r : Rules K) (key : K) (node : Node K) : Type 0 where
  pub pairs : Each (λ x. r.covers key x.key ≡ true) node.pairs
  pub children : Each (λ c. r.covers key c.key ≡ true) node.children

-- an entry of a node of this level names a page of the level below it, whose keys its own key covers
pub record ChildFits {K : Type 0} (r : Rules K) (t : Tree K) (above : ℕ) (c : Child K) : Type 0 where
  pub low : 2 ≤ c.page
  pub used : c.page ≤ t.used
  pub level : suc (t.node c.page).level ≡ above
  pub bounds : Bounds r c.key (t.node c.page)

-- what holds of each page in use
pub record NodeFits {K : Type 0} (r : Rules K) (t : Tree K) (node : Node K) : Type 0 where
  pub room : size node ≤ r.most
  pub leaf : node.level ≡ 0 → node.children ≡ []
  pub inner : 0 < node.level → (node.pairs ≡ []) × (0 < length node.children)
  pub nsn : node.nsn ≤ t.counter
  pub children : Each (ChildFits r t node.level) node.children

-- from p on the rightlinks lead over these pages and end; each is a leaf
abbrev pub Linked : {K : Type 0} → Tree K → ℕ → List ℕ → Type 0
Linked t p [] = p ≡ 0
Linked t p (q ∷ qs) = (p ≡ q) × Used t q × ((t.node q).level ≡ 0) × Linked t (t.node q).right qs

pub record Legal {K : Type 0} (r : Rules K) (t : Tree K) : Type 0 where
  -- each page is as its level wants it
  pub pages : (p : ℕ) → Used t p → NodeFits r t (t.node p)
  -- the root is never a leaf, and each other page is named by exactly one entry
  pub root : 0 < (t.node 1).level
  pub parent : (q : ℕ) → 2 ≤ q → q ≤ t.used → parents t q ≡ 1
  -- the chain from page 2 is all leaves, each once
  pub chain : Linked t 2 (leaves t)
  pub once : (q : ℕ) → Used t q → (t.node q).level ≡ 0 → times q (leaves t) ≡ 1
  -- no pair is in two places
  pub single : (row : ℕ) (key : K) → standing (is_entry r row key) t ≤ 1
  -- each split took a page
  pub counter : t.counter + 2 ≤ t.used
