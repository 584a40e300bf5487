-- A mark for each page, and the rightlink of each leaf.
use Rattle.std.specs.Prelude.{◌≡◌, ℕ, suc, ◌+◌, ◌<◌, ◌≤◌, ◌==◌, Bool, false, if◌then◌else◌, List, length, slice_index_or, Option, None, Some}
use Rattle.gx_node.specs.Lists.{one_if, total}
use Rattle.gx_node.specs.Trees.{Node, Rules, Tree, Used, leaves, parents, times, child_pages}
use Rattle.gx_node.specs.Legal.{Linked, NodeFits}
use Rattle.gx_legality.specs.declared.fault.Rule.{Rule}
use Rattle.gx_legality.specs.declared.fault.Rule.TheVariants.{NamedTwice}

-- one if the page is marked, and nothing if it isn't
abbrev pub marked : List Bool → ℕ → ℕ
marked marks q = one_if (slice_index_or marks q false)

-- a leaf's rightlink
abbrev pub link_of : {K : Type 0} → Node K → Option ℕ
link_of node = if node.level == 0 then Some node.right else None

-- the rightlinks of the tree's leaves, by page; there is no page 0
pub record AreLinks {K : Type 0} (t : Tree K) (links : List (Option ℕ)) : Type 0 where
  pub length : length links ≡ suc t.used
  pub none : slice_index_or links 0 None ≡ None
  pub each : (q : ℕ) → Used t q → slice_index_or links q None ≡ link_of (t.node q)

-- a page that the node's entries name was marked before, or they name it twice
abbrev pub IsTwice : {K : Type 0} → Tree K → List Bool → Node K → ℕ → Rule → Type 0
IsTwice t marks node q rule = (rule ≡ NamedTwice) × (2 ≤ q) × (q ≤ t.used) × (2 ≤ marked marks q + times q (child_pages node))

-- how many entries of the first so many pages name this one
abbrev pub named_by : {K : Type 0} → Tree K → ℕ → ℕ → ℕ
named_by t q n = total (λ p. times q (child_pages (t.node p))) n

-- each page but the root is named once, and the leaves are on their chain, each once
pub record HasShape {K : Type 0} (t : Tree K) : Type 0 where
  pub parent : (q : ℕ) → 2 ≤ q → q ≤ t.used → parents t q ≡ 1
  pub chain : Linked t 2 (leaves t)
  pub once : (q : ℕ) → Used t q → (t.node q).level ≡ 0 → times q (leaves t) ≡ 1

-- the tree is legal, except that a pair may be there twice
pub record IsLegalButPairs {K : Type 0} (r : Rules K) (t : Tree K) : Type 0 where
  pub pages : (p : ℕ) → Used t p → NodeFits r t (t.node p)
  pub root : 0 < (t.node 1).level
  pub shape : HasShape t
  pub counter : t.counter + 2 ≤ t.used
