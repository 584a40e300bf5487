-- What each step does to a tree: the pages that it changes; no other changes.
use Rattle.std.specs.Prelude.{ℕ, suc, ◌≡◌, ◌≢◌, ◌<◌, Bool, true, false, not, ◌||◌, ◌==◌, if◌then◌else◌, List, [], ◌∷◌, ◌++◌, map, filter}
use Rattle.gx_node.specs.Lists.{Each, staying, going}
use Rattle.gx_node.specs.Trees.{Pair, Child, Node, Tree, Rules, Used, size, times, child_pages, standing, is_entry}
use Rattle.gx_node.specs.Legal.{Bounds}

-- the union of a node's keys: it covers each, and whatever covers each covers it
pub record IsUnion {K : Type 0} (r : Rules K) (key : K) (node : Node K) : Type 0 where
  pub covers : Bounds r key node
  pub least : (b : K) → Bounds r b node → r.covers b key ≡ true

-- the entry that names this page gets this key instead of its own
abbrev pub with_key : {K : Type 0} → ℕ → K → List (Child K) → List (Child K)
with_key n key children = map (λ c. if c.page == n then record { key = key; page = c.page } else c) children

-- each entry of the tree that names this page covers the key
abbrev pub EntriesCover : {K : Type 0} → Rules K → Tree K → ℕ → K → Type 0
EntriesCover r t a key = (p : ℕ) → Used t p → Each (λ c. c.page ≡ a → r.covers c.key key ≡ true) (t.node p).children

-- a node of the same level, with these in place of its other fields
abbrev pub node_with : {K : Type 0} → Node K → (nsn right : ℕ) → List (Pair K) → List (Child K) → Node K
node_with node nsn right pairs children =
    record { level = node.level; nsn = nsn; right = right; pairs = pairs; children = children }

-- a node n below p is split by sides: it keeps its page, the raised counter is its number, and its rightlink is a new
-- page; what goes is on that page, with the number and the rightlink that n had; p has an entry for each
pub record IsSplit {K : Type 0} (r : Rules K) (old new : Tree K) (n p : ℕ) (sides : List Bool) (left right : K) : Type 0 where
  pub parent : Used old p
  pub names : times n (child_pages (old.node p)) ≡ 1
  pub room : size (old.node p) < r.most
  pub used : new.used ≡ suc old.used
  pub counter : new.counter ≡ suc old.counter
  pub split : new.node n ≡ node_with (old.node n) (suc old.counter) (suc old.used)
      (staying sides (old.node n).pairs) (staying sides (old.node n).children)
  pub sibling : new.node (suc old.used) ≡ node_with (old.node n) (old.node n).nsn (old.node n).right
      (going sides (old.node n).pairs) (going sides (old.node n).children)
  pub named : new.node p ≡ node_with (old.node p) (old.node p).nsn (old.node p).right
      (old.node p).pairs (with_key n left (old.node p).children ++ record { key = right; page = suc old.used } ∷ [])
  pub others : (q : ℕ) → q ≢ n → q ≢ p → q ≢ suc old.used → new.node q ≡ old.node q
  pub left_some : 0 < size (new.node n)
  pub right_some : 0 < size (new.node (suc old.used))
  pub left_union : IsUnion r left (new.node n)
  pub right_union : IsUnion r right (new.node (suc old.used))

-- the root's entries move by sides to two new pages of its level, linked to one another; the root rises by a level and
-- names the two; the counter is unchanged
pub record IsRootSplit {K : Type 0} (r : Rules K) (old new : Tree K) (sides : List Bool) (left right : K) : Type 0 where
  pub used : new.used ≡ suc (suc old.used)
  pub counter : new.counter ≡ old.counter
  pub first : new.node (suc old.used) ≡ node_with (old.node 1) 0 (suc (suc old.used)) [] (staying sides (old.node 1).children)
  pub second : new.node (suc (suc old.used)) ≡ node_with (old.node 1) 0 0 [] (going sides (old.node 1).children)
  pub root : new.node 1 ≡ record {
    level = suc (old.node 1).level;
    nsn = (old.node 1).nsn;
    right = (old.node 1).right;
    pairs = [];
    children = record { key = left; page = suc old.used } ∷ record { key = right; page = suc (suc old.used) } ∷ [];
  }
  pub others : (q : ℕ) → q ≢ 1 → q ≢ suc old.used → q ≢ suc (suc old.used) → new.node q ≡ old.node q
  pub left_some : 0 < size (new.node (suc old.used))
  pub right_some : 0 < size (new.node (suc (suc old.used)))
  pub left_union : IsUnion r left (new.node (suc old.used))
  pub right_union : IsUnion r right (new.node (suc (suc old.used)))

-- one page in use gets this node, which has the level, the number and the rightlink of its old one; no page is taken,
-- and the counter is unchanged
pub record ChangesOnly {K : Type 0} (old new : Tree K) (a : ℕ) (pairs : List (Pair K)) (children : List (Child K)) : Type 0 where
  pub there : Used old a
  pub used : new.used ≡ old.used
  pub counter : new.counter ≡ old.counter
  pub changed : new.node a ≡ node_with (old.node a) (old.node a).nsn (old.node a).right pairs children
  pub others : (q : ℕ) → q ≢ a → new.node q ≡ old.node q

-- the entry of an inner page a that names page x gets the union of its key and a coming one
pub record IsWidening {K : Type 0} (r : Rules K) (old new : Tree K) (a x : ℕ) (coming key : K) : Type 0 where
  pub inner : 0 < (old.node a).level
  pub changes : ChangesOnly old new a (old.node a).pairs (with_key x key (old.node a).children)
  pub covers_old : Each (λ c. c.page ≡ x → r.covers key c.key ≡ true) (old.node a).children
  pub covers_coming : r.covers key coming ≡ true
  pub least : (b : K) → Each (λ c. c.page ≡ x → r.covers b c.key ≡ true) (old.node a).children → r.covers b coming ≡ true
      → r.covers b key ≡ true
  pub covered : EntriesCover r old a coming

-- a pair that isn't there is appended to a leaf that isn't full, and that its entry's key covers it for
pub record IsAdding {K : Type 0} (r : Rules K) (old new : Tree K) (a : ℕ) (x : Pair K) : Type 0 where
  pub leaf : (old.node a).level ≡ 0
  pub room : size (old.node a) < r.most
  pub changes : ChangesOnly old new a ((old.node a).pairs ++ x ∷ []) (old.node a).children
  pub absent : standing (is_entry r x.row x.key) old ≡ 0
  pub covered : EntriesCover r old a x.key

-- the pairs, the one of this row and key marked so
abbrev pub with_mark : {K : Type 0} → Rules K → ℕ → K → Bool → List (Pair K) → List (Pair K)
with_mark r row key mark pairs =
    map (λ x. if is_entry r row key x then record { row = x.row; key = x.key; marked = mark } else x) pairs

-- the mark of a leaf's pair is set
pub record IsMarking {K : Type 0} (r : Rules K) (old new : Tree K) (a row : ℕ) (key : K) (mark : Bool) : Type 0 where
  pub leaf : (old.node a).level ≡ 0
  pub changes : ChangesOnly old new a (with_mark r row key mark (old.node a).pairs) (old.node a).children

-- a sweep spares what isn't marked, and what a session claims
abbrev pub spares : {K : Type 0} → (Pair K → Bool) → Pair K → Bool
spares claimed x = not x.marked || claimed x

-- the marked pairs of a leaf that no session claims are removed
pub record IsSweep {K : Type 0} (old new : Tree K) (a : ℕ) (claimed : Pair K → Bool) : Type 0 where
  pub leaf : (old.node a).level ≡ 0
  pub changes : ChangesOnly old new a (filter (spares claimed) (old.node a).pairs) (old.node a).children

-- the steps
pub data Step (K : Type 0) : Type 0 where
  Splits : (n p : ℕ) (sides : List Bool) (left right : K) → Step K
  SplitsRoot : (sides : List Bool) (left right : K) → Step K
  Widens : (a x : ℕ) (coming key : K) → Step K
  Adds : (a : ℕ) (x : Pair K) → Step K
  Marks : (a row : ℕ) (key : K) (mark : Bool) → Step K
  Sweeps : (a : ℕ) (claimed : Pair K → Bool) → Step K

-- this step leads from the old tree to the new one
abbrev pub IsStep : {K : Type 0} → Rules K → Tree K → Step K → Tree K → Type 0
IsStep r old (Splits n p sides left right) new = IsSplit r old new n p sides left right
IsStep r old (SplitsRoot sides left right) new = IsRootSplit r old new sides left right
IsStep r old (Widens a x coming key) new = IsWidening r old new a x coming key
IsStep r old (Adds a x) new = IsAdding r old new a x
IsStep r old (Marks a row key mark) new = IsMarking r old new a row key mark
IsStep r old (Sweeps a claimed) new = IsSweep old new a claimed

-- these steps, one after another, lead from the old tree to the new one
abbrev pub AreSteps : {K : Type 0} → Rules K → Tree K → List (Step K) → Tree K → Type 0
AreSteps r old [] new = new ≡ old
AreSteps {K} r old (step ∷ steps) new = (middle : Tree K) × IsStep r old step middle × AreSteps r middle steps new

-- a step that neither adds, marks nor sweeps what passes the test: what passes, and is marked, is claimed
abbrev pub LeavesAlone : {K : Type 0} → Rules K → (Pair K → Bool) → Step K → Type 0
LeavesAlone r test (Splits n p sides left right) = Unit {0}
LeavesAlone r test (SplitsRoot sides left right) = Unit {0}
LeavesAlone r test (Widens a x coming key) = Unit {0}
LeavesAlone r test (Adds a x) = test x ≡ false
LeavesAlone {K} r test (Marks a row key mark) = (x : Pair K) → is_entry r row key x ≡ true
    → (test x ≡ false) × (test (record { row = x.row; key = x.key; marked = mark }) ≡ false)
LeavesAlone {K} r test (Sweeps a claimed) = (x : Pair K) → test x ≡ true → x.marked ≡ true → claimed x ≡ true
