-- A tree of pages: its nodes by number, and what they say of each other.
use Rattle.std.specs.Prelude.{ℕ, zero, suc, ◌≡◌, ◌+◌, ◌<◌, ◌≤◌, Bool, true, ◌&&◌, ◌==◌, if◌then◌else◌, List, [], ◌∷◌, map, length}
use Rattle.gx_node.specs.Lists.{sum_over, how_many, total}

-- a leaf's pair: a row, its key, and whether it is marked as deleted
pub record Pair (K : Type 0) : Type 0 where
  pub row : ℕ
  pub key : K
  pub marked : Bool

-- an inner node's entry: a page, and the bound of what lies below it
pub record Child (K : Type 0) : Type 0 where
  pub key : K
  pub page : ℕ

-- a node: its level (0 for a leaf), its sequence number, its rightlink (0 for none) and its entries
pub record Node (K : Type 0) : Type 0 where
  pub level : ℕ
  pub nsn : ℕ
  pub right : ℕ
  pub pairs : List (Pair K)
  pub children : List (Child K)

-- a tree: each page's node, the greatest page in use, and the counter of splits; page 1 is the root
pub record Tree (K : Type 0) : Type 0 where
  pub node : ℕ → Node K
  pub used : ℕ
  pub counter : ℕ

-- what a tree knows of its keys: whether the first covers the second, whether two are the same; and how many entries a
-- node may have
pub record Rules (K : Type 0) : Type 0 where
  pub covers : K → K → Bool
  pub same : K → K → Bool
  pub most : ℕ

-- what a key class owes: covering goes on, among keys; each key covers itself; the same test is exact
pub record IsLawful {K : Type 0} (r : Rules K) : Type 0 where
  pub goes_on : (a b c : K) → r.covers a b ≡ true → r.covers b c ≡ true → r.covers a c ≡ true
  pub exact : (a b : K) → r.same a b ≡ true → a ≡ b
  pub itself : (a : K) → r.same a a ≡ true
  pub two : 2 ≤ r.most

-- a page in use
abbrev pub Used : {K : Type 0} → Tree K → ℕ → Type 0
Used t p = (0 < p) × (p ≤ t.used)

-- how many entries a node has
abbrev pub size : {K : Type 0} → Node K → ℕ
size node = length node.pairs + length node.children

-- the pages that a node's entries name, in order
abbrev pub child_pages : {K : Type 0} → Node K → List ℕ
child_pages node = map (λ c. c.page) node.children

-- how often a list of pages has this page
abbrev pub times : ℕ → List ℕ → ℕ
times q pages = how_many (λ x. x == q) pages

-- how many child entries of the tree name this page
abbrev pub parents : {K : Type 0} → Tree K → ℕ → ℕ
parents t q = total (λ p. times q (child_pages (t.node p))) t.used

-- the pages from p on along rightlinks, at most so many
abbrev pub walk : {K : Type 0} → Tree K → ℕ → ℕ → List ℕ
walk t zero p = []
walk t (suc most) p = if p == 0 then [] else (p ∷ walk t most (t.node p).right)

-- the leaves: the pages from page 2 on along rightlinks
abbrev pub leaves : {K : Type 0} → Tree K → List ℕ
leaves t = walk t t.used 2

-- how many pairs on these pages pass the test
abbrev pub passing : {K : Type 0} → (Pair K → Bool) → Tree K → List ℕ → ℕ
passing test t pages = sum_over (λ q. how_many test (t.node q).pairs) pages

-- how many pairs of the tree pass the test
abbrev pub standing : {K : Type 0} → (Pair K → Bool) → Tree K → ℕ
standing test t = passing test t (leaves t)

-- the pair of this row and key, marked or not
abbrev pub is_entry : {K : Type 0} → Rules K → ℕ → K → Pair K → Bool
is_entry r row key x = (x.row == row) && r.same x.key key

-- a fresh tree: a root of level 1, whose one entry has the start key and names page 2, an empty leaf
abbrev pub fresh_node : {K : Type 0} → K → ℕ → Node K
fresh_node start p =
    if p == 1 then record { level = 1; nsn = 0; right = 0; pairs = []; children = record { key = start; page = 2 } ∷ [] }
    else record { level = 0; nsn = 0; right = 0; pairs = []; children = [] }

abbrev pub fresh_tree : {K : Type 0} → K → Tree K
fresh_tree start = record { node = fresh_node start; used = 2; counter = 0 }
