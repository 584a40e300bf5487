-- A look at work: a search, or a write that looks whether the tree has its pair.
use Rattle.std.specs.Prelude.{ℕ, ◌≡◌, ◌+◌, ◌≤◌, Bool, true, ◌&&◌, if◌then◌else◌, nat_lt, List, [], ◌∷◌, ◌++◌, map, filter}
use Rattle.gx_node.specs.Lists.{Each, how_many}
use Rattle.gx_node.specs.Trees.{Pair, Child, Tree, Rules, Used, standing}
use Rattle.gx_node.specs.Reach.{TraversalItem, Run, run, times_ahead, pairs_ahead}

-- an item that was made on this tree or on one that led to it
pub record ItemFits {K : Type 0} (t : Tree K) (item : TraversalItem) : Type 0 where
  pub seen : item.seen ≤ t.counter
  pub run : Run t item.seen item.page (run t t.used item.seen item.page)

-- Some of the wanted pairs are found: for any test, as many of those found and those ahead pass it as of those in the
-- tree. And no page is ahead twice.
pub record IsLook {K : Type 0} (t : Tree K) (wants : Pair K → Bool) (stack : List TraversalItem) (found : List (Pair K)) : Type 0 where
  pub items : Each (ItemFits t) stack
  pub complete : (test : Pair K → Bool) → how_many test found + pairs_ahead t (λ x. wants x && test x) stack
      ≡ standing (λ x. wants x && test x) t
  pub once : (l : ℕ) → times_ahead t l stack ≤ 1

-- it begins with the root
abbrev pub from_root : {K : Type 0} → Tree K → TraversalItem
from_root t = record { page = 1; seen = t.counter }

-- what a look stacks once it has read a page: its rightlink, if it was split since, and the entries that may lead to
-- something wanted, remembered with the counter of now
abbrev pub beyond_of : {K : Type 0} → Tree K → TraversalItem → List TraversalItem
beyond_of t item =
    if nat_lt item.seen (t.node item.page).nsn then record { page = (t.node item.page).right; seen = item.seen } ∷ [] else []

abbrev pub below_of : {K : Type 0} → Tree K → (K → Bool) → List (Child K) → List TraversalItem
below_of t leads children = map (λ c. record { page = c.page; seen = t.counter }) (filter (λ c. leads c.key) children)

-- a step of a look, on the top item of its stack
abbrev pub stacked : {K : Type 0} → Tree K → (K → Bool) → TraversalItem → List TraversalItem → List TraversalItem
stacked t leads item stack = beyond_of t item ++ (below_of t leads (t.node item.page).children ++ stack)

abbrev pub found_with : {K : Type 0} → Tree K → (Pair K → Bool) → TraversalItem → List (Pair K) → List (Pair K)
found_with t wants item found = found ++ filter wants (t.node item.page).pairs

-- an entry of the tree whose key covers something wanted in the tree leads to it
abbrev pub LeadsTo : {K : Type 0} → Rules K → Tree K → (Pair K → Bool) → (K → Bool) → Type 0
LeadsTo {K} r t wants leads = (p : ℕ) → Used t p
    → Each (λ c. (q : ℕ) → Used t q → Each (λ x. wants x ≡ true → r.covers c.key x.key ≡ true → leads c.key ≡ true) (t.node q).pairs)
    (t.node p).children
