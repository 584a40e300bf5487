-- What a search or a write may still come to.
use Rattle.std.specs.Prelude.{ℕ, zero, suc, ◌+◌, ◌<◌, ◌≤◌, Bool, ◌==◌, if◌then◌else◌, nat_lt, List, [], ◌∷◌}
use Rattle.gx_node.specs.Lists.{sum_over, one_if, how_many}
use Rattle.gx_node.specs.Trees.{Pair, Tree, Used, child_pages, times}

-- an item of a traversal: a page, and the counter at the time when the page's number was read
pub record TraversalItem : Type 0 where
  pub page : ℕ
  pub seen : ℕ

-- q is near (p, seen): it is p, or p was split since, and q is near what p's rightlink names
pub data Near {K : Type 0} (t : Tree K) (seen : ℕ) (q : ℕ) : ℕ → Type 0 where
  here : Near t seen q q
  beyond : {p : ℕ} → seen < (t.node p).nsn → Near t seen q (t.node p).right → Near t seen q p

-- l is under q: it is q, or under a page that an entry of q names
pub data Under {K : Type 0} (t : Tree K) (l : ℕ) : ℕ → Type 0 where
  itself : Under t l l
  below : {q c : ℕ} → 0 < times c (child_pages (t.node q)) → Under t l c → Under t l q

-- a page in the reach of an item: it is under a page that is near it
pub record InReach {K : Type 0} (t : Tree K) (item : TraversalItem) (l : ℕ) : Type 0 where
  pub near : ℕ
  pub is_near : Near t item.seen near item.page
  pub is_under : Under t l near

-- from p on, these are the pages that are near, and the last of them wasn't split since
pub data Run {K : Type 0} (t : Tree K) (seen : ℕ) : ℕ → List ℕ → Type 0 where
  ends : {p : ℕ} → Used t p → (t.node p).nsn ≤ seen → Run t seen p (p ∷ [])
  goes : {p : ℕ} {qs : List ℕ} → Used t p → seen < (t.node p).nsn → Run t seen (t.node p).right qs → Run t seen p (p ∷ qs)

-- the pages that are near (p, seen), in order, at most so many
abbrev pub run : {K : Type 0} → Tree K → ℕ → ℕ → ℕ → List ℕ
run t zero seen p = []
run t (suc most) seen p = p ∷ (if nat_lt seen (t.node p).nsn then run t most seen (t.node p).right else [])

-- the sum of f over the pages at or under q, down so many levels; a page that two entries name counts twice
abbrev pub down : {K : Type 0} → Tree K → (ℕ → ℕ) → ℕ → ℕ → ℕ
down t f zero q = f q
down t f (suc levels) q = f q + sum_over (down t f levels) (child_pages (t.node q))

-- the sum of f over the pages at or under q
abbrev pub under : {K : Type 0} → Tree K → (ℕ → ℕ) → ℕ → ℕ
under t f q = down t f (t.node q).level q

-- the sum of f over what lies ahead of an item, and of a stack of them
abbrev pub ahead_of : {K : Type 0} → Tree K → (ℕ → ℕ) → TraversalItem → ℕ
ahead_of t f item = sum_over (under t f) (run t t.used item.seen item.page)

abbrev pub ahead : {K : Type 0} → Tree K → (ℕ → ℕ) → List TraversalItem → ℕ
ahead t f stack = sum_over (ahead_of t f) stack

-- how many pages lie ahead
abbrev pub pages_ahead : {K : Type 0} → Tree K → List TraversalItem → ℕ
pages_ahead t stack = ahead t (λ q. 1) stack

-- how often this page does
abbrev pub times_ahead : {K : Type 0} → Tree K → ℕ → List TraversalItem → ℕ
times_ahead t l stack = ahead t (λ q. one_if (q == l)) stack

-- how many pairs ahead pass the test
abbrev pub pairs_ahead : {K : Type 0} → Tree K → (Pair K → Bool) → List TraversalItem → ℕ
pairs_ahead t test stack = ahead t (λ q. how_many test (t.node q).pairs) stack
