-- A write at work: a descent to the leaf for a pair, and the way to a pair of the tree.
use Rattle.std.specs.Prelude.{ℕ, suc, ◌+◌, ◌-◌, ◌*◌, ◌<◌, ◌≤◌, Bool, not, ◌&&◌, ◌||◌, ◌==◌, nat_lt, if◌then◌else◌, length}
use Rattle.gx_node.specs.Trees.{Pair, Tree, Rules, Used, size, times, child_pages, walk, passing, standing, is_entry}
use Rattle.gx_node.specs.Legal.{Linked}
use Rattle.gx_node.specs.Steps.{EntriesCover}
use Rattle.gx_node.specs.Reach.{TraversalItem}

-- a descent for a coming key is at a page; if the page wasn't split since, each entry that names it covers the key
pub record IsDescent {K : Type 0} (r : Rules K) (t : Tree K) (item : TraversalItem) (coming : K) : Type 0 where
  pub there : Used t item.page
  pub seen : item.seen ≤ t.counter
  pub covered : (t.node item.page).nsn ≤ item.seen → EntriesCover r t item.page coming

-- the pair of this row and key is in leaf a, or to the right of it
pub record IsSeek {K : Type 0} (r : Rules K) (t : Tree K) (a row : ℕ) (key : K) : Type 0 where
  pub chain : Linked t a (walk t t.used a)
  pub stands : 0 < passing (is_entry r row key) t (walk t t.used a)

-- the leaves left
abbrev pub leaves_left : {K : Type 0} → Tree K → ℕ → ℕ
leaves_left t a = length (walk t t.used a)

-- a pair that a sweep would remove: marked, and claimed by no session
abbrev pub is_sweepable : {K : Type 0} → (Pair K → Bool) → Pair K → Bool
is_sweepable claimed x = x.marked && not (claimed x)

-- a page that names this one and has room for an entry more
abbrev pub has_place : {K : Type 0} → Rules K → Tree K → ℕ → ℕ → Bool
has_place r t parent q = nat_lt 0 (times q (child_pages (t.node parent))) && nat_lt (size (t.node parent)) r.most

-- a descent has to begin again: its page was split since, or the page that it came from has no place for a split of it
abbrev pub must_restart : {K : Type 0} → Rules K → Tree K → ℕ → TraversalItem → Bool
must_restart r t parent item =
    nat_lt item.seen (t.node item.page).nsn || (not (item.page == 1) && not (has_place r t parent item.page))

-- the levels that a descent has left: one more than the root's if it has to begin again, else its page's
abbrev pub levels_left : {K : Type 0} → Rules K → Tree K → ℕ → TraversalItem → ℕ
levels_left r t parent item = if must_restart r t parent item then suc (t.node 1).level else (t.node item.page).level

-- what a descent that came from this parent has left, on a device of so many pages: those not yet taken, each for a new
-- beginning; the pairs that a sweep would take; and levels
abbrev pub descent_left : {K : Type 0} → Rules K → Tree K → ℕ → (Pair K → Bool) → ℕ → TraversalItem → ℕ
descent_left r t room claimed parent item =
    (room - t.used) * (room + 1) + standing (is_sweepable claimed) t + levels_left r t parent item
