-- What a search needs of rightlinks while it runs, those of inner nodes too.
use Rattle.std.specs.Prelude.{ℕ, ◌≡◌, ◌<◌, ◌≤◌}
use Rattle.gx_node.specs.Trees.{Tree, Used}

-- above a floor, the counter at a start, rightlinks go on: a page whose number is above it has a rightlink to a taken
-- page, other than the root, of the same level; and the root's number isn't above it
pub record GoesOn {K : Type 0} (t : Tree K) (floor : ℕ) : Type 0 where
  pub right : (p : ℕ) → Used t p → floor < (t.node p).nsn
      → (2 ≤ (t.node p).right) × ((t.node p).right ≤ t.used) × ((t.node (t.node p).right).level ≡ (t.node p).level)
  pub root : (t.node 1).nsn ≤ floor
