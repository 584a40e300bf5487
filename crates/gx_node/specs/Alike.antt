-- What two trees have in common that agree on the pages in use.
use Rattle.std.specs.Prelude.{ℕ, ◌≡◌}
use Rattle.gx_node.specs.Trees.{Tree, Used}

-- the same pages are in use, with the same nodes; nothing is said of other pages
pub record AgreeOnUsed {K : Type 0} (one other : Tree K) : Type 0 where
  pub used : other.used ≡ one.used
  pub counter : other.counter ≡ one.counter
  pub nodes : (q : ℕ) → Used one q → other.node q ≡ one.node q
