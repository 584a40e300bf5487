-- How many pairs of a tree aren't marked.
use Rattle.std.specs.Prelude.{ℕ, not}
use Rattle.gx_node.specs.Lists.{how_many, total}
use Rattle.gx_node.specs.Trees.{Node}

-- on a node
abbrev pub live_on : {B : Type 0} → Node B → ℕ
live_on node = how_many (λ x. not x.marked) node.pairs

-- on the pages from 1 to a number
abbrev pub live_up_to : {B : Type 0} → (ℕ → Node B) → ℕ → ℕ
live_up_to node n = total (λ q. live_on (node q)) n
