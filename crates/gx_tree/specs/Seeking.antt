-- What a seek comes to at a leaf.
use Rattle.std.specs.Prelude.{◌≡◌, Bool, true, false, Some, slice_get}
use Rattle.gx_node.specs.Lists.{how_many}
use Rattle.gx_node.specs.Trees.{Pair, Node}
use Rattle.gx_tree.specs.declared.seek.Sought.{Sought}
use Rattle.gx_tree.specs.declared.seek.Sought.TheVariants.{Here, Right}

-- whether the leaf has the pair
abbrev pub is_here : Sought → Bool
is_here (Here slot marked) = true
is_here (Right page) = false

-- the node is a leaf; its pair in that slot is wanted and has that mark, or none is wanted, and that is its rightlink
abbrev pub Seeks : {B : Type 0} → (Pair B → Bool) → Node B → Sought → Type 0
Seeks {B} wants node (Here slot marked) = (node.level ≡ 0) × ((x : Pair B) × (slice_get node.pairs slot ≡ Some x) × (wants x ≡ true) × (x.marked ≡ marked))
Seeks wants node (Right page) = (node.level ≡ 0) × (how_many wants node.pairs ≡ 0) × (page ≡ node.right)
