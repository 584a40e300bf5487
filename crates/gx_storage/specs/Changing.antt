-- What a change finds to do, by the pages of now.
use Rattle.std.specs.Prelude.{ℕ, Bool, Option, None, Some}
use Rattle.gx_node.specs.Reach.{TraversalItem}
use Rattle.gx_node.specs.Trees.{Node, Pair}
use Rattle.gx_tree.specs.Descending.{WayAt}
use Rattle.gx_tree.specs.Seeking.{Seeks}
use Rattle.gx_node.specs.Store.{Store}
use Rattle.gx_tree.specs.declared.descent.Way.{Way}
use Rattle.gx_tree.specs.declared.descent.Way.TheVariants.{Again, Add, FullLeaf, FullInner, Down, Widen}
use Rattle.gx_tree.specs.declared.descent.Descended.{Descended}
use Rattle.gx_tree.specs.declared.descent.Descended.TheVariants as did
use Rattle.gx_tree.specs.declared.seek.Sought.TheVariants.{Here}

-- what a step of a descent did that took this way, if it widened no bound
abbrev pub unwidened : {B : Type 0} → Way B → ℕ → Option (Descended B)
unwidened Again seen = Some did.Again
unwidened Add seen = Some did.Leaf
unwidened FullLeaf seen = Some did.FullLeaf
unwidened FullInner seen = Some did.FullInner
unwidened (Down slot child) seen = Some (did.Down (record { page = child; seen = seen }))
unwidened (Widen slot child key) seen = None

-- the one if a step of a descent widened a bound, by its slot and its key, and the other if it didn't
abbrev pub IfWidened : {B : Type 0} → (ℕ → B → Type 0) → Type 0 → Descended B → Type 0
IfWidened Wide Narrow (did.Widened next slot key) = Wide slot key
IfWidened Wide Narrow (did.Down next) = Narrow
IfWidened Wide Narrow did.Again = Narrow
IfWidened Wide Narrow did.Leaf = Narrow
IfWidened Wide Narrow did.FullLeaf = Narrow
IfWidened Wide Narrow did.FullInner = Narrow

-- a step of a descent at this item has to widen a bound
abbrev pub HasToWiden : {B : Type 0} → (B → B → ℕ × ℕ) → (B → B → B) → ℕ → Store B → TraversalItem → B → Type 0
HasToWiden {B} cost joined most s item coming = (slot : ℕ) × (child : ℕ) × (key : B) × WayAt cost joined most s item coming (Widen slot child key)

-- the node is a leaf that has a wanted pair
abbrev pub HasWanted : {B : Type 0} → (Pair B → Bool) → Node B → Type 0
HasWanted wants node = (slot : ℕ) × (marked : Bool) × Seeks wants node (Here slot marked)
