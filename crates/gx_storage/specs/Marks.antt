-- The pair of an entry in a leaf, whose mark is set.
use Rattle.std.specs.Prelude.{◌≡◌, ℕ, ◌==◌, ◌&&◌, Bool, Result}
use Rattle.std.specs.Ordering.{is_eq}
use Rattle.gx_machine.specs.declared.entry.Entry.{Entry}
use Rattle.gx_machine.specs.Keys.{Members}
use Rattle.gx_node.specs.Trees.{Node, Pair}
use Rattle.gx_node.specs.declared.fault.StepFault.{StepFault}
use Rattle.gx_tree.specs.Calls.{TellsMark}
use Rattle.gx_tree.specs.declared.seek.Sought.{Sought}
use Rattle.gx_node.specs.Store.{Store}
use Rattle.gx_storage.specs.Changing.{HasWanted}

module _ {B : Type 0} (IsKey : B → Type 0) (shape : Members B) where
  -- of the pairs whose keys are of the class, just those are wanted that are the entry's: they have its row and its key
  abbrev pub IsOfEntry : Entry B → (Pair B → Bool) → Type 0
  IsOfEntry entry wants = (x : Pair B) → IsKey x.key → wants x ≡ ((x.row == entry.row) && is_eq (shape.cmp x.key entry.key))

  -- the node is a leaf that has the entry's pair
  pub record HasEntry (entry : Entry B) (node : Node B) : Type 0 where
    pub wants : Pair B → Bool
    pub wanted : IsOfEntry entry wants
    pub has : HasWanted wants node

  -- the mark of the entry's pair is set in the leaf on a page, as the tree's step says of the pairs that are wanted
  pub record MarksEntry {F : Type 0} (entry : Entry B) (page : ℕ) (mark : Bool) (result : Result Sought (StepFault F)) (steady : Type 0) (old new : Store B) : Type 0 where
    pub wants : Pair B → Bool
    pub wanted : IsOfEntry entry wants
    pub tells : TellsMark wants page mark result steady old new
