-- What the steps that write do to the pages.
use Rattle.std.specs.Prelude.{◌≡◌, ℕ, ◌<◌, Bool, true, false, [], ◌∷◌, ◌++◌, length, Some, slice_get, slice_set}
use Rattle.gx_machine.specs.declared.entry.Entry.{Entry}
use Rattle.gx_node.specs.Lists.{how_many}
use Rattle.gx_node.specs.Trees.{Pair, Tree}
use Rattle.gx_node.specs.Steps.{ChangesOnly, IsSweep}
use Rattle.gx_node.specs.Writes.{is_sweepable}
use Rattle.gx_node.specs.Edits.{marked_as, entry_of}
use Rattle.gx_tree.specs.Seeking.{Seeks}
use Rattle.gx_node.specs.Store.{Store, tree_of}
use Rattle.gx_tree.specs.declared.seek.Sought.{Sought}
use Rattle.gx_tree.specs.declared.seek.Sought.TheVariants.{Here, Right}

-- a row and its key as a live pair
abbrev pub live : {B : Type 0} → Entry B → Pair B
live entry = record { row = entry.row; key = entry.key; marked = false }

-- a live pair is appended to a leaf that isn't full
pub record Appends {B : Type 0} (most : ℕ) (old new : Tree B) (a : ℕ) (entry : Entry B) : Type 0 where
  pub leaf : (old.node a).level ≡ 0
  pub room : length (old.node a).pairs < most
  pub changes : ChangesOnly old new a ((old.node a).pairs ++ live entry ∷ []) (old.node a).children

-- the mark of the wanted pair of a leaf is set; or it isn't in the leaf, and nothing has changed
abbrev pub SetsMark : {B : Type 0} → (Pair B → Bool) → Store B → Store B → ℕ → Bool → Sought → Type 0
SetsMark {B} wants old new a marked (Here slot before) =
    Seeks wants ((tree_of old).node a) (Here slot before)
    × ((x : Pair B) → slice_get ((tree_of old).node a).pairs slot ≡ Some x
    → ChangesOnly (tree_of old) (tree_of new) a (slice_set ((tree_of old).node a).pairs slot (marked_as marked x)) ((tree_of old).node a).children)
SetsMark wants old new a marked (Right next) = Seeks wants ((tree_of old).node a) (Right next) × (new ≡ old)

-- a leaf is swept, if it has a marked pair that no session claims; otherwise nothing has changed
pub record Swept {B : Type 0} (claimed : Entry B → Bool) (old new : Store B) (a : ℕ) (any : Bool) : Type 0 where
  pub leaf : ((tree_of old).node a).level ≡ 0
  pub some : any ≡ true → IsSweep (tree_of old) (tree_of new) a (λ x. claimed (entry_of x))
      × (0 < how_many (is_sweepable (λ x. claimed (entry_of x))) ((tree_of old).node a).pairs)
  pub none : any ≡ false → (new ≡ old) × (how_many (is_sweepable (λ x. claimed (entry_of x))) ((tree_of old).node a).pairs ≡ 0)
