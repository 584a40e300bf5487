-- What the tree's steps say of a tree, which the calls above them say again of their own pages. `steady` is whether
-- reading the pages gives what they show; `old` and `new` are what they show before and after.
use Rattle.std.specs.Prelude.{◌≡◌, ◌≢◌, ◌<◌, ◌≤◌, ◌+◌, ◌^◌, ◌∷◌, ◌++◌, ℕ, Bool, List, [], Option, Result, length}
use Rattle.std.specs.Prelude.{Err, IfErr, IfOk, IfSome, OnErr, OnOk, false}
use Rattle.gx_machine.specs.declared.entry.Entry.{Entry}
use Rattle.gx_node.specs.Legal.{Legal}
use Rattle.gx_node.specs.Owner.{Asks, AsksAtMost, AsksToWrite, Brings, CountsFaults, IsWhy, IsWhyLater, KeepsSince}
use Rattle.gx_node.specs.Owner.{KeepsSinceBut, step_fails, to_write}
use Rattle.gx_node.specs.Reach.{TraversalItem}
use Rattle.gx_node.specs.Store.{Stays, Store, node_at, tree_of}
use Rattle.gx_node.specs.Trees.{Pair, Rules, Used, size}
use Rattle.gx_node.specs.declared.fault.LookFault.{LookFault}
use Rattle.gx_node.specs.declared.fault.LookFault.TheVariants as look_fault
use Rattle.gx_node.specs.declared.fault.SplitFault.{SplitFault}
use Rattle.gx_node.specs.declared.fault.SplitFault.TheVariants as split_fault
use Rattle.gx_node.specs.declared.fault.StepFault.{StepFault}
use Rattle.gx_node.specs.declared.fault.StepFault.TheVariants.{Damaged}
use Rattle.gx_node.specs.declared.items.TheConstants.{MAX_ENTRIES}
use Rattle.gx_node.specs.declared.pages.Pages.{Ghosts}
use Rattle.gx_tree.specs.Descending.{StepsDown}
use Rattle.gx_tree.specs.Looking.{LookStep}
use Rattle.gx_tree.specs.Seeking.{Seeks}
use Rattle.gx_tree.specs.Splitting.{DidSplitRoot, HasNoPlace, Splits}
use Rattle.gx_tree.specs.Writing.{Appends, SetsMark, Swept}
use Rattle.gx_tree.specs.declared.descent.Descended.{Descended}
use Rattle.gx_tree.specs.declared.look.Look.{Look}
use Rattle.gx_tree.specs.declared.seek.Sought.{Sought}
use Rattle.gx_tree.specs.declared.split.Split.{Split}
use Rattle.gx_tree.specs.declared.split_root.RootSplit.{RootSplit}

-- a seek of a wanted pair in the leaf on a page
pub record TellsSeek {B F : Type 0} (wants : Pair B → Bool) (page : ℕ) (result : Result Sought (StepFault F)) (steady : Type 0) (old new : Store B) : Type 0 where
  pub stays : Stays steady old new
  pub sought : IfOk result (Seeks wants ((tree_of new).node page))
  pub damaged : result ≡ Err Damaged → Used (tree_of new) page → ((tree_of new).node page).level ≢ 0

-- a step of a look, which was `before` and is `after`
pub record TellsLook {B F : Type 0} (wants : Pair B → Bool) (leads : B → Bool) (before after : Look B) (result : Result (Unit {0}) (LookFault F)) (steady : Type 0) (old new : Store B) : Type 0 where
  pub stays : Stays steady old new
  pub step : OnOk result (LookStep (tree_of new) wants leads before.stack.items after.stack.items before.found.items after.found.items)
  pub damaged : result ≡ Err (look_fault.Step Damaged) → (rest : List TraversalItem) (item : TraversalItem)
      → before.stack.items ≡ rest ++ item ∷ [] → ¬ Used (tree_of new) item.page
  pub refused : OnErr result (result ≢ Err look_fault.Memory → after ≡ before)

-- a pair is added to the leaf on a page
pub record TellsAdd {B F : Type 0} (most page : ℕ) (entry : Entry B) (result : Result (Unit {0}) (StepFault F)) (steady : Type 0) (old new : Store B) : Type 0 where
  pub added : steady → OnOk result (Appends most (tree_of old) (tree_of new) page entry)
  pub refused : steady → OnErr result (new ≡ old)
  pub damaged : steady → result ≡ Err Damaged → Used (tree_of old) page → ((tree_of old).node page).level ≡ 0
      → most ≤ length ((tree_of old).node page).pairs

-- a step of a descent for a coming key
pub record TellsDescend {B F : Type 0} (cost : B → B → ℕ × ℕ) (joined : B → B → B) (most : ℕ) (item : TraversalItem) (coming : B) (result : Result (Descended B) (StepFault F)) (steady : Type 0)
    (old new : Store B) : Type 0 where
  pub descended : steady → IfOk result (StepsDown cost joined most old new item coming)
  pub refused : steady → OnErr result (new ≡ old)
  pub damaged : steady → result ≡ Err Damaged → Used (tree_of old) item.page
      → (0 < ((tree_of old).node item.page).level) × (length ((tree_of old).node item.page).children ≡ 0)

-- the mark of a wanted pair is set in the leaf on a page
pub record TellsMark {B F : Type 0} (wants : Pair B → Bool) (page : ℕ) (mark : Bool) (result : Result Sought (StepFault F)) (steady : Type 0) (old new : Store B) : Type 0 where
  pub marked : steady → IfOk result (SetsMark wants old new page mark)
  pub refused : steady → OnErr result (new ≡ old)
  pub damaged : steady → result ≡ Err Damaged → Used (tree_of old) page → ((tree_of old).node page).level ≢ 0

-- the leaf on a page is swept, whichever test the claims answer by
pub record TellsSweep {B F : Type 0} (IsTest : (Entry B → Bool) → Type 0) (page : ℕ) (result : Result Bool (StepFault F)) (steady : Type 0) (old new : Store B) : Type 0 where
  pub swept : steady → (test : Entry B → Bool) → IsTest test → IfOk result (Swept test old new page)
  pub refused : steady → OnErr result (new ≡ old)
  pub damaged : steady → result ≡ Err Damaged → Used (tree_of old) page → ((tree_of old).node page).level ≡ 0
      → MAX_ENTRIES < length ((tree_of old).node page).pairs

-- a node is split below its parent
pub record TellsSplit {B F : Type 0} (r : Rules B) (sides_of : List B → ℕ → List Bool) (is_key : B → Type 0) (page parent : ℕ) (result : Result (Option (Split B)) (SplitFault F)) (steady : Type 0)
    (old new : Store B) : Type 0 where
  pub split : steady → IfOk result (Splits r sides_of old new page parent)
  pub keys : IfOk result (λ did. IfSome did (λ split. is_key split.left × is_key split.right))
  pub apart : IfOk result (λ did. IfSome did (λ split. (page ≢ parent) × (split.sibling ≢ page) × (split.sibling ≢ parent)))
  pub only_full : steady → IfOk result (λ did. IfSome did (λ split. r.most ≤ size (node_at old.nodes page)))
  pub placed : steady → result ≡ Err split_fault.PagesFull → ¬ HasNoPlace r (tree_of old) page parent
  pub refused : steady → OnErr result (new ≡ old)
  pub damaged : steady → result ≡ Err (split_fault.Step Damaged) → Legal r (tree_of old) → Used (tree_of old) page
      → Used (tree_of old) parent → page ≢ parent → 0 < (node_at old.nodes parent).level
      → r.most ≤ size (node_at old.nodes page) → old.counter + 1 < 2 ^ 64 → ⊥

-- the root is split
pub record TellsRootSplit {B F : Type 0} (r : Rules B) (sides_of : List B → ℕ → List Bool) (is_key : B → Type 0) (result : Result (RootSplit B) (SplitFault F)) (steady : Type 0) (old new : Store B) : Type 0 where
  pub split : steady → IfOk result (DidSplitRoot r sides_of old new)
  pub keys : IfOk result (λ did. is_key did.left × is_key did.right)
  pub only_full : steady → OnOk result (r.most ≤ size (node_at old.nodes 1))
  pub refused : steady → OnErr result (new ≡ old)
  pub damaged : steady → result ≡ Err (split_fault.Step Damaged) → Legal r (tree_of old)
      → r.most ≤ size (node_at old.nodes 1) → (node_at old.nodes 1).level + 1 < 2 ^ 16 → ⊥

-- ---- what a step leaves of its pages' owner

module _ {P C F B A : Type 0} (pages : Ghosts P C F B) where
  -- a step reads these pages: it asks to bring them, and for nothing else
  pub record ReadsPages (these : List ℕ) (old new : P) (result : Result A (StepFault F)) : Type 0 where
    pub steady : pages.steady old → pages.steady new
    pub since : KeepsSince pages.since old new
    pub asked : OnOk result (Asks pages.asked (Brings these ∷ []) old new)
    pub tried : OnErr result (AsksAtMost pages.asked these old new)
    pub why : IfErr result (IsWhy (pages.why old new))
    pub told : CountsFaults (step_fails pages.fails) (pages.faults old) (pages.faults new) result
    pub later : OnOk result (IsWhyLater pages.why old new)

  -- a step reads a page, and changes that alone if it writes: it asks to bring it, and to prepare it if it writes
  pub record WritesPage (wrote : A → Bool) (page : ℕ) (old new : P) (result : Result A (StepFault F)) : Type 0 where
    pub steady : pages.steady old → pages.steady new
    pub since : KeepsSinceBut pages.since page old new
    pub kept : OnErr result (KeepsSince pages.since old new)
    pub spared : IfOk result (λ did. wrote did ≡ false → KeepsSince pages.since old new)
    pub asked : IfOk result (λ did. Asks pages.asked (to_write (wrote did) (page ∷ []) 0) old new)
    pub tried : OnErr result (AsksToWrite pages.asked (page ∷ []) 0 old new)
    pub why : IfErr result (IsWhy (pages.why old new))
    pub told : CountsFaults (step_fails pages.fails) (pages.faults old) (pages.faults new) result
