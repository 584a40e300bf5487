-- What the contracts of the steps of an insert's descent say.
use Rattle.std.specs.Prelude.{ℕ, suc, ◌≡◌, ◌≢◌, ◌<◌, ◌≤◌, ◌+◌, ◌^◌, Bool, true, false, Option, None, Some, Result, Ok, Err, List, [], ◌∷◌, length}
use Rattle.gx_machine.specs.declared.entry.Entry.{Entry}
use Rattle.gx_disk.specs.Device.{Device}
use Rattle.gx_page.specs.Contents.{Contents}
use Rattle.gx_node.specs.Edits.{entry_of}
use Rattle.gx_node.specs.Reading.{Format}
use Rattle.gx_node.specs.declared.items.TheConstants.{MAX_ENTRIES}
use Rattle.gx_node.specs.Legal.{Legal}
use Rattle.gx_node.specs.Lists.{Each, how_many}
use Rattle.gx_node.specs.Reach.{TraversalItem}
use Rattle.gx_node.specs.Trees.{Rules, Used, size}
use Rattle.gx_node.specs.Writes.{is_sweepable}
use Rattle.gx_tree.specs.declared.descent.Descended.{Descended}
use Rattle.gx_node.specs.declared.fault.StepFault.{StepFault}
use Rattle.gx_node.specs.declared.fault.StepFault.TheVariants as step
use Rattle.gx_node.specs.declared.fault.SplitFault.{SplitFault}
use Rattle.gx_node.specs.declared.fault.SplitFault.TheVariants as split
use Rattle.gx_tree.specs.Descending.{StepsDown, is_widened}
use Rattle.gx_node.specs.Owner.{IsWhy, IsWhyOfSplit}
use Rattle.gx_tree.specs.declared.split.Split.{Split}
use Rattle.gx_tree.specs.declared.split_root.RootSplit.{RootSplit}
use Rattle.gx_tree.specs.Splitting.{DidSplit, DidSplitRoot, HasNoPlace}
use Rattle.gx_node.specs.Store.{tree_of}
use Rattle.gx_tree.specs.Writing.{Appends, Swept}
use Rattle.gx_recovery.specs.Known.{Known, Limits}
use Rattle.gx_index_laws.specs.Classes.{Page}
use Rattle.gx_durable.specs.Spelled.{Reading}
use Rattle.gx_store.specs.declared.fault.StoreFault.{StoreFault}
use Rattle.gx_store.specs.declared.fault.StoreFault.TheVariants.{NoRoom}
use Rattle.gx_store.specs.Faults as faults
use Rattle.gx_store.specs.Standing.{store_of}
use Rattle.gx_store.specs.State.{IsSteady}
use Rattle.gx_record.specs.declared.sizes.TheConstants.{MOST_SLOTS, SPLIT_RECORD}
use Rattle.gx_storage.specs.Changes.{DescentIsLogged, IsLogged, IsUnlogged, begun}
use Rattle.gx_storage.specs.Giving.{pages_given, rising}
use Rattle.gx_storage.specs.Imaged.{is_imaged}
use Rattle.gx_storage.specs.Numbers.{HasOwnNumber}
use Rattle.gx_storage.specs.Small.{IsSpelled, add_room, add_said, widen_room}
use Rattle.gx_storage.specs.State.{Volume}
use Rattle.gx_engine.specs.Slots.{AreTaken, slots_room, slots_said}

module _ {B : Type 0} (known : Limits → Known (Entry B) (Page B)) (r : Reading (Entry B) (Page B)) (f : Format B) (passes : ℕ → Contents → Bool) where
  -- Pages were refused to an event whose record has so many bytes, or its step found none to change: nothing is logged.
  pub record IsStopped {D : Type 0} (size : ℕ) (d e : Device) (v w : Volume D) (fault : StepFault StoreFault) : Type 0 where
    pub unlogged : IsUnlogged known r f passes (begun v size) d e v w
    pub why : IsWhy (faults.IsWhy passes d e (begun v size) w.shelf) fault

  module _ (cost : B → B → ℕ × ℕ) (joined : B → B → B) (spelling : B → List ℕ) (key : ℕ) where
    -- A descent made a step at the page of its item: a bound was widened there, with the record of it, small if the
    -- log's extent has an image of the page; or nothing is logged.
    pub record HasStepped {D : Type 0} (d e : Device) (v w : Volume D) (item : TraversalItem) (coming : B) (did : Descended B) : Type 0 where
      pub logged : DescentIsLogged known r f passes spelling key item.page d e v w did
      pub steps : IsSteady d v.shelf.frames → StepsDown cost joined v.most (store_of f d.seen v.shelf) (store_of f e.seen w.shelf) item coming did
      pub own : is_widened did ≡ true → HasOwnNumber e.seen w.shelf item.page

    -- It made none: the page was refused, or has a level above 0 and no entries.
    pub record HasNotStepped {D : Type 0} (d e : Device) (v w : Volume D) (item : TraversalItem) (fault : StepFault StoreFault) : Type 0 where
      pub stops : IsStopped (widen_room (is_imaged v.imaged item.page) key) d e v w fault
      pub damaged : IsSteady d v.shelf.frames → fault ≡ step.Damaged → Used (tree_of (store_of f d.seen v.shelf)) item.page
          → (0 < ((tree_of (store_of f d.seen v.shelf)).node item.page).level) × (length ((tree_of (store_of f d.seen v.shelf)).node item.page).children ≡ 0)

    abbrev pub Stepping : {D : Type 0} → Device → Device → Volume D → Volume D → TraversalItem → B → Result (Descended B) (StepFault StoreFault) → Type 0
    Stepping d e v w item coming (Ok did) = HasStepped d e v w item coming did
    Stepping d e v w item coming (Err fault) = HasNotStepped d e v w item fault

  module _ (spelling : B → List ℕ) (key : ℕ) where
    -- An entry's live pair was added to a leaf, with the record of it: small if the log's extent has an image of the
    -- leaf.
    pub record HasAdded {D : Type 0} (d e : Device) (v w : Volume D) (transaction : ℕ) (entry : Entry B) (page : ℕ) : Type 0 where
      pub logged : IsLogged known r f passes (add_room (is_imaged v.imaged page) key) d e v w
          (add_said spelling (is_imaged v.imaged page) transaction entry.row entry.key page e.seen w.shelf)
      pub adds : IsSteady d v.shelf.frames → Appends v.most (tree_of (store_of f d.seen v.shelf)) (tree_of (store_of f e.seen w.shelf)) page entry
      pub own : HasOwnNumber e.seen w.shelf page
      pub spelled : IsSpelled spelling entry.row entry.key

    -- It wasn't: the page was refused, or is no leaf with room.
    pub record HasNotAdded {D : Type 0} (d e : Device) (v w : Volume D) (page : ℕ) (fault : StepFault StoreFault) : Type 0 where
      pub stops : IsStopped (add_room (is_imaged v.imaged page) key) d e v w fault
      pub damaged : IsSteady d v.shelf.frames → fault ≡ step.Damaged → Used (tree_of (store_of f d.seen v.shelf)) page
          → ((tree_of (store_of f d.seen v.shelf)).node page).level ≡ 0 → v.most ≤ length ((tree_of (store_of f d.seen v.shelf)).node page).pairs

    abbrev pub Adding : {D : Type 0} → Device → Device → Volume D → Volume D → ℕ → Entry B → ℕ → Result (Unit {0}) (StepFault StoreFault) → Type 0
    Adding d e v w transaction entry page (Ok done) = HasAdded d e v w transaction entry page
    Adding d e v w transaction entry page (Err fault) = HasNotAdded d e v w page fault

-- What the contracts of the steps that make room for a descent say: the sweep of a leaf, and the split of a node.
module _ {B : Type 0} (known : Limits → Known (Entry B) (Page B)) (r : Reading (Entry B) (Page B)) (f : Format B) (passes : ℕ → Contents → Bool) where
  -- A leaf's marked pairs that no session claims are removed, with the record of that.
  pub record HasSwept {D : Type 0} (claimed : Entry B → Bool) (d e : Device) (v w : Volume D) (page : ℕ) : Type 0 where
    pub slots : List ℕ
    pub taken : AreTaken claimed f d v page slots
    pub logged : IsLogged known r f passes (slots_room v page slots) d e v w (slots_said v page slots e w)
    pub swept : IsSteady d v.shelf.frames → Swept claimed (store_of f d.seen v.shelf) (store_of f e.seen w.shelf) page true
    pub own : HasOwnNumber e.seen w.shelf page

  -- It had none, and nothing is logged.
  pub record HasNone {D : Type 0} (claimed : Entry B → Bool) (d e : Device) (v w : Volume D) (page : ℕ) : Type 0 where
    pub slots : List ℕ
    pub taken : AreTaken claimed f d v page slots
    pub unlogged : IsUnlogged known r f passes (begun v (slots_room v page slots)) d e v w
    pub same : IsSteady d v.shelf.frames → store_of f e.seen w.shelf ≡ store_of f d.seen v.shelf
    pub none : IsSteady d v.shelf.frames → how_many (is_sweepable (λ x. claimed (entry_of x))) ((tree_of (store_of f d.seen v.shelf)).node page).pairs ≡ 0

  -- The page was refused, or there was no room for the record of just what goes; or it is no leaf, or one with more pairs than fit.
  pub record HasNotSwept {D : Type 0} (claimed : Entry B → Bool) (d e : Device) (v w : Volume D) (page : ℕ) (fault : StepFault StoreFault) : Type 0 where
    pub slots : List ℕ
    pub taken : fault ≡ step.Pages NoRoom → AreTaken claimed f d v page slots
    pub few : length slots ≤ MOST_SLOTS
    pub stops : IsStopped known r f passes (slots_room v page slots) d e v w fault
    pub damaged : IsSteady d v.shelf.frames → fault ≡ step.Damaged → Used (tree_of (store_of f d.seen v.shelf)) page
        → ((tree_of (store_of f d.seen v.shelf)).node page).level ≡ 0 → MAX_ENTRIES < length ((tree_of (store_of f d.seen v.shelf)).node page).pairs

  abbrev pub LeafSweeping : {D : Type 0} → (Entry B → Bool) → Device → Device → Volume D → Volume D → ℕ → Result Bool (StepFault StoreFault) → Type 0
  LeafSweeping claimed d e v w page (Ok true) = HasSwept claimed d e v w page
  LeafSweeping claimed d e v w page (Ok false) = HasNone claimed d e v w page
  LeafSweeping claimed d e v w page (Err fault) = HasNotSwept claimed d e v w page fault

  -- A node was split below its parent, with the record of the three pages; or the parent has no place for that; or pages were refused,
  -- or none is left.
  module _ (rules : ℕ → Rules B) (sides_of : List B → ℕ → List Bool) where
    pub record HasSplit {D : Type 0} (d e : Device) (v w : Volume D) (page parent : ℕ) (did : Split B) : Type 0 where
      pub logged : IsLogged known r f passes SPLIT_RECORD d e v w (pages_given (rising page parent (suc v.shelf.used)) e.seen w.shelf)
      pub split : IsSteady d v.shelf.frames → DidSplit (rules v.most) sides_of (store_of f d.seen v.shelf) (store_of f e.seen w.shelf) page parent did
      pub own : Each (HasOwnNumber e.seen w.shelf) (rising page parent (suc v.shelf.used))

    pub record HasNoSplit {D : Type 0} (d e : Device) (v w : Volume D) (page parent : ℕ) : Type 0 where
      pub unlogged : IsUnlogged known r f passes (begun v SPLIT_RECORD) d e v w
      pub none : IsSteady d v.shelf.frames → HasNoPlace (rules v.most) (tree_of (store_of f d.seen v.shelf)) page parent

    pub record SplitStops {D : Type 0} (d e : Device) (v w : Volume D) (page parent : ℕ) (fault : SplitFault StoreFault) : Type 0 where
      pub unlogged : IsUnlogged known r f passes (begun v SPLIT_RECORD) d e v w
      pub why : IsWhyOfSplit (faults.IsWhy passes d e (begun v SPLIT_RECORD) w.shelf) fault
      pub full : IsSteady d v.shelf.frames → fault ≡ split.PagesFull → v.shelf.pages ≤ v.shelf.used
      pub damaged : IsSteady d v.shelf.frames → fault ≡ split.Step step.Damaged → Legal (rules v.most) (tree_of (store_of f d.seen v.shelf)) → Used (tree_of (store_of f d.seen v.shelf)) page
          → Used (tree_of (store_of f d.seen v.shelf)) parent → page ≢ parent → 0 < ((tree_of (store_of f d.seen v.shelf)).node parent).level
          → v.most ≤ size ((tree_of (store_of f d.seen v.shelf)).node page) → v.shelf.counter + 1 < 2 ^ 64 → ⊥

    abbrev pub Splitting : {D : Type 0} → Device → Device → Volume D → Volume D → ℕ → ℕ → Result (Option (Split B)) (SplitFault StoreFault) → Type 0
    Splitting d e v w page parent (Ok (Some did)) = HasSplit d e v w page parent did
    Splitting d e v w page parent (Ok None) = HasNoSplit d e v w page parent
    Splitting d e v w page parent (Err fault) = SplitStops d e v w page parent fault

    -- The same of the root.
    pub record HasSplitRoot {D : Type 0} (d e : Device) (v w : Volume D) (did : RootSplit B) : Type 0 where
      pub logged : IsLogged known r f passes SPLIT_RECORD d e v w (pages_given (1 ∷ suc v.shelf.used ∷ suc (suc v.shelf.used) ∷ []) e.seen w.shelf)
      pub split : IsSteady d v.shelf.frames → DidSplitRoot (rules v.most) sides_of (store_of f d.seen v.shelf) (store_of f e.seen w.shelf) did
      pub own : Each (HasOwnNumber e.seen w.shelf) (1 ∷ suc v.shelf.used ∷ suc (suc v.shelf.used) ∷ [])

    pub record RootSplitStops {D : Type 0} (d e : Device) (v w : Volume D) (fault : SplitFault StoreFault) : Type 0 where
      pub unlogged : IsUnlogged known r f passes (begun v SPLIT_RECORD) d e v w
      pub why : IsWhyOfSplit (faults.IsWhy passes d e (begun v SPLIT_RECORD) w.shelf) fault
      pub full : IsSteady d v.shelf.frames → fault ≡ split.PagesFull → v.shelf.pages < v.shelf.used + 2
      pub damaged : IsSteady d v.shelf.frames → fault ≡ split.Step step.Damaged → Legal (rules v.most) (tree_of (store_of f d.seen v.shelf))
          → v.most ≤ size ((tree_of (store_of f d.seen v.shelf)).node 1) → ((tree_of (store_of f d.seen v.shelf)).node 1).level + 1 < 2 ^ 16 → ⊥

    abbrev pub RootSplitting : {D : Type 0} → Device → Device → Volume D → Volume D → Result (RootSplit B) (SplitFault StoreFault) → Type 0
    RootSplitting d e v w (Ok did) = HasSplitRoot d e v w did
    RootSplitting d e v w (Err fault) = RootSplitStops d e v w fault
