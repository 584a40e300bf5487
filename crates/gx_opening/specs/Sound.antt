-- Whether the pages of a device whose log is laid are good for it, and can be read.
use Rattle.std.specs.Prelude.{◌≡◌, ◌⊎◌, ℕ, ◌≤◌, Bool, None, List, Result, Ok, Err}
use Rattle.gx_geom.specs.declared.refusal.Refusal.{Refusal}
use Rattle.gx_geom.specs.declared.refusal.Refusal.TheVariants.{Damaged, Device as DeviceFailed, Memory}
use Rattle.gx_disk.specs.Device.{Device}
use Rattle.gx_machine.specs.declared.entry.Entry.{Entry}
use Rattle.gx_page.specs.Contents.{Contents}
use Rattle.gx_pool.specs.Area.{IsPassing, bytes_of}
use Rattle.gx_pool.specs.State.{State as Frames, kept, stamp_of}
use Rattle.gx_recovery.specs.Analysis.{Analysis}
use Rattle.gx_recovery.specs.Coming.{Placed}
use Rattle.gx_recovery.specs.Known.{Known, Tree}
use Rattle.gx_recovery.specs.Records.{Touch}
use Rattle.gx_durable.specs.Area.{area_of}
use Rattle.gx_durable.specs.Spelled.{Reading}
use Rattle.gx_node.specs.Reading.{Format}
use Rattle.gx_legality.specs.Owner.{OnlyReads}
use Rattle.gx_legality.specs.declared.fault.LegalityFault.{LegalityFault}
use Rattle.gx_legality.specs.declared.fault.LegalityFault.TheVariants as fault
use Rattle.gx_store.specs.Faults.{CanBeRead}
use Rattle.gx_store.specs.Since.{IsSince}
use Rattle.gx_store.specs.Standing.{store_of}
use Rattle.gx_store.specs.State.{IsHeld, IsInOrder, IsSteady, Shelf}
use Rattle.gx_store.specs.declared.fault.StoreFault.{StoreFault}
use Rattle.gx_store.specs.declared.fault.StoreFault.TheVariants as store_fault
use Rattle.gx_node.specs.Store as store
use Rattle.gx_node.specs.Legal.{Legal}
use Rattle.gx_node.specs.Lists.{Each}
use Rattle.gx_node.specs.Trees as trees
use Rattle.gx_node.specs.Trees.{Rules}
use Rattle.gx_node.specs.Writes.{IsSeek}

-- each page in use reads as one with its number that passes
abbrev pub CanAllBeRead : (Contents → Bool) → ℕ → List ℕ → Type 0
CanAllBeRead passes used seen = (page : ℕ) → 1 ≤ page → page ≤ used → IsPassing passes page (bytes_of seen page)

-- no page that is kept has a change
abbrev pub AreClean : Frames → Type 0
AreClean frames = (page : ℕ) → stamp_of (kept frames page) ≡ None

-- a test that passes shows that this holds; one that is refused as damaged shows that it doesn't
abbrev pub Tells : {T : Type 0} → (holds : Type 0) → Result T Refusal → Type 0
Tells holds (Ok done) = holds
Tells holds (Err why) = why ≡ Damaged → holds → ⊥

-- why the index on a device may be refused: a call failed, memory was refused, or it is damaged
abbrev pub IsCause : Refusal → Type 0
IsCause why = (why ≡ DeviceFailed) ⊎ ((why ≡ Memory) ⊎ (why ≡ Damaged))

-- why what is read once all memory was allocated may be refused: a call failed, or it is damaged
abbrev pub IsFaultOrDamage : Refusal → Type 0
IsFaultOrDamage why = (why ≡ DeviceFailed) ⊎ (why ≡ Damaged)

-- a store's refusal as a test's fault
abbrev pub store_refusal_of : StoreFault → Refusal
store_refusal_of store_fault.Device = DeviceFailed
store_refusal_of store_fault.Damaged = Damaged
store_refusal_of store_fault.NoRoom = Memory
store_refusal_of (store_fault.TooFewFrames n) = Memory

-- an opening's refusal by that of its test of pages: a lack of memory is `Memory` alone, a broken tree is damage
abbrev pub refusal_of : LegalityFault StoreFault → Refusal
refusal_of fault.Memory = Memory
refusal_of (fault.Pages refusal) = store_refusal_of refusal
refusal_of (fault.Broken page rule) = Damaged
refusal_of fault.Unsteady = Damaged

-- a test of pages was refused because of what they are
abbrev pub IsDamage : LegalityFault StoreFault → Type 0
IsDamage (fault.Pages store_fault.Damaged) = Unit {0}
IsDamage (fault.Pages refusal) = ⊥
IsDamage fault.Memory = ⊥
IsDamage (fault.Broken page rule) = Unit {0}
IsDamage fault.Unsteady = Unit {0}

-- each entry that was touched is in its leaf, or to the right of it
abbrev pub AllInPlace : {B : Type 0} → Rules B → trees.Tree B → List (Touch (Entry B)) → Type 0
AllInPlace r t touched = Each (λ x. IsSeek r t x.leaf x.entry.row x.entry.key) touched

-- a tree is legal, with all that was touched in its place
pub record IsShownSound {B : Type 0} (r : Rules B) (touched : List (Touch (Entry B))) (t : trees.Tree B) : Type 0 where
  pub legal : Legal r t
  pub placed : AllInPlace r t touched

-- A page of a store over a device is held, and was read right.
pub record IsReadRight {D : Type 0} (passes : ℕ → Contents → Bool) (d : Device) (s : Shelf D) (page : ℕ) : Type 0 where
  pub held : IsHeld s page
  pub order : IsInOrder (passes s.pages) d.sectors s.frames s.used s.pages

-- the pages of a store over a device of a kind
module _ {B D : Type 0} (f : Format B) (passes : ℕ → Contents → Bool) (state : D → Device) where
  abbrev pub IsSteadyStore : Shelf D → Type 0
  IsSteadyStore s = IsSteady (state s.disk) s.frames

  abbrev pub CanReadStore : Shelf D → Type 0
  CanReadStore s = CanBeRead passes (state s.disk) s

  -- the tree that it shows
  abbrev pub shown_tree : Shelf D → trees.Tree B
  shown_tree s = store.tree_of (store_of f (state s.disk).seen s)

  -- it was only read
  abbrev pub OnlyReadsStore : Shelf D → Shelf D → Type 0
  OnlyReadsStore old new = OnlyReads {P = Shelf D} {B = B} IsSteadyStore (λ s. store_of f (state s.disk).seen s) (λ was now page. IsSince passes (state was.disk) (state now.disk) was now page) old new

  -- Its pages in use can be read, its tree is legal, and all that was touched is in its place.
  pub record IsSoundStore (r : Rules B) (touched : List (Touch (Entry B))) (s : Shelf D) : Type 0 where
    pub read : CanAllBeRead (passes s.pages) s.used (state s.disk).seen
    pub shown : IsShownSound r touched (shown_tree s)

module _ {E P : Type 0} (k : Known E P) (r : Reading E P) (passes : Contents → Bool) where
  -- the tree of the pages, with the numbers that were given
  abbrev pub tree_read : Analysis E → List ℕ → Tree P
  tree_read a seen = record { page = area_of r k.pages seen; counter = a.counter; used = a.used }

  -- The pages in use are the device's and can be read; the tree of them is legal, and each entry that an open transaction has touched is in its
  -- leaf, or to the right of it.
  pub record AreSound (a : Analysis E) (seen : List ℕ) : Type 0 where
    pub fits : a.used ≤ k.pages
    pub read : CanAllBeRead passes a.used seen
    pub sound : k.sound (tree_read a seen)
    pub placed : Placed k (tree_read a seen) a.touched
