-- The sweep of a leaf with its record, as a volume's call leaves it: which slots go is known by the test of claims alone.
use Rattle.std.specs.Prelude.{◌≡◌, ◌≤◌, ℕ, Bool, List, [], length, map, Result, Ok, Err}
use Rattle.gx_machine.specs.declared.entry.Entry.{Entry}
use Rattle.gx_disk.specs.Device.{Device}
use Rattle.gx_page.specs.Contents.{Contents}
use Rattle.gx_record.specs.declared.sizes.TheConstants.{MOST_SLOTS}
use Rattle.gx_node.specs.Trees.{Node}
use Rattle.gx_node.specs.Writes.{is_sweepable}
use Rattle.gx_node.specs.Edits.{entry_of}
use Rattle.gx_node.specs.Owner as owner
use Rattle.gx_node.specs.Reading.{Format}
use Rattle.gx_node.specs.Store.{tree_of}
use Rattle.gx_node.specs.declared.fault.StepFault.{StepFault}
use Rattle.gx_node.specs.declared.fault.StepFault.TheVariants.{Pages}
use Rattle.gx_tree.specs.Sweeping.{Planned, slots_from, slots_of}
use Rattle.gx_recovery.specs.Known.{Known, Limits}
use Rattle.gx_index_laws.specs.Classes.{Page}
use Rattle.gx_durable.specs.Spelled.{Reading}
use Rattle.gx_store.specs.Faults as faults
use Rattle.gx_store.specs.Standing.{store_of}
use Rattle.gx_store.specs.State.{IsSteady, Shelf}
use Rattle.gx_store.specs.declared.fault.StoreFault.{StoreFault}
use Rattle.gx_store.specs.declared.fault.StoreFault.TheVariants.{NoRoom}
use Rattle.gx_storage.specs.Changes.{IsLoggedIf, IsUnlogged, begun, begun_at}
use Rattle.gx_storage.specs.Imaged.{is_imaged}
use Rattle.gx_storage.specs.Small.{sweep_room, sweep_said}
use Rattle.gx_storage.specs.State.{Journal, Volume}

-- the slots of a node's marked pairs that no session claims, rising
abbrev pub swept_slots : {B : Type 0} → (Entry B → Bool) → Node B → List ℕ
swept_slots claimed node = slots_from 0 (map (is_sweepable (λ x. claimed (entry_of x))) node.pairs)

-- the slots of what was planned; none if no plan was made
abbrev pub slots_planned : {E : Type 0} → Result Planned E → List ℕ
slots_planned (Ok plan) = slots_of plan
slots_planned (Err why) = []

-- pages as a sweep's event begins, whose record has these slots of a leaf or the leaf's image, by the leaf's bit
abbrev pub begun_sweep : {D : Type 0} → Journal → ℕ → List ℕ → Shelf D → Shelf D
begun_sweep journal page slots s = begun_at journal.log (sweep_room (is_imaged journal.imaged page) (length slots)) s

module _ {B : Type 0} (known : Limits → Known (Entry B) (Page B)) (r : Reading (Entry B) (Page B)) (f : Format B) (passes : ℕ → Contents → Bool)
    (IsTest : (Entry B → Bool) → Type 0) {D : Type 0} (d e : Device) (v w : Volume D) (page : ℕ) where
  -- whichever test the claims answer by, these are the slots that a sweep takes of the leaf
  abbrev pub AreSwept : List ℕ → Type 0
  AreSwept slots = (test : Entry B → Bool) → IsTest test → slots ≡ swept_slots test ((tree_of (store_of f d.seen v.shelf)).node page)

  -- a sweep's room for so many slots, by the page's bit
  abbrev pub room_for : List ℕ → ℕ
  room_for slots = sweep_room (is_imaged v.imaged page) (length slots)

  -- A leaf was swept, if it had slots to take: the record has these slots, or the leaf's image, by the leaf's bit, and
  -- the room for just that was asked for. Else nothing is logged.
  pub record SweepIsLogged (any : Bool) : Type 0 where
    pub slots : List ℕ
    pub exact : IsSteady d v.shelf.frames → AreSwept slots
    pub logged : IsLoggedIf known r f passes (room_for slots) d e v w (sweep_said (is_imaged v.imaged page) page slots e.seen w.shelf) any

  -- A sweep was refused, and nothing is logged: with `NoRoom` only if the log had no room for the record of just these
  -- slots. They are no more than a record may have.
  pub record SweepIsRefused (fault : StepFault StoreFault) : Type 0 where
    pub slots : List ℕ
    pub exact : fault ≡ Pages NoRoom → IsSteady d v.shelf.frames → AreSwept slots
    pub few : length slots ≤ MOST_SLOTS
    pub unlogged : IsUnlogged known r f passes (begun v (room_for slots)) d e v w
    pub why : owner.IsWhy (λ x. faults.IsWhy passes d e (begun v (room_for slots)) w.shelf x) fault
