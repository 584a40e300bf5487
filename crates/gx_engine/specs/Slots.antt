-- What a sweep removes from a leaf: the slots of its marked pairs that no session claims; and the record of that, and
-- its room.
use Rattle.std.specs.Prelude.{ℕ, ◌≡◌, Bool, List, length}
use Rattle.gx_machine.specs.declared.entry.Entry.{Entry}
use Rattle.gx_machine.specs.Keys.{Keys}
use Rattle.gx_disk.specs.Device.{Device}
use Rattle.gx_node.specs.Reading.{Format}
use Rattle.gx_node.specs.Store.{tree_of}
use Rattle.gx_node.specs.Trees.{Node}
use Rattle.gx_record.specs.Rec.{Rec}
use Rattle.gx_txn.specs.Tables.{claimed_in}
use Rattle.gx_store.specs.Standing.{store_of}
use Rattle.gx_store.specs.State.{IsSteady}
use Rattle.gx_storage.specs.Imaged.{is_imaged}
use Rattle.gx_storage.specs.Small.{sweep_room, sweep_said}
use Rattle.gx_storage.specs.State.{Volume}
use Rattle.gx_storage.specs.Sweeping.{swept_slots}
use Rattle.gx_engine.specs.States.{Parts}

-- the node that a page shows
abbrev pub node_shown : {B D : Type 0} → Format B → Device → ℕ → Parts B D → Node B
node_shown f d page e = (tree_of (store_of f d.seen e.volume.shelf)).node page

-- whether some session claims an entry
abbrev pub is_held : {B D : Type 0} → Keys B → Parts B D → Entry B → Bool
is_held k e entry = claimed_in k entry e.sessions.table

-- these are the slots of a leaf's marked pairs that no session claims
abbrev pub AreTaken : {B D : Type 0} → (Entry B → Bool) → Format B → Device → Volume D → ℕ → List ℕ → Type 0
AreTaken claimed f d v page slots = IsSteady d v.shelf.frames → slots ≡ swept_slots claimed ((tree_of (store_of f d.seen v.shelf)).node page)

-- The record of a sweep of these slots, and its room: small if the log's extent has an image of the leaf, else with its
-- image.
abbrev pub slots_said : {D : Type 0} → Volume D → ℕ → List ℕ → Device → Volume D → Rec
slots_said v page slots e w = sweep_said (is_imaged v.imaged page) page slots e.seen w.shelf

abbrev pub slots_room : {D : Type 0} → Volume D → ℕ → List ℕ → ℕ
slots_room v page slots = sweep_room (is_imaged v.imaged page) (length slots)

-- a sweep of the leaf on this page asks for so much room
pub record IsSweepRoom {B D : Type 0} (k : Keys B) (f : Format B) (d : Device) (e : Parts B D) (page size : ℕ) : Type 0 where
  pub slots : List ℕ
  pub taken : AreTaken (is_held k e) f d e.volume page slots
  pub is : size ≡ slots_room e.volume page slots
