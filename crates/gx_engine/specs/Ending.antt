-- What an event that is no session's leaves of the tree and of each session's call.
use Rattle.std.specs.Prelude.{ℕ, ◌≡◌, Bool, List}
use Rattle.gx_machine.specs.declared.entry.Entry.{Entry}
use Rattle.gx_disk.specs.Device.{Device}
use Rattle.gx_page.specs.Contents.{Contents}
use Rattle.gx_node.specs.Reading.{Format}
use Rattle.gx_recovery.specs.Records.{Record}
use Rattle.gx_events.specs.Happenings.{Happening}
use Rattle.gx_index_laws.specs.Classes.{Class, Page}
use Rattle.gx_index_laws.specs.States as index
use Rattle.gx_durable.specs.Spelled.{Reading}
use Rattle.gx_engine.specs.Holds.{Holds, Led}
use Rattle.gx_engine.specs.Moves.{left}
use Rattle.gx_engine.specs.States.{Parts}

module _ {B : Type 0} (c : Class B) (r : Reading (Entry B) (Page B)) (f : Format B) (passes : ℕ → Contents → Bool) where
  -- each session's call has as much left to do as before
  abbrev pub LeavesAll : {D : Type 0} → Parts B D → Parts B D → index.State B → index.State B → Type 0
  LeavesAll old new i j = (s : ℕ) → left c r f passes s new j ≡ left c r f passes s old i

  -- These events happened to an index, whose tree is unchanged, and each session's call has as much left to do as
  -- before.
  pub record Spared {D : Type 0} (d e : Device) (old new : Parts B D) (i : index.State B) (events : List (Happening B)) : Type 0 where
    pub led : Led c r f passes d e new i events
    pub same : index.tree_now c led.index ≡ index.tree_now c i
    pub spares : LeavesAll old new i led.index

  -- whatever index an engine held
  abbrev pub Spares : {D : Type 0} → Device → Device → Parts B D → Parts B D → List (Happening B) → Type 0
  Spares d e old new events = (bodies : List (List (Record (Entry B) (Page B)))) (i : index.State B) → Holds c r f passes d old bodies i
      → Spared d e old new i events

  -- the same, of events of a kind that depends on that index
  abbrev pub SparesSo : {D : Type 0} → Device → Device → Parts B D → Parts B D → (List (Happening B) → Type 0) → Type 0
  SparesSo d e old new AreSo = (bodies : List (List (Record (Entry B) (Page B)))) (i : index.State B) → Holds c r f passes d old bodies i
      → (events : List (Happening B)) × AreSo events × Spared d e old new i events
