-- An engine over pages and a log, as the set machine that it is seen as.
use Rattle.std.specs.Prelude.{ℕ, Bool, List}
use Rattle.gx_machine.specs.declared.entry.Entry.{Entry}
use Rattle.gx_machine.specs.Keys.{Members, keys_of}
use Rattle.gx_machine.specs.Machine.{Machine}
use Rattle.gx_disk.specs.Device.{Device}
use Rattle.gx_node.specs.Reading.{Format, is_node}
use Rattle.gx_durable.specs.Head.{head_in}
use Rattle.gx_events.specs.Engines.{SeenAs}
use Rattle.gx_recovery.specs.Known.{Limits}
use Rattle.gx_recovery.specs.Records.{Record}
use Rattle.gx_index_laws.specs.Classes.{Class, Page}
use Rattle.gx_index_laws.specs.States as index
use Rattle.gx_index_laws.specs.States.{engine_of}
use Rattle.gx_durable.specs.Classes.{class_of, reading_of}
use Rattle.gx_engine.specs.Holds.{Holds}
use Rattle.gx_engine.specs.States.{Parts}

-- the limits that an engine's index has: how many entries a node may have, how many pages the device has, and what it says of itself
abbrev pub limits_in : {B D : Type 0} → (D → Device) → Parts B D → Limits
limits_in state e =
    record { most = e.volume.most; pages = e.volume.shelf.pages; head = head_in (state e.volume.shelf.disk).seen }

-- a class of keys within an engine's limits
abbrev pub class_in : {B D : Type 0} → Members B → (B → Bool) → (D → Device) → Parts B D → Class B
class_in shape proper state e = class_of shape proper (limits_in state e)

-- The engine holds an index over its device, and that index is seen as this machine.
pub record Sees {B D : Type 0} (shape : Members B) (proper : B → Bool) (said : List ℕ → B) (f : Format B) (state : D → Device) (e : Parts B D) (m : Machine B) : Type 0 where
  pub bodies : List (List (Record (Entry B) (Page B)))
  pub index : index.State B
  pub holds : Holds (class_in shape proper state e) (reading_of said f) f (is_node f) (state e.volume.shelf.disk) e bodies index
  pub seen : SeenAs (keys_of shape) (engine_of (class_in shape proper state e) index) m
