-- An engine that is seen as a machine in which no session has a transaction.
use Rattle.std.specs.Prelude.{ℕ, Bool, List}
use Rattle.gx_disk.specs.Device.{Device}
use Rattle.gx_events.specs.Engines.{SeenAs, opened_machine}
use Rattle.gx_engine.specs.Holds.{Holds}
use Rattle.gx_engine.specs.States.{Parts}
use Rattle.gx_index_laws.specs.Classes.{Page}
use Rattle.gx_index_laws.specs.States as index
use Rattle.gx_index_laws.specs.States.{engine_of}
use Rattle.gx_machine.specs.declared.entry.Entry.{Entry}
use Rattle.gx_machine.specs.Keys.{Members, keys_of}
use Rattle.gx_node.specs.Reading.{Format, is_node}
use Rattle.gx_durable.specs.Classes.{class_of, reading_of}
use Rattle.gx_recovery.specs.Known.{Limits}
use Rattle.gx_recovery.specs.Records.{Record}

-- An engine over a device holds an index that is seen as the machine with this set, this number and eight idle sessions.
pub record IsSeenIdle {B D : Type 0} (shape : Members B) (proper : B → Bool) (said : List ℕ → B) (f : Format B) (d : Device) (engine : Parts B D) : Type 0 where
  pub limits : Limits
  pub bodies : List (List (Record (Entry B) (Page B)))
  pub index : index.State B
  pub holds : Holds (class_of shape proper limits) (reading_of said f) f (is_node f) d engine bodies index
  pub number : ℕ
  pub set : List (Entry B)
  pub seen : SeenAs (keys_of shape) (engine_of (class_of shape proper limits) index) (opened_machine number set)
