-- Scripts for an index whose text the calls alone decide.
use Rattle.std.specs.Prelude.{ℕ, ◌≡◌, false, List}
use Rattle.gx_class.specs.Traits.{Traits}
use Rattle.gx_disk.specs.Device.{Device}
use Rattle.gx_machine.specs.declared.entry.Entry.{Entry}
use Rattle.gx_machine.specs.Keys.{Members}
use Rattle.gx_machine.specs.Machine.{Machine}
use Rattle.gx_events.specs.Engines.{SeenAs}
use Rattle.gx_recovery.specs.Known.{Limits}
use Rattle.gx_recovery.specs.Records.{Record}
use Rattle.gx_index_laws.specs.Classes.{Page}
use Rattle.gx_index_laws.specs.States as index
use Rattle.gx_index_laws.specs.States.{engine_of}
use Rattle.gx_durable.specs.Classes.{class_of}
use Rattle.gx_script.specs.declared.line.Line.{Line}
use Rattle.gx_script.specs.Corners.{Grammar}
use Rattle.gx_script.specs.Scripts.{IsScript}
use Rattle.gx_plain.specs.Decided.{AnswersDecided, Rests}
use Rattle.gx_engine.specs.Helping.{HoldsIndex}
use Rattle.gx_engine.specs.Made.{Makes}
use Rattle.gx_restart.specs.Called.{CallsIndex}
use Rattle.gx_restart.specs.States.{State}

module _ {B D : Type 0} (grammar : Grammar B) (shape : Members B) (traits : Traits B) (state : D → Device) where
  -- lines that are answered, each with a reply that calls decide
  abbrev pub IsDecidedScript : ℕ → List (Line B) → State B D → List ℕ → State B D → Type 0
  IsDecidedScript = IsScript grammar (AnswersDecided (CallsIndex (Makes shape traits state)))

module _ {B D : Type 0} (shape : Members B) (traits : Traits B) (state : D → Device) where
  -- of whatever machine it is seen as, where it goes on and no call is open, over an engine that holds an index's state
  abbrev pub OfItsMachine : Limits → State B D → (Machine B → Type 0) → Type 0
  OfItsMachine l old P = old.ended ≡ false → (bodies : List (List (Record (Entry B) (Page B)))) (i : index.State B)
      → HoldsIndex shape traits state l old.engine bodies i
      → (m : Machine B) → SeenAs (class_of shape traits.is_proper l).keys (engine_of (class_of shape traits.is_proper l) i) m → Rests m → P m
