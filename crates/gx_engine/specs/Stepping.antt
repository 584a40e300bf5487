-- One event of any kind.
use Rattle.std.specs.Prelude.{ℕ, Bool, true, false, List}
use Rattle.gx_machine.specs.declared.entry.Entry.{Entry}
use Rattle.gx_disk.specs.Device.{Device}
use Rattle.gx_page.specs.Contents.{Contents}
use Rattle.gx_node.specs.Reading.{Format}
use Rattle.gx_events.specs.Happenings as laws
use Rattle.gx_recovery.specs.Records.{Record}
use Rattle.gx_index_laws.specs.Classes.{Class, Page}
use Rattle.gx_index_laws.specs.States as index
use Rattle.gx_index_laws.specs.States.{engine_of}
use Rattle.gx_durable.specs.Spelled.{Reading}
use Rattle.gx_events.specs.declared.event.Event.{Event}
use Rattle.gx_events.specs.declared.event.Event.TheVariants.{Ask, Move, LogStep, WritePage, CheckpointStep, Sweep}
use Rattle.gx_events.specs.declared.outcome.Outcome.{Outcome}
use Rattle.gx_events.specs.Steps.{AreOf}
use Rattle.gx_phases.specs.declared.phase.Phase.{Phase}
use Rattle.gx_phases.specs.declared.phase.Phase.TheVariants as phase
use Rattle.gx_engine.specs.declared.work.Work.{Work}
use Rattle.gx_engine.specs.Ending.{LeavesAll}
use Rattle.gx_engine.specs.Holds.{Holds, Led}
use Rattle.gx_engine.specs.Moves.{Lowers}
use Rattle.gx_engine.specs.States.{Parts}

-- a session has a call that isn't answered
abbrev pub has_call : {B : Type 0} → Phase B (Work B) → Bool
has_call phase.Free = false
has_call phase.Working = false
has_call (phase.Open call work) = true
has_call (phase.Undoing restored work) = true
has_call (phase.Waiting number) = true

module _ {B : Type 0} (c : Class B) (r : Reading (Entry B) (Page B)) (f : Format B) (passes : ℕ → Contents → Bool) where
  -- What an event leaves to do: a move lowers it; a step of the log or of a checkpoint and a page's write leave each
  -- session's call as much. Of an ask and of a sweep nothing is said.
  abbrev pub LowersBy : {D : Type 0} → Event B → Outcome B → Parts B D → Parts B D → index.State B → index.State B → Type 0
  LowersBy (Ask s call) outcome old new i j = Unit {0}
  LowersBy (Move s) outcome old new i j = Lowers c r f passes s outcome old new i j
  LowersBy LogStep outcome old new i j = LeavesAll c r f passes old new i j
  LowersBy (WritePage page) outcome old new i j = LeavesAll c r f passes old new i j
  LowersBy CheckpointStep outcome old new i j = LeavesAll c r f passes old new i j
  LowersBy (Sweep page) outcome old new i j = Unit {0}

  -- An event with its outcome is these events of the index, the engine holds what they led to, a move that goes on leaves less, and the
  -- flusher's events leave as much.
  pub record Stepped {D : Type 0} (d e : Device) (event : Event B) (old new : Parts B D) (outcome : Outcome B) (i : index.State B) : Type 0 where
    pub events : List (laws.Happening B)
    pub are : AreOf (engine_of c i) event outcome events
    pub led : Led c r f passes d e new i events
    pub lowers : LowersBy event outcome old new i led.index

  -- whatever index an engine held
  abbrev pub Steps : {D : Type 0} → Device → Device → Event B → Parts B D → Parts B D → Outcome B → Type 0
  Steps d e event old new outcome = (bodies : List (List (Record (Entry B) (Page B)))) (i : index.State B) → Holds c r f passes d old bodies i
      → Stepped d e event old new outcome i
