-- The event that a move waits for.
use Rattle.std.specs.Prelude.{ℕ, ◌≡◌, ◌⊎◌, ◌<◌, ◌≤◌, ◌^◌, true, false, List, Err}
use Rattle.gx_geom.specs.declared.refusal.Refusal.{Refusal}
use Rattle.gx_class.specs.Traits.{Traits, own}
use Rattle.gx_disk.specs.Device.{Device}
use Rattle.gx_machine.specs.declared.call.Call.{Call}
use Rattle.gx_machine.specs.declared.entry.Entry.{Entry}
use Rattle.gx_machine.specs.Keys.{Members}
use Rattle.gx_node.specs.Reading.{format_of, is_node}
use Rattle.gx_pool.specs.State.{IsWritable}
use Rattle.gx_recovery.specs.Known.{Limits}
use Rattle.gx_recovery.specs.Records.{Record}
use Rattle.gx_index_laws.specs.Classes.{Page}
use Rattle.gx_index_laws.specs.States as index
use Rattle.gx_durable.specs.Classes.{class_of, reading_of}
use Rattle.gx_events.specs.declared.event.Event.{Event}
use Rattle.gx_events.specs.declared.event.Event.TheVariants.{Ask, CheckpointStep, LogStep, Move, WritePage}
use Rattle.gx_events.specs.declared.outcome.Need.{Need}
use Rattle.gx_events.specs.declared.outcome.Need.TheVariants as need
use Rattle.gx_events.specs.declared.outcome.Outcome.{Outcome}
use Rattle.gx_events.specs.declared.outcome.Outcome.TheVariants.{Help, More, Refused}
use Rattle.gx_engine.specs.Checkpoints.{CheckpointSteps}
use Rattle.gx_engine.specs.Ending.{LeavesAll}
use Rattle.gx_engine.specs.Flushing.{LogSteps, PageIsWritten}
use Rattle.gx_engine.specs.Holds.{Holds}
use Rattle.gx_engine.specs.States.{IsOrderly, Parts, is_due, runs}
use Rattle.gx_engine.specs.Sweeping.{BringComes}
use Rattle.gx_engine.specs.Backlog.{backlog, log_left}
use Rattle.gx_engine.specs.Driven.{IsGivenUp, IsUnderWay}
use Rattle.gx_engine.specs.Made.{Makes}

-- the event that is named
abbrev pub event_of : {B : Type 0} → Need → Event B
event_of need.Log = LogStep
event_of (need.Write page) = WritePage page
event_of need.Checkpoint = CheckpointStep

-- The event that is named has work to do: the log has a call to make, and no checkpoint runs whose calls the log's would be; the page may be
-- written; a checkpoint runs, or is due.
abbrev pub HasWork : {B D : Type 0} → Need → Parts B D → Type 0
HasWork need.Log e = (runs e.checkpoint ≡ false) × (1 ≤ log_left e.volume.log)
HasWork (need.Write page) e = IsWritable e.volume.shelf.frames page
HasWork need.Checkpoint e = is_due e ≡ true

-- An event did work, and leaves less to flush; or it was refused.
abbrev pub DoesWork : {B D : Type 0} → Outcome B → Parts B D → Parts B D → Type 0
DoesWork given old new = ((given ≡ More) × (backlog new < backlog old)) ⊎ ((why : Refusal) × (given ≡ Refused why))

-- the outcome of the event that is named, by its own call
abbrev pub HelpComes : {B D : Type 0} → Device → Device → Need → Parts B D → Parts B D → Outcome B → Type 0
HelpComes d e need.Log old new outcome = LogSteps d e old new old.sessions.failed (runs old.checkpoint) outcome
HelpComes d e (need.Write page) old new outcome = PageIsWritten page d e old new old.sessions.failed outcome
HelpComes d e need.Checkpoint old new outcome = CheckpointSteps d e old new old.sessions.failed outcome

-- a session's event that starts its call, or goes on with it
abbrev pub StartsCall : {B : Type 0} → ℕ → Event B → Type 0
StartsCall s (Ask t call) = t ≡ s
StartsCall s (Move t) = t ≡ s
StartsCall s event = ⊥

module _ {B D : Type 0} (shape : Members B) (traits : Traits B) (state : D → Device) (l : Limits) where
  -- an engine holds an index of the class over its device
  abbrev pub HoldsIndex : Parts B D → List (List (Record (Entry B) (Page B))) → index.State B → Type 0
  HoldsIndex e bodies i = Holds (class_of shape traits.is_proper l) (reading_of traits.said (format_of (own traits))) (format_of (own traits)) (is_node (format_of (own traits))) (state e.volume.shelf.disk) e bodies i

  -- this holds if an engine holds an index of the class, and this event starts or goes on with a session's call
  abbrev pub WhereHeld : Parts B D → ℕ → Event B → Type 0 → Type 0
  WhereHeld e s first P = (bodies : List (List (Record (Entry B) (Page B)))) (i : index.State B) → HoldsIndex e bodies i → StartsCall s first → P

  -- What a move waits for has work to do.
  abbrev pub NamesWork : Type 0
  NamesWork = (old new : Parts B D) (s : ℕ) (n : Need) (bodies : List (List (Record (Entry B) (Page B)))) (i : index.State B) → HoldsIndex old bodies i
      → Makes shape traits state old (Move s) (Help n) new → HasWork n new

  -- What the bringing of a page waits for has work to do, and no more is left to flush than before.
  abbrev pub PageNamesWork : Type 0
  PageNamesWork = (old new : Parts B D) (n : Need) (bodies : List (List (Record (Entry B) (Page B)))) (i : index.State B) → HoldsIndex new bodies i → IsOrderly old → IsOrderly new
      → BringComes {A = Unit {0}} (is_node (format_of (own traits))) (state old.volume.shelf.disk) (state new.volume.shelf.disk) old new (Err (Help n)) → HasWork n new × (backlog new ≤ backlog old)

  -- A move that waits leaves each session's call as much to do as before.
  abbrev pub WaitingLeavesAll : Type 0
  WaitingLeavesAll = (old new : Parts B D) (s : ℕ) (n : Need) (bodies : List (List (Record (Entry B) (Page B)))) (i : index.State B) (holds : HoldsIndex old bodies i)
      → (made : Makes shape traits state old (Move s) (Help n) new)
      → LeavesAll (class_of shape traits.is_proper l) (reading_of traits.said (format_of (own traits))) (format_of (own traits)) (is_node (format_of (own traits))) old new i (made.steps l bodies i holds).led.index

  -- A session's move and the events that its driver names after it are fewer than 2^55 before the call ends.
  abbrev pub CallEnds : Type 0
  CallEnds = (old new : Parts B D) (s count : ℕ) (due : Event B) (bodies : List (List (Record (Entry B) (Page B)))) (i : index.State B) → HoldsIndex old bodies i
      → IsUnderWay (Makes shape traits state) s (Move s) old count due new → count < 2 ^ 55

  -- A call that is asked is not given up.
  abbrev pub AskedEnds : Type 0
  AskedEnds = (old new : Parts B D) (s : ℕ) (call : Call B) (bodies : List (List (Record (Entry B) (Page B)))) (i : index.State B) → HoldsIndex old bodies i
      → IsGivenUp (Makes shape traits state) s (Ask s call) old new → ⊥
