-- The outcome of an event of any kind.
use Rattle.std.specs.Prelude.{ℕ, ◌≡◌, ◌-◌, Bool, true, false, List}
use Rattle.gx_geom.specs.declared.refusal.Refusal.TheVariants.{BadSession, Failed, NoCall}
use Rattle.gx_machine.specs.declared.entry.Entry.{Entry}
use Rattle.gx_machine.specs.declared.call.Call.{Call}
use Rattle.gx_machine.specs.declared.call.Call.TheVariants.{Begin, Insert, Delete, Search, Commit, Abort}
use Rattle.gx_machine.specs.declared.reply.Reply.TheVariants.{Refused as RefusedCall}
use Rattle.gx_machine.specs.Keys.{Keys}
use Rattle.gx_machine.specs.Machine.{is_session}
use Rattle.gx_disk.specs.Device.{Device}
use Rattle.gx_page.specs.Contents.{Contents}
use Rattle.gx_node.specs.Reading.{Format}
use Rattle.gx_recovery.specs.Known.{Known, Limits}
use Rattle.gx_index_laws.specs.Classes.{Page}
use Rattle.gx_durable.specs.Spelled.{Reading}
use Rattle.gx_events.specs.declared.event.Event.{Event}
use Rattle.gx_events.specs.declared.event.Event.TheVariants.{Ask, Move, LogStep, WritePage, CheckpointStep, Sweep}
use Rattle.gx_events.specs.declared.outcome.Outcome.{Outcome}
use Rattle.gx_events.specs.declared.outcome.Outcome.TheVariants.{Replied, Refused}
use Rattle.gx_phases.specs.declared.phase.Phase.{Phase}
use Rattle.gx_phases.specs.declared.phase.Phase.TheVariants as phase
use Rattle.gx_phases.specs.States.{phase_at}
use Rattle.gx_engine.specs.declared.work.Work.{Work}
use Rattle.gx_engine.specs.Asks.{AskComes}
use Rattle.gx_engine.specs.Checkpoints.{CheckpointSteps}
use Rattle.gx_engine.specs.Flushing.{LogSteps, PageIsWritten}
use Rattle.gx_engine.specs.Commits.{AcknowledgeComes, SealComes}
use Rattle.gx_engine.specs.Searches.{SearchComes}
use Rattle.gx_engine.specs.States.{Parts, runs}
use Rattle.gx_engine.specs.Stepping.{has_call}
use Rattle.gx_engine.specs.Sweeping.{SweepComes}
use Rattle.gx_engine.specs.Undoing.{UndoComes}
use Rattle.gx_engine.specs.Writes.{WriteComes}

-- an event that was only refused, or only got a reply
abbrev pub IsOnly : {B D : Type 0} → Outcome B → Parts B D → Parts B D → Outcome B → Type 0
IsOnly given old new outcome = (outcome ≡ given) × (new ≡ old)

module _ {B : Type 0} (k : Keys B) (known : Limits → Known (Entry B) (Page B)) (r : Reading (Entry B) (Page B)) (f : Format B) (passes : ℕ → Contents → Bool) (IsKey : B → Type 0)
    (spelling : B → List ℕ) (key : ℕ) where
  -- A move of a call that is open. An ask leaves no Begin open, and no Abort.
  abbrev pub CallMoves : {D : Type 0} → Device → Device → ℕ → Parts B D → Parts B D → Call B → Outcome B → Type 0
  CallMoves d e s old new Begin outcome = IsOnly (Refused NoCall) old new outcome
  CallMoves d e s old new (Insert entry) outcome = WriteComes k f passes key d e s (Insert entry) old new outcome
  CallMoves d e s old new (Delete entry) outcome = WriteComes k f passes key d e s (Delete entry) old new outcome
  CallMoves d e s old new (Search query) outcome = SearchComes passes d e s query old new outcome
  CallMoves d e s old new Commit outcome = SealComes s old new outcome
  CallMoves d e s old new Abort outcome = IsOnly (Refused NoCall) old new outcome

  -- by the session's phase
  abbrev pub MovesAt : {D : Type 0} → Device → Device → ℕ → Parts B D → Parts B D → Phase B (Work B) → Outcome B → Type 0
  MovesAt d e s old new phase.Free outcome = IsOnly (Refused NoCall) old new outcome
  MovesAt d e s old new phase.Working outcome = IsOnly (Refused NoCall) old new outcome
  MovesAt d e s old new (phase.Open call work) outcome = CallMoves d e s old new call outcome
  MovesAt d e s old new (phase.Undoing restored work) outcome = UndoComes known r f passes IsKey k spelling key d e s old new outcome
  MovesAt d e s old new (phase.Waiting number) outcome = AcknowledgeComes s number old new outcome

  -- by whether there is such a session, whether it has a call, and whether a fault has ended the engine: the first that holds decides
  abbrev pub MovesBy : {D : Type 0} → Device → Device → (there has failed : Bool) → ℕ → Parts B D → Parts B D → Outcome B → Type 0
  MovesBy d e false has failed s old new outcome = IsOnly (Refused BadSession) old new outcome
  MovesBy d e true false failed s old new outcome = IsOnly (Refused NoCall) old new outcome
  MovesBy d e true true true s old new outcome = IsOnly (Replied (RefusedCall Failed)) old new outcome
  MovesBy d e true true false s old new outcome = MovesAt d e s old new (phase_at (s - 1) old.sessions.phases) outcome

  abbrev pub MoveComes : {D : Type 0} → Device → Device → ℕ → Parts B D → Parts B D → Outcome B → Type 0
  MoveComes d e s old new outcome = MovesBy d e (is_session s) (has_call (phase_at (s - 1) old.sessions.phases)) old.sessions.failed s old new outcome

  -- the outcome of each event
  abbrev pub StepComes : {D : Type 0} → Device → Device → Event B → Parts B D → Parts B D → Outcome B → Type 0
  StepComes d e (Ask s call) old new outcome = AskComes k s call old outcome new
  StepComes d e (Move s) old new outcome = MoveComes d e s old new outcome
  StepComes d e LogStep old new outcome = LogSteps d e old new old.sessions.failed (runs old.checkpoint) outcome
  StepComes d e (WritePage page) old new outcome = PageIsWritten page d e old new old.sessions.failed outcome
  StepComes d e CheckpointStep old new outcome = CheckpointSteps d e old new old.sessions.failed outcome
  StepComes d e (Sweep page) old new outcome = SweepComes k known r f passes page d e old new old.sessions.failed outcome
