-- One event of an open index, and what C gets of its outcome.
use Rattle.std.specs.Prelude.{◌≡◌, ◌==◌, if◌then◌else◌, ℕ, List, Option, None, Some}
use Rattle.gx_class.specs.Traits.{Traits}
use Rattle.gx_disk.specs.Device.{Device}
use Rattle.gx_geom.specs.Rectangles.{Rectangle}
use Rattle.gx_geom.specs.Solids.{Solid}
use Rattle.gx_machine.specs.Keys.{Members}
use Rattle.gx_machine.specs.declared.call.Call.TheVariants as call
use Rattle.gx_machine.specs.declared.entry.Entry.{Entry}
use Rattle.gx_events.specs.declared.event.Event.{Event}
use Rattle.gx_events.specs.declared.event.Event.TheVariants.{Ask, Move, LogStep, WritePage, CheckpointStep, Sweep}
use Rattle.gx_events.specs.declared.outcome.Need.TheVariants as need
use Rattle.gx_events.specs.declared.outcome.Outcome.{Outcome}
use Rattle.gx_events.specs.declared.outcome.Outcome.TheVariants.{Replied, More, Help, Nothing, Refused}
use Rattle.gx_engine.specs.Calls.{TellsAs}
use Rattle.gx_engine.specs.Made.{Makes}
use Rattle.gx_queue_disk.specs.declared.disk.QueueDisk.{QueueDisk}
use Rattle.gx_restart.specs.Called.{StepsIndex}
use Rattle.gx_restart.specs.Setting.{RunsOnAs}
use Rattle.gx_restart.specs.States.{State}
use Rattle.gx_c.specs.Asking.{keeps_found}
use Rattle.gx_c.specs.States.{Opened}
use Rattle.gx_c.specs.Statuses.{number_in, refused, replied}
use Rattle.gx_c.specs.Stages.{NOTHING, OfOpen}
use Rattle.gx_c.specs.declared.events.SentEvent.{SentEvent}
use Rattle.gx_c.specs.declared.events.SentOutcome.{SentOutcome}
use Rattle.gx_c.specs.declared.events.TheConstants.{ASK_BEGIN, ASK_COMMIT, ASK_ABORT, MOVE, LOG_STEP, WRITE_PAGE, CHECKPOINT_STEP, SWEEP}
use Rattle.gx_c.specs.declared.events.TheConstants.{REPLIED, MORE, IDLE, HELP_LOG, HELP_WRITE, HELP_CHECKPOINT}
use Rattle.gx_c.specs.declared.held.Stage.{Stage}

-- the event that C sends, if it is of a kind
abbrev pub event_of : {B : Type 0} → SentEvent → Option (Event B)
event_of sent =
    if sent.kind == ASK_BEGIN then Some (Ask sent.session call.Begin) else if sent.kind == ASK_COMMIT then Some (Ask sent.session call.Commit)
    else if sent.kind == ASK_ABORT then Some (Ask sent.session call.Abort) else if sent.kind == MOVE then Some (Move sent.session)
    else if sent.kind == LOG_STEP then Some LogStep else if sent.kind == WRITE_PAGE then Some (WritePage sent.page)
    else if sent.kind == CHECKPOINT_STEP then Some CheckpointStep else if sent.kind == SWEEP then Some (Sweep sent.page) else None

-- the outcome of a reply without a number, and of an event that isn't made
abbrev pub ended : SentOutcome
ended = record { kind = REPLIED; page = 0; number = 0 }

-- an outcome as C has it: its kind; the page that has to be written first, and the number of a commit
abbrev pub sent_outcome : {B : Type 0} → Outcome B → SentOutcome
sent_outcome (Replied reply) = record { kind = REPLIED; page = 0; number = number_in reply 0 }
sent_outcome More = record { kind = MORE; page = 0; number = 0 }
sent_outcome (Help need.Log) = record { kind = HELP_LOG; page = 0; number = 0 }
sent_outcome (Help (need.Write page)) = record { kind = HELP_WRITE; page = page; number = 0 }
sent_outcome (Help need.Checkpoint) = record { kind = HELP_CHECKPOINT; page = 0; number = 0 }
sent_outcome Nothing = record { kind = IDLE; page = 0; number = 0 }
sent_outcome (Refused why) = ended

-- its status
abbrev pub stepped : {B : Type 0} → Outcome B → ℕ
stepped (Replied reply) = replied reply
stepped (Refused why) = refused why
stepped other = 0

-- what sessions found, after this outcome of a session's event
abbrev pub keeps_outcome : {B : Type 0} → ℕ → Outcome B → List (List (Entry B)) → List (List (Entry B))
keeps_outcome session (Replied reply) found = keeps_found session reply found
keeps_outcome session other found = found

module _ {B : Type 0} (shape : Members B) (traits : Traits B) (state : QueueDisk → Device) where
  -- An index made an event, with this outcome.
  pub record MakesEvent (event : Event B) (old new : State B QueueDisk) (given : Outcome B) : Type 0 where
    pub steps : StepsIndex (Makes shape traits state) old event given new
    pub told : TellsAs state old.engine new.engine given
    pub runs : RunsOnAs shape traits state old.engine new.engine

  -- C gets its outcome and the status of that, and what this session found is kept.
  pub record MakesOpen (session : ℕ) (event : Event B) (outcome : SentOutcome) (old new : Opened B) (status : ℕ) : Type 0 where
    pub given : Outcome B
    pub makes : MakesEvent event old.index new.index given
    pub outcome_is : outcome ≡ sent_outcome given
    pub status_is : status ≡ stepped given
    pub keeps : new.found ≡ keeps_outcome session given old.found

  -- of the event that C sends, if it is of a kind
  abbrev pub StepsFor : ℕ → Option (Event B) → SentOutcome → Opened B → Opened B → ℕ → Type 0
  StepsFor session (Some event) outcome old new status = MakesOpen session event outcome old new status
  StepsFor session None outcome old new status = (status ≡ NOTHING) × (new ≡ old)

  abbrev pub StepsOpen : SentEvent → SentOutcome → Opened B → Opened B → ℕ → Type 0
  StepsOpen event outcome old new status = StepsFor event.session (event_of event) outcome old new status

module _ (box : Members Rectangle) (boxes : Traits Rectangle) (solid : Members Solid) (solids : Traits Solid)
    (state : QueueDisk → Device) where
  -- of whatever index is open
  abbrev pub StepsEach : SentEvent → SentOutcome → Stage → Stage → ℕ → Type 0
  StepsEach event outcome = OfOpen (StepsOpen box boxes state event outcome) (StepsOpen solid solids state event outcome)
