-- How a checkpoint goes on.
use Rattle.std.specs.Prelude.{ℕ, ◌≡◌, ◌⊎◌, nat_le, Bool, true, false, Some, None, [], Result, Ok, Err}
use Rattle.gx_geom.specs.declared.refusal.Refusal.{Refusal}
use Rattle.gx_geom.specs.declared.refusal.Refusal.TheVariants.{Damaged, Device as DeviceRefusal}
use Rattle.gx_disk.specs.Device.{Device, Counts}
use Rattle.gx_glog.specs.declared.stage.Stage.{Stage}
use Rattle.gx_glog.specs.declared.stage.Stage.TheVariants.{Idle}
use Rattle.gx_glog.specs.declared.stage.Turn.{Turn}
use Rattle.gx_glog.specs.declared.stage.Turn.TheVariants as turn
use Rattle.gx_glog.specs.State.{Turns}
use Rattle.gx_pool.specs.State.{NoneDirty}
use Rattle.gx_durable.specs.Turns.{told_result}
use Rattle.gx_store.specs.declared.fault.StoreFault.{StoreFault}
use Rattle.gx_index_laws.specs.declared.TheConstants.{CHECKPOINT_AT}
use Rattle.gx_storage.specs.Flushing.{IsLeastWritable}
use Rattle.gx_storage.specs.Imaged.{imaged_after}
use Rattle.gx_storage.specs.State.{Volume}
use Rattle.gx_events.specs.declared.outcome.Outcome.{Outcome}
use Rattle.gx_events.specs.declared.outcome.Outcome.TheVariants.{More, Nothing, Refused}
use Rattle.gx_phases.specs.Moves.{failed_state}
use Rattle.gx_engine.specs.declared.checkpoint.Checkpoint.{Checkpoint}
use Rattle.gx_engine.specs.declared.checkpoint.Checkpoint.TheVariants.{Off, Running, Turning}
use Rattle.gx_engine.specs.Flushing.{IsEnded, LogComes, LogGoes, PageIsWritten}
use Rattle.gx_engine.specs.States.{Parts}

-- nothing is in flight, and nothing waits for the next batch
pub record IsQuiet {D : Type 0} (v : Volume D) : Type 0 where
  pub idle : v.log.stage ≡ Idle
  pub quiet : v.log.filling ≡ []

-- the engine has failed, and nothing else has changed
abbrev pub IsBroken : {B D : Type 0} → Refusal → Parts B D → Parts B D → Outcome B → Type 0
IsBroken why old new outcome = (outcome ≡ Refused why) × (new ≡ record old { sessions = failed_state old.sessions })

-- While a batch is in flight or fills: the log's next call.
pub record GatesNext {B D : Type 0} (d e : Device) (old new : Parts B D) (outcome : Outcome B) : Type 0 where
  pub busy : IsQuiet old.volume → ⊥
  pub result : Result Stage Refusal
  pub goes : LogGoes d e old.volume new.volume result
  pub comes : LogComes old new outcome result

-- Once the log is quiet, while a page is dirty: the least page that may be written is.
pub record WritesNext {B D : Type 0} (d e : Device) (old new : Parts B D) (outcome : Outcome B) : Type 0 where
  pub quiet : IsQuiet old.volume
  pub page : ℕ
  pub least : IsLeastWritable old.volume.shelf.frames (Some page)
  pub writes : PageIsWritten page d e old new false outcome

-- The same if pages are dirty, and none may be written: a device that isn't honest.
pub record FindsNoPage {B D : Type 0} (old new : Parts B D) (outcome : Outcome B) : Type 0 where
  pub quiet : IsQuiet old.volume
  pub dirty : NoneDirty old.volume.shelf.frames → ⊥
  pub none : IsLeastWritable old.volume.shelf.frames None
  pub broken : IsBroken Damaged old new outcome

-- of dirty pages, the least that may be written is; or there is none such
abbrev pub WritesDirty : {B D : Type 0} → Device → Device → Parts B D → Parts B D → Outcome B → Type 0
WritesDirty d e old new outcome = WritesNext d e old new outcome ⊎ FindsNoPage old new outcome

-- the volume over its device now, with the present log and another head
abbrev pub settled_volume : {D : Type 0} → Volume D → Volume D → Volume D
settled_volume v w = record v { log = record v.log { flight = w.log.flight }; shelf = record v.shelf { disk = w.shelf.disk } }

-- the head is put, and the log turns; or there was no room for it
abbrev pub HeadComes : {B D : Type 0} → Parts B D → Parts B D → Outcome B → Result (Unit {0}) StoreFault → Type 0
HeadComes old new outcome (Ok done) = (outcome ≡ More) × (new ≡ record old { volume = settled_volume old.volume new.volume; checkpoint = Turning })
HeadComes old new outcome (Err fault) =
    (outcome ≡ Refused Damaged) × (new ≡ record old { volume = settled_volume old.volume new.volume; sessions = failed_state old.sessions })

abbrev pub SyncComes : {B D : Type 0} → Parts B D → Parts B D → Outcome B → Result (Unit {0}) Refusal → Type 0
SyncComes old new outcome (Ok done) = (put : Result (Unit {0}) StoreFault) × HeadComes old new outcome put
SyncComes {B} {D} old new outcome (Err why) =
    (outcome ≡ Refused DeviceRefusal)
    × (new ≡ record old { volume = record old.volume { shelf = record old.volume.shelf { disk = new.volume.shelf.disk } }; sessions = failed_state old.sessions })

-- Once no page is dirty: the pages are synced, and then the head of the renewed log is put in memory.
pub record BeginsTurn {B D : Type 0} (d e : Device) (old new : Parts B D) (outcome : Outcome B) : Type 0 where
  pub quiet : IsQuiet old.volume
  pub clean : NoneDirty old.volume.shelf.frames
  pub result : Result (Unit {0}) Refusal
  pub counts : Counts 1 d e result
  pub comes : SyncComes old new outcome result

-- a checkpoint that runs goes on
abbrev pub RunsOn : {B D : Type 0} → Device → Device → Parts B D → Parts B D → Outcome B → Type 0
RunsOn d e old new outcome = GatesNext d e old new outcome ⊎ (WritesDirty d e old new outcome ⊎ BeginsTurn d e old new outcome)

-- after the turn's last call the checkpoint is over
abbrev pub after_call : Turn → Checkpoint
after_call turn.Done = Off
after_call turn.Closed = Turning
after_call turn.Body = Turning
after_call turn.BodySync = Turning
after_call turn.Gate = Turning
after_call turn.GateSync = Turning
after_call turn.Selector = Turning

abbrev pub TurnComes : {B D : Type 0} → Parts B D → Parts B D → Outcome B → Result Turn Refusal → Type 0
TurnComes old new outcome (Ok call) = (outcome ≡ More) × (new ≡ record old { volume = new.volume; checkpoint = after_call call })
TurnComes old new outcome (Err why) = (outcome ≡ Refused DeviceRefusal) × (new ≡ record old { volume = new.volume; sessions = failed_state old.sessions })

-- The turn's next call was made, or it failed.
pub record TurnsNext {B D : Type 0} (d e : Device) (old new : Parts B D) (outcome : Outcome B) : Type 0 where
  pub result : Result Turn Refusal
  pub counts : Counts 1 d e result
  pub turns : Turns old.volume.log new.volume.log result
  pub only : new.volume ≡ record old.volume { log = new.volume.log; shelf = record old.volume.shelf { disk = new.volume.shelf.disk; frames = told_result result old.volume.shelf.frames }; imaged = imaged_after result old.volume.imaged }
  pub comes : TurnComes old new outcome result

-- if none runs, one is begun once `CHECKPOINT_AT` places of the extent are taken, and goes on at once
abbrev pub StepsOff : {B D : Type 0} → Device → Device → Parts B D → Parts B D → Bool → Outcome B → Type 0
StepsOff d e old new false outcome = (outcome ≡ Nothing) × (new ≡ old)
StepsOff d e old new true outcome = RunsOn d e (record old { checkpoint = Running }) new outcome

-- by the checkpoint's stage
abbrev pub StepsFrom : {B D : Type 0} → Device → Device → Parts B D → Parts B D → Checkpoint → Outcome B → Type 0
StepsFrom d e old new Off outcome = StepsOff d e old new (nat_le CHECKPOINT_AT old.volume.log.used) outcome
StepsFrom d e old new Running outcome = RunsOn d e old new outcome
StepsFrom d e old new Turning outcome = TurnsNext d e old new outcome

-- A checkpoint's next step, by whether a fault has ended the engine.
abbrev pub CheckpointSteps : {B D : Type 0} → Device → Device → Parts B D → Parts B D → Bool → Outcome B → Type 0
CheckpointSteps d e old new true outcome = IsEnded old new outcome
CheckpointSteps d e old new false outcome = StepsFrom d e old new old.checkpoint outcome
