-- What the calls of a log and a pool make of the state that a device carries.
use Rattle.std.specs.Prelude.{◌≡◌, ℕ, ◌-◌, ◌≤◌, List, [], ◌∷◌, ◌++◌, Result, Ok, Err}
use Rattle.gx_geom.specs.declared.refusal.Refusal.{Refusal}
use Rattle.gx_glog.specs.declared.filling.Appended.{Appended}
use Rattle.gx_glog.specs.declared.filling.Appended.TheVariants.{At, NoRoom}
use Rattle.gx_glog.specs.declared.stage.Stage.{Stage}
use Rattle.gx_glog.specs.declared.stage.Stage.TheVariants.{Body, BodySync, Gate, GateSync, Idle}
use Rattle.gx_glog.specs.declared.stage.Turn.{Turn}
use Rattle.gx_glog.specs.declared.stage.Turn.TheVariants as turn
use Rattle.gx_glog.specs.State.{Log}
use Rattle.gx_pool.specs.State.{State}
use Rattle.gx_recovery.specs.Known.{Known}
use Rattle.gx_recovery.specs.Records.{Record}
use Rattle.gx_recovery.specs.Renewal.{renewed}
use Rattle.gx_recovery.specs.Logged.{Logged, durable, latest, appended, begun, gate_synced, SameKept}

-- a record was appended, or there was no room for it
abbrev pub added : {E P : Type 0} → Appended → Record E P → Logged E P → Logged E P
added (At place) r s = appended r s
added NoRoom r s = s

-- where no batch is in flight and something fills, a step begins with that batch
abbrev pub with_batch : {E P : Type 0} → Stage → List ℕ → Logged E P → Logged E P
with_batch Idle [] s = s
with_batch Idle (byte ∷ bytes) s = begun s
with_batch Body filling s = s
with_batch BodySync filling s = s
with_batch Gate filling s = s
with_batch GateSync filling s = s

-- the sync of its gate alone makes the batch in flight durable
abbrev pub stepped : {E P : Type 0} → Result Stage Refusal → Logged E P → Logged E P
stepped (Ok GateSync) s = gate_synced s
stepped (Ok Body) s = s
stepped (Ok BodySync) s = s
stepped (Ok Gate) s = s
stepped (Ok Idle) s = s
stepped (Err refusal) s = s

-- and it is a body more then
abbrev pub bodies_stepped : {E P : Type 0} → Result Stage Refusal → List (List (Record E P)) → Logged E P → List (List (Record E P))
bodies_stepped (Ok GateSync) bodies s = bodies ++ s.flight ∷ []
bodies_stepped (Ok Body) bodies s = bodies
bodies_stepped (Ok BodySync) bodies s = bodies
bodies_stepped (Ok Gate) bodies s = bodies
bodies_stepped (Ok Idle) bodies s = bodies
bodies_stepped (Err refusal) bodies s = bodies

-- what a pool learns after a step, by how many places are taken: the last one's batch is gated once its gate is synced
abbrev pub told : Stage → ℕ → State → State
told GateSync used frames = record frames { gated = used - 1 }
told Body used frames = frames
told BodySync used frames = frames
told Gate used frames = frames
told Idle used frames = frames

-- the same of a step that may have failed
abbrev pub told_frames : Result Stage Refusal → Log → State → State
told_frames (Ok stage) new frames = told stage new.used frames
told_frames (Err refusal) new frames = frames

-- No set changes and none is added, and durable doesn't fall.
pub record GoesOn {E P : Type 0} (k : Known E P) (old new : Logged E P) : Type 0 where
  pub rises : durable k old ≤ durable k new
  pub same_latest : latest k new ≡ latest k old
  pub same_sets : SameKept k old new (durable k new) (latest k old)

-- a turn's last call puts the renewed log, which is one body, in the place of the gated records
abbrev pub turned : {E P : Type 0} → Known E P → ℕ → Result Turn Refusal → Logged E P → Logged E P
turned k next (Ok turn.Done) s = record s { gated = renewed k next s.gated }
turned k next (Ok turn.Closed) s = s
turned k next (Ok turn.Body) s = s
turned k next (Ok turn.BodySync) s = s
turned k next (Ok turn.Gate) s = s
turned k next (Ok turn.GateSync) s = s
turned k next (Ok turn.Selector) s = s
turned k next (Err refusal) s = s

abbrev pub bodies_turned : {E P : Type 0} → Known E P → ℕ → Result Turn Refusal → List (List (Record E P)) → Logged E P → List (List (Record E P))
bodies_turned k next (Ok turn.Done) bodies s = renewed k next s.gated ∷ []
bodies_turned k next (Ok turn.Closed) bodies s = bodies
bodies_turned k next (Ok turn.Body) bodies s = bodies
bodies_turned k next (Ok turn.BodySync) bodies s = bodies
bodies_turned k next (Ok turn.Gate) bodies s = bodies
bodies_turned k next (Ok turn.GateSync) bodies s = bodies
bodies_turned k next (Ok turn.Selector) bodies s = bodies
bodies_turned k next (Err refusal) bodies s = bodies
