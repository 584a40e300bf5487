-- What a step of the log does to the device, and keeps.
use Rattle.std.specs.Prelude.{◌≡◌, ℕ, ◌+◌, ◌*◌, ◌≤◌, List, ◌++◌, take, Result, Ok, Err}
use Rattle.gx_geom.specs.declared.refusal.Refusal.{Refusal}
use Rattle.gx_disk.specs.declared.layout.TheConstants.{LOG_AT, LOG_SECTORS}
use Rattle.gx_disk.specs.Device as disk
use Rattle.gx_disk.specs.Device.{Elapses, Touches, Writes, Syncs}
use Rattle.gx_disk.specs.Moments.{Leaves}
use Rattle.gx_glog.specs.declared.extent.TheConstants.{BODY_SECTORS}
use Rattle.gx_glog.specs.declared.stage.Stage.{Stage}
use Rattle.gx_glog.specs.declared.stage.Stage.TheVariants.{Body, BodySync, Gate, GateSync, Idle}
use Rattle.gx_glog.specs.declared.extent.Extent.{Extent}
use Rattle.gx_glog.specs.Layout.{gates_of, bodies_of}
use Rattle.gx_glog.specs.Bodies.{IsBody, IsOpenGate}
use Rattle.gx_glog.specs.Cuts.{KeepsBodies}
use Rattle.gx_glog.specs.State.{Log}
use Rattle.gx_glog.specs.Standing.{On, gated_of, Shows}
use Rattle.gx_glog.specs.Tails.{tail_of}

-- The device call of each stage, for the batch of place k. Of a body the first so many sectors are written.
abbrev pub Calls
    : {T : Type 0} → Stage → Extent → ℕ → ℕ → List ℕ → disk.Device → disk.Device → Result T Refusal → Type 0
Calls Idle extent k sectors flight before now result = Unit {0}
Calls Body extent k sectors flight before now result =
    (bytes : List ℕ)
    × IsBody flight bytes
    × (sectors ≤ BODY_SECTORS)
    × Writes (bodies_of extent + BODY_SECTORS * k) sectors (take (512 * sectors) bytes) before now result
Calls BodySync extent k sectors flight before now result = Syncs before now result
Calls Gate extent k sectors flight before now result =
    (bytes : List ℕ) × IsOpenGate bytes × Writes (gates_of extent + k) 1 bytes before now result
Calls GateSync extent k sectors flight before now result = Syncs before now result

-- the device call of a stage for a log's batch in flight, whose body is written up to its place's tail
abbrev pub CallFor : {T : Type 0} → Stage → Log → disk.Device → disk.Device → Result T Refusal → Type 0
CallFor stage log before now result =
    Calls stage log.extent log.gated (tail_of log.tails log.extent log.gated) log.flight before now result

-- the device call that a result means: the one that was made, or the one that failed and is still due
abbrev pub CallOf : Log → disk.Device → disk.Device → Result Stage Refusal → Type 0
CallOf new before now (Ok stage) = CallFor stage new before now (Ok stage)
CallOf new before now (Err refusal) = CallFor {T = Stage} new.stage new before now (Err refusal)

-- the gated records are those of before, or those and the ones that were in flight once the last call is made
abbrev pub Gates : List ℕ → List ℕ → List ℕ → Result Stage Refusal → Type 0
Gates gated flight new (Ok GateSync) = new ≡ gated ++ flight
Gates gated flight new (Ok Body) = new ≡ gated
Gates gated flight new (Ok BodySync) = new ≡ gated
Gates gated flight new (Ok Gate) = new ≡ gated
Gates gated flight new (Ok Idle) = new ≡ gated
Gates gated flight new (Err refusal) = new ≡ gated

-- What a step of a log keeps, even if it fails. At each moment within it the log of every image is what was gated
-- before, or that and what was in flight, cut into the same bodies. Only sectors of the log are touched, and time goes
-- on as in one call of the device.
pub record Keeps (old new : Log) (before now : disk.Device) (result : Result Stage Refusal) : Type 0 where
  pub on : On new now.seen now.pending
  pub gated : Gates (gated_of old before.seen) old.flight (gated_of new now.seen) result
  pub moments : Leaves (Shows old.stage (gated_of old before.seen) old.flight) before now
  pub bodies : KeepsBodies old new before now result
  pub touches : Touches LOG_AT LOG_SECTORS before now
  pub time : Elapses before now
