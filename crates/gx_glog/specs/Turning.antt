-- What a step of a turn to the other extent does to the device, and keeps.
use Rattle.std.specs.Prelude.{◌≡◌, ◌⊎◌, ℕ, ◌+◌, ◌<◌, ◌≤◌, List, ◌++◌, length, slice_index, Bool, Result, Ok, Err}
use Rattle.gx_geom.specs.declared.refusal.Refusal.{Refusal}
use Rattle.gx_disk.specs.declared.layout.TheConstants.{LOG_AT, LOG_SECTORS}
use Rattle.gx_disk.specs.Device as disk
use Rattle.gx_disk.specs.Device.{Elapses, Touches, Writes, Syncs}
use Rattle.gx_disk.specs.Moments.{Leaves}
use Rattle.gx_glog.specs.declared.turn.TheConstants.{GATES_SIZE}
use Rattle.gx_glog.specs.declared.extent.TheConstants.{BODY_ROOM, PLACES, SELECTOR}
use Rattle.gx_glog.specs.declared.extent.Extent.{Extent}
use Rattle.gx_glog.specs.declared.extent.Extent.TheVariants.{A, B}
use Rattle.gx_glog.specs.declared.filling.Appended.{Appended}
use Rattle.gx_glog.specs.declared.filling.Appended.TheVariants.{At, NoRoom}
use Rattle.gx_glog.specs.declared.stage.Stage.TheVariants.{Body, Gate}
use Rattle.gx_glog.specs.declared.stage.Turn.{Turn}
use Rattle.gx_glog.specs.declared.stage.Turn.TheVariants as turn
use Rattle.gx_glog.specs.Layout.{gates_of, other_of}
use Rattle.gx_glog.specs.Bodies.{IsZero}
use Rattle.gx_glog.specs.Cuts.{KeepsBodiesTurning}
use Rattle.gx_glog.specs.State.{Log, turning}
use Rattle.gx_glog.specs.Standing.{On, MayTurn, gated_of, ShowsIn}
use Rattle.gx_glog.specs.Steps.{Calls}
use Rattle.gx_glog.specs.Tails.{tail_of}

-- The record's bytes come after those of the head, whose place is 0. There is no room for it if they don't fit, nor
-- while a turn is under way, whose head is complete, and nothing then changes.
abbrev pub PutsFirst : List ℕ → Log → Log → Appended → Type 0
PutsFirst bytes old new (At place) = (length old.flight + length bytes ≤ BODY_ROOM) × (place ≡ 0) × (new ≡ record old { flight = old.flight ++ bytes }) × (old.turn ≡ turn.Closed)
PutsFirst bytes old new NoRoom = ((BODY_ROOM < length old.flight + length bytes) ⊎ (1 ≤ turning old.turn)) × (new ≡ old)

-- the sectors of an extent's gates, all closed
pub record AreClosedGates (bytes : List ℕ) : Type 0 where
  pub whole : length bytes ≡ GATES_SIZE
  pub zeros : IsZero bytes

-- the first byte of a selector that is written
abbrev pub selector_of : Extent → ℕ
selector_of A = 0
selector_of B = 0x5A

-- the one sector that is written of a selector
pub record IsSelector (extent : Extent) (bytes : List ℕ) : Type 0 where
  pub whole : length bytes ≡ 512
  pub selects : slice_index bytes 0 ≡ selector_of extent
  pub zeros : (k : ℕ) → 0 < k → slice_index bytes k ≡ 0

-- The device call of each step of a turn to an extent, whose first body gets the head: its first so many sectors are
-- written.
abbrev pub TurnCalls : Turn → Extent → ℕ → List ℕ → disk.Device → disk.Device → Result Turn Refusal → Type 0
TurnCalls turn.Closed to sectors head before now result =
    (bytes : List ℕ) × AreClosedGates bytes × Writes (gates_of to) PLACES bytes before now result
TurnCalls turn.Body to sectors head before now result = Calls Body to 0 sectors head before now result
TurnCalls turn.BodySync to sectors head before now result = Syncs before now result
TurnCalls turn.Gate to sectors head before now result = Calls Gate to 0 sectors head before now result
TurnCalls turn.GateSync to sectors head before now result = Syncs before now result
TurnCalls turn.Selector to sectors head before now result =
    (bytes : List ℕ) × IsSelector to bytes × Writes SELECTOR 1 bytes before now result
TurnCalls turn.Done to sectors head before now result = Syncs before now result

-- the device call of a log's turn to the other extent, whose first body is written up to its place's tail
abbrev pub TurnCallFor : Turn → Log → disk.Device → disk.Device → Result Turn Refusal → Type 0
TurnCallFor turn log before now result =
    TurnCalls turn (other_of log.extent) (tail_of log.tails (other_of log.extent) 0) log.flight before now result

-- the gated records are those of before, or after the last call those of the head
abbrev pub Selects : List ℕ → List ℕ → List ℕ → Result Turn Refusal → Type 0
Selects gated head new (Ok turn.Done) = new ≡ head
Selects gated head new (Ok turn.Closed) = new ≡ gated
Selects gated head new (Ok turn.Body) = new ≡ gated
Selects gated head new (Ok turn.BodySync) = new ≡ gated
Selects gated head new (Ok turn.Gate) = new ≡ gated
Selects gated head new (Ok turn.GateSync) = new ≡ gated
Selects gated head new (Ok turn.Selector) = new ≡ gated
Selects gated head new (Err refusal) = new ≡ gated

-- the sectors that a call of a turn may touch: the selector alone, or gates and bodies alone
abbrev pub TouchesIn : Turn → disk.Device → disk.Device → Type 0
TouchesIn turn.Selector before now = Touches 2 1 before now
TouchesIn turn.Closed before now = Touches LOG_AT LOG_SECTORS before now
TouchesIn turn.Body before now = Touches LOG_AT LOG_SECTORS before now
TouchesIn turn.BodySync before now = Touches LOG_AT LOG_SECTORS before now
TouchesIn turn.Gate before now = Touches LOG_AT LOG_SECTORS before now
TouchesIn turn.GateSync before now = Touches LOG_AT LOG_SECTORS before now
TouchesIn turn.Done before now = Touches LOG_AT LOG_SECTORS before now

-- What a step of a turn keeps, even if it fails. At each moment within it the log of every image is what was gated, or
-- from the selector's write on that or the head. Only sectors of the log are touched, and time goes on as in one call
-- of the device.
pub record KeepsTurning (old new : Log) (before now : disk.Device) (result : Result Turn Refusal) : Type 0 where
  pub on : On new now.seen now.pending
  pub gated : Selects (gated_of old before.seen) old.flight (gated_of new now.seen) result
  pub moments : Leaves (ShowsIn old.turn old.stage (gated_of old before.seen) old.flight) before now
  pub bodies : KeepsBodiesTurning old new before now result
  pub touches : TouchesIn old.turn before now
  pub time : Elapses before now

-- a turn goes on, or after its last call the log is on the device, in the other extent
abbrev pub GoesOnTurning : Log → List ℕ → (ℕ → Bool) → Result Turn Refusal → Type 0
GoesOnTurning new seen pending (Ok turn.Done) = On new seen pending
GoesOnTurning new seen pending (Ok turn.Closed) = MayTurn new seen pending
GoesOnTurning new seen pending (Ok turn.Body) = MayTurn new seen pending
GoesOnTurning new seen pending (Ok turn.BodySync) = MayTurn new seen pending
GoesOnTurning new seen pending (Ok turn.Gate) = MayTurn new seen pending
GoesOnTurning new seen pending (Ok turn.GateSync) = MayTurn new seen pending
GoesOnTurning new seen pending (Ok turn.Selector) = MayTurn new seen pending
GoesOnTurning new seen pending (Err refusal) = MayTurn new seen pending

-- The same of a log that may turn: it says nothing of later gates of the extent that it leads from.
pub record KeepsMayTurn (old new : Log) (before now : disk.Device) (result : Result Turn Refusal) : Type 0 where
  pub stands : GoesOnTurning new now.seen now.pending result
  pub gated : Selects (gated_of old before.seen) old.flight (gated_of new now.seen) result
  pub moments : Leaves (ShowsIn old.turn old.stage (gated_of old before.seen) old.flight) before now
  pub bodies : KeepsBodiesTurning old new before now result
  pub touches : TouchesIn old.turn before now
  pub time : Elapses before now
