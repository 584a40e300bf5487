-- The bodies of a log, one by one: the same bytes cut into other bodies are another log, and one of the two may be damaged.
use Rattle.std.specs.Prelude.{◌≡◌, ◌⊎◌, ℕ, zero, suc, List, [], ◌∷◌, ◌++◌, Result, Ok, Err}
use Rattle.gx_geom.specs.declared.refusal.Refusal.{Refusal}
use Rattle.gx_disk.specs.Device as disk
use Rattle.gx_disk.specs.Moments.{Leaves}
use Rattle.gx_glog.specs.declared.extent.TheConstants.{PLACES}
use Rattle.gx_glog.specs.declared.extent.Extent.{Extent}
use Rattle.gx_glog.specs.declared.stage.Stage.{Stage}
use Rattle.gx_glog.specs.declared.stage.Stage.TheVariants.{Body, BodySync, Gate, GateSync, Idle}
use Rattle.gx_glog.specs.declared.stage.Turn.{Turn}
use Rattle.gx_glog.specs.declared.stage.Turn.TheVariants as turn
use Rattle.gx_glog.specs.Layout.{selected_of, body_of, records_in, open_run}
use Rattle.gx_glog.specs.State.{Log}

-- the bytes of the records in each of the first n bodies of an extent
unfoldable pub bodies_in : List ℕ → Extent → ℕ → List (List ℕ)
bodies_in bytes extent zero = []
bodies_in bytes extent (suc n) = bodies_in bytes extent n ++ (records_in (body_of bytes extent n) ∷ [])

-- the bytes of the records in each body of an image's log: those after the leading open gates of the selected extent
unfoldable pub open_bodies : List ℕ → List (List ℕ)
open_bodies image = bodies_in image (selected_of image) (open_run image (selected_of image) 0 PLACES)

-- the bytes of bodies in a row
abbrev pub joined : List (List ℕ) → List ℕ
joined [] = []
joined (body ∷ bodies) = body ++ joined bodies

-- the gated bodies, as they read
abbrev pub gated_bodies : Log → List ℕ → List (List ℕ)
gated_bodies log seen = bodies_in seen log.extent log.gated

-- an image's bodies are the gated ones, or these and the one in flight
abbrev pub AreBodiesOf : List (List ℕ) → List ℕ → List ℕ → Type 0
AreBodiesOf gated flight image = (open_bodies image ≡ gated) ⊎ (open_bodies image ≡ gated ++ (flight ∷ []))

-- the same, by the call that is due: the body in flight doesn't count until its gate is written
abbrev pub ShowsBodies : Stage → List (List ℕ) → List ℕ → List ℕ → Type 0
ShowsBodies Idle gated flight image = open_bodies image ≡ gated
ShowsBodies Body gated flight image = open_bodies image ≡ gated
ShowsBodies BodySync gated flight image = open_bodies image ≡ gated
ShowsBodies Gate gated flight image = AreBodiesOf gated flight image
ShowsBodies GateSync gated flight image = AreBodiesOf gated flight image

-- The same of a log with a turn. From the selector's write on, an image has the gated bodies, or the head's alone.
abbrev pub ShowsBodiesIn : Turn → Stage → List (List ℕ) → List ℕ → List ℕ → Type 0
ShowsBodiesIn turn.Closed stage gated flight image = ShowsBodies stage gated flight image
ShowsBodiesIn turn.Body stage gated flight image = ShowsBodies stage gated flight image
ShowsBodiesIn turn.BodySync stage gated flight image = ShowsBodies stage gated flight image
ShowsBodiesIn turn.Gate stage gated flight image = ShowsBodies stage gated flight image
ShowsBodiesIn turn.GateSync stage gated flight image = ShowsBodies stage gated flight image
ShowsBodiesIn turn.Selector stage gated flight image = (open_bodies image ≡ gated) ⊎ (open_bodies image ≡ flight ∷ [])
ShowsBodiesIn turn.Done stage gated flight image = (open_bodies image ≡ gated) ⊎ (open_bodies image ≡ flight ∷ [])

-- the gated bodies are those of before, or those and the one that was in flight once the last call is made
abbrev pub GatesBodies : List (List ℕ) → List ℕ → List (List ℕ) → Result Stage Refusal → Type 0
GatesBodies gated flight new (Ok GateSync) = new ≡ gated ++ (flight ∷ [])
GatesBodies gated flight new (Ok Body) = new ≡ gated
GatesBodies gated flight new (Ok BodySync) = new ≡ gated
GatesBodies gated flight new (Ok Gate) = new ≡ gated
GatesBodies gated flight new (Ok Idle) = new ≡ gated
GatesBodies gated flight new (Err refusal) = new ≡ gated

-- the gated bodies are those of before, or after the last call of a turn the head's
abbrev pub SelectsBodies : List (List ℕ) → List ℕ → List (List ℕ) → Result Turn Refusal → Type 0
SelectsBodies gated head new (Ok turn.Done) = new ≡ head ∷ []
SelectsBodies gated head new (Ok turn.Closed) = new ≡ gated
SelectsBodies gated head new (Ok turn.Body) = new ≡ gated
SelectsBodies gated head new (Ok turn.BodySync) = new ≡ gated
SelectsBodies gated head new (Ok turn.Gate) = new ≡ gated
SelectsBodies gated head new (Ok turn.GateSync) = new ≡ gated
SelectsBodies gated head new (Ok turn.Selector) = new ≡ gated
SelectsBodies gated head new (Err refusal) = new ≡ gated

-- The bodies that a step of a log keeps, even if it fails. At each moment within it each image has those that were
-- gated before, or these and the one that was in flight.
pub record KeepsBodies (old new : Log) (before now : disk.Device) (result : Result Stage Refusal) : Type 0 where
  pub gated : GatesBodies (gated_bodies old before.seen) old.flight (gated_bodies new now.seen) result
  pub moments : Leaves (ShowsBodies old.stage (gated_bodies old before.seen) old.flight) before now

-- the same of a step of a turn: there an image may have the head's body alone from the selector's write on
pub record KeepsBodiesTurning (old new : Log) (before now : disk.Device) (result : Result Turn Refusal) : Type 0 where
  pub gated : SelectsBodies (gated_bodies old before.seen) old.flight (gated_bodies new now.seen) result
  pub moments : Leaves (ShowsBodiesIn old.turn old.stage (gated_bodies old before.seen) old.flight) before now
