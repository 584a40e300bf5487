-- What a handle has, before and after a call.
use Rattle.std.specs.Prelude.{◌≡◌, ℕ, Option, Some}
use Rattle.gx_geom.specs.Rectangles.{Rectangle}
use Rattle.gx_geom.specs.Solids.{Solid}
use Rattle.gx_queue_disk.specs.declared.disk.QueueDisk.{QueueDisk}
use Rattle.gx_c.specs.States.{Opened}
use Rattle.gx_c.specs.declared.held.Held.{Held}
use Rattle.gx_c.specs.declared.held.Stage.{Stage}
use Rattle.gx_c.specs.declared.held.Stage.TheVariants.{Device, Plane, Space}

-- the handle was created
abbrev pub IsCreated : Option Held → Type 0
IsCreated held = (x : Held) × (held ≡ Some x)

-- of what a handle had and has
abbrev pub OfHeld : (Held → Held → Type 0) → Option Held → Option Held → Type 0
OfHeld P (Some old) (Some new) = P old new
OfHeld P old new = ⊥

-- of its stage; the calls that it keeps for C are the same
abbrev pub OfStage : (Stage → Stage → Type 0) → Option Held → Option Held → Type 0
OfStage P = OfHeld (λ old new. P old.stage new.stage × (new.calls ≡ old.calls))

-- the status where a handle has nothing that a call is made of
abbrev pub NOTHING : ℕ
NOTHING = 18

-- nothing was done
abbrev pub IsUndone : Stage → Stage → ℕ → Type 0
IsUndone old new status = (status ≡ NOTHING) × (new ≡ old)

-- of the index that is open, by its class
abbrev pub OfOpen : (Opened Rectangle → Opened Rectangle → ℕ → Type 0) → (Opened Solid → Opened Solid → ℕ → Type 0)
    → Stage → Stage → ℕ → Type 0
OfOpen P S (Plane old) (Plane new) status = P old new status
OfOpen P S (Plane old) new status = ⊥
OfOpen P S (Space old) (Space new) status = S old new status
OfOpen P S (Space old) new status = ⊥
OfOpen P S old new status = IsUndone old new status

-- of an open index of boxes of the plane, or of space
abbrev pub OfPlane : (Opened Rectangle → Opened Rectangle → ℕ → Type 0) → Stage → Stage → ℕ → Type 0
OfPlane P (Plane old) (Plane new) status = P old new status
OfPlane P (Plane old) new status = ⊥
OfPlane P old new status = IsUndone old new status

abbrev pub OfSpace : (Opened Solid → Opened Solid → ℕ → Type 0) → Stage → Stage → ℕ → Type 0
OfSpace P (Space old) (Space new) status = P old new status
OfSpace P (Space old) new status = ⊥
OfSpace P old new status = IsUndone old new status

-- of a device with no index open
abbrev pub OfDevice : (QueueDisk → QueueDisk → ℕ → Type 0) → Stage → Stage → ℕ → Type 0
OfDevice P (Device old) (Device new) status = P old new status
OfDevice P (Device old) new status = ⊥
OfDevice P old new status = IsUndone old new status
