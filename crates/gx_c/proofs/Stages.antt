-- What a call leaves of a stage that isn't the one it is of.
use Rattle.std.proofs.Common.{◌≡◌, ℕ, refl}
use Rattle.gx_geom.specs.Rectangles.{Rectangle}
use Rattle.gx_geom.specs.Solids.{Solid}
use Rattle.gx_queue_disk.specs.declared.disk.QueueDisk.{QueueDisk}
use Rattle.gx_c.specs.Stages.{OfDevice, OfOpen, OfPlane, OfSpace}
use Rattle.gx_c.specs.States.{Opened}
use Rattle.gx_c.specs.declared.held.Stage.{Stage}
use Rattle.gx_c.specs.declared.held.Stage.TheVariants.{Device, Plane, Space}

-- nothing was done where no such index is open, or there is no device
pub undone_plane : (P : Opened Rectangle → Opened Rectangle → ℕ → Type 0) (stage : Stage) → ((it : Opened Rectangle) → stage ≡ Plane it → ⊥) → OfPlane P stage stage 18
undone_plane P (Plane it) none = absurd (none it refl)
undone_plane P other none = (refl, refl)

pub undone_space : (P : Opened Solid → Opened Solid → ℕ → Type 0) (stage : Stage) → ((it : Opened Solid) → stage ≡ Space it → ⊥) → OfSpace P stage stage 18
undone_space P (Space it) none = absurd (none it refl)
undone_space P other none = (refl, refl)

pub undone_device : (P : QueueDisk → QueueDisk → ℕ → Type 0) (stage : Stage) → ((disk : QueueDisk) → stage ≡ Device disk → ⊥) → OfDevice P stage stage 18
undone_device P (Device disk) none = absurd (none disk refl)
undone_device P other none = (refl, refl)

pub undone_open : (P : Opened Rectangle → Opened Rectangle → ℕ → Type 0) (S : Opened Solid → Opened Solid → ℕ → Type 0) (stage : Stage) → ((it : Opened Rectangle) → stage ≡ Plane it → ⊥)
    → ((it : Opened Solid) → stage ≡ Space it → ⊥) → OfOpen P S stage stage 18
undone_open P S (Plane it) none neither = absurd (none it refl)
undone_open P S (Space it) none neither = absurd (neither it refl)
undone_open P S other none neither = (refl, refl)
