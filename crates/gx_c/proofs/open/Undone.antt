-- What an opening and a closing leave of a stage that isn't theirs.
use Rattle.std.proofs.Common.{◌≡◌, ℕ, refl}
use Rattle.gx_class.specs.Traits.{Traits}
use Rattle.gx_disk.specs.Device as disk
use Rattle.gx_geom.specs.Rectangles.{Rectangle}
use Rattle.gx_geom.specs.Solids.{Solid}
use Rattle.gx_machine.specs.Keys.{Members}
use Rattle.gx_queue_disk.specs.declared.disk.QueueDisk.{QueueDisk}
use Rattle.gx_c.specs.Openings.{ClosesEach, OpensAs, OpensPlane, OpensSpace}
use Rattle.gx_c.specs.States.{Opened}
use Rattle.gx_c.specs.declared.held.Stage.{Stage}
use Rattle.gx_c.specs.declared.held.Stage.TheVariants.{Device, Plane, Space}

module _ (shape : Members Rectangle) (traits : Traits Rectangle) (state : QueueDisk → disk.Device) (frames : ℕ) where
  pub undone_opens_plane : (stage : Stage) → ((disk : QueueDisk) → stage ≡ Device disk → ⊥) → OpensPlane (OpensAs shape traits state frames) stage stage 18
  undone_opens_plane (Device disk) none = absurd (none disk refl)
  undone_opens_plane other none = (refl, refl)

module _ (shape : Members Solid) (traits : Traits Solid) (state : QueueDisk → disk.Device) (frames : ℕ) where
  pub undone_opens_space : (stage : Stage) → ((disk : QueueDisk) → stage ≡ Device disk → ⊥) → OpensSpace (OpensAs shape traits state frames) stage stage 18
  undone_opens_space (Device disk) none = absurd (none disk refl)
  undone_opens_space other none = (refl, refl)

module _ (box : Members Rectangle) (boxes : Traits Rectangle) (solid : Members Solid) (solids : Traits Solid)
    (state : QueueDisk → disk.Device) where
  pub undone_closes : (stage : Stage) → ((it : Opened Rectangle) → stage ≡ Plane it → ⊥) → ((it : Opened Solid) → stage ≡ Space it → ⊥) → ClosesEach box boxes solid solids state stage stage 18
  undone_closes (Plane it) none neither = absurd (none it refl)
  undone_closes (Space it) none neither = absurd (neither it refl)
  undone_closes other none neither = (refl, refl)
