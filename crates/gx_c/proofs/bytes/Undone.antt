-- What the bytes' calls leave of a stage that isn't theirs.
use Rattle.std.proofs.Common.{◌≡◌, ℕ, List, refl}
use Rattle.gx_c.specs.Bytes.{AddsBytes, BeginsBytes, MakesDevice}
use Rattle.gx_c.specs.declared.held.Stage.{Stage}
use Rattle.gx_c.specs.declared.held.Stage.TheVariants.{Empty, Bytes}

pub undone_begins : (stage : Stage) → (stage ≡ Empty → ⊥) → BeginsBytes stage stage 18
undone_begins Empty none = absurd (none refl)
undone_begins other none = (refl, refl)

pub undone_adds : (more : List ℕ) (stage : Stage) → ((bytes : List ℕ) → stage ≡ Bytes bytes → ⊥) → AddsBytes more stage stage 18
undone_adds more (Bytes bytes) none = absurd (none bytes refl)
undone_adds more other none = (refl, refl)

pub undone_makes : (stage : Stage) → ((bytes : List ℕ) → stage ≡ Bytes bytes → ⊥) → MakesDevice stage stage 18
undone_makes (Bytes bytes) none = absurd (none bytes refl)
undone_makes other none = (refl, refl)
