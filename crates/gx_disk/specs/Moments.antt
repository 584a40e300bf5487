-- Runs of calls: what a crash at any moment of them may leave.
use Rattle.std.specs.Prelude.{◌⊎◌, ℕ, ◌≤◌, List}
use Rattle.gx_disk.specs.Device.{Device}

-- Time went on. A crash since an earlier moment may have left what it might have left by then, or what has P.
pub record Leaves (P : List ℕ → Type 0) (old new : Device) : Type 0 where
  pub later : old.moment ≤ new.moment
  pub only : (t : ℕ) (image : List ℕ) → t ≤ old.moment → new.left_since t image → old.left_since t image ⊎ P image
  pub keeps : (t : ℕ) (image : List ℕ) → t ≤ old.moment → old.left_since t image → new.left_since t image
