-- The stamps of a pool's dirty pages as places of batches.
use Rattle.std.specs.Prelude.{◌≡◌, ◌⊎◌, ℕ, ◌+◌, ◌<◌, ◌≤◌, Bool, true, false, Some, ◌++◌, length}
use Rattle.gx_glog.specs.State.{Log}
use Rattle.gx_pool.specs.State.{State, kept, stamp_of}
use Rattle.gx_recovery.specs.Logged.{Logged, all_records}
use Rattle.gx_durable.specs.Area.{is_given}

-- A pool knows each batch that is gated, and no other; and of each dirty page whose stamp is the place of a batch that
-- began, that batch or one before gives it. So a page that may be written is one that gated records give.
pub record Stamped {E P : Type 0} (log : Log) (frames : State) (s : Logged E P) : Type 0 where
  pub behind : frames.gated + 1 ≡ log.gated
  pub places : log.gated ≤ log.used
  pub gated : (p place : ℕ) → stamp_of (kept frames p) ≡ Some place → place < log.gated → is_given s.gated p ≡ true
  pub flight : (p place : ℕ) → stamp_of (kept frames p) ≡ Some place → place < log.used → is_given (s.gated ++ s.flight) p ≡ true

-- each dirty page is given by some record: none was changed whose record isn't appended yet
abbrev pub AllSaid : {E P : Type 0} → State → Logged E P → Type 0
AllSaid frames s = (p place : ℕ) → stamp_of (kept frames p) ≡ Some place → is_given (all_records s) p ≡ true

-- The same except for pages that were changed, whose record isn't appended yet.
abbrev pub SaidBut : {E P : Type 0} → (ℕ → Bool) → State → Logged E P → Type 0
SaidBut changed frames s = (p place : ℕ) → stamp_of (kept frames p) ≡ Some place → changed p ≡ false → is_given (all_records s) p ≡ true

-- what is dirty was so with the same stamp, or has a stamp from this place on
abbrev pub OnlyLater : ℕ → State → State → Type 0
OnlyLater place old new = (p stamp : ℕ) → stamp_of (kept new p) ≡ Some stamp → (stamp_of (kept old p) ≡ Some stamp) ⊎ (place ≤ stamp)

-- a batch of this place began, or it is the one that fills
abbrev pub IsPlaced : Log → ℕ → Type 0
IsPlaced log place = (place < log.used) ⊎ ((place ≡ log.used) × (1 ≤ length log.filling))

-- each dirty page was changed for a batch that began, or for the one that fills
abbrev pub AllPlaced : Log → State → Type 0
AllPlaced log frames = (p place : ℕ) → stamp_of (kept frames p) ≡ Some place → IsPlaced log place

-- no dirty page was changed for a batch after the one of this place
abbrev pub NoneLater : ℕ → State → Type 0
NoneLater last frames = (p place : ℕ) → stamp_of (kept frames p) ≡ Some place → place ≤ last
