-- How a store goes on while an event's steps use it.
use Rattle.std.specs.Prelude.{◌≡◌, ◌⊎◌, ℕ, ◌≤◌, Bool, length, Some, IsSome}
use Rattle.gx_disk.specs.Device.{Device}
use Rattle.gx_page.specs.Contents.{Contents}
use Rattle.gx_pool.specs.Bringing.{OnlyRead}
use Rattle.gx_pool.specs.Edits.{later}
use Rattle.gx_pool.specs.State.{State, kept, stamp_of}
use Rattle.gx_store.specs.Faults.{CanBeRead}
use Rattle.gx_store.specs.Standing.{standing}
use Rattle.gx_store.specs.State.{Shelf, IsSteady}

-- A page is unchanged: it has the same stamp, and what it has is the same where it is dirty. And on a device that reads
-- steadily the store shows it as before, though it may have come into a frame or gone from it.
pub record IsAsItWas (d e : Device) (old new : State) (page : ℕ) : Type 0 where
  pub stamp : stamp_of (kept new page) ≡ stamp_of (kept old page)
  pub dirty : IsSome (stamp_of (kept old page)) → kept new page ≡ kept old page
  pub stands : IsSteady d old → standing new e.seen page ≡ standing old d.seen page

-- a page has a change of that batch
abbrev pub IsStamped : ℕ → State → State → ℕ → Type 0
IsStamped batch old new page = stamp_of (kept new page) ≡ Some (later batch (stamp_of (kept old page)))

-- The device was only read, pages were taken and splits counted, and nothing else of the numbers changed. Each page is
-- unchanged, or has a change of the event's batch. What was steady is, and what could be read can be.
pub record GoesOn {D : Type 0} (passes : ℕ → Contents → Bool) (d e : Device) (old new : Shelf D) : Type 0 where
  pub device : OnlyRead d e
  pub faults : d.faults ≤ e.faults
  pub used : old.used ≤ new.used
  pub counter : old.counter ≤ new.counter
  pub pages : new.pages ≡ old.pages
  pub batch : new.batch ≡ old.batch
  pub has_room : new.has_room ≡ old.has_room
  pub gated : new.frames.gated ≡ old.frames.gated
  pub frames : length new.frames.marks ≡ length old.frames.marks
  pub each : (page : ℕ) → IsAsItWas d e old.frames new.frames page ⊎ IsStamped old.batch old.frames new.frames page
  pub steady : IsSteady d old.frames → IsSteady e new.frames
  pub readable : IsSteady d old.frames → CanBeRead passes d old → CanBeRead passes e new

-- So the store has gone on since a moment, and this page is unchanged.
pub record IsSince {D : Type 0} (passes : ℕ → Contents → Bool) (d e : Device) (old new : Shelf D) (page : ℕ) : Type 0 where
  pub goes_on : GoesOn passes d e old new
  pub same : IsAsItWas d e old.frames new.frames page
