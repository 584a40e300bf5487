-- What contracts see of a store of pages.
use Rattle.std.specs.Prelude.{◌≡◌, ℕ, ◌+◌, ◌*◌, ◌<◌, ◌≤◌, Bool, true, false, not, ◌&&◌, is_none, None, Some, IsSome}
use Rattle.gx_disk.specs.declared.layout.TheConstants.{MAX_PAGES, PAGES_AT, PAGE_SECTORS}
use Rattle.gx_disk.specs.Device.{Device}
use Rattle.gx_page.specs.Contents.{Contents}
use Rattle.gx_pool.specs.Laws.{IsBacked, IsPassed}
use Rattle.gx_pool.specs.Marks.{is_held}
use Rattle.gx_pool.specs.State.{State, kept, stamp_of}

pub record Shelf (D : Type 0) : Type 0 where
  -- the device
  pub disk : D
  -- the pages in frames
  pub frames : State
  -- the greatest page in use
  pub used : ℕ
  -- how many splits of nodes other than the root there were
  pub counter : ℕ
  -- how many pages there are, taken or not
  pub pages : ℕ
  -- the place of the event's batch, which is the stamp of its changes
  pub batch : ℕ
  -- whether the log has room for the event's record
  pub has_room : Bool

-- The pages fit the device and those that are taken are some of them; each kept page has its own number and passes the test; and
-- no page beyond those that are taken is kept.
pub record IsInOrder (passes : Contents → Bool) (sectors : ℕ) (frames : State) (used pages : ℕ) : Type 0 where
  pub few : pages ≤ MAX_PAGES
  pub inside : PAGES_AT + PAGE_SECTORS * pages ≤ sectors
  pub taken : used ≤ pages
  pub passed : IsPassed passes frames
  pub none_above : (page : ℕ) → used < page → kept frames page ≡ None

-- whether a page may go: it is clean, and the event doesn't hold it
abbrev pub may_go : State → ℕ → Bool
may_go frames page = is_none (stamp_of (kept frames page)) && not (is_held frames.held (Some page))

-- a page is taken and kept, and may not go
pub record IsHeld {D : Type 0} (s : Shelf D) (page : ℕ) : Type 0 where
  pub from : 1 ≤ page
  pub to : page ≤ s.used
  pub kept : IsSome (kept s.frames page)
  pub stays : may_go s.frames page ≡ false

-- the device reads steadily, and each clean page is what the device has
pub record IsSteady (d : Device) (frames : State) : Type 0 where
  pub honest : d.honest ≡ true
  pub backed : IsBacked frames d.seen
