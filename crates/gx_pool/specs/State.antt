-- What frames hold.
use Rattle.std.specs.Prelude.{◌≡◌, ℕ, zero, suc, ◌+◌, ◌<◌, ◌≤◌, List, [], length, slice_index, slice_index_or, count_by, Bool, true, false, not, ◌&&◌, cond, Option, Some, None, IsSome, is_none, take}
use Rattle.gx_disk.specs.declared.layout.TheConstants.{MAX_PAGES}
use Rattle.gx_page.specs.Contents.{Contents}
use Rattle.gx_page.specs.Edits.{blank}
use Rattle.gx_pool.specs.declared.frames.TheConstants.{FRAMES}
use Rattle.gx_pool.specs.declared.mark.FrameMark.{FrameMark}
use Rattle.gx_pool.specs.Marks.{clean, empty, is_dirty, is_gated, is_held, is_upper, NoLeaf}

pub record State : Type 0 where
  -- the page in each frame
  pub pages : List Contents
  -- what is known of each frame besides
  pub marks : List FrameMark
  -- the frame of each page, by number
  pub places : List (Option ℕ)
  -- the pages that the event holds
  pub held : List ℕ
  -- the last batch that is gated
  pub gated : ℕ

-- a page that is kept, and the greatest batch that has a change of it, none if it is as the device has it
pub record Kept : Type 0 where
  pub page : Contents
  pub stamp : Option ℕ

abbrev pub mark_at : State → ℕ → FrameMark
mark_at s i = slice_index_or s.marks i empty

abbrev pub place_of : State → ℕ → Option ℕ
place_of s page = slice_index_or s.places page None

abbrev pub frame_at : State → ℕ → Kept
frame_at s i = record { page = slice_index_or s.pages i (blank 0 0); stamp = (mark_at s i).stamp }

abbrev pub kept_at : State → Option ℕ → Option Kept
kept_at s None = None
kept_at s (Some i) = Some (frame_at s i)

-- what is kept of a page: the finite map that the pool is
unfoldable pub kept : State → ℕ → Option Kept
kept s page = kept_at s (place_of s page)

abbrev pub stamp_of : Option Kept → Option ℕ
stamp_of None = None
stamp_of (Some k) = k.stamp

-- frames and places name each other, no page has the number 0, and a frame without a page has no stamp
pub record IsSound (s : State) : Type 0 where
  pub sizes : length s.pages ≡ length s.marks
  pub few : length s.marks ≤ FRAMES
  pub numbers : length s.places ≡ MAX_PAGES + 1
  pub there : (page i : ℕ) → place_of s page ≡ Some i → (i < length s.marks) × ((mark_at s i).page ≡ Some page)
  pub back : (i page : ℕ) → (mark_at s i).page ≡ Some page → place_of s page ≡ Some i
  pub zero : place_of s 0 ≡ None
  pub blank : (i : ℕ) → (mark_at s i).page ≡ None → (mark_at s i).stamp ≡ None

-- the page has changes, and all are in gated batches
abbrev pub IsWritable : State → ℕ → Type 0
IsWritable s page = is_gated s.gated (stamp_of (kept s page)) ≡ true

-- the page is kept and clean, and the event doesn't hold it
pub record IsSpare (s : State) (page : ℕ) : Type 0 where
  pub clean : stamp_of (kept s page) ≡ None
  pub free : is_held s.held (Some page) ≡ false

-- no frame is clean for the event: each has a page that is dirty or held
abbrev pub NoneClean : State → Type 0
NoneClean s = (i : ℕ) → i < length s.marks → clean s.held (mark_at s i) ≡ false

-- a frame is clean for the event: it is empty, or has a clean page that isn't held
abbrev pub SomeClean : State → Type 0
SomeClean s = (i : ℕ) × (i < length s.marks) × (clean s.held (mark_at s i) ≡ true)

-- whether a frame has a page above the leaves
abbrev pub is_upper_at : State → ℕ → Bool
is_upper_at s i = is_upper (mark_at s i) (slice_index_or s.pages i (blank 0 0))

-- no frame that is clean for the event is empty or has a leaf: each has a page above the leaves
abbrev pub NoCleanLeaf : State → Type 0
NoCleanLeaf s = NoLeaf s.held s.marks s.pages

-- no leaf is kept that may go: clean, and not held
abbrev pub NoSpareLeaf : State → Type 0
NoSpareLeaf s = (page : ℕ) (k : Kept) → kept s page ≡ Some k → IsSpare s page → 0 < k.page.level

-- how many frames are clean for the event
abbrev pub clean_count : State → ℕ
clean_count s = count_by (clean s.held) s.marks

-- how many frames have a dirty page
abbrev pub dirty_count : State → ℕ
dirty_count s = count_by is_dirty s.marks

-- whether a frame has a page, and that page is clean
abbrev pub is_clean_at : State → Option ℕ → Bool
is_clean_at s None = false
is_clean_at s (Some i) = is_none (mark_at s i).stamp

-- whether a page is kept clean
abbrev pub is_clean_page : State → ℕ → Bool
is_clean_page s page = is_clean_at s (place_of s page)

-- whether the k-th page that the event holds is none of those before it, and is kept clean
abbrev pub is_counted : State → ℕ → Bool
is_counted s k = not (is_held (take k s.held) (Some (slice_index s.held k))) && is_clean_page s (slice_index s.held k)

-- how many of the first so many pages that the event holds are kept clean, each counted once
unfoldable pub held_clean : State → ℕ → ℕ
held_clean s zero = 0
held_clean s (suc k) = held_clean s k + cond (is_counted s k) 1 0

-- each of the pages is kept
abbrev pub AllKept : State → List ℕ → Type 0
AllKept s pages = (k : ℕ) → k < length pages → IsSome (kept s (slice_index pages k))

-- the event holds these pages
abbrev pub holding : State → List ℕ → State
holding s pages = record s { held = pages }

-- no page is kept in any of so many frames
pub record IsEmpty (frames : ℕ) (s : State) : Type 0 where
  pub count : length s.marks ≡ frames
  pub none : (page : ℕ) → kept s page ≡ None
  pub held : s.held ≡ []
  pub gated : s.gated ≡ 0

-- no page has changes that aren't on the device
abbrev pub NoneDirty : State → Type 0
NoneDirty s = (page : ℕ) → stamp_of (kept s page) ≡ None
