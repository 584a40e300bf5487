-- What a page's write leaves.
use Rattle.std.specs.Prelude.{◌≡◌, ◌≢◌, ◌⊎◌, ◌≤◌, ◌+◌, ℕ, length, Bool, true, false, Some, None, Option, Result, OnOk, OnErr}
use Rattle.gx_disk.specs.declared.layout.TheConstants.{PAGE_SECTORS}
use Rattle.gx_disk.specs.Device.{Device, Counts, Elapses, Touches, Writes}
use Rattle.gx_page.specs.Contents.{Contents}
use Rattle.gx_page.specs.Format.{image_of}
use Rattle.gx_pool.specs.Area.{first_of}
use Rattle.gx_pool.specs.Bringing.{HasImage}
use Rattle.gx_pool.specs.Laws.{IsBacked, shown}
use Rattle.gx_pool.specs.Marks.{is_gated, is_held}
use Rattle.gx_pool.specs.State.{State, Kept, clean_count, dirty_count, kept, stamp_of}

-- A kept page was written to its sectors, as the image that reads back as it. If that succeeded, it is clean, one
-- page fewer is dirty, and its frame is clean too unless the event holds the page; if it failed, all is kept
-- unchanged.
pub record WritesPage {A E : Type 0} (d e : Device) (old new : State) (page : ℕ) (k : Kept) (result : Result A E) : Type 0 where
  pub counts : Counts 1 d e result
  pub image : HasImage (image_of k.page) k.page
  pub writes : d.honest ≡ true → Writes (first_of page) PAGE_SECTORS (image_of k.page) d e result
  pub clean : OnOk result (kept new page ≡ Some (record { page = k.page; stamp = None }))
  pub fewer : OnOk result (dirty_count new + 1 ≡ dirty_count old)
  pub free : OnOk result (is_held old.held (Some page) ≡ false → clean_count new ≡ clean_count old + 1)
  pub stays_held : OnOk result (is_held old.held (Some page) ≡ true → clean_count new ≡ clean_count old)
  pub failed : OnErr result (new ≡ old)
  pub others : (q : ℕ) → q ≢ page → kept new q ≡ kept old q
  pub held : new.held ≡ old.held
  pub gated : new.gated ≡ old.gated
  pub frames : length new.marks ≡ length old.marks

-- Each page that is kept clean is what the device has, and each page is shown as before: its last change, or what the
-- device has.
pub record KeepsShown (d e : Device) (old new : State) : Type 0 where
  pub backed : IsBacked new e.seen
  pub shown : (page : ℕ) → 1 ≤ page → shown new e.seen page ≡ shown old d.seen page

abbrev pub contents_of : Option Kept → Option Contents
contents_of None = None
contents_of (Some k) = Some k.page

-- At most a page was written, whether that succeeded, failed, or wasn't to be done. Of an honest device only the page's
-- eight sectors may read otherwise, or be pending if they were settled, and time went on; at most one call was made.
-- Each other page is kept unchanged, and this one with the same contents. What is dirty was so, with the same stamp; no
-- more pages are dirty, and no fewer frames are clean.
pub record WritesAtMost (d e : Device) (old new : State) (page : ℕ) : Type 0 where
  pub touches : d.honest ≡ true → Touches (first_of page) PAGE_SECTORS d e
  pub time : d.honest ≡ true → Elapses d e
  pub calls : (e.calls ≡ d.calls) ⊎ (e.calls ≡ d.calls + 1)
  pub others : (q : ℕ) → q ≢ page → kept new q ≡ kept old q
  pub contents : (q : ℕ) → contents_of (kept new q) ≡ contents_of (kept old q)
  pub dirty : (q n : ℕ) → stamp_of (kept new q) ≡ Some n → stamp_of (kept old q) ≡ Some n
  pub no_more_dirty : dirty_count new ≤ dirty_count old
  pub no_fewer_clean : clean_count old ≤ clean_count new
  pub held : new.held ≡ old.held
  pub gated : new.gated ≡ old.gated
  pub frames : length new.marks ≡ length old.marks

-- a page has changes, and all of them are gated
abbrev pub may_be_written : State → ℕ → Bool
may_be_written s page = is_gated s.gated (stamp_of (kept s page))

-- a page that is kept was written, if all its changes are gated
abbrev pub WritesGated : {A E : Type 0} → Device → Device → State → State → ℕ → Result A E → Type 0
WritesGated d e old new page result = (k : Kept) → kept old page ≡ Some k → is_gated old.gated k.stamp ≡ true → WritesPage d e old new page k result

-- over an honest device, pages that are backed are shown as before
abbrev pub StaysShown : Device → Device → State → State → Type 0
StaysShown d e old new = d.honest ≡ true → IsBacked old d.seen → KeepsShown d e old new
