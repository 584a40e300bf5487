-- Which pages are dirty.
use Rattle.std.specs.Prelude.{◌≡◌, ◌⊎◌, ℕ, ◌+◌, ◌<◌, List, length, slice_index_or, Option, Some, None}
use Rattle.gx_disk.specs.declared.layout.TheConstants.{MAX_PAGES}
use Rattle.gx_pool.specs.declared.mark.FrameMark.{FrameMark}
use Rattle.gx_pool.specs.declared.queue.Queue.{Queue}
use Rattle.gx_pool.specs.Marks.{empty}
use Rattle.gx_pool.specs.Words.{has, OthersStay}

-- a dirty page is among those that may be written, or among those that wait, and its last change isn't in a gated batch
abbrev pub IsListed : ℕ → Queue → ℕ → ℕ → Type 0
IsListed gated q page batch = (has q.ready page ≡ 1) ⊎ ((has q.waiting page ≡ 1) × (gated < batch))

-- each frame's page is, if it is dirty
abbrev pub AreListed : ℕ → List FrameMark → Queue → Type 0
AreListed gated marks q = (i page batch : ℕ) → (slice_index_or marks i empty).page ≡ Some page → (slice_index_or marks i empty).stamp ≡ Some batch → IsListed gated q page batch

-- Each frame's page is listed, if it is dirty; and of those that wait, those below a number aren't in gated batches.
abbrev pub AreListedBelow : ℕ → ℕ → List FrameMark → Queue → Type 0
AreListedBelow below gated marks q = (i page batch : ℕ) → (slice_index_or marks i empty).page ≡ Some page → (slice_index_or marks i empty).stamp ≡ Some batch
    → (has q.ready page ≡ 1) ⊎ ((has q.waiting page ≡ 1) × (page < below → gated < batch))

-- the table of pages has each number, and names a frame of each page that has one
pub record ArePlaced (marks : List FrameMark) (places : List (Option ℕ)) : Type 0 where
  pub numbers : length places ≡ MAX_PAGES + 1
  pub inside : (page i : ℕ) → slice_index_or places page None ≡ Some i → i < length marks
  pub back : (i page : ℕ) → (slice_index_or marks i empty).page ≡ Some page → slice_index_or places page None ≡ Some i

-- each page but one is listed as before
pub record OthersKeepTheirs (page : ℕ) (old new : Queue) : Type 0 where
  pub ready : OthersStay page old.ready new.ready
  pub waiting : OthersStay page old.waiting new.waiting
