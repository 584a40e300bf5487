-- What making a page leaves.
use Rattle.std.specs.Prelude.{◌≡◌, ◌≢◌, ◌⊎◌, ℕ, ◌+◌, length, Some}
use Rattle.gx_page.specs.Contents.{Contents}
use Rattle.gx_page.specs.Edits.{blank}
use Rattle.gx_pool.specs.State.{State, Kept, IsSound, kept, clean_count, dirty_count}
use Rattle.gx_pool.specs.Edits.{numbered}
use Rattle.gx_pool.specs.Bringing.{AtMostGo, Left, LeavesGoFirst}

-- A page was made: it is kept with these contents and a change of that batch. Each other page is kept unchanged, or was
-- clean and not held and went; so one that is dirty or held is unchanged. At most one page goes. One frame fewer is
-- clean, and one more is dirty.
pub record Makes (old new : State) (page : ℕ) (contents : Contents) (batch : ℕ) : Type 0 where
  pub made : kept new page ≡ Some (record { page = contents; stamp = Some batch })
  pub others : (q : ℕ) → q ≢ page → (kept new q ≡ kept old q) ⊎ Left old new q
  pub fewer : clean_count new + 1 ≡ clean_count old
  pub dirty : dirty_count new ≡ dirty_count old + 1
  pub held : new.held ≡ old.held
  pub gated : new.gated ≡ old.gated
  pub frames : length new.marks ≡ length old.marks
  pub few : AtMostGo old new 1
  pub first : LeavesGoFirst old new
  pub sound : IsSound new

-- a page was made, blank
abbrev pub Creates : State → State → ℕ → ℕ → ℕ → Type 0
Creates old new page level batch = Makes old new page (blank level page) batch

-- a page was made as a copy of one that was kept, except for its own number
abbrev pub Copies : State → State → ℕ → ℕ → ℕ → Type 0
Copies old new page from batch = (k : Kept) → kept old from ≡ Some k → Makes old new page (numbered k.page page) batch
