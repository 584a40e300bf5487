-- What becomes of the pages that are kept while others are brought.
use Rattle.std.specs.Prelude.{◌≡◌, ◌≢◌, ◌⊎◌, ℕ, ◌+◌, ◌<◌, ◌≤◌, slice_index, List, [], ◌∷◌, length, count_by, Bool, true, false, Some, None, is_none, Result, Ok, Err, IsSome}
use Rattle.std.specs.List.{Contains}
use Rattle.gx_disk.specs.Device.{Device, Rests, SamePending, Elapses}
use Rattle.gx_page.specs.Contents.{Contents}
use Rattle.gx_page.specs.Reading.{IsImage, read_of}
use Rattle.gx_pool.specs.declared.fault.PoolFault.{PoolFault}
use Rattle.gx_pool.specs.declared.fault.PoolFault.TheVariants.{NoCleanFrame, Device as DeviceFault, Damaged}
use Rattle.gx_pool.specs.Area.{bytes_of, IsPassing}
use Rattle.gx_pool.specs.Marks.{is_held}
use Rattle.gx_pool.specs.State.{State, Kept, kept, mark_at, dirty_count, AllKept, IsSpare, NoCleanLeaf, NoSpareLeaf, NoneClean, SomeClean}

-- the bytes are the image of these contents
pub record HasImage (bytes : List ℕ) (contents : Contents) : Type 0 where
  pub image : IsImage bytes
  pub read : read_of bytes ≡ contents

-- A page has come into a frame, clean: it wasn't kept, or clean and not held. It has its own number, it passes the test,
-- and it is what an honest device has.
pub record Came (passes : Contents → Bool) (honest : Bool) (seen : List ℕ) (old new : State) (page : ℕ) : Type 0 where
  pub contents : Contents
  pub was : (kept old page ≡ None) ⊎ IsSpare old page
  pub is : kept new page ≡ Some (record { page = contents; stamp = None })
  pub number : contents.number ≡ page
  pub passing : passes contents ≡ true
  pub backed : honest ≡ true → HasImage (bytes_of seen page) contents

-- a clean page that wasn't held is kept no more
pub record Left (old new : State) (page : ℕ) : Type 0 where
  pub was : IsSpare old page
  pub is : kept new page ≡ None

-- Pages were brought: each page is kept unchanged, or went, or came. So one that is dirty or held is unchanged, and as
-- many are dirty as before.
pub record Brings (passes : Contents → Bool) (honest : Bool) (seen : List ℕ) (old new : State) : Type 0 where
  pub fates : (page : ℕ) → (kept new page ≡ kept old page) ⊎ (Left old new page ⊎ Came passes honest seen old new page)
  pub dirty : dirty_count new ≡ dirty_count old
  pub held : new.held ≡ old.held
  pub gated : new.gated ≡ old.gated
  pub frames : length new.marks ≡ length old.marks

-- the device was only read
pub record OnlyRead (old new : Device) : Type 0 where
  pub sectors : new.sectors ≡ old.sectors
  pub honest : new.honest ≡ old.honest
  pub calls : new.calls ≡ old.calls
  pub rests : old.honest ≡ true → Rests old new
  pub pending : old.honest ≡ true → SamePending old new
  pub time : old.honest ≡ true → Elapses old new

-- how many faults of the device a result means
abbrev pub faults_of : {A : Type 0} → Result A PoolFault → ℕ
faults_of (Ok a) = 0
faults_of (Err NoCleanFrame) = 0
faults_of (Err DeviceFault) = 1
faults_of (Err Damaged) = 0

-- No page comes but this one.
abbrev pub ComesAlone : State → State → ℕ → Type 0
ComesAlone old new page = (q : ℕ) → q ≢ page → kept old q ≡ None → kept new q ≡ None

-- No page goes but the one that a frame has.
abbrev pub GoesAlone : State → State → ℕ → Type 0
GoesAlone old new i = (q : ℕ) (k : Kept) → kept old q ≡ Some k → kept new q ≡ None → (mark_at old i).page ≡ Some q

-- At most so many pages go: each that is kept no more is among so many.
pub record AtMostGo (old new : State) (most : ℕ) : Type 0 where
  pub gone : List ℕ
  pub few : length gone ≤ most
  pub all : (q : ℕ) (k : Kept) → kept old q ≡ Some k → kept new q ≡ None → Contains gone q

-- how many of the pages aren't kept
abbrev pub missing_count : State → List ℕ → ℕ
missing_count s pages = count_by (λ page. is_none (kept s page)) pages

-- A page above the leaves goes only if no frame that is clean for the event is empty or has a leaf, so no leaf may go.
abbrev pub LeavesGoFirst : State → State → Type 0
LeavesGoFirst old new = (q : ℕ) (k : Kept) → kept old q ≡ Some k → kept new q ≡ None → 0 < k.page.level → NoCleanLeaf old × NoSpareLeaf old

-- each page but this one is kept unchanged, or goes
abbrev pub OthersStayOrGo : State → State → ℕ → Type 0
OthersStayOrGo old new page = (q : ℕ) → q ≢ page → (kept new q ≡ kept old q) ⊎ (kept new q ≡ None)

-- each page but these is kept unchanged, or goes
abbrev pub AllOthersStayOrGo : State → State → List ℕ → Type 0
AllOthersStayOrGo old new pages = (q : ℕ) → is_held pages (Some q) ≡ false → (kept new q ≡ kept old q) ⊎ (kept new q ≡ None)

-- If a page above the leaves went, each leaf that might go went too.
abbrev pub LeavesWentFirst : State → State → Type 0
LeavesWentFirst old new = (q : ℕ) (k : Kept) → kept old q ≡ Some k → kept new q ≡ None → 0 < k.page.level
    → (r : ℕ) (l : Kept) → kept old r ≡ Some l → IsSpare old r → l.page.level ≡ 0 → kept new r ≡ None

-- the page isn't kept, no frame is clean for the event, and all is unchanged
pub record NoFrame (old new : State) (page : ℕ) : Type 0 where
  pub missing : kept old page ≡ None
  pub full : NoneClean old
  pub same : new ≡ old

-- the page isn't kept, a frame is clean for the event, and all is unchanged
pub record Unread (old new : State) (page : ℕ) : Type 0 where
  pub missing : kept old page ≡ None
  pub room : SomeClean old
  pub same : new ≡ old

-- The page isn't kept, before and after; a frame is clean for the event, before and after; and what an honest device has is
-- no page of that number that passes the test.
pub record Refuted (passes : Contents → Bool) (d : Device) (old new : State) (page : ℕ) : Type 0 where
  pub missing : kept old page ≡ None
  pub absent : kept new page ≡ None
  pub room : SomeClean old
  pub left : SomeClean new
  pub damaged : d.honest ≡ true → ¬ IsPassing passes page (bytes_of d.seen page)

-- What a result for one page says: it is kept; or it isn't, and no frame is clean for the event; or one is, and the
-- device failed; or one is, and what an honest device has is no page of that number that passes the test.
abbrev pub Answers : {A : Type 0} → (Contents → Bool) → Device → State → State → ℕ → Result A PoolFault → Type 0
Answers passes d old new page (Ok a) = IsSome (kept new page)
Answers passes d old new page (Err NoCleanFrame) = NoFrame old new page
Answers passes d old new page (Err DeviceFault) = Unread old new page
Answers passes d old new page (Err Damaged) = Refuted passes d old new page

-- One page was brought. None goes for it if it was kept, and at most one if it wasn't.
pub record BringsOne {A : Type 0} (passes : Contents → Bool) (d e : Device) (old new : State) (page : ℕ) (result : Result A PoolFault) : Type 0 where
  pub brings : Brings passes d.honest d.seen old new
  pub alone : ComesAlone old new page
  pub first : LeavesGoFirst old new
  pub others : OthersStayOrGo old new page
  pub few : AtMostGo old new (missing_count old (page ∷ []))
  pub only_read : OnlyRead d e
  pub faults : e.faults ≡ d.faults + faults_of result
  pub answer : Answers passes d old new page result

-- No page comes but these.
abbrev pub ComeAlone : State → State → List ℕ → Type 0
ComeAlone old new pages = (q : ℕ) → is_held pages (Some q) ≡ false → kept old q ≡ None → kept new q ≡ None

-- the k-th of the pages is the first that isn't kept
pub record IsFirstMissing (s : State) (pages : List ℕ) (k : ℕ) : Type 0 where
  pub inside : k < length pages
  pub before : (j : ℕ) → j < k → IsSome (kept s (slice_index pages j))
  pub missing : kept s (slice_index pages k) ≡ None

-- the first of the pages that isn't kept, and what holds of it
abbrev pub FirstMissing : State → List ℕ → (ℕ → Type 0) → Type 0
FirstMissing s pages P = (k : ℕ) × IsFirstMissing s pages k × P (slice_index pages k)

-- What a result for several pages says: each is kept; or those before one are, that one isn't, and no frame is clean
-- for the event; or one is, and the device failed; or one is, the page wasn't kept, and what an honest device has is no
-- page of that number that passes the test.
abbrev pub AnswersAll : {A : Type 0} → (Contents → Bool) → Device → State → State → List ℕ → Result A PoolFault → Type 0
AnswersAll passes d old new pages (Ok a) = AllKept new pages
AnswersAll passes d old new pages (Err NoCleanFrame) = FirstMissing new pages (λ page. NoneClean new)
AnswersAll passes d old new pages (Err DeviceFault) = FirstMissing new pages (λ page. SomeClean new)
AnswersAll passes d old new pages (Err Damaged) = FirstMissing new pages (λ page. SomeClean new × (kept old page ≡ None) × (d.honest ≡ true → ¬ IsPassing passes page (bytes_of d.seen page)))

-- Pages were brought, one after another. At most as many go as weren't kept of those that were asked for.
pub record BringsAll {A : Type 0} (passes : Contents → Bool) (d e : Device) (old new : State) (pages : List ℕ) (result : Result A PoolFault) : Type 0 where
  pub brings : Brings passes d.honest d.seen old new
  pub alone : ComeAlone old new pages
  pub first : LeavesWentFirst old new
  pub others : AllOthersStayOrGo old new pages
  pub few : AtMostGo old new (missing_count old pages)
  pub only_read : OnlyRead d e
  pub faults : e.faults ≡ d.faults + faults_of result
  pub answer : AnswersAll passes d old new pages result
