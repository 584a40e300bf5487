-- The laws of the pool.
use Rattle.std.specs.Prelude.{◌≡◌, ◌≢◌, ◌⊎◌, ◌<◌, ◌≤◌, ◌+◌, ℕ, List, length, Bool, true, Option, Some, None, IsSome}
use Rattle.gx_page.specs.Contents.{Contents}
use Rattle.gx_page.specs.Reading.{read_of}
use Rattle.gx_pool.specs.Area.{bytes_of}
use Rattle.gx_pool.specs.Marks.{is_held}
use Rattle.gx_pool.specs.State.{State, Kept, IsSound, IsSpare, NoneClean, NoneDirty, SomeClean, clean_count, dirty_count, kept}
use Rattle.gx_pool.specs.Edits.{changed, later}
use Rattle.gx_pool.specs.Bringing.{Brings, HasImage}
use Rattle.gx_pool.specs.Creating.{Makes}

abbrev pub ChangeIsOfItsPage : Type 0
ChangeIsOfItsPage = (s : State) (page stamp : ℕ) (contents : Contents) (k : Kept) → IsSound s → kept s page ≡ Some k
    → kept (changed s page stamp contents) page ≡ Some (record { page = contents; stamp = Some (later stamp k.stamp) })

abbrev pub ChangeIsOfNoOther : Type 0
ChangeIsOfNoOther = (s : State) (page other stamp : ℕ) (contents : Contents) → IsSound s → other ≢ page → kept (changed s page stamp contents) other ≡ kept s other

abbrev pub shown_of : Option Kept → Contents → Contents
shown_of None on_device = on_device
shown_of (Some k) on_device = k.page

-- what a page is: its last change, or what the device has
abbrev pub shown : State → List ℕ → ℕ → Contents
shown s seen page = shown_of (kept s page) (read_of (bytes_of seen page))

-- each page that is kept clean is what the device has
abbrev pub IsBacked : State → List ℕ → Type 0
IsBacked s seen = (page : ℕ) (k : Kept) → kept s page ≡ Some k → k.stamp ≡ None → HasImage (bytes_of seen page) k.page

-- each page that is kept has its own number and passes the test
abbrev pub IsPassed : (Contents → Bool) → State → Type 0
IsPassed passes s = (page : ℕ) (k : Kept) → kept s page ≡ Some k → (k.page.number ≡ page) × (passes k.page ≡ true)

abbrev pub BringingKeepsBacked : Type 0
BringingKeepsBacked = (passes : Contents → Bool) (seen : List ℕ) (s t : State) → Brings passes true seen s t → IsBacked s seen → IsBacked t seen

abbrev pub BringingShowsTheSame : Type 0
BringingShowsTheSame = (passes : Contents → Bool) (seen : List ℕ) (s t : State) (page : ℕ) → Brings passes true seen s t → IsBacked s seen → shown t seen page ≡ shown s seen page

abbrev pub BringingKeepsPassing : Type 0
BringingKeepsPassing = (passes : Contents → Bool) (honest : Bool) (seen : List ℕ) (s t : State) → Brings passes honest seen s t → IsPassed passes s → IsPassed passes t

abbrev pub CreatingKeepsBacked : Type 0
CreatingKeepsBacked = (seen : List ℕ) (s t : State) (page batch : ℕ) (contents : Contents) → Makes s t page contents batch → IsBacked s seen → IsBacked t seen

abbrev pub CreatingShowsTheSame : Type 0
CreatingShowsTheSame = (seen : List ℕ) (s t : State) (page batch other : ℕ) (contents : Contents) → Makes s t page contents batch → IsBacked s seen → other ≢ page → shown t seen other ≡ shown s seen other

abbrev pub CreatingShowsItsPage : Type 0
CreatingShowsItsPage = (seen : List ℕ) (s t : State) (page batch : ℕ) (contents : Contents) → Makes s t page contents batch → shown t seen page ≡ contents

abbrev pub CreatingKeepsPassing : Type 0
CreatingKeepsPassing = (passes : Contents → Bool) (s t : State) (page batch : ℕ) (contents : Contents) → Makes s t page contents batch → contents.number ≡ page → passes contents ≡ true → IsPassed passes s → IsPassed passes t

abbrev pub SomeAreClean : Type 0
SomeAreClean = (s : State) → 0 < clean_count s → SomeClean s

abbrev pub NoneAreClean : Type 0
NoneAreClean = (s : State) → NoneClean s → clean_count s ≡ 0

abbrev pub CleanAndDirtyAreApart : Type 0
CleanAndDirtyAreApart = (s : State) → clean_count s + dirty_count s ≤ length s.marks

-- a frame that is neither clean nor dirty has a page that the event holds
abbrev pub AllButHeldAreCounted : Type 0
AllButHeldAreCounted = (s : State) → IsSound s → length s.marks ≤ clean_count s + dirty_count s + length s.held

abbrev pub NoneDirtyIsZero : Type 0
NoneDirtyIsZero = (s : State) → IsSound s → NoneDirty s → dirty_count s ≡ 0

abbrev pub ZeroIsNoneDirty : Type 0
ZeroIsNoneDirty = (s : State) → IsSound s → dirty_count s ≡ 0 → NoneDirty s

abbrev pub ChangeOfACleanPageRaises : Type 0
ChangeOfACleanPageRaises = (s : State) (page stamp : ℕ) (contents : Contents) (k : Kept) → IsSound s → kept s page ≡ Some k → k.stamp ≡ None
    → dirty_count (changed s page stamp contents) ≡ dirty_count s + 1

abbrev pub ChangeOfADirtyPageLeaves : Type 0
ChangeOfADirtyPageLeaves = (s : State) (page stamp : ℕ) (contents : Contents) (k : Kept) → IsSound s → kept s page ≡ Some k → IsSome k.stamp
    → dirty_count (changed s page stamp contents) ≡ dirty_count s

-- of a page that is held or was dirty
abbrev pub ChangeKeepsClean : Type 0
ChangeKeepsClean = (s : State) (page stamp : ℕ) (contents : Contents) (k : Kept) → IsSound s → kept s page ≡ Some k → (is_held s.held (Some page) ≡ true) ⊎ IsSome k.stamp
    → clean_count (changed s page stamp contents) ≡ clean_count s

-- of a page that might have gone
abbrev pub ChangeTakesAClean : Type 0
ChangeTakesAClean = (s : State) (page stamp : ℕ) (contents : Contents) (k : Kept) → IsSound s → kept s page ≡ Some k → IsSpare s page
    → clean_count (changed s page stamp contents) + 1 ≡ clean_count s

-- ---- a change

abbrev pub ChangingKeepsBacked : Type 0
ChangingKeepsBacked = (seen : List ℕ) (s : State) (page stamp : ℕ) (contents : Contents) → IsSound s → IsBacked s seen → IsBacked (changed s page stamp contents) seen

abbrev pub ChangingShowsItsPage : Type 0
ChangingShowsItsPage = (seen : List ℕ) (s : State) (page stamp : ℕ) (contents : Contents) (k : Kept) → IsSound s → kept s page ≡ Some k → shown (changed s page stamp contents) seen page ≡ contents

abbrev pub ChangingShowsTheSame : Type 0
ChangingShowsTheSame = (seen : List ℕ) (s : State) (page other stamp : ℕ) (contents : Contents) → IsSound s → other ≢ page → shown (changed s page stamp contents) seen other ≡ shown s seen other

abbrev pub ChangingKeepsPassing : Type 0
ChangingKeepsPassing = (passes : Contents → Bool) (s : State) (page stamp : ℕ) (contents : Contents) → IsSound s → contents.number ≡ page → passes contents ≡ true → IsPassed passes s
    → IsPassed passes (changed s page stamp contents)

abbrev pub ChangingKeepsSound : Type 0
ChangingKeepsSound = (s : State) (page stamp : ℕ) (contents : Contents) → IsSound s → IsSound (changed s page stamp contents)
