-- What a device has of the pages that aren't kept, and so what can be brought.
use Rattle.std.specs.Prelude.{◌≡◌, ◌≢◌, ℕ, ◌<◌, ◌≤◌, List, length, slice_index, Bool, true, None, Err, Result}
use Rattle.gx_disk.specs.Device.{Device}
use Rattle.gx_page.specs.Contents.{Contents}
use Rattle.gx_pool.specs.declared.fault.PoolFault.{PoolFault}
use Rattle.gx_pool.specs.declared.fault.PoolFault.TheVariants.{Damaged}
use Rattle.gx_pool.specs.Area.{bytes_of, IsPassing}
use Rattle.gx_pool.specs.Bringing.{Brings, BringsOne, BringsAll}
use Rattle.gx_pool.specs.Creating.{Makes}
use Rattle.gx_pool.specs.Edits.{changed}
use Rattle.gx_pool.specs.Laws.{IsBacked, IsPassed}
use Rattle.gx_pool.specs.State.{State, IsSound, holding, kept}

-- of each of these pages that isn't kept, the bytes are an image with its number that passes the test
abbrev pub IsReadable : (Contents → Bool) → (ℕ → Bool) → State → List ℕ → Type 0
IsReadable passes used s seen = (page : ℕ) → 1 ≤ page → used page ≡ true → kept s page ≡ None → IsPassing passes page (bytes_of seen page)

-- over an honest device, pages that can be brought still can
abbrev pub StaysReadable : (Contents → Bool) → Device → Device → State → State → Type 0
StaysReadable passes d e old new = (used : ℕ → Bool) → d.honest ≡ true → IsReadable passes used old d.seen → IsReadable passes used new e.seen

-- one of these pages isn't refused as damaged
abbrev pub OneIsNotDamaged : Device → Device → Type 0
OneIsNotDamaged d e = (passes : Contents → Bool) (used : ℕ → Bool) (old new : State) (page : ℕ) (result : Result (Unit {0}) PoolFault) → d.honest ≡ true → 1 ≤ page → used page ≡ true
    → IsReadable passes used old d.seen → BringsOne passes d e old new page result → result ≢ Err Damaged

-- nor are several
abbrev pub SomeAreNotDamaged : Device → Device → Type 0
SomeAreNotDamaged d e = (passes : Contents → Bool) (used : ℕ → Bool) (old new : State) (pages : List ℕ) (result : Result (Unit {0}) PoolFault) → d.honest ≡ true
    → ((k : ℕ) → k < length pages → 1 ≤ slice_index pages k) → ((k : ℕ) → k < length pages → used (slice_index pages k) ≡ true)
    → IsReadable passes used old d.seen → BringsAll passes d e (holding old pages) new pages result → result ≢ Err Damaged

abbrev pub BringingKeepsReadable : Type 0
BringingKeepsReadable = (passes : Contents → Bool) (used : ℕ → Bool) (seen : List ℕ) (s t : State) → Brings passes true seen s t → IsBacked s seen → IsPassed passes s → IsReadable passes used s seen
    → IsReadable passes used t seen

-- the page that is made may be one more of them
abbrev pub CreatingKeepsReadable : Type 0
CreatingKeepsReadable = (passes : Contents → Bool) (used more : ℕ → Bool) (seen : List ℕ) (s t : State) (page batch : ℕ) (contents : Contents) → Makes s t page contents batch
    → ((q : ℕ) → q ≢ page → more q ≡ true → used q ≡ true) → IsBacked s seen → IsPassed passes s → IsReadable passes used s seen → IsReadable passes more t seen

abbrev pub ChangingKeepsReadable : Type 0
ChangingKeepsReadable = (passes : Contents → Bool) (used : ℕ → Bool) (seen : List ℕ) (s : State) (page stamp : ℕ) (contents : Contents) → IsSound s → IsReadable passes used s seen
    → IsReadable passes used (changed s page stamp contents) seen
