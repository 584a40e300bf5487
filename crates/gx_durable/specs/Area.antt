-- The page area of a device: which contents its sectors are.
use Rattle.std.specs.Prelude.{◌≡◌, ℕ, ◌+◌, ◌*◌, ◌≤◌, ◌&&◌, Bool, false, List, if◌then◌else◌, nat_le, nat_lt}
use Rattle.std.specs.List.{list_any}
use Rattle.gx_disk.specs.declared.layout.TheConstants.{MAX_PAGES, PAGES_AT, PAGE_SECTORS}
use Rattle.gx_disk.specs.Sectors.{IsWithin}
use Rattle.gx_pool.specs.Area.{bytes_of, first_of, IsPage}
use Rattle.gx_recovery.specs.Records.{Record, gives}
use Rattle.gx_durable.specs.Spelled.{Reading}

-- The content of a page's eight sectors, of a device of so many pages. Page 0 isn't one, nor is a page beyond those; which of
-- the others are in use is for the log to say, so no more of the area is masked here.
unfoldable pub area_of : {E P : Type 0} → Reading E P → ℕ → List ℕ → ℕ → P
area_of r pages seen p = if nat_lt 0 p && nat_le p pages then r.content (bytes_of seen p) else r.no_page

-- a device of so many sectors has so many pages
pub record HasPages (pages sectors : ℕ) : Type 0 where
  pub few : pages ≤ MAX_PAGES
  pub inside : PAGES_AT + PAGE_SECTORS * pages ≤ sectors

-- whether a log gives the whole of a page
abbrev pub is_given : {E P : Type 0} → List (Record E P) → ℕ → Bool
is_given log p = list_any (gives p) log

-- a crash leaves the sectors of each page but these as they read
abbrev pub IsSettledBut : (ℕ → Bool) → ℕ → (ℕ → Bool) → Type 0
IsSettledBut named sectors pending = (page s : ℕ) → IsPage sectors page → named page ≡ false → IsWithin (first_of page) PAGE_SECTORS s → pending s ≡ false
