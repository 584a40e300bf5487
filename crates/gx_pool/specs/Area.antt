-- Where pages lie on the device.
use Rattle.std.specs.Prelude.{◌≡◌, ℕ, ◌+◌, ◌-◌, ◌*◌, ◌≤◌, List, Bool, true}
use Rattle.gx_disk.specs.declared.layout.TheConstants.{MAX_PAGES, PAGES_AT, PAGE_SECTORS}
use Rattle.gx_disk.specs.Sectors.{span_of}
use Rattle.gx_page.specs.declared.block.TheConstants.{PAGE_SIZE}
use Rattle.gx_page.specs.Contents.{Contents}
use Rattle.gx_page.specs.Reading.{IsImage, read_of}

-- the sector at which a page begins
abbrev pub first_of : ℕ → ℕ
first_of page = PAGES_AT + PAGE_SECTORS * (page - 1)

-- the bytes of a page's sectors
abbrev pub bytes_of : List ℕ → ℕ → List ℕ
bytes_of seen page = span_of seen (first_of page) PAGE_SIZE

-- a device of so many sectors has the page
pub record IsPage (sectors page : ℕ) : Type 0 where
  pub from : 1 ≤ page
  pub to : page ≤ MAX_PAGES
  pub inside : PAGES_AT + PAGE_SECTORS * page ≤ sectors

-- the bytes are the image of a page with this number that passes the test
pub record IsPassing (passes : Contents → Bool) (page : ℕ) (bytes : List ℕ) : Type 0 where
  pub image : IsImage bytes
  pub number : (read_of bytes).number ≡ page
  pub passing : passes (read_of bytes) ≡ true
