-- What is kept of a device of the first version.
use Rattle.std.specs.Prelude.{◌≡◌, ℕ, ◌+◌, ◌*◌, ◌<◌, ◌≤◌, List, length, replicate}
use Rattle.gx_disk.specs.declared.layout.TheConstants.{LOG_AT, PAGES_AT, PAGE_SECTORS}
use Rattle.gx_disk.specs.Sectors.{sector_of}
use Rattle.gx_format.specs.Formatting.{sectors_of}
use Rattle.gx_format.specs.Fresh.{HasMagic}
use Rattle.gx_glog.specs.declared.extent.TheConstants.{BODIES_A, BODIES_B, GATES_A, GATES_B}
use Rattle.gx_older.specs.declared.layout.TheConstants.{OLDER_BODIES, OLDER_BODIES_A, OLDER_BODIES_B, OLDER_GATES_B, OLDER_PAGES_AT, OLDER_PLACES}
use Rattle.gx_older.specs.Renumbered.{older_sectors_of, renumbered}

-- n sectors of an image from one on are those of what is seen from another on
abbrev pub HasSectors : ℕ → List ℕ → ℕ → List ℕ → ℕ → Type 0
HasSectors n image to seen from = (k : ℕ) → k < n → sector_of image (to + k) ≡ sector_of seen (from + k)

-- the sectors of an image from one on up to another are zeros
abbrev pub HasZeros : List ℕ → ℕ → ℕ → Type 0
HasZeros image from to = (s : ℕ) → from ≤ s → s < to → sector_of image s ≡ replicate 512 0

-- An image has this version's magic, and each sector of a device of the first version with so many pages, in its place.
-- What the first version didn't have is zeros, so those gates are closed.
pub record IsRenumbered (pages : ℕ) (seen image : List ℕ) : Type 0 where
  pub size : length image ≡ 512 * sectors_of pages
  pub magic : HasMagic image
  pub front : (s : ℕ) → 1 ≤ s → s < LOG_AT → sector_of image s ≡ sector_of seen s
  pub gates_a : HasSectors OLDER_PLACES image GATES_A seen LOG_AT
  pub closed_a : HasZeros image (GATES_A + OLDER_PLACES) BODIES_A
  pub bodies_a : HasSectors OLDER_BODIES image BODIES_A seen OLDER_BODIES_A
  pub gates_b : HasSectors OLDER_PLACES image GATES_B seen OLDER_GATES_B
  pub closed_b : HasZeros image (GATES_B + OLDER_PLACES) BODIES_B
  pub bodies_b : HasSectors OLDER_BODIES image BODIES_B seen OLDER_BODIES_B
  pub pages_are : HasSectors (PAGE_SECTORS * pages) image PAGES_AT seen OLDER_PAGES_AT

-- the renumbered bytes are so, of a device that has the sectors of its index
abbrev pub RenumberingKeeps : Type 0
RenumberingKeeps = (pages : ℕ) (seen : List ℕ) → 1 ≤ pages → 512 * older_sectors_of pages ≤ length seen → IsRenumbered pages seen (renumbered pages seen)
