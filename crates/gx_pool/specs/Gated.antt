-- What of the page area no write of the pool changes: the pages that no gated record names.
use Rattle.std.specs.Prelude.{◌≡◌, ℕ, List, Bool, true, false}
use Rattle.gx_disk.specs.declared.layout.TheConstants.{PAGE_SECTORS}
use Rattle.gx_disk.specs.Device.{Device, MayLeave}
use Rattle.gx_disk.specs.Moments.{Leaves}
use Rattle.gx_disk.specs.Sectors.{IsWithin}
use Rattle.gx_pool.specs.Area.{IsPage, bytes_of, first_of}
use Rattle.gx_pool.specs.State.{State, IsWritable}

-- each page that may be written, since all its changes are in gated batches, is one of these
abbrev pub NamesGated : (ℕ → Bool) → State → Type 0
NamesGated named s = (page : ℕ) → IsWritable s page → named page ≡ true

-- the sectors of each page but these are settled
abbrev pub IsAreaSettled : (ℕ → Bool) → Device → Type 0
IsAreaSettled named d = (page s : ℕ) → IsPage d.sectors page → named page ≡ false → IsWithin (first_of page) PAGE_SECTORS s → d.pending s ≡ false

-- an image has each page but these as those bytes have it
abbrev pub AgreesOutside : (ℕ → Bool) → ℕ → List ℕ → List ℕ → Type 0
AgreesOutside named sectors seen image = (page : ℕ) → IsPage sectors page → named page ≡ false → bytes_of image page ≡ bytes_of seen page

-- Each page but these reads as before, and its sectors are settled. And at each moment on the way, what a crash might leave
-- was so before, or has each page but these as it read before.
pub record KeepsArea (named : ℕ → Bool) (d e : Device) : Type 0 where
  pub seen : AgreesOutside named d.sectors d.seen e.seen
  pub settled : IsAreaSettled named e
  pub leaves : Leaves (AgreesOutside named d.sectors d.seen) d e

-- what a crash now may leave has each page but these as it reads
abbrev pub ImagesAgree : Device → Type 0
ImagesAgree d = (named : ℕ → Bool) (image : List ℕ) → IsAreaSettled named d → MayLeave d image → AgreesOutside named d.sectors d.seen image
