-- What is laid of the pages that are kept, and what else a crash may leave.
use Rattle.std.specs.Prelude.{◌≡◌, ℕ, false, List, [], ◌∷◌, length, unwrap_or, Result, OnOk}
use Rattle.gx_disk.specs.declared.layout.TheConstants.{PAGE_SECTORS}
use Rattle.gx_disk.specs.Device.{Device}
use Rattle.gx_disk.specs.Moments.{Leaves}
use Rattle.gx_disk.specs.Sectors.{sector_of, IsOutside}
use Rattle.gx_pool.specs.Area.{IsPage, bytes_of, first_of}
use Rattle.gx_found_log.specs.Given.{Imaged, image_in}

-- the device has each page
abbrev pub ArePages : ℕ → List Imaged → Type 0
ArePages sectors [] = Unit {0}
ArePages sectors (x ∷ xs) = IsPage sectors x.0 × ArePages sectors xs

-- a sector is none of these pages'
abbrev pub IsBeside : List Imaged → ℕ → Type 0
IsBeside [] s = Unit {0}
IsBeside (x ∷ xs) s = IsOutside (first_of x.0) PAGE_SECTORS s × IsBeside xs s

-- An image has each sector that was settled and is none of these pages' as it read.
pub record IsImageBeside (pages : List Imaged) (d : Device) (image : List ℕ) : Type 0 where
  pub size : length image ≡ length d.seen
  pub settled : (s : ℕ) → IsBeside pages s → d.pending s ≡ false → sector_of image s ≡ sector_of d.seen s

-- Each of these pages reads as its image, and every other as before.
abbrev pub AreLaid : List Imaged → ℕ → List ℕ → List ℕ → Type 0
AreLaid pages sectors old new = (p : ℕ) → IsPage sectors p → bytes_of new p ≡ unwrap_or (image_in p pages) (bytes_of old p)

-- Calls that write these pages and no other sector, also where one fails. At each moment of them what a crash may leave has every
-- other sector as a crash of before would leave it.
pub record Lays {T E : Type 0} (pages : List Imaged) (old new : Device) (result : Result T E) : Type 0 where
  pub size : length new.seen ≡ length old.seen
  pub others : (s : ℕ) → IsBeside pages s → sector_of new.seen s ≡ sector_of old.seen s
  pub settled : (s : ℕ) → IsBeside pages s → old.pending s ≡ false → new.pending s ≡ false
  pub laid : OnOk result (AreLaid pages old.sectors old.seen new.seen)
  pub leaves : Leaves (IsImageBeside pages old) old new

-- An image has each of these sectors as it was read.
pub record HasAsRead (Spared : ℕ → Type 0) (seen image : List ℕ) : Type 0 where
  pub size : length image ≡ length seen
  pub same : (s : ℕ) → Spared s → sector_of image s ≡ sector_of seen s

-- Calls on a synced device that write none of these sectors: each reads as before and is settled, and at each moment of
-- them what a crash may leave has it so.
pub record Spares (Spared : ℕ → Type 0) (old new : Device) : Type 0 where
  pub now : HasAsRead Spared old.seen new.seen
  pub settled : (s : ℕ) → Spared s → new.pending s ≡ false
  pub leaves : Leaves (HasAsRead Spared old.seen) old new
