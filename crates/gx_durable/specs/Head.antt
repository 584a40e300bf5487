-- What a device says of itself: what is read of its first two sectors.
use Rattle.std.specs.Prelude.{◌≡◌, ℕ, Bool, false, List, ◌++◌, take}
use Rattle.gx_disk.specs.Sectors.{sector_of}

-- what is read of an image's first two sectors: the first eight bytes of each
abbrev pub head_in : List ℕ → List ℕ
head_in image = take 8 (sector_of image 0) ++ take 8 (sector_of image 1)

-- A device says this, and a crash leaves it so.
pub record HasHead (head seen : List ℕ) (pending : ℕ → Bool) : Type 0 where
  pub reads : head_in seen ≡ head
  pub magic : pending 0 ≡ false
  pub parameters : pending 1 ≡ false
