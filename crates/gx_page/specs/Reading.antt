-- What a block of bytes holds, if it is an image.
use Rattle.std.specs.Prelude.{◌≡◌, ℕ, zero, suc, ◌+◌, List, [], ◌∷◌, map, take, drop, slice_range}
use Rattle.gx_page.specs.Bytes.{number_16, number_16_at, number_32_at, number_64_at}
use Rattle.gx_page.specs.Contents.{Contents}
use Rattle.gx_page.specs.Format.{image_of, IsWellFormed}

-- the place and the length in each of the first so many slots of a directory
abbrev pub entries : ℕ → List ℕ → List (ℕ × ℕ)
entries zero bytes = []
entries (suc n) bytes = (number_16 (take 2 bytes), number_16 (take 2 (drop 2 bytes))) ∷ entries n (drop 4 bytes)

abbrev pub entry_bytes : List ℕ → ℕ × ℕ → List ℕ
entry_bytes bytes entry = slice_range bytes entry.0 (entry.0 + entry.1)

abbrev pub count_of : List ℕ → ℕ
count_of bytes = number_16_at bytes 2

abbrev pub entries_of : List ℕ → List (ℕ × ℕ)
entries_of bytes = entries (count_of bytes) (drop 32 bytes)

unfoldable pub read_of : List ℕ → Contents
read_of bytes = record {
  level = number_16_at bytes 0;
  nsn = number_64_at bytes 8;
  right = number_32_at bytes 16;
  number = number_32_at bytes 20;
  items = map (entry_bytes bytes) (entries_of bytes);
}

-- the bytes are the image of what they hold
pub record IsImage (bytes : List ℕ) : Type 0 where
  pub image : image_of (read_of bytes) ≡ bytes
  pub well_formed : IsWellFormed (read_of bytes)
