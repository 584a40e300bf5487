-- What an image's numbers are, in its contents' words.
use Rattle.std.proofs.Common.{◌≡◌, ℕ, zero, suc, ◌+◌, ◌-◌, ◌*◌, ◌<◌, ◌≤◌, List, [], ◌∷◌, length, take, get_or, refl, sym, ap, ◌∙◌, arith}
use Rattle.std.proofs.lemmas.Nat.{from_be_bytes-to_be_bytes_2}
use Rattle.gx_page.specs.Bytes.{number_16_at, number_32_at, number_64_at}
use Rattle.gx_page.specs.Contents.{Contents}
use Rattle.gx_page.specs.Format.{image_of, total, IsItem, IsWellFormed}
use Rattle.gx_page.specs.Reading.{read_of, IsImage}
use Rattle.gx_page.proofs.Images.{length-image}
use Rattle.gx_page.proofs.Slots.{slot_of}

pub image_size : (bytes : List ℕ) → IsImage bytes → length bytes ≡ 4096
image_size bytes i = ap length (sym i.image) ∙ length-image (read_of bytes) i.well_formed.fits

pub level_in : (bytes : List ℕ) → number_16_at bytes 0 ≡ (read_of bytes).level
unfolding read_of
level_in bytes = refl

pub nsn_in : (bytes : List ℕ) → number_64_at bytes 8 ≡ (read_of bytes).nsn
unfolding read_of
nsn_in bytes = refl

pub right_in : (bytes : List ℕ) → number_32_at bytes 16 ≡ (read_of bytes).right
unfolding read_of
right_in bytes = refl

pub number_in : (bytes : List ℕ) → number_32_at bytes 20 ≡ (read_of bytes).number
unfolding read_of
number_in bytes = refl

pub image_fits : (bytes : List ℕ) → IsImage bytes → 32 + 4 * length (read_of bytes).items + total (read_of bytes).items ≤ 4096
image_fits bytes i = i.well_formed.fits

count_in : (v : Contents) → IsWellFormed v → number_16_at (image_of v) 2 ≡ length v.items
unfolding image_of
count_in v w = let fits : 32 + 4 * length v.items + total v.items ≤ 4096 = w.fits in from_be_bytes-to_be_bytes_2 (length v.items) (omega arith)

start_in : (v : Contents) → IsWellFormed v → number_16_at (image_of v) 4 ≡ 4096 - total v.items
unfolding image_of
start_in v w = from_be_bytes-to_be_bytes_2 (4096 - total v.items) (omega arith)

pub image_count : (bytes : List ℕ) → IsImage bytes → number_16_at bytes 2 ≡ length (read_of bytes).items
image_count bytes i = ap (λ (xs : List ℕ). number_16_at xs 2) (sym i.image) ∙ count_in (read_of bytes) i.well_formed

pub image_start : (bytes : List ℕ) → IsImage bytes → number_16_at bytes 4 + total (read_of bytes).items ≡ 4096
image_start bytes i = let fits = image_fits bytes i in let at : number_16_at bytes 4 ≡ 4096 - total (read_of bytes).items = ap (λ (xs : List ℕ). number_16_at xs 4) (sym i.image) ∙ start_in (read_of bytes) i.well_formed in omega arith

pub total-take-suc : (items : List (List ℕ)) (j : ℕ) → total (take (suc j) items) ≡ total (take j items) + length (get_or items j [])
total-take-suc [] zero = omega arith
total-take-suc [] (suc j) = omega arith
total-take-suc (x ∷ items) zero = omega arith
total-take-suc (x ∷ items) (suc j) = omega (arith, total-take-suc items j)

-- a slot of an image: where its bytes begin, and how many they are
pub record Placed (bytes : List ℕ) (j : ℕ) : Type 0 where
  pub place : number_16_at bytes (32 + 4 * j) + (total (take j (read_of bytes).items) + length (get_or (read_of bytes).items j [])) ≡ 4096
  pub size : number_16_at bytes (32 + 4 * j + 2) ≡ length (get_or (read_of bytes).items j [])
  pub within : total (take j (read_of bytes).items) + length (get_or (read_of bytes).items j []) ≤ total (read_of bytes).items

pub placed : (bytes : List ℕ) → IsImage bytes → (j : ℕ) → j < length (read_of bytes).items → Placed bytes j
placed bytes i j h =
    let v = read_of bytes in let s = slot_of v i.well_formed bytes (sym i.image) j h in let next = total-take-suc v.items j in let fits = image_fits bytes i in
    record { place = omega (arith, s.place, s.within); size = s.size; within = omega (arith, s.within) }

items_total : (items : List (List ℕ)) → ((k : ℕ) (d : List ℕ) → k < length items → IsItem (get_or items k d)) → length items ≤ total items
items_total [] h = omega arith
items_total (x ∷ items) h = let some : 1 ≤ length x = (h 0 [] (omega arith)).0 in omega (arith, items_total items (λ k d l. h (suc k) d (omega arith)))

pub image_bound : (bytes : List ℕ) → IsImage bytes → length (read_of bytes).items ≤ 812
image_bound bytes i = omega (arith, image_fits bytes i, items_total (read_of bytes).items i.well_formed.items)
