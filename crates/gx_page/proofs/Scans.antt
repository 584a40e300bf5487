-- Where the items' bytes lie, in the heap and in the image.
use Rattle.std.proofs.Common.{◌≡◌, ℕ, zero, suc, ◌+◌, ◌-◌, ◌*◌, ◌<◌, ◌≤◌, List, [], ◌∷◌, ◌++◌, length, take, drop, get_or, refl, sym, ap, ◌∙◌, arith, add-one, append_assoc, append-nil, length-append, length-take, length-drop}
use lib.Seq.{split_at}
use Rattle.std.specs.Prelude.{slice_range}
use Rattle.std.proofs.Math.Nat.{mul-suc}
use Rattle.std.proofs.lemmas.List.{drop_at, take_all}
use Rattle.std.proofs.lemmas.List.Elements.{All-take, All-drop}
use Rattle.gx_page.specs.Contents.{Contents}
use Rattle.gx_page.specs.Bytes.{zeros}
use Rattle.gx_page.specs.Format.{image_of, header, directory, heap, total, Fits, IsWellFormed}
use Rattle.gx_page.specs.Reading.{read_of, IsImage}
use Rattle.gx_page.specs.Sizes.{AllOfLength}
use Rattle.gx_page.proofs.Images.{length-heap, length-image, image_front, range_mid}
use Rattle.gx_page.proofs.Parts.{total-take-suc}
use Rattle.gx_page.proofs.Slots.{total-take-le}
use Rattle.gx_page.proofs.Changes.{heap-append, item_at}

-- ---- the heap

pub image_heap : (v : Contents) → IsWellFormed v → drop (4096 - total v.items) (image_of v) ≡ heap v.items
image_heap v w =
    let front = header v (directory 4096 v.items ++ zeros (4064 - (4 * length v.items + total v.items))) in
    let long : length front ≡ 4096 - total v.items = omega (arith, ap length (image_front v), length-image v w.fits, length-append front (heap v.items ++ []), length-append (heap v.items) [], length-heap v.items) in
    ap (drop (4096 - total v.items)) (image_front v) ∙ drop_at front (heap v.items ++ []) (4096 - total v.items) long ∙ append-nil (heap v.items)

pub heap_read : (b : List ℕ) (start : ℕ) → IsImage b → start + total (read_of b).items ≡ 4096
    → (slice_range b start 4096 ≡ heap (read_of b).items) × (length (slice_range b start 4096) ≡ total (read_of b).items)
heap_read b start i e =
    let from : start ≡ 4096 - total (read_of b).items = omega arith in
    let rest : drop start b ≡ heap (read_of b).items = ap (λ (n : ℕ). drop n b) from ∙ ap (drop (4096 - total (read_of b).items)) (sym i.image) ∙ image_heap (read_of b) i.well_formed in
    let all : slice_range b start 4096 ≡ heap (read_of b).items = ap (take (4096 - start)) rest ∙ take_all (4096 - start) (heap (read_of b).items) (omega (arith, length-heap (read_of b).items)) in
    (all, ap length all ∙ length-heap (read_of b).items)

pub heap_goes_on : (items : List (List ℕ)) (slot : ℕ) → slot < length items → heap (drop slot items) ≡ heap (drop (slot + 1) items) ++ get_or items slot []
heap_goes_on [] slot h = absurd (omega arith)
heap_goes_on (x ∷ items) zero h = refl
heap_goes_on (x ∷ items) (suc slot) h = rw add-one (rw add-one at (heap_goes_on items slot (omega arith)))

-- ---- items of one length

pub total_of_one_length : (items : List (List ℕ)) (size : ℕ) → AllOfLength size items → total items ≡ size * length items
total_of_one_length [] size all = omega arith
total_of_one_length (x ∷ items) size all =
    let first : length x ≡ size = all 0 [] (omega arith) in
    let rest : total items ≡ size * length items = total_of_one_length items size (λ k d l. all (suc k) d (omega arith)) in
    omega (arith, mul-suc size (length items))

pub place_in_heap : (items : List (List ℕ)) (size slot : ℕ) → AllOfLength size items → slot < length items
    → slice_range (heap items) (size * (length items - (slot + 1))) (size * (length items - slot)) ≡ get_or items slot []
place_in_heap items size slot all h =
    let xs = take slot items in let x = get_or items slot [] in let ys = drop (suc slot) items in
    let long : length ys ≡ length items - (slot + 1) = omega (arith, length-drop (suc slot) items) in
    let split : heap items ≡ heap ys ++ (x ++ heap xs) = ap heap (split_at items slot [] h) ∙ heap-append xs (x ∷ ys) ∙ append_assoc (heap ys) x (heap xs) in
    let front : length (heap ys) ≡ size * (length items - (slot + 1)) = length-heap ys ∙ total_of_one_length ys size (All-drop (λ (item : List ℕ). length item ≡ size) (suc slot) items all) ∙ ap (λ (n : ℕ). size * n) long in
    let more : length items - slot ≡ suc (length items - (slot + 1)) = omega arith in
    let end : length x + size * (length items - (slot + 1)) ≡ size * (length items - slot) =
    omega (arith, all slot [] h, mul-suc size (length items - (slot + 1)), ap (λ (n : ℕ). size * n) more) in
    ap (λ (zs : List ℕ). slice_range zs (size * (length items - (slot + 1))) (size * (length items - slot))) split ∙
    range_mid (heap ys) x (heap xs) (size * (length items - (slot + 1))) (size * (length items - slot)) front end

pub place_in_image : (v : Contents) (size slot : ℕ) → IsWellFormed v → AllOfLength size v.items → slot < length v.items
    → slice_range (image_of v) (4096 - size * (slot + 1)) (4096 - size * slot) ≡ get_or v.items slot []
place_in_image v size slot w all h =
    let n = length v.items in let fits : Fits v.items = w.fits in let x = get_or v.items slot [] in
    let before : total (take slot v.items) ≡ size * slot = total_of_one_length (take slot v.items) size (All-take (λ (item : List ℕ). length item ≡ size) slot v.items all) ∙ ap (λ (m : ℕ). size * m) (omega (arith, length-take slot v.items)) in
    let here : length x ≡ size = all slot [] h in
    let within : total (take (suc slot) v.items) ≤ total v.items = total-take-le v.items (suc slot) in
    let next = total-take-suc v.items slot in
    let start : size * (slot + 1) ≡ size * slot + size = rw add-one (mul-suc size slot) in
    let place : 4096 - size * (slot + 1) + (total (take slot v.items) + length x) ≡ 4096 = omega arith in
    let end : 4096 - size * (slot + 1) + length x ≡ 4096 - size * slot = omega arith in
    ap (λ (m : ℕ). slice_range (image_of v) (4096 - size * (slot + 1)) m) (sym end) ∙
    item_at (image_of v) slot (4096 - size * (slot + 1)) v (record { image = refl; slot = h; fits = fits; place_is = place })
