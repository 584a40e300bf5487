-- An image read gives its contents back, and bytes without a fault are the image of what they read as.
use Rattle.std.proofs.Common.{◌≡◌, ℕ, ◌+◌, ◌-◌, ◌*◌, ◌^◌, ◌<◌, ◌≤◌, List, [], ◌∷◌, ◌++◌, length, take, map, refl, sym, ap, ◌∙◌, subst, arith, append_assoc, append-nil, length-append, lit<}
use Rattle.std.specs.Prelude.{slice_range}
use Rattle.std.proofs.lemmas.List.{take_at, drop_at}
use Rattle.std.proofs.lemmas.Nat.{from_be_bytes-to_be_bytes_2, from_be_bytes-to_be_bytes_4, from_be_bytes-to_be_bytes_8}
use Rattle.gx_page.specs.Bytes.{zeros, spell_16, number_16}
use Rattle.gx_page.specs.Contents.{Contents}
use Rattle.gx_page.specs.Format.{image_of, header, directory, heap, total, Fits, IsWellFormed}
use Rattle.gx_page.specs.Reading.{read_of, entries, entry_bytes, IsImage}
use Rattle.gx_page.proofs.Pieces.{length-zeros}

pub length-directory : (end : ℕ) (items : List (List ℕ)) → length (directory end items) ≡ 4 * length items
length-directory end [] = refl
length-directory end (x ∷ items) = omega (arith, length-directory (end - length x) items)

pub length-heap : (items : List (List ℕ)) → length (heap items) ≡ total items
length-heap [] = refl
length-heap (x ∷ items) = omega (arith, length-append (heap items) x, length-heap items)

-- the slots that the items take below a place
abbrev pub slots : ℕ → List (List ℕ) → List (ℕ × ℕ)
slots end [] = []
slots end (x ∷ items) = (end - length x, length x) ∷ slots (end - length x) items

pub entries-directory : (end : ℕ) (items : List (List ℕ)) (back : List ℕ) → total items ≤ end → end < 2 ^ 16 → entries (length items) (directory end items ++ back) ≡ slots end items
entries-directory end [] back h l = refl
entries-directory end (x ∷ items) back h l =
    let place : number_16 (spell_16 (end - length x)) ≡ end - length x = from_be_bytes-to_be_bytes_2 (end - length x) (omega arith) in
    let size : number_16 (spell_16 (length x)) ≡ length x = from_be_bytes-to_be_bytes_2 (length x) (omega arith) in
    ap (λ (n : ℕ). (n, number_16 (spell_16 (length x))) ∷ entries (length items) (directory (end - length x) items ++ back)) place ∙
    ap (λ (n : ℕ). (end - length x, n) ∷ entries (length items) (directory (end - length x) items ++ back)) size ∙
    ap (λ (es : List (ℕ × ℕ)). (end - length x, length x) ∷ es) (entries-directory (end - length x) items back (omega arith) (omega arith))

-- the bytes between two places of joined lists
pub range_mid : (front mid back : List ℕ) (from to : ℕ) → length front ≡ from → length mid + from ≡ to → slice_range (front ++ (mid ++ back)) from to ≡ mid
range_mid front mid back from to e f =
    ap (λ (xs : List ℕ). take (to - from) xs) (drop_at front (mid ++ back) from e) ∙ take_at mid back (to - from) (omega arith)

pub items-heap : (items : List (List ℕ)) (end : ℕ) (front back bytes : List ℕ) → bytes ≡ front ++ (heap items ++ back) → length front + total items ≡ end → map (entry_bytes bytes) (slots end items) ≡ items
items-heap [] end front back bytes e h = refl
items-heap (x ∷ items) end front back bytes e h =
    let o = end - length x in
    let cut_here : bytes ≡ (front ++ heap items) ++ (x ++ back) = e ∙ ap (λ (xs : List ℕ). front ++ xs) (append_assoc (heap items) x back) ∙ sym (append_assoc front (heap items) (x ++ back)) in
    let size : length (front ++ heap items) ≡ o = omega (arith, length-append front (heap items), length-heap items) in
    let here : slice_range bytes o (o + length x) ≡ x = ap (λ (xs : List ℕ). slice_range xs o (o + length x)) cut_here ∙ range_mid (front ++ heap items) x back o (o + length x) size (omega arith) in
    let rest : map (entry_bytes bytes) (slots o items) ≡ items = items-heap items o front (x ++ back) bytes (e ∙ ap (λ (xs : List ℕ). front ++ xs) (append_assoc (heap items) x back)) (omega arith) in
    ap (λ (y : List ℕ). y ∷ map (entry_bytes bytes) (slots o items)) here ∙ ap (λ (ys : List (List ℕ)). x ∷ ys) rest

-- the image is as long as a page
pub length-image : (v : Contents) → Fits v.items → length (image_of v) ≡ 4096
unfolding image_of
length-image v h = let n = 4064 - (4 * length v.items + total v.items) in
    omega (arith, length-append (directory 4096 v.items) (zeros n ++ heap v.items), length-append (zeros n) (heap v.items), length-zeros n, length-heap v.items, length-directory 4096 v.items)

pub image_front : (v : Contents) → image_of v ≡ header v (directory 4096 v.items ++ zeros (4064 - (4 * length v.items + total v.items))) ++ (heap v.items ++ [])
unfolding image_of
image_front v = let z = zeros (4064 - (4 * length v.items + total v.items)) in
    ap (λ (xs : List ℕ). header v xs) (sym (append_assoc (directory 4096 v.items) z (heap v.items)) ∙ ap (λ (xs : List ℕ). (directory 4096 v.items ++ z) ++ xs) (sym (append-nil (heap v.items))))

-- an image read gives its contents back
pub read-image : (v : Contents) → IsWellFormed v → read_of (image_of v) ≡ v
unfolding read_of image_of
read-image v w =
    let fits : Fits v.items = w.fits in
    let n = length v.items in let z = zeros (4064 - (4 * n + total v.items)) in let back = z ++ heap v.items in let body = directory 4096 v.items ++ back in let whole = header v body in
    let count : number_16 (spell_16 n) ≡ n = from_be_bytes-to_be_bytes_2 n (omega arith) in
    let slots_are : entries n body ≡ slots 4096 v.items = entries-directory 4096 v.items back (omega arith) (lit< tt) in
    let front = header v (directory 4096 v.items ++ z) in
    let size : length front + total v.items ≡ 4096 = omega (arith, length-append (directory 4096 v.items) z, length-zeros (4064 - (4 * n + total v.items)), length-directory 4096 v.items) in
    let items_are : map (entry_bytes whole) (slots 4096 v.items) ≡ v.items = items-heap v.items 4096 front [] whole (image_front v) size in
    let read_items : map (entry_bytes whole) (entries (number_16 (spell_16 n)) body) ≡ v.items =
    ap (λ (m : ℕ). map (entry_bytes whole) (entries m body)) count ∙ ap (λ (es : List (ℕ × ℕ)). map (entry_bytes whole) es) slots_are ∙ items_are in
    λ i. record {
      level = from_be_bytes-to_be_bytes_2 v.level w.level i;
      nsn = from_be_bytes-to_be_bytes_8 v.nsn w.nsn i;
      right = from_be_bytes-to_be_bytes_4 v.right w.right i;
      number = from_be_bytes-to_be_bytes_4 v.number w.number i;
      items = read_items i;
    }

-- an image keeps what the page owes of its block
pub made : (v : Contents) → IsWellFormed v → (bytes : List ℕ) → bytes ≡ image_of v → IsImage bytes × (read_of bytes ≡ v)
made v w bytes e =
    let again : read_of bytes ≡ v = ap read_of e ∙ read-image v w in
    (record { image = ap image_of again ∙ sym e; well_formed = subst IsWellFormed (sym again) w }, again)
