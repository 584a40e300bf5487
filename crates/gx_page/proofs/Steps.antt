-- What each call leaves of a page, from what it writes.
use Rattle.std.proofs.Common.{◌≡◌, ℕ, zero, suc, ◌+◌, ◌-◌, ◌*◌, ◌^◌, ◌<◌, ◌≤◌, List, [], ◌∷◌, ◌++◌, None, length, take, drop, get_or, set, refl, sym, ap, ◌∙◌, subst, arith, append-nil, length-append, length-take, length-drop, lit<}
use lib.Seq.{split_at, set_split}
use Rattle.std.specs.Prelude.{slice_range}
use Rattle.std.specs.List.{All, insert, remove, copy_within}
use Rattle.std.proofs.lemmas.List.{drop_all, take_all, length-set}
use Rattle.std.proofs.lemmas.List.Edits.{length-paste}
use Rattle.std.proofs.lemmas.List.Elements.{All-append, All-cons, All-take, All-drop, All-set, All-nil}
use Rattle.gx_page.specs.Bytes.{zeros, spell_16, spell_32, spell_64, overwrite, AreBytes}
use Rattle.gx_page.specs.Contents.{Contents}
use Rattle.gx_page.specs.Edits.{with_items, blank}
use Rattle.gx_page.specs.Format.{image_of, total, Fits, IsItem, IsWellFormed}
use Rattle.gx_page.specs.Reading.{read_of, IsImage}
use Rattle.gx_page.proofs.Pieces.{length-overwrite, length-zeros}
use Rattle.gx_page.proofs.Images.{made}
use Rattle.gx_page.proofs.Changes.{inserted, removed, Replaces, replaced, byte_set, item_at, level_set, nsn_set, right_set, number_set, fresh_is, total-append}
use Rattle.gx_page.proofs.Moves.{after_opening, after_closing}
use Rattle.gx_page.proofs.Parts.{image_size}

-- ---- the header
pub level_goes : (b : List ℕ) (n : ℕ) → IsImage b → n < 2 ^ 16 → IsImage (overwrite b 0 (spell_16 n)) × (read_of (overwrite b 0 (spell_16 n)) ≡ record (read_of b) { level = n })
level_goes b n i l = let f = i.well_formed in
    made (record (read_of b) { level = n }) (record { level = l; nsn = f.nsn; right = f.right; number = f.number; items = f.items; fits = f.fits }) (overwrite b 0 (spell_16 n)) (ap (λ (xs : List ℕ). overwrite xs 0 (spell_16 n)) (sym i.image) ∙ level_set (read_of b) n)

pub nsn_goes : (b : List ℕ) (n : ℕ) → IsImage b → n < 2 ^ 64 → IsImage (overwrite b 8 (spell_64 n)) × (read_of (overwrite b 8 (spell_64 n)) ≡ record (read_of b) { nsn = n })
nsn_goes b n i l = let f = i.well_formed in
    made (record (read_of b) { nsn = n }) (record { level = f.level; nsn = l; right = f.right; number = f.number; items = f.items; fits = f.fits }) (overwrite b 8 (spell_64 n)) (ap (λ (xs : List ℕ). overwrite xs 8 (spell_64 n)) (sym i.image) ∙ nsn_set (read_of b) n)

pub right_goes : (b : List ℕ) (n : ℕ) → IsImage b → n < 2 ^ 32 → IsImage (overwrite b 16 (spell_32 n)) × (read_of (overwrite b 16 (spell_32 n)) ≡ record (read_of b) { right = n })
right_goes b n i l = let f = i.well_formed in
    made (record (read_of b) { right = n }) (record { level = f.level; nsn = f.nsn; right = l; number = f.number; items = f.items; fits = f.fits }) (overwrite b 16 (spell_32 n)) (ap (λ (xs : List ℕ). overwrite xs 16 (spell_32 n)) (sym i.image) ∙ right_set (read_of b) n)

pub number_goes : (b : List ℕ) (n : ℕ) → IsImage b → n < 2 ^ 32 → IsImage (overwrite b 20 (spell_32 n)) × (read_of (overwrite b 20 (spell_32 n)) ≡ record (read_of b) { number = n })
number_goes b n i l = let f = i.well_formed in
    made (record (read_of b) { number = n }) (record { level = f.level; nsn = f.nsn; right = f.right; number = l; items = f.items; fits = f.fits }) (overwrite b 20 (spell_32 n)) (ap (λ (xs : List ℕ). overwrite xs 20 (spell_32 n)) (sym i.image) ∙ number_set (read_of b) n)

-- ---- the items

formed : (v : Contents) (items : List (List ℕ)) → IsWellFormed v → All IsItem items → Fits items → IsWellFormed (with_items v items)
formed v items f all fits = record { level = f.level; nsn = f.nsn; right = f.right; number = f.number; items = all; fits = fits }

length-inserted : (items : List (List ℕ)) (i : ℕ) (x : List ℕ) → i ≤ length items → length (insert items i x) ≡ length items + 1
length-inserted items i x h = omega (arith, length-append (take i items) (x ∷ drop i items), length-take i items, length-drop i items)

total-inserted : (items : List (List ℕ)) (i : ℕ) (x : List ℕ) → total (insert items i x) ≡ total items + length x
total-inserted items i x = omega (arith, total-append (take i items) (x ∷ drop i items), total-append (take i items) (drop i items), ap total (Rattle.std.proofs.Common.take-append-drop i items))

pub inserted_size : (items : List (List ℕ)) (i : ℕ) (x : List ℕ) → i ≤ length items → 4 * length (insert items i x) + total (insert items i x) ≡ 4 + 4 * length items + total items + length x
inserted_size items i x h = omega (arith, length-inserted items i x h, total-inserted items i x)

-- if the heap starts too low for one more item and its slot, the longer list doesn't fit
pub no_room : (items : List (List ℕ)) (i : ℕ) (x : List ℕ) (count start : ℕ) → i ≤ length items → count ≡ length items → start + total items ≡ 4096 → start < 32 + 4 * count + 4 + length x → Fits (insert items i x) → ⊥
no_room items i x count start h is_count is_start low fits =
    let f : 32 + 4 * length (insert items i x) + total (insert items i x) ≤ 4096 = fits in omega (arith, inserted_size items i x h)

pub insert_goes : (b b' : List ℕ) (i : ℕ) (x : List ℕ) → IsImage b → i ≤ length (read_of b).items → 1 ≤ length x → AreBytes x → 36 + 4 * length (read_of b).items + total (read_of b).items + length x ≤ 4096
    → b' ≡ image_of (with_items (read_of b) (insert (read_of b).items i x)) → IsImage b' × (read_of b' ≡ with_items (read_of b) (insert (read_of b).items i x))
insert_goes b b' i x im h some are room =
    let items = (read_of b).items in let f = im.well_formed in
    made (with_items (read_of b) (insert items i x)) (formed (read_of b) (insert items i x) f
    (All-append IsItem (take i items) (x ∷ drop i items) (All-take IsItem i items f.items) (All-cons IsItem x (drop i items) (some, are) (All-drop IsItem i items f.items))) (omega (arith, inserted_size items i x h))) b'

remove_fits : (items : List (List ℕ)) (i : ℕ) → i < length items → Fits items → Fits (remove items i)
remove_fits items i h fits =
    let f : 32 + 4 * length items + total items ≤ 4096 = fits in let split : items ≡ take i items ++ (get_or items i [] ∷ drop (suc i) items) = split_at items i [] h in
    omega (arith, length-append (take i items) (drop (suc i) items), total-append (take i items) (drop (suc i) items), total-append (take i items) (get_or items i [] ∷ drop (suc i) items), ap total split, length-take i items, length-drop (suc i) items)

pub remove_goes : (b b' : List ℕ) (i : ℕ) → IsImage b → i < length (read_of b).items → b' ≡ image_of (with_items (read_of b) (remove (read_of b).items i)) → IsImage b' × (read_of b' ≡ with_items (read_of b) (remove (read_of b).items i))
remove_goes b b' i im h =
    let items = (read_of b).items in let f = im.well_formed in
    made (with_items (read_of b) (remove items i)) (formed (read_of b) (remove items i) f
    (All-append IsItem (take i items) (drop (suc i) items) (All-take IsItem i items f.items) (All-drop IsItem (suc i) items f.items)) (remove_fits items i h f.fits)) b'

set_fits : (items : List (List ℕ)) (i : ℕ) (y : List ℕ) → i < length items → length y ≡ length (get_or items i []) → Fits items → Fits (set items i y)
set_fits items i y h same fits =
    let f : 32 + 4 * length items + total items ≤ 4096 = fits in let xs = take i items in let ys = drop (suc i) items in
    omega (arith, length-set items i y, ap total (set_split items i y h), ap total (split_at items i [] h), total-append xs (y ∷ ys), total-append xs (get_or items i [] ∷ ys))

replaces : (b : List ℕ) (i place : ℕ) → IsImage b → i < length (read_of b).items → place + (total (take i (read_of b).items) + length (get_or (read_of b).items i [])) ≡ 4096 → Replaces b i place (read_of b)
replaces b i place im h p = record { image = sym im.image; slot = h; fits = im.well_formed.fits; place_is = p }

pub item_written : (b b' : List ℕ) (place i : ℕ) (y : List ℕ) → IsImage b → i < length (read_of b).items → place + (total (take i (read_of b).items) + length (get_or (read_of b).items i [])) ≡ 4096
    → length y ≡ length (get_or (read_of b).items i []) → AreBytes y → b' ≡ overwrite b place y → IsImage b' × (read_of b' ≡ with_items (read_of b) (set (read_of b).items i y))
item_written b b' place i y im h p same are w =
    let items = (read_of b).items in let f = im.well_formed in let some : 1 ≤ length (get_or items i []) = (f.items i [] h).0 in
    made (with_items (read_of b) (set items i y)) (formed (read_of b) (set items i y) f (All-set IsItem items i y (omega arith, are) f.items) (set_fits items i y h same f.fits)) b'
    (w ∙ replaced b i place (read_of b) y (replaces b i place im h p) same)

set_are : (x : List ℕ) (k c : ℕ) → AreBytes x → c < 256 → AreBytes (set x k c)
set_are [] k c are l j = are j
set_are (y ∷ x) zero c are l zero = l
set_are (y ∷ x) zero c are l (suc j) = are (suc j)
set_are (y ∷ x) (suc k) c are l zero = are zero
set_are (y ∷ x) (suc k) c are l (suc j) = set_are x k c (λ m. are (suc m)) l j

pub byte_written : (b b' : List ℕ) (place i k c : ℕ) → IsImage b → i < length (read_of b).items → place + (total (take i (read_of b).items) + length (get_or (read_of b).items i [])) ≡ 4096
    → k < length (get_or (read_of b).items i []) → c < 256 → b' ≡ set b (place + k) c → IsImage b' × (read_of b' ≡ with_items (read_of b) (set (read_of b).items i (set (get_or (read_of b).items i []) k c)))
byte_written b b' place i k c im h p l small w =
    let items = (read_of b).items in let f = im.well_formed in let x = get_or items i [] in let y = set x k c in let item = f.items i [] h in
    let size : length y ≡ length x = length-set x k c in
    made (with_items (read_of b) (set items i y)) (formed (read_of b) (set items i y) f (All-set IsItem items i y (omega (arith, item.0), set_are x k c item.1 small) f.items) (set_fits items i y h size f.fits)) b'
    (w ∙ byte_set b i place k c (read_of b) (replaces b i place im h p) l)

pub item_read : (b : List ℕ) (place i : ℕ) → IsImage b → i < length (read_of b).items → place + (total (take i (read_of b).items) + length (get_or (read_of b).items i [])) ≡ 4096
    → slice_range b place (place + length (get_or (read_of b).items i [])) ≡ get_or (read_of b).items i []
item_read b place i im h p = item_at b i place (read_of b) (replaces b i place im h p)

pub item_some : (b : List ℕ) (i : ℕ) → IsImage b → i < length (read_of b).items → (1 ≤ length (get_or (read_of b).items i [])) × (length (get_or (read_of b).items i []) ≤ 4060)
item_some b i im h =
    let items = (read_of b).items in let fits : Fits items = im.well_formed.fits in let xs = take i items in let ys = drop (suc i) items in
    ((im.well_formed.items i [] h).0, omega (arith, ap total (split_at items i [] h), total-append xs (get_or items i [] ∷ ys)))

-- ---- the whole block

pub whole_read : (b : List ℕ) → IsImage b → slice_range b 0 4096 ≡ image_of (read_of b)
whole_read b i = let size = image_size b i in take_all 4096 b (omega arith) ∙ sym i.image

pub whole_written : (b ys : List ℕ) → length b ≡ 4096 → length ys ≡ 4096 → overwrite b 0 ys ≡ ys
whole_written b ys h k = ap (λ (zs : List ℕ). ys ++ zs) (drop_all (0 + length ys) b (omega arith)) ∙ append-nil ys

pub cleared : (b : List ℕ) → IsImage b → overwrite b 0 (zeros 4096) ≡ zeros 4096
cleared b i = whole_written b (zeros 4096) (image_size b i) (length-zeros 4096)

-- three writes over zeros make the image of a page with no items
pub blank_goes : (b b₁ b₂ b₃ : List ℕ) (level number : ℕ) → b ≡ zeros 4096 → level < 2 ^ 16 → number < 2 ^ 32
    → b₁ ≡ overwrite b 0 (spell_16 level) → b₂ ≡ overwrite b₁ 4 (spell_16 4096) → b₃ ≡ overwrite b₂ 20 (spell_32 number)
    → IsImage b₃ × (read_of b₃ ≡ blank level number)
blank_goes b b₁ b₂ b₃ level number e l n w₁ w₂ w₃ =
    made (blank level number) (record { level = l; nsn = lit< tt; right = lit< tt; number = n; items = All-nil IsItem; fits = omega arith }) b₃
    (w₃ ∙ ap (λ (zs : List ℕ). overwrite zs 20 (spell_32 number)) (w₂ ∙ ap (λ (zs : List ℕ). overwrite zs 4 (spell_16 4096)) w₁) ∙ fresh_is level number b e)

-- ---- the edits of a block, write by write

length-copied : (b : List ℕ) (from to dest : ℕ) → from ≤ to → to ≤ length b → dest + (to - from) ≤ length b → length (copy_within b from to dest) ≡ length b
length-copied b from to dest h k l = length-paste b dest (drop from b) (to - from) l (omega (arith, length-drop from b))

pub moved_size : (b b₁ b₂ ys : List ℕ) (from to dest at : ℕ) → IsImage b → from ≤ to → to ≤ 4096 → dest + (to - from) ≤ 4096 → at + length ys ≤ 4096 → b₁ ≡ copy_within b from to dest → b₂ ≡ overwrite b₁ at ys → length b₂ ≡ 4096
moved_size b b₁ b₂ ys from to dest at im h k l m w₁ w₂ =
    let size = image_size b im in let one : length b₁ ≡ 4096 = ap length w₁ ∙ length-copied b from to dest h (omega arith) (omega arith) ∙ size in
    ap length w₂ ∙ length-overwrite b₁ at ys (omega arith) ∙ one

pub insert_block : (b b₁ b₂ b₃ b₄ b₅ : List ℕ) (i count start end size from to n : ℕ) (x : List ℕ) → IsImage b → i ≤ length (read_of b).items → 36 + 4 * length (read_of b).items + total (read_of b).items + length x ≤ 4096
    → count ≡ length (read_of b).items → start + total (read_of b).items ≡ 4096 → end + total (take i (read_of b).items) ≡ 4096 → size ≡ length x → from ≡ start → to ≡ end → n ≡ count
    → b₁ ≡ copy_within b from to (from - length x) → b₂ ≡ overwrite b₁ (to - length x) x → b₃ ≡ after_opening b₂ i (n - i) end size → b₄ ≡ overwrite b₃ 2 (spell_16 (count + 1)) → b₅ ≡ overwrite b₄ 4 (spell_16 (start - size))
    → b₅ ≡ image_of (with_items (read_of b) (insert (read_of b).items i x))
insert_block b b₁ b₂ b₃ b₄ b₅ i count start end size from to n x im slot room c s e z f t m w₁ w₂ w₃ w₄ w₅ =
    let last = λ (zs : List ℕ). overwrite (overwrite zs 2 (spell_16 (count + 1))) 4 (spell_16 (start - size)) in
    w₅ ∙ ap (λ (zs : List ℕ). overwrite zs 4 (spell_16 (start - size))) w₄ ∙ ap last w₃ ∙ ap (λ (zs : List ℕ). last (after_opening zs i (n - i) end size)) (w₂ ∙ ap (λ (zs : List ℕ). overwrite zs (to - length x) x) w₁) ∙
    ap (λ (k : ℕ). last (after_opening (overwrite (copy_within b from to (from - length x)) (to - length x) x) i (k - i) end size)) m ∙
    ap (λ (k : ℕ). last (after_opening (overwrite (copy_within b k to (k - length x)) (to - length x) x) i (count - i) end size)) f ∙
    ap (λ (k : ℕ). last (after_opening (overwrite (copy_within b start k (start - length x)) (k - length x) x) i (count - i) end size)) t ∙
    inserted b i count start end size (read_of b) x (record { image = sym im.image; slot = slot; room = room; count_is = c; start_is = s; end_is = e; size_is = z })

pub remove_block : (b b₁ b₂ b₃ b₄ b₅ : List ℕ) (i count start end size from to gap n : ℕ) → IsImage b → i < length (read_of b).items
    → count ≡ length (read_of b).items → start + total (read_of b).items ≡ 4096 → end + total (take i (read_of b).items) ≡ 4096 → size ≡ length (get_or (read_of b).items i []) → from ≡ start → to ≡ end → gap ≡ size → n ≡ count
    → b₁ ≡ copy_within b from (to - gap) (from + gap) → b₂ ≡ overwrite b₁ from (zeros (from + gap - from)) → b₃ ≡ after_closing b₂ i (n - 1 - i) end → b₄ ≡ overwrite b₃ 2 (spell_16 (count - 1)) → b₅ ≡ overwrite b₄ 4 (spell_16 (start + size))
    → b₅ ≡ image_of (with_items (read_of b) (remove (read_of b).items i))
remove_block b b₁ b₂ b₃ b₄ b₅ i count start end size from to gap n im slot c s e z f t g m w₁ w₂ w₃ w₄ w₅ =
    let last = λ (zs : List ℕ). overwrite (overwrite zs 2 (spell_16 (count - 1))) 4 (spell_16 (start + size)) in
    w₅ ∙ ap (λ (zs : List ℕ). overwrite zs 4 (spell_16 (start + size))) w₄ ∙ ap last w₃ ∙ ap (λ (zs : List ℕ). last (after_closing zs i (n - 1 - i) end)) (w₂ ∙ ap (λ (zs : List ℕ). overwrite zs from (zeros (from + gap - from))) w₁) ∙
    ap (λ (k : ℕ). last (after_closing (overwrite (copy_within b from (to - gap) (from + gap)) from (zeros (from + gap - from))) i (k - 1 - i) end)) m ∙
    ap (λ (k : ℕ). last (after_closing (overwrite (copy_within b k (to - gap) (k + gap)) k (zeros (k + gap - k))) i (count - 1 - i) end)) f ∙
    ap (λ (k : ℕ). last (after_closing (overwrite (copy_within b start (k - gap) (start + gap)) start (zeros (start + gap - start))) i (count - 1 - i) end)) t ∙
    ap (λ (k : ℕ). last (after_closing (overwrite (copy_within b start (end - k) (start + k)) start (zeros (start + k - start))) i (count - 1 - i) end)) g ∙
    removed b i count start end size (read_of b) (record { image = sym im.image; slot = slot; fits = im.well_formed.fits; count_is = c; start_is = s; end_is = e; size_is = z })
