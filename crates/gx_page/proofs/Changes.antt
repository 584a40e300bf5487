-- What each edit of an image leaves is the image of the edited contents.
use Rattle.std.proofs.Common.{◌≡◌, ℕ, suc, ◌+◌, ◌-◌, ◌*◌, ◌^◌, ◌<◌, ◌≤◌, List, [], ◌∷◌, ◌++◌, length, take, drop, get_or, set, refl, sym, ap, ◌∙◌, arith, append_assoc, append-nil, length-append, length-take, length-drop, take-append-drop}
use lib.Seq.{take-add, split_at, set_split}
use Rattle.std.specs.Prelude.{slice_range}
use Rattle.std.specs.List.{insert, remove, copy_within}
use Rattle.std.proofs.lemmas.List.{drop-drop, drop_at, take_at, set-append_left, set-append_right, length-set}
use Rattle.std.proofs.lemmas.Nat.{from_be_bytes-to_be_bytes_2}
use Rattle.gx_page.specs.Bytes.{zeros, spell_16, spell_32, spell_64, number_16, overwrite}
use Rattle.gx_page.specs.Contents.{Contents}
use Rattle.gx_page.specs.Edits.{opened, closed, with_items, blank}
use Rattle.gx_page.specs.Format.{image_of, header, directory, heap, total, Fits}
use Rattle.gx_page.proofs.Pieces.{overwrite_mid, length-zeros, zeros-append}
use Rattle.gx_page.proofs.Images.{length-directory, length-heap, range_mid}
use Rattle.gx_page.proofs.Moves.{after_opening, after_closing}

-- ---- directories and heaps of joined lists

directory-append : (end : ℕ) (xs ys : List (List ℕ)) → directory end (xs ++ ys) ≡ directory end xs ++ directory (end - total xs) ys
directory-append end [] ys = ap (λ (m : ℕ). directory m ys) (omega arith)
directory-append end (x ∷ xs) ys =
    ap (λ (zs : List ℕ). spell_16 (end - length x) ++ (spell_16 (length x) ++ zs)) (directory-append (end - length x) xs ys ∙ ap (λ (m : ℕ). directory (end - length x) xs ++ directory m ys) (omega arith))

pub heap-append : (xs ys : List (List ℕ)) → heap (xs ++ ys) ≡ heap ys ++ heap xs
heap-append [] ys = sym (append-nil (heap ys))
heap-append (x ∷ xs) ys = ap (λ (zs : List ℕ). zs ++ x) (heap-append xs ys) ∙ append_assoc (heap ys) (heap xs) x

pub total-append : (xs ys : List (List ℕ)) → total (xs ++ ys) ≡ total xs + total ys
total-append [] ys = omega arith
total-append (x ∷ xs) ys = omega (arith, total-append xs ys)

-- ---- a move of slots, on a directory

opened-directory : (ys : List (List ℕ)) (x : List ℕ) (end e : ℕ) (back : List ℕ) → total ys < 2 ^ 16 → opened (length ys) end (length x) (directory e ys ++ back) ≡ directory end (x ∷ ys)
unfolding opened
opened-directory [] x end e back h = refl
opened-directory (y ∷ ys) x end e back h =
    let size : number_16 (spell_16 (length y)) ≡ length y = from_be_bytes-to_be_bytes_2 (length y) (omega arith) in
    ap (λ (m : ℕ). spell_16 (end - length x) ++ (spell_16 (length x) ++ opened (length ys) (end - length x) m (directory (e - length y) ys ++ back))) size ∙
    ap (λ (zs : List ℕ). spell_16 (end - length x) ++ (spell_16 (length x) ++ zs)) (opened-directory ys y (end - length x) (e - length y) back (omega arith))

closed-directory : (ys : List (List ℕ)) (end e : ℕ) (back : List ℕ) → total ys < 2 ^ 16 → closed (length ys) end (directory e ys ++ back) ≡ directory end ys ++ (0 ∷ 0 ∷ 0 ∷ 0 ∷ [])
unfolding closed
closed-directory [] end e back h = refl
closed-directory (y ∷ ys) end e back h =
    let size : number_16 (spell_16 (length y)) ≡ length y = from_be_bytes-to_be_bytes_2 (length y) (omega arith) in
    ap (λ (m : ℕ). spell_16 (end - m) ++ (spell_16 m ++ closed (length ys) (end - m) (directory (e - length y) ys ++ back))) size ∙
    ap (λ (zs : List ℕ). spell_16 (end - length y) ++ (spell_16 (length y) ++ zs)) (closed-directory ys (end - length y) (e - length y) back (omega arith))

-- ---- a heap's part moved by one copy

-- down, over as many bytes as the new ones, which follow it
moved_down : (b A W P R new : List ℕ) (from to dest at : ℕ) → b ≡ A ++ (W ++ (P ++ R)) → length W ≡ length new → dest ≡ length A → from ≡ length A + length W → to ≡ from + length P → at ≡ length A + length P
    → overwrite (copy_within b from to dest) at new ≡ A ++ (P ++ (new ++ R))
moved_down b A W P R new from to dest at e same d f t a =
    let src : drop from b ≡ P ++ R = ap (λ (xs : List ℕ). drop from xs) (e ∙ sym (append_assoc A W (P ++ R))) ∙ drop_at (A ++ W) (P ++ R) from (omega (arith, length-append A W)) in
    let part : take (to - from) (drop from b) ≡ P = ap (λ (xs : List ℕ). take (to - from) xs) src ∙ take_at P R (to - from) (omega arith) in
    let low : take dest b ≡ A = ap (λ (xs : List ℕ). take dest xs) e ∙ take_at A (W ++ (P ++ R)) dest (omega arith) in
    let rest = drop (dest + (to - from)) b in
    let copied : copy_within b from to dest ≡ (A ++ P) ++ rest = ap (λ (xs : List ℕ). (xs ++ take (to - from) (drop from b)) ++ rest) low ∙ ap (λ (xs : List ℕ). (A ++ xs) ++ rest) part in
    let high : drop (length new) rest ≡ R =
    drop-drop (length new) (dest + (to - from)) b ∙ ap (λ (m : ℕ). drop m b) (omega arith) ∙ sym (drop-drop (length P) from b) ∙ ap (λ (xs : List ℕ). drop (length P) xs) src ∙ drop_at P R (length P) refl in
    let size : length (A ++ P) ≡ at = omega (arith, length-append A P) in
    let over : overwrite ((A ++ P) ++ rest) at new ≡ (A ++ P) ++ (new ++ R) =
    ap (λ (xs : List ℕ). xs ++ (new ++ drop (at + length new) ((A ++ P) ++ rest))) (take_at (A ++ P) rest at size) ∙
    ap (λ (xs : List ℕ). (A ++ P) ++ (new ++ xs)) (sym (drop-drop (length new) at ((A ++ P) ++ rest)) ∙ ap (λ (xs : List ℕ). drop (length new) xs) (drop_at (A ++ P) rest at size) ∙ high) in
    ap (λ (xs : List ℕ). overwrite xs at new) copied ∙ over ∙ append_assoc A P (new ++ R)

-- up, over the bytes x that are no longer, and zeros where it began
moved_up : (b A P x R : List ℕ) (from to dest : ℕ) → b ≡ A ++ (P ++ (x ++ R)) → from ≡ length A → to ≡ length A + length P → dest ≡ length A + length x
    → overwrite (copy_within b from to dest) from (zeros (dest - from)) ≡ A ++ (zeros (length x) ++ (P ++ R))
moved_up b A P x R from to dest e f t d =
    let src : drop from b ≡ P ++ (x ++ R) = ap (λ (xs : List ℕ). drop from xs) e ∙ drop_at A (P ++ (x ++ R)) from (omega arith) in
    let part : take (to - from) (drop from b) ≡ P = ap (λ (xs : List ℕ). take (to - from) xs) src ∙ take_at P (x ++ R) (to - from) (omega arith) in
    let gap = take (length x) (P ++ (x ++ R)) in
    let low : take dest b ≡ A ++ gap = ap (λ (m : ℕ). take m b) d ∙ take-add (length A) (length x) b ∙ ap (λ (xs : List ℕ). xs ++ take (length x) (drop (length A) b)) (ap (λ (xs : List ℕ). take (length A) xs) e ∙ take_at A (P ++ (x ++ R)) (length A) refl)
    ∙ ap (λ (xs : List ℕ). A ++ take (length x) xs) (ap (λ (m : ℕ). drop m b) (sym f) ∙ src) in
    let high : drop (dest + (to - from)) b ≡ R =
    ap (λ (m : ℕ). drop m b) (omega arith) ∙ sym (drop-drop (length P + length x) from b) ∙ ap (λ (xs : List ℕ). drop (length P + length x) xs) (src ∙ sym (append_assoc P x R)) ∙ drop_at (P ++ x) R (length P + length x) (length-append P x) in
    let copied : copy_within b from to dest ≡ A ++ (gap ++ (P ++ R)) =
    ap (λ (xs : List ℕ). (xs ++ take (to - from) (drop from b)) ++ drop (dest + (to - from)) b) low ∙ ap (λ (xs : List ℕ). ((A ++ gap) ++ xs) ++ drop (dest + (to - from)) b) part ∙
    ap (λ (xs : List ℕ). ((A ++ gap) ++ P) ++ xs) high ∙ append_assoc (A ++ gap) P R ∙ append_assoc A gap (P ++ R) in
    let gap_size : length gap ≡ length (zeros (length x)) = omega (arith, length-take (length x) (P ++ (x ++ R)), length-append P (x ++ R), length-append x R, length-zeros (length x)) in
    ap (λ (xs : List ℕ). overwrite xs from (zeros (dest - from))) copied ∙ ap (λ (m : ℕ). overwrite (A ++ (gap ++ (P ++ R))) from (zeros m)) (omega arith) ∙ overwrite_mid A gap (P ++ R) (zeros (length x)) from (omega arith) gap_size

-- ---- an image, cut at an item

abbrev gap_of : List (List ℕ) → ℕ
gap_of items = 4064 - (4 * length items + total items)

-- the image of items in two lists
cut_image : (v : Contents) (xs ys : List (List ℕ)) → v.items ≡ xs ++ ys
    → image_of v ≡ header v (directory 4096 xs) ++ (directory (4096 - total xs) ys ++ (zeros (gap_of v.items) ++ (heap ys ++ heap xs)))
unfolding image_of
cut_image v xs ys e =
    let z = zeros (gap_of v.items) in let end = 4096 - total xs in
    ap (λ (zs : List (List ℕ)). header v (directory 4096 zs ++ (z ++ heap zs))) e ∙ ap (λ (ds : List ℕ). header v (ds ++ (z ++ heap (xs ++ ys)))) (directory-append 4096 xs ys) ∙
    ap (λ (hs : List ℕ). header v ((directory 4096 xs ++ directory end ys) ++ (z ++ hs))) (heap-append xs ys) ∙
    ap (λ (zs : List ℕ). header v zs) (append_assoc (directory 4096 xs) (directory end ys) (z ++ (heap ys ++ heap xs)))

-- the count and the start of the heap written over a header
header_written : (v : Contents) (items : List (List ℕ)) (body : List ℕ) (count start : ℕ) → count ≡ length items → start ≡ 4096 - total items
    → overwrite (overwrite (header v body) 2 (spell_16 count)) 4 (spell_16 start) ≡ header (with_items v items) body
header_written v items body count start e f =
    ap (λ (m : ℕ). overwrite (overwrite (header v body) 2 (spell_16 m)) 4 (spell_16 start)) e ∙ ap (λ (m : ℕ). overwrite (overwrite (header v body) 2 (spell_16 (length items))) 4 (spell_16 m)) f

length-front : (v : Contents) (xs : List (List ℕ)) → length (header v (directory 4096 xs)) ≡ 32 + 4 * length xs
length-front v xs = omega (arith, length-directory 4096 xs)

-- ---- an item put in

pub record Inserts (b : List ℕ) (i count start end size : ℕ) (v : Contents) (x : List ℕ) : Type 0 where
  pub image : b ≡ image_of v
  pub slot : i ≤ length v.items
  pub room : 36 + 4 * length v.items + total v.items + length x ≤ 4096
  pub count_is : count ≡ length v.items
  pub start_is : start + total v.items ≡ 4096
  pub end_is : end + total (take i v.items) ≡ 4096
  pub size_is : size ≡ length x

zeros_three : (a b c n : ℕ) → n ≡ a + (b + c) → zeros n ≡ zeros a ++ (zeros b ++ zeros c)
zeros_three a b c n e = ap zeros e ∙ sym (zeros-append a (b + c)) ∙ ap (λ (zs : List ℕ). zeros a ++ zs) (sym (zeros-append b c))

pub inserted : (b : List ℕ) (i count start end size : ℕ) (v : Contents) (x : List ℕ) → Inserts b i count start end size v x
    → overwrite (overwrite (after_opening (overwrite (copy_within b start end (start - length x)) (end - length x) x) i (count - i) end size) 2 (spell_16 (count + 1))) 4 (spell_16 (start - size))
    ≡ image_of (with_items v (insert v.items i x))
unfolding image_of
inserted b i count start end size v x h =
    let xs = take i v.items in let ys = drop i v.items in let joined : v.items ≡ xs ++ ys = sym (take-append-drop i v.items) in
    let nx : length xs ≡ i = omega (arith, length-take i v.items, h.slot) in let ny : length ys + i ≡ length v.items = omega (arith, length-drop i v.items, h.slot) in
    let sum : total xs + total ys ≡ total v.items = sym (ap total joined ∙ total-append xs ys) in
    let L = length x in let E = 4096 - total xs in let F = gap_of v.items in let G = F - (4 + L) in
    let split : F ≡ 4 + (G + L) = omega (arith, h.room) in
    let front = header v (directory 4096 xs) in let D = directory E ys in let P = heap ys in let R = heap xs in
    let fs : length front ≡ 32 + 4 * i = length-front v xs ∙ ap (λ (m : ℕ). 32 + 4 * m) nx in
    let A = front ++ (D ++ (zeros 4 ++ zeros G)) in
    let long : length A ≡ 32 + 4 * i + (4 * length ys + (4 + G)) = omega (arith, length-append front (D ++ (zeros 4 ++ zeros G)), length-append D (zeros 4 ++ zeros G), length-append (zeros 4) (zeros G), length-zeros 4, length-zeros G, length-directory E ys, fs) in
    let cut : b ≡ A ++ (zeros L ++ (P ++ R)) = h.image ∙ cut_image v xs ys joined ∙ ap (λ (zs : List ℕ). front ++ (D ++ (zs ++ (P ++ R)))) (zeros_three 4 G L F split) ∙ regroup front D (zeros 4) (zeros G) (zeros L) (P ++ R) in
    let ends : end ≡ E = omega (arith, h.end_is) in
    let moved = moved_down b A (zeros L) P R x start end (start - L) (end - L) cut (length-zeros L) (omega (arith, h.start_is, h.room)) (omega (arith, h.start_is, h.room, length-zeros L)) (omega (arith, h.start_is, h.end_is, h.room, length-heap ys)) (omega (arith, h.start_is, h.end_is, h.room, length-heap ys)) in
    let b₂ = overwrite (copy_within b start end (start - L)) (end - L) x in
    let tail = zeros G ++ (P ++ (x ++ R)) in let D' = directory E (x ∷ ys) in let at = 32 + 4 * i in
    let laid : b₂ ≡ front ++ ((D ++ zeros 4) ++ tail) = moved ∙ regroup_again front D (zeros 4) (zeros G) (P ++ (x ++ R)) in
    let behind : drop at b₂ ≡ D ++ (zeros 4 ++ tail) = ap (λ (zs : List ℕ). drop at zs) laid ∙ drop_at front ((D ++ zeros 4) ++ tail) at fs ∙ append_assoc D (zeros 4) tail in
    let less : count - i ≡ length ys = omega (arith, h.count_is) in
    let slots : opened (count - i) end size (drop at b₂) ≡ D' =
    ap (λ (zs : List ℕ). opened (count - i) end size zs) behind ∙ ap (λ (m : ℕ). opened m end size (D ++ (zeros 4 ++ tail))) less ∙ ap (λ (m : ℕ). opened (length ys) m size (D ++ (zeros 4 ++ tail))) ends ∙
    ap (λ (m : ℕ). opened (length ys) E m (D ++ (zeros 4 ++ tail))) h.size_is ∙ opened-directory ys x E E (zeros 4 ++ tail) (omega (arith, h.room)) in
    let old_size : length (D ++ zeros 4) ≡ length D' = omega (arith, length-append D (zeros 4), length-zeros 4, length-directory E ys, length-directory E (x ∷ ys)) in
    let opened_is : after_opening b₂ i (count - i) end size ≡ front ++ (D' ++ tail) =
    ap (λ (zs : List ℕ). overwrite b₂ at zs) slots ∙ ap (λ (zs : List ℕ). overwrite zs at D') laid ∙ overwrite_mid front (D ++ zeros 4) tail D' at fs old_size in
    let items = insert v.items i x in let v' = with_items v items in
    let more : count + 1 ≡ length items = omega (arith, h.count_is, length-append xs (x ∷ ys)) in
    let lower : start - size ≡ 4096 - total items = omega (arith, h.start_is, h.size_is, total-append xs (x ∷ ys)) in
    let gap_is : G ≡ gap_of items = omega (arith, h.room, length-append xs (x ∷ ys), total-append xs (x ∷ ys)) in
    let body : D' ++ tail ≡ D' ++ (zeros (gap_of items) ++ (heap (x ∷ ys) ++ R)) = ap (λ (m : ℕ). D' ++ (zeros m ++ (P ++ (x ++ R)))) gap_is ∙ ap (λ (zs : List ℕ). D' ++ (zeros (gap_of items) ++ zs)) (sym (append_assoc P x R)) in
    ap (λ (zs : List ℕ). overwrite (overwrite zs 2 (spell_16 (count + 1))) 4 (spell_16 (start - size))) opened_is ∙
    header_written v items (directory 4096 xs ++ (D' ++ tail)) (count + 1) (start - size) more lower ∙
    ap (λ (zs : List ℕ). header v' (directory 4096 xs ++ zs)) body ∙ sym (cut_image v' xs (x ∷ ys) refl)
  where
    regroup : (a d p q r t : List ℕ) → a ++ (d ++ ((p ++ (q ++ r)) ++ t)) ≡ (a ++ (d ++ (p ++ q))) ++ (r ++ t)
    regroup a d p q r t = simp append_assoc

    regroup_again : (a d p q t : List ℕ) → (a ++ (d ++ (p ++ q))) ++ t ≡ a ++ ((d ++ p) ++ (q ++ t))
    regroup_again a d p q t = simp append_assoc

-- ---- an item taken out

pub record Removes (b : List ℕ) (i count start end size : ℕ) (v : Contents) : Type 0 where
  pub image : b ≡ image_of v
  pub slot : i < length v.items
  pub fits : Fits v.items
  pub count_is : count ≡ length v.items
  pub start_is : start + total v.items ≡ 4096
  pub end_is : end + total (take i v.items) ≡ 4096
  pub size_is : size ≡ length (get_or v.items i [])

zeros_four : 0 ∷ 0 ∷ 0 ∷ 0 ∷ [] ≡ zeros 4
unfolding zeros
zeros_four = refl

pub removed : (b : List ℕ) (i count start end size : ℕ) (v : Contents) → Removes b i count start end size v
    → overwrite (overwrite (after_closing (overwrite (copy_within b start (end - size) (start + size)) start (zeros (start + size - start))) i (count - 1 - i) end) 2 (spell_16 (count - 1))) 4 (spell_16 (start + size))
    ≡ image_of (with_items v (remove v.items i))
unfolding image_of
removed b i count start end size v h =
    let xs = take i v.items in let x = get_or v.items i [] in let ys = drop (suc i) v.items in let joined : v.items ≡ xs ++ (x ∷ ys) = split_at v.items i [] h.slot in
    let nx : length xs ≡ i = omega (arith, length-take i v.items, h.slot) in let ny : length ys + suc i ≡ length v.items = omega (arith, length-drop (suc i) v.items, h.slot) in
    let sum : total xs + (length x + total ys) ≡ total v.items = sym (ap total joined ∙ total-append xs (x ∷ ys)) in
    let fits : 32 + 4 * length v.items + total v.items ≤ 4096 = h.fits in
    let L = length x in let E = 4096 - total xs in let F = gap_of v.items in
    let front = header v (directory 4096 xs) in let S = spell_16 (E - L) ++ spell_16 L in let D = directory (E - L) ys in let P = heap ys in let R = heap xs in
    let fs : length front ≡ 32 + 4 * i = length-front v xs ∙ ap (λ (m : ℕ). 32 + 4 * m) nx in
    let A = front ++ (S ++ (D ++ zeros F)) in
    let long : length A ≡ start = omega (arith, length-append front (S ++ (D ++ zeros F)), length-append D (zeros F), length-zeros F, length-directory (E - L) ys, fs, h.start_is) in
    let cut : b ≡ A ++ (P ++ (x ++ R)) = h.image ∙ cut_image v xs (x ∷ ys) joined ∙ regroup front S D (zeros F) P x R in
    let ends : end ≡ E = omega (arith, h.end_is) in
    let moved = moved_up b A P x R start (end - size) (start + size) cut (sym long) (omega (arith, h.start_is, h.end_is, h.size_is, length-heap ys)) (omega (arith, h.size_is)) in
    let b₂ = overwrite (copy_within b start (end - size) (start + size)) start (zeros (start + size - start)) in
    let tail = zeros F ++ (zeros L ++ (P ++ R)) in let D' = directory E ys in let Z : List ℕ = 0 ∷ 0 ∷ 0 ∷ 0 ∷ [] in let at = 32 + 4 * i in
    let laid : b₂ ≡ front ++ ((S ++ D) ++ tail) = moved ∙ regroup_again front S D (zeros F) (zeros L ++ (P ++ R)) in
    let seam : length (front ++ S) ≡ 36 + 4 * i = omega (arith, length-append front S, fs) in
    let behind : drop (36 + 4 * i) b₂ ≡ D ++ tail = ap (λ (zs : List ℕ). drop (36 + 4 * i) zs) (laid ∙ seamed front S D tail) ∙ drop_at (front ++ S) (D ++ tail) (36 + 4 * i) seam in
    let less : count - 1 - i ≡ length ys = omega (arith, h.count_is) in
    let slots : closed (count - 1 - i) end (drop (36 + 4 * i) b₂) ≡ D' ++ Z =
    ap (λ (zs : List ℕ). closed (count - 1 - i) end zs) behind ∙ ap (λ (m : ℕ). closed m end (D ++ tail)) less ∙ ap (λ (m : ℕ). closed (length ys) m (D ++ tail)) ends ∙ closed-directory ys E (E - L) tail (omega arith) in
    let old_size : length (S ++ D) ≡ length (D' ++ Z) = omega (arith, length-append D' Z, length-directory (E - L) ys, length-directory E ys) in
    let closed_is : after_closing b₂ i (count - 1 - i) end ≡ front ++ ((D' ++ Z) ++ tail) =
    ap (λ (zs : List ℕ). overwrite b₂ at zs) slots ∙ ap (λ (zs : List ℕ). overwrite zs at (D' ++ Z)) laid ∙ overwrite_mid front (S ++ D) tail (D' ++ Z) at fs old_size in
    let items = remove v.items i in let v' = with_items v items in
    let fewer : count - 1 ≡ length items = omega (arith, h.count_is, length-append xs ys) in
    let upper : start + size ≡ 4096 - total items = omega (arith, h.start_is, h.size_is, total-append xs ys) in
    let gap_is : gap_of items ≡ 4 + (F + L) = omega (arith, length-append xs ys, total-append xs ys) in
    let body : (D' ++ Z) ++ tail ≡ D' ++ (zeros (gap_of items) ++ (P ++ R)) =
    ap (λ (zs : List ℕ). (D' ++ zs) ++ tail) zeros_four ∙ regroup_zeros D' (zeros 4) (zeros F) (zeros L) (P ++ R) ∙ ap (λ (zs : List ℕ). D' ++ (zs ++ (P ++ R))) (sym (zeros_three 4 F L (gap_of items) gap_is)) in
    ap (λ (zs : List ℕ). overwrite (overwrite zs 2 (spell_16 (count - 1))) 4 (spell_16 (start + size))) closed_is ∙
    header_written v items (directory 4096 xs ++ ((D' ++ Z) ++ tail)) (count - 1) (start + size) fewer upper ∙
    ap (λ (zs : List ℕ). header v' (directory 4096 xs ++ zs)) body ∙ sym (cut_image v' xs ys refl)
  where
    regroup : (a s d z p y r : List ℕ) → a ++ ((s ++ d) ++ (z ++ ((p ++ y) ++ r))) ≡ (a ++ (s ++ (d ++ z))) ++ (p ++ (y ++ r))
    regroup a s d z p y r = simp append_assoc

    regroup_again : (a s d z t : List ℕ) → (a ++ (s ++ (d ++ z))) ++ t ≡ a ++ ((s ++ d) ++ (z ++ t))
    regroup_again a s d z t = simp append_assoc

    seamed : (a s d t : List ℕ) → a ++ ((s ++ d) ++ t) ≡ (a ++ s) ++ (d ++ t)
    seamed a s d t = simp append_assoc

    regroup_zeros : (d p q r t : List ℕ) → (d ++ p) ++ (q ++ (r ++ t)) ≡ d ++ ((p ++ (q ++ r)) ++ t)
    regroup_zeros d p q r t = simp append_assoc

-- ---- an item written over

pub record Replaces (b : List ℕ) (i place : ℕ) (v : Contents) : Type 0 where
  pub image : b ≡ image_of v
  pub slot : i < length v.items
  pub fits : Fits v.items
  pub place_is : place + (total (take i v.items) + length (get_or v.items i [])) ≡ 4096

-- all of an image but an item and what lies above it
abbrev below : Contents → ℕ → List ℕ
below v i = header v (directory 4096 (take i v.items)) ++ (directory (4096 - total (take i v.items)) (get_or v.items i [] ∷ drop (suc i) v.items) ++ (zeros (gap_of v.items) ++ heap (drop (suc i) v.items)))

item_here : (b : List ℕ) (i place : ℕ) (v : Contents) → Replaces b i place v → (b ≡ below v i ++ (get_or v.items i [] ++ heap (take i v.items))) × (length (below v i) ≡ place)
item_here b i place v h =
    let xs = take i v.items in let x = get_or v.items i [] in let ys = drop (suc i) v.items in let joined : v.items ≡ xs ++ (x ∷ ys) = split_at v.items i [] h.slot in
    let nx : length xs ≡ i = omega (arith, length-take i v.items, h.slot) in let ny : length ys + suc i ≡ length v.items = omega (arith, length-drop (suc i) v.items, h.slot) in
    let sum : total xs + (length x + total ys) ≡ total v.items = sym (ap total joined ∙ total-append xs (x ∷ ys)) in
    let fits : 32 + 4 * length v.items + total v.items ≤ 4096 = h.fits in
    let front = header v (directory 4096 xs) in let D = directory (4096 - total xs) (x ∷ ys) in let z = zeros (gap_of v.items) in (
      h.image ∙ cut_image v xs (x ∷ ys) joined ∙ regroup front D z (heap ys) x (heap xs),
      omega (arith, h.place_is, length-append front (D ++ (z ++ heap ys)), length-append D (z ++ heap ys), length-append z (heap ys), length-zeros (gap_of v.items), length-heap ys, length-directory (4096 - total xs) (x ∷ ys), length-front v xs),
    )
  where
    regroup : (a d z p y r : List ℕ) → a ++ (d ++ (z ++ ((p ++ y) ++ r))) ≡ (a ++ (d ++ (z ++ p))) ++ (y ++ r)
    regroup a d z p y r = simp append_assoc

header_same : (v : Contents) (items items' : List (List ℕ)) (body : List ℕ) → length items' ≡ length items → total items' ≡ total items → header (with_items v items') body ≡ header (with_items v items) body
header_same v items items' body e f = sym (header_written (with_items v items') items' body (length items') (4096 - total items') refl refl) ∙ header_written (with_items v items') items body (length items') (4096 - total items') e (ap (λ (m : ℕ). 4096 - m) f)

pub replaced : (b : List ℕ) (i place : ℕ) (v : Contents) (y : List ℕ) → Replaces b i place v → length y ≡ length (get_or v.items i []) → overwrite b place y ≡ image_of (with_items v (set v.items i y))
replaced b i place v y h same =
    let xs = take i v.items in let x = get_or v.items i [] in let ys = drop (suc i) v.items in let here = item_here b i place v h in
    let written : overwrite b place y ≡ below v i ++ (y ++ heap xs) = ap (λ (zs : List ℕ). overwrite zs place y) here.0 ∙ overwrite_mid (below v i) x (heap xs) y place here.1 (sym same) in
    let items = set v.items i y in let split : items ≡ xs ++ (y ∷ ys) = set_split v.items i y h.slot in
    let joined : v.items ≡ xs ++ (x ∷ ys) = split_at v.items i [] h.slot in
    let count : length items ≡ length v.items = omega (arith, ap length split, ap length joined, length-append xs (y ∷ ys), length-append xs (x ∷ ys)) in
    let sums : total items ≡ total v.items = omega (arith, ap total split, ap total joined, total-append xs (y ∷ ys), total-append xs (x ∷ ys)) in
    let E = 4096 - total xs in let D = directory E (x ∷ ys) in let z = zeros (gap_of v.items) in let v' = with_items v items in
    let slots : directory E (y ∷ ys) ≡ D = ap (λ (m : ℕ). spell_16 (E - m) ++ (spell_16 m ++ directory (E - m) ys)) same in
    let gap_is : gap_of items ≡ gap_of v.items = omega (arith, count, sums) in
    let image : image_of v' ≡ below v i ++ (y ++ heap xs) =
    cut_image v' xs (y ∷ ys) split ∙ header_same v v.items items (directory 4096 xs ++ (directory E (y ∷ ys) ++ (zeros (gap_of items) ++ ((heap ys ++ y) ++ heap xs)))) count sums ∙
    ap (λ (ds : List ℕ). header v (directory 4096 xs ++ (ds ++ (zeros (gap_of items) ++ ((heap ys ++ y) ++ heap xs))))) slots ∙
    ap (λ (m : ℕ). header v (directory 4096 xs ++ (D ++ (zeros m ++ ((heap ys ++ y) ++ heap xs))))) gap_is ∙ regroup (header v (directory 4096 xs)) D z (heap ys) y (heap xs) in
    written ∙ sym image
  where
    regroup : (a d z p y r : List ℕ) → a ++ (d ++ (z ++ ((p ++ y) ++ r))) ≡ (a ++ (d ++ (z ++ p))) ++ (y ++ r)
    regroup a d z p y r = simp append_assoc

pub byte_set : (b : List ℕ) (i place k c : ℕ) (v : Contents) → Replaces b i place v → k < length (get_or v.items i []) → set b (place + k) c ≡ image_of (with_items v (set v.items i (set (get_or v.items i []) k c)))
byte_set b i place k c v h l =
    let x = get_or v.items i [] in let r = heap (take i v.items) in let here = item_here b i place v h in
    let within : place + k - place ≡ k = omega arith in
    let inner : set b (place + k) c ≡ below v i ++ (set x k c ++ r) =
    ap (λ (zs : List ℕ). set zs (place + k) c) here.0 ∙ set-append_right (below v i) (x ++ r) place (place + k) c here.1 (omega arith) ∙
    ap (λ (m : ℕ). below v i ++ set (x ++ r) m c) within ∙ ap (λ (zs : List ℕ). below v i ++ zs) (set-append_left x r k c l) in
    let size : length (set x k c) ≡ length x = length-set x k c in
    let outer : overwrite b place (set x k c) ≡ below v i ++ (set x k c ++ r) = ap (λ (zs : List ℕ). overwrite zs place (set x k c)) here.0 ∙ overwrite_mid (below v i) x r (set x k c) place here.1 (sym size) in
    inner ∙ sym outer ∙ replaced b i place v (set x k c) h size

-- where an item lies
pub item_at : (b : List ℕ) (i place : ℕ) (v : Contents) → Replaces b i place v → slice_range b place (place + length (get_or v.items i [])) ≡ get_or v.items i []
item_at b i place v h = let here = item_here b i place v h in let x = get_or v.items i [] in
    ap (λ (zs : List ℕ). slice_range zs place (place + length x)) here.0 ∙ range_mid (below v i) x (heap (take i v.items)) place (place + length x) here.1 (omega arith)

-- ---- the header's fields, and a page from zeros

pub level_set : (v : Contents) (n : ℕ) → overwrite (image_of v) 0 (spell_16 n) ≡ image_of (record v { level = n })
unfolding image_of
level_set v n = refl

pub nsn_set : (v : Contents) (n : ℕ) → overwrite (image_of v) 8 (spell_64 n) ≡ image_of (record v { nsn = n })
unfolding image_of
nsn_set v n = refl

pub right_set : (v : Contents) (n : ℕ) → overwrite (image_of v) 16 (spell_32 n) ≡ image_of (record v { right = n })
unfolding image_of
right_set v n = refl

pub number_set : (v : Contents) (n : ℕ) → overwrite (image_of v) 20 (spell_32 n) ≡ image_of (record v { number = n })
unfolding image_of
number_set v n = refl

head_of : List ℕ → List ℕ
head_of rest = 0 ∷ 0 ∷ 0 ∷ 0 ∷ 0 ∷ 0 ∷ 0 ∷ 0 ∷ 0 ∷ 0 ∷ 0 ∷ 0 ∷ 0 ∷ 0 ∷ 0 ∷ 0 ∷ 0 ∷ 0 ∷ 0 ∷ 0 ∷ 0 ∷ 0 ∷ 0 ∷ 0 ∷ 0 ∷ 0 ∷ 0 ∷ 0 ∷ 0 ∷ 0 ∷ 0 ∷ 0 ∷ rest

zeros_head : (rest : List ℕ) → zeros 32 ++ rest ≡ head_of rest
unfolding zeros head_of
zeros_head rest = refl

pub fresh_is : (level number : ℕ) (bytes : List ℕ) → bytes ≡ zeros 4096 → overwrite (overwrite (overwrite bytes 0 (spell_16 level)) 4 (spell_16 4096)) 20 (spell_32 number) ≡ image_of (blank level number)
unfolding image_of head_of
fresh_is level number bytes e =
    ap (λ (zs : List ℕ). overwrite (overwrite (overwrite zs 0 (spell_16 level)) 4 (spell_16 4096)) 20 (spell_32 number)) (e ∙ sym (zeros-append 32 4064) ∙ zeros_head (zeros 4064)) ∙
    ap (λ (zs : List ℕ). header (blank level number) zs) (sym (append-nil (zeros 4064)))
