-- The tests of given bytes pass for images, and for nothing else.
use Rattle.std.proofs.Common.{◌≡◌, ℕ, zero, suc, ◌+◌, ◌-◌, ◌*◌, ◌^◌, ◌<◌, ◌≤◌, Bool, true, false, ◌&&◌, cond, not, List, [], ◌∷◌, ◌++◌, Option, Some, None, inl, inr, length, take, drop, map, get_or, refl, sym, ap, ◌∙◌, subst, arith, length-take, length-drop, take-append-drop, eqb, leb, lit<, lit≤, eq-eqb}
use Rattle.std.specs.Prelude.{◌↔◌, slice_range, Result, Ok, Err, IfOk, IfErr}
use lib.Seq.{take-add}
use Rattle.std.proofs.lemmas.Bool.{eqb-true, leb-true, le-leb}
use Rattle.std.proofs.lemmas.List.{drop-drop, get_or-take, get_or-drop, get_or_past, take_all}
use Rattle.std.proofs.lemmas.Bool.{cases_lt}
use Rattle.std.proofs.lemmas.Nat.{from_be_bytes-to_be_bytes_2, be_bytes_2, be_bytes_4, be_bytes_8}
use Rattle.gx_page.specs.declared.fault.PageFault.{PageFault}
use Rattle.gx_page.specs.declared.fault.PageFault.TheVariants.{Size, Reserved, Directory, Free}
use Rattle.gx_page.specs.Bytes.{zeros, all_zero, spell_16, spell_32, spell_64, number_16, number_32, number_64, number_16_at, AreBytes}
use Rattle.gx_page.specs.Contents.{Contents}
use Rattle.gx_page.specs.Format.{image_of, header, directory, heap, total, Fits, IsItem, IsWellFormed}
use Rattle.gx_page.specs.Reading.{read_of, entries, entry_bytes, entries_of, count_of, IsImage}
use Rattle.gx_page.specs.Faults.{in_order, last_place, heap_start, directory_end, is_reserved_zero, is_directory, is_free_zero, fault_of}
use Rattle.gx_page.proofs.Pieces.{length-zeros, all_zero-zeros, zeros-from, both}
use Rattle.gx_page.proofs.Images.{slots, entries-directory, range_mid, length-directory, length-image}

-- ---- what the tests say

pub record Passes (bytes : List ℕ) : Type 0 where
  pub size : length bytes ≡ 4096
  pub reserved : is_reserved_zero bytes ≡ true
  pub directory : is_directory bytes ≡ true
  pub free : is_free_zero bytes ≡ true

four : (a b c d : Bool) → ◌≡◌ {A = Option PageFault} (cond (not a) (Some Size) (cond (not b) (Some Reserved) (cond (not c) (Some Directory) (cond (not d) (Some Free) None)))) None
    → (a ≡ true) × (b ≡ true) × (c ≡ true) × (d ≡ true)
four true true true true e = (refl, refl, refl, refl)
four true true true false e = cc
four true true false d e = cc
four true false c d e = cc
four false b c d e = cc

pub passes : (bytes : List ℕ) → fault_of bytes ≡ None → Passes bytes
passes bytes e = let all = four (eqb (length bytes) 4096) (is_reserved_zero bytes) (is_directory bytes) (is_free_zero bytes) e in
    record { size = eqb-true (length bytes) 4096 all.0; reserved = all.1; directory = all.2; free = all.3 }

pub faultless : (bytes : List ℕ) → Passes bytes → fault_of bytes ≡ None
faultless bytes p = rw (eq-eqb (length bytes) 4096 p.size, p.reserved, p.directory, p.free)

bytes-take : (n : ℕ) (xs : List ℕ) → AreBytes xs → AreBytes (take n xs)
bytes-take n xs h k = elim (cases_lt k n) [ inl below ↦ rw (get_or-take n xs k 0 below) (h k) | inr past ↦ rw (get_or_past (take n xs) k 0 (omega (arith, length-take n xs))) (lit< tt) ]

bytes-drop : (n : ℕ) (xs : List ℕ) → AreBytes xs → AreBytes (drop n xs)
bytes-drop n xs h k = rw (get_or-drop n xs k 0) (h (n + k))

-- ---- a directory in order is the directory of the items in it

pub record Spelled (bytes ds : List ℕ) (n end : ℕ) (items : List (List ℕ)) (last : ℕ) : Type 0 where
  pub directory_is : directory end items ≡ take (4 * n) ds
  pub heap_is : heap items ≡ slice_range bytes last end
  pub count_is : length items ≡ n
  pub total_is : last + total items ≡ end
  pub each : (k : ℕ) (d : List ℕ) → k < length items → IsItem (get_or items k d)

-- two ranges, one after the other
pub ranges : (xs : List ℕ) (a b c : ℕ) → a ≤ b → b ≤ c → slice_range xs a b ++ slice_range xs b c ≡ slice_range xs a c
ranges xs a b c h k =
    let split : c - a ≡ (b - a) + (c - b) = omega arith in let on : a + (b - a) ≡ b = omega arith in
    sym (ap (λ (m : ℕ). take m (drop a xs)) split ∙ take-add (b - a) (c - b) (drop a xs) ∙ ap (λ (ys : List ℕ). slice_range xs a b ++ take (c - b) ys) (drop-drop (b - a) a xs ∙ ap (λ (m : ℕ). drop m xs) on))

fours : (m : ℕ) (ds : List ℕ) → take (4 * suc m) ds ≡ take 2 ds ++ (take 2 (drop 2 ds) ++ take (4 * m) (drop 4 ds))
fours m ds =
    let split : 4 * suc m ≡ 2 + (2 + 4 * m) = omega arith in
    ap (λ (k : ℕ). take k ds) split ∙ take-add 2 (2 + 4 * m) ds ∙ ap (λ (xs : List ℕ). take 2 ds ++ xs) (take-add 2 (4 * m) (drop 2 ds) ∙ ap (λ (xs : List ℕ). take 2 (drop 2 ds) ++ take (4 * m) xs) (drop-drop 2 2 ds))

pub spelled : (bytes : List ℕ) → length bytes ≡ 4096 → AreBytes bytes → (n : ℕ) (ds : List ℕ) → AreBytes ds → 4 * n ≤ length ds → (end : ℕ) → end ≤ 4096 → in_order end (entries n ds) ≡ true
    → Spelled bytes ds n end (map (entry_bytes bytes) (entries n ds)) (last_place end (entries n ds))
spelled bytes size are zero ds das room end below e =
    record { directory_is = refl; heap_is = sym (take_none (end - end) (drop end bytes) (omega arith)); count_is = refl; total_is = omega arith; each = λ k d l. absurd (omega arith) }
  where
    take_none : (n : ℕ) (xs : List ℕ) → n ≡ 0 → take n xs ≡ []
    take_none n xs h = ap (λ (m : ℕ). take m xs) h
spelled bytes size are (suc n) ds das room end below e =
    let o = number_16 (take 2 ds) in let l = number_16 (take 2 (drop 2 ds)) in let x = slice_range bytes o (o + l) in
    let tests = both (leb 1 l && eqb (o + l) end) (in_order o (entries n (drop 4 ds))) e in
    let firsts = both (leb 1 l) (eqb (o + l) end) tests.0 in
    let some : 1 ≤ l = leb-true 1 l firsts.0 in
    let ends : o + l ≡ end = eqb-true (o + l) end firsts.1 in
    let long : length x ≡ l = omega (arith, length-take (o + l - o) (drop o bytes), length-drop o bytes) in
    let short : length (take 2 ds) ≡ 2 = omega (arith, length-take 2 ds) in
    let short' : length (take 2 (drop 2 ds)) ≡ 2 = omega (arith, length-take 2 (drop 2 ds), length-drop 2 ds) in
    let place : end - length x ≡ o = omega arith in
    let first : spell_16 (end - length x) ≡ take 2 ds = be_bytes_2 (take 2 ds) (end - length x) short (bytes-take 2 ds das) place in
    let second : spell_16 (length x) ≡ take 2 (drop 2 ds) = be_bytes_2 (take 2 (drop 2 ds)) (length x) short' (bytes-take 2 (drop 2 ds) (bytes-drop 2 ds das)) long in
    let es = entries n (drop 4 ds) in let items = map (entry_bytes bytes) es in let last = last_place o es in
    let s = spelled bytes size are n (drop 4 ds) (bytes-drop 4 ds das) (omega (arith, length-drop 4 ds)) o (omega arith) tests.1 in
    record {
      directory_is = ap (λ (ys : List ℕ). ys ++ (spell_16 (length x) ++ directory (end - length x) items)) first ∙ ap (λ (ys : List ℕ). take 2 ds ++ (ys ++ directory (end - length x) items)) second
          ∙ ap (λ (m : ℕ). take 2 ds ++ (take 2 (drop 2 ds) ++ directory m items)) place ∙ ap (λ (ys : List ℕ). take 2 ds ++ (take 2 (drop 2 ds) ++ ys)) s.directory_is ∙ sym (fours n ds);
      heap_is = ap (λ (ys : List ℕ). ys ++ x) s.heap_is ∙ ranges bytes last o (o + l) (omega (arith, s.total_is)) (omega arith) ∙ ap (λ (m : ℕ). slice_range bytes last m) ends;
      count_is = ap suc s.count_is;
      total_is = omega (arith, s.total_is);
      each = each x items (omega arith, bytes-take (o + l - o) (drop o bytes) (bytes-drop o bytes are)) s.each;
    }
  where
    each : (x : List ℕ) (items : List (List ℕ)) → IsItem x → ((k : ℕ) (d : List ℕ) → k < length items → IsItem (get_or items k d)) → (k : ℕ) (d : List ℕ) → k < length (x ∷ items) → IsItem (get_or (x ∷ items) k d)
    each x items p q zero d h = p
    each x items p q (suc k) d h = q k d (omega arith)

-- ---- bytes without a fault are an image

-- a part and what lies after it
piece : (bytes part rest : List ℕ) (m n : ℕ) → part ≡ take n (drop m bytes) → rest ≡ drop (m + n) bytes → part ++ rest ≡ drop m bytes
piece bytes part rest m n e f =
    ap (λ (xs : List ℕ). xs ++ rest) e ∙ ap (λ (xs : List ℕ). take n (drop m bytes) ++ xs) (f ∙ sym (drop-drop n m bytes)) ∙ take-append-drop n (drop m bytes)

below_16 : (xs : List ℕ) → AreBytes xs → number_16 xs < 2 ^ 16
below_16 xs h = omega (arith, h 0, h 1)

below_32 : (xs : List ℕ) → AreBytes xs → number_32 xs < 2 ^ 32
below_32 xs h = omega (arith, h 0, h 1, h 2, h 3)

below_64 : (xs : List ℕ) → AreBytes xs → number_64 xs < 2 ^ 64
below_64 xs h = omega (arith, h 0, h 1, h 2, h 3, h 4, h 5, h 6, h 7)

no_bytes : (xs : List ℕ) (n : ℕ) → length xs ≡ n → all_zero xs ≡ true → zeros n ≡ xs
no_bytes xs n e h = ap zeros (sym e) ∙ sym (zeros-from xs h)

-- what the tests of the directory say of the items
pub record Listed (bytes : List ℕ) : Type 0 where
  pub within : directory_end bytes ≤ 4096
  pub room : directory_end bytes ≤ heap_start bytes
  pub start : heap_start bytes ≡ last_place 4096 (entries_of bytes)
  pub spelling : Spelled bytes (drop 32 bytes) (count_of bytes) 4096 (map (entry_bytes bytes) (entries_of bytes)) (last_place 4096 (entries_of bytes))

pub listed : (bytes : List ℕ) → AreBytes bytes → length bytes ≡ 4096 → is_directory bytes ≡ true → Listed bytes
unfolding is_directory
listed bytes are size h =
    let end = directory_end bytes in let es = entries_of bytes in let hs = heap_start bytes in
    let last = both (leb end 4096 && in_order 4096 es && eqb hs (last_place 4096 es)) (leb end hs) h in
    let third = both (leb end 4096 && in_order 4096 es) (eqb hs (last_place 4096 es)) last.0 in
    let two = both (leb end 4096) (in_order 4096 es) third.0 in
    let within : end ≤ 4096 = leb-true end 4096 two.0 in
    record {
      within = within;
      room = leb-true end hs last.1;
      start = eqb-true hs (last_place 4096 es) third.1;
      spelling = spelled bytes size are (count_of bytes) (drop 32 bytes) (bytes-drop 32 bytes are) (omega (arith, length-drop 32 bytes)) 4096 (lit≤ tt) two.1;
    }

length-part : (bytes : List ℕ) → length bytes ≡ 4096 → (n m : ℕ) → m + n ≤ 4096 → length (take n (drop m bytes)) ≡ n
length-part bytes size n m h = omega (arith, length-take n (drop m bytes), length-drop m bytes)

-- directory, free bytes and heap
body_is : (bytes : List ℕ) → length bytes ≡ 4096 → Listed bytes → is_free_zero bytes ≡ true → (items : List (List ℕ)) → items ≡ map (entry_bytes bytes) (entries_of bytes)
    → directory 4096 items ++ (zeros (4064 - (4 * length items + total items)) ++ heap items) ≡ drop 32 bytes
unfolding is_free_zero
body_is bytes size li free items same =
    let s : Spelled bytes (drop 32 bytes) (count_of bytes) 4096 items (last_place 4096 (entries_of bytes)) = subst (λ (xs : List (List ℕ)). Spelled bytes (drop 32 bytes) (count_of bytes) 4096 xs (last_place 4096 (entries_of bytes))) (sym same) li.spelling in
    let n = count_of bytes in let hs = heap_start bytes in let end = 32 + 4 * n in let gap = slice_range bytes end hs in
    let within : end ≤ 4096 = li.within in let room : end ≤ hs = li.room in let top : hs ≤ 4096 = omega (arith, s.total_is, li.start) in
    let gap_size : length gap ≡ 4064 - (4 * length items + total items) = omega (arith, length-take (hs - end) (drop end bytes), length-drop end bytes, li.start, s.total_is, s.count_is) in
    let zero : zeros (4064 - (4 * length items + total items)) ≡ gap = no_bytes gap _ gap_size free in
    let upper : heap items ≡ slice_range bytes hs 4096 = s.heap_is ∙ ap (λ (m : ℕ). slice_range bytes m 4096) (sym li.start) in
    let lower : directory 4096 items ≡ slice_range bytes 32 end = s.directory_is ∙ ap (λ (m : ℕ). take m (drop 32 bytes)) (omega arith) in
    ap (λ (xs : List ℕ). xs ++ (zeros (4064 - (4 * length items + total items)) ++ heap items)) lower ∙ ap (λ (xs : List ℕ). slice_range bytes 32 end ++ (xs ++ heap items)) zero ∙
    ap (λ (xs : List ℕ). slice_range bytes 32 end ++ (gap ++ xs)) upper ∙ ap (λ (xs : List ℕ). slice_range bytes 32 end ++ xs) (ranges bytes end hs 4096 room top) ∙
    ranges bytes 32 end 4096 (omega arith) within ∙ take_all (4096 - 32) (drop 32 bytes) (omega (arith, length-drop 32 bytes))

-- the header and what lies after it
header_is : (bytes : List ℕ) → length bytes ≡ 4096 → AreBytes bytes → is_reserved_zero bytes ≡ true → (v : Contents) → v.level ≡ number_16 (take 2 bytes) → length v.items ≡ number_16 (take 2 (drop 2 bytes))
    → 4096 - total v.items ≡ number_16 (take 2 (drop 4 bytes)) → v.nsn ≡ number_64 (take 8 (drop 8 bytes)) → v.right ≡ number_32 (take 4 (drop 16 bytes)) → v.number ≡ number_32 (take 4 (drop 20 bytes))
    → (body : List ℕ) → body ≡ drop 32 bytes → header v body ≡ bytes
unfolding is_reserved_zero zeros
header_is bytes size are r v level count start nsn right number body e =
    let reserved = both (all_zero (slice_range bytes 6 8)) (all_zero (slice_range bytes 24 32)) r in
    let part = length-part bytes size in let part_bytes = λ (n m : ℕ). bytes-take n (drop m bytes) (bytes-drop m bytes are) in
    let b24 = piece bytes (zeros 8) body 24 8 (no_bytes (take 8 (drop 24 bytes)) 8 (part 8 24 (lit≤ tt)) reserved.1) e in
    let b20 = piece bytes (spell_32 v.number) _ 20 4 (be_bytes_4 (take 4 (drop 20 bytes)) v.number (part 4 20 (lit≤ tt)) (part_bytes 4 20) number) b24 in
    let b16 = piece bytes (spell_32 v.right) _ 16 4 (be_bytes_4 (take 4 (drop 16 bytes)) v.right (part 4 16 (lit≤ tt)) (part_bytes 4 16) right) b20 in
    let b8 = piece bytes (spell_64 v.nsn) _ 8 8 (be_bytes_8 (take 8 (drop 8 bytes)) v.nsn (part 8 8 (lit≤ tt)) (part_bytes 8 8) nsn) b16 in
    let b6 = piece bytes (zeros 2) _ 6 2 (no_bytes (take 2 (drop 6 bytes)) 2 (part 2 6 (lit≤ tt)) reserved.0) b8 in
    let b4 = piece bytes (spell_16 (4096 - total v.items)) _ 4 2 (be_bytes_2 (take 2 (drop 4 bytes)) (4096 - total v.items) (part 2 4 (lit≤ tt)) (part_bytes 2 4) start) b6 in
    let b2 = piece bytes (spell_16 (length v.items)) _ 2 2 (be_bytes_2 (take 2 (drop 2 bytes)) (length v.items) (part 2 2 (lit≤ tt)) (part_bytes 2 2) count) b4 in
    piece bytes (spell_16 v.level) _ 0 2 (be_bytes_2 (take 2 (drop 0 bytes)) v.level (part 2 0 (lit≤ tt)) (part_bytes 2 0) level) b2

pub is_image : (bytes : List ℕ) → AreBytes bytes → fault_of bytes ≡ None → IsImage bytes
unfolding read_of image_of
is_image bytes are e =
    let p = passes bytes e in let li = listed bytes are p.size p.directory in let s = li.spelling in let v = read_of bytes in
    let start : 4096 - total v.items ≡ number_16 (take 2 (drop 4 bytes)) = omega (arith, li.start, s.total_is) in
    let part = λ (n m : ℕ). bytes-take n (drop m bytes) (bytes-drop m bytes are) in
    record {
      image = header_is bytes p.size are p.reserved v refl s.count_is start refl refl refl _ (body_is bytes p.size li p.free v.items refl);
      well_formed = record {
        level = below_16 (take 2 bytes) (bytes-take 2 bytes are);
        nsn = below_64 (take 8 (drop 8 bytes)) (part 8 8);
        right = below_32 (take 4 (drop 16 bytes)) (part 4 16);
        number = below_32 (take 4 (drop 20 bytes)) (part 4 20);
        items = s.each;
        fits = omega (arith, li.start, li.room, s.total_is, s.count_is);
      };
    }

-- ---- an image has no fault

all_hold : (a b c d : Bool) → a ≡ true → b ≡ true → c ≡ true → d ≡ true → (a && b && c && d) ≡ true
all_hold a b c d p q r s = rw (p, q, r, s)

in_order-slots : (items : List (List ℕ)) (end : ℕ) → ((k : ℕ) (d : List ℕ) → k < length items → IsItem (get_or items k d)) → total items ≤ end
    → (in_order end (slots end items) ≡ true) × (last_place end (slots end items) ≡ end - total items)
in_order-slots [] end each h = (refl, omega arith)
in_order-slots (x ∷ items) end each h =
    let rest = in_order-slots items (end - length x) (λ k d l. each (suc k) d (omega arith)) (omega arith) in
    let first : 1 ≤ length x = (each 0 [] (omega arith)).0 in
    (rw (le-leb 1 (length x) first, eq-eqb (end - length x + length x) end (omega arith), rest.0), rest.1 ∙ omega arith)

image_directory : (v : Contents) → IsWellFormed v → is_directory (image_of v) ≡ true
unfolding image_of is_directory
image_directory v w =
    let fits : Fits v.items = w.fits in let n = length v.items in let back = zeros (4064 - (4 * n + total v.items)) ++ heap v.items in
    let count : number_16 (spell_16 n) ≡ n = from_be_bytes-to_be_bytes_2 n (omega arith) in
    let start : number_16 (spell_16 (4096 - total v.items)) ≡ 4096 - total v.items = from_be_bytes-to_be_bytes_2 (4096 - total v.items) (omega arith) in
    let places : entries (number_16 (spell_16 n)) (directory 4096 v.items ++ back) ≡ slots 4096 v.items = ap (λ (m : ℕ). entries m (directory 4096 v.items ++ back)) count ∙ entries-directory 4096 v.items back (omega arith) (lit< tt) in
    let order = in_order-slots v.items 4096 w.items (omega arith) in
    all_hold _ _ _ _ (le-leb (32 + 4 * number_16 (spell_16 n)) 4096 (omega (arith, count))) (ap (λ (es : List (ℕ × ℕ)). in_order 4096 es) places ∙ order.0)
    (eq-eqb _ _ (start ∙ sym (ap (λ (es : List (ℕ × ℕ)). last_place 4096 es) places ∙ order.1))) (le-leb _ _ (omega (arith, count, start)))

image_free : (v : Contents) → IsWellFormed v → is_free_zero (image_of v) ≡ true
unfolding image_of is_free_zero
image_free v w =
    let fits : Fits v.items = w.fits in let n = length v.items in let gap = 4064 - (4 * n + total v.items) in
    let count : number_16 (spell_16 n) ≡ n = from_be_bytes-to_be_bytes_2 n (omega arith) in
    let start : number_16 (spell_16 (4096 - total v.items)) ≡ 4096 - total v.items = from_be_bytes-to_be_bytes_2 (4096 - total v.items) (omega arith) in
    let front = header v (directory 4096 v.items) in let whole = header v (directory 4096 v.items ++ (zeros gap ++ heap v.items)) in
    let free : slice_range whole (32 + 4 * number_16 (spell_16 n)) (number_16 (spell_16 (4096 - total v.items))) ≡ zeros gap =
    range_mid front (zeros gap) (heap v.items) (32 + 4 * number_16 (spell_16 n)) (number_16 (spell_16 (4096 - total v.items))) (omega (arith, length-directory 4096 v.items, count)) (omega (arith, length-zeros gap, count, start)) in
    ap all_zero free ∙ all_zero-zeros gap

image_reserved : (v : Contents) → is_reserved_zero (image_of v) ≡ true
unfolding image_of is_reserved_zero
image_reserved v = refl

pub image_faultless : (v : Contents) → IsWellFormed v → fault_of (image_of v) ≡ None
image_faultless v w = faultless (image_of v) (record { size = length-image v w.fits; reserved = image_reserved v; directory = image_directory v w; free = image_free v w })

pub faultless_is_image : (bytes : List ℕ) → AreBytes bytes → (fault_of bytes ≡ None) ↔ IsImage bytes
faultless_is_image bytes are = (is_image bytes are, λ i. ap fault_of (sym i.image) ∙ image_faultless (read_of bytes) i.well_formed)

-- a block that became an image, or stayed one, is one
pub load_keeps : (result : Result (Unit {0}) PageFault) (ys b b' : List ℕ) → AreBytes ys → IsImage b → IfOk result (λ _. (fault_of ys ≡ None) × (b' ≡ ys)) → IfErr result (λ fault. (fault_of ys ≡ Some fault) × (b' ≡ b)) → IsImage b'
load_keeps (Ok _) ys b b' are i loaded kept = subst IsImage (sym loaded.1) (is_image ys are loaded.0)
load_keeps (Err _) ys b b' are i loaded kept = subst IsImage (sym kept.1) i

-- ---- where the free bytes are

last_within : (es : List (ℕ × ℕ)) (end : ℕ) → in_order end es ≡ true → last_place end es ≤ end
last_within [] end h = omega arith
last_within (entry ∷ es) end h =
    let two = both (leb 1 entry.1 && eqb (entry.0 + entry.1) end) (in_order entry.0 es) h in
    let sum : entry.0 + entry.1 ≡ end = eqb-true _ _ (both (leb 1 entry.1) (eqb (entry.0 + entry.1) end) two.0).1 in
    omega (arith, last_within es entry.0 two.1)

bounds : (bytes : List ℕ) → is_directory bytes ≡ true → (directory_end bytes ≤ heap_start bytes) × (heap_start bytes ≤ 4096)
unfolding is_directory
bounds bytes h =
    let end = directory_end bytes in let es = entries_of bytes in let hs = heap_start bytes in
    let last = both (leb end 4096 && in_order 4096 es && eqb hs (last_place 4096 es)) (leb end hs) h in
    let third = both (leb end 4096 && in_order 4096 es) (eqb hs (last_place 4096 es)) last.0 in
    let start : hs ≡ last_place 4096 es = eqb-true hs (last_place 4096 es) third.1 in
    (leb-true end hs last.1, omega (arith, last_within es 4096 (both (leb end 4096) (in_order 4096 es) third.0).1))

pub directory_room : (bytes : List ℕ) → is_directory bytes ≡ true → 32 + 4 * number_16_at bytes 2 ≤ number_16_at bytes 4
directory_room bytes h = (bounds bytes h).0

pub directory_within : (bytes : List ℕ) → is_directory bytes ≡ true → number_16_at bytes 4 ≤ 4096
directory_within bytes h = (bounds bytes h).1
