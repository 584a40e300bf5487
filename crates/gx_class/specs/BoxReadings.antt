-- Bytes read as a box: its own spelling, and nothing else.
use Rattle.std.proofs.Common.{◌≡◌, ℕ, ◌+◌, ◌^◌, ◌<◌, ◌≤◌, ℤ, FitsSigned, Bool, true, false, ◌&&◌, ◌==◌, if◌then◌else◌, refl, ap, sym, ◌∙◌, subst, inl, inr, arith, List, length, [], ◌++◌, take, drop, Some, None}
use Rattle.std.specs.Prelude.{slice_index, int_le}
use Rattle.std.specs.Int.{w32, from_be_bytes, to_be_bytes}
use Rattle.std.proofs.lemmas.Int.{of_z-to_z}
use Rattle.std.proofs.lemmas.Nat.{be_bytes_4}
use Rattle.std.proofs.lemmas.Bool.{and_parts, and_from, eqb-true, eq-eqb, cases_lt}
use Rattle.std.proofs.lemmas.List.{append_assoc, append-nil, take_at, drop_at, take-append-drop, take_all, drop-drop, length-append, length-take, length-drop, get_or-take, get_or-drop, get_or_past}
use mir.ValLaws.{to_z-Fits}
use Rattle.gx_geom.specs.Rectangles.{Rectangle, IsBox, rectangle_of}
use Rattle.gx_geom.specs.BoxLaws.{at_most, tests_at_most}
use Rattle.gx_class.specs.Boxes.{number_bytes, spelling, number_of, corners_of, in_order, reading}
use Rattle.gx_class.specs.BoxKeyLaws.{length-number_bytes, length-spelling, read_back}

-- ---- a box's bytes

pub number_back : (z : ℤ) → FitsSigned w32 z → number_of (number_bytes z) ≡ z
unfolding number_of
number_back z fits = read_back z fits

-- four bytes after n others
part_at : (all front x back : List ℕ) (n : ℕ) → all ≡ front ++ (x ++ back) → length front ≡ n → length x ≡ 4 → take 4 (drop n all) ≡ x
part_at all front x back n e long four =
    ap (λ l. take 4 (drop n l)) e ∙ ap (take 4) (drop_at front (x ++ back) n long) ∙ take_at x back 4 four

same_rectangle : (a b c d x y z w : ℤ) → a ≡ x → b ≡ y → c ≡ z → d ≡ w → rectangle_of a b c d ≡ rectangle_of x y z w
same_rectangle a b c d x y z w p q r s =
    ap (λ n. rectangle_of n b c d) p ∙ ap (λ n. rectangle_of x n c d) q ∙ ap (λ n. rectangle_of x y n d) r ∙ ap (rectangle_of x y z) s

pub corners_back : (b : Rectangle) → IsBox b → corners_of (spelling b) ≡ b
unfolding corners_of
corners_back b is =
    let x1 = number_bytes b.x1 in let y1 = number_bytes b.y1 in let x2 = number_bytes b.x2 in let y2 = number_bytes b.y2 in
    let one = length-number_bytes b.x1 in let two = length-number_bytes b.y1 in let three = length-number_bytes b.x2 in let four = length-number_bytes b.y2 in
    let all : spelling b ≡ x1 ++ (y1 ++ (x2 ++ y2)) = append_assoc x1 y1 (x2 ++ y2) in
    let half = length-append x1 y1 in
    let more = length-append (x1 ++ y1) x2 in
    let end : (x1 ++ y1) ++ (x2 ++ y2) ≡ ((x1 ++ y1) ++ x2) ++ (y2 ++ []) =
    sym (append_assoc (x1 ++ y1) x2 y2) ∙ ap (λ l. ((x1 ++ y1) ++ x2) ++ l) (sym (append-nil y2)) in
    same_rectangle (number_of (take 4 (drop 0 (spelling b)))) (number_of (take 4 (drop 4 (spelling b)))) (number_of (take 4 (drop 8 (spelling b)))) (number_of (take 4 (drop 12 (spelling b)))) b.x1 b.y1 b.x2 b.y2
    (ap number_of (part_at (spelling b) [] x1 (y1 ++ (x2 ++ y2)) 0 all refl one) ∙ number_back b.x1 is.x1_fits)
    (ap number_of (part_at (spelling b) x1 y1 (x2 ++ y2) 4 all one two) ∙ number_back b.y1 is.y1_fits)
    (ap number_of (part_at (spelling b) (x1 ++ y1) x2 y2 8 refl (omega arith) three) ∙ number_back b.x2 is.x2_fits)
    (ap number_of (part_at (spelling b) ((x1 ++ y1) ++ x2) y2 [] 12 end (omega arith) four) ∙ number_back b.y2 is.y2_fits)

orders : (a b : Rectangle) → a ≡ b → IsBox b → in_order a ≡ true
orders a b e is =
    ap in_order e ∙ and_from (int_le b.x1 b.x2) (int_le b.y1 b.y2) (tests_at_most b.x1 b.x2 is.x_in_order) (tests_at_most b.y1 b.y2 is.y_in_order)

pub chosen : {T : Type 0} (t : Bool) (a b : T) → t ≡ true → a ≡ b → (if t then Some a else None) ≡ Some b
chosen true a b e is = ap Some is
chosen false a b e is = cc

pub reading_back : (b : Rectangle) → IsBox b → reading (spelling b) ≡ Some b
unfolding reading
reading_back b is =
    let same = corners_back b is in
    chosen ((length (spelling b) == 16) && in_order (corners_of (spelling b))) (corners_of (spelling b)) b
    (and_from (length (spelling b) == 16) (in_order (corners_of (spelling b))) (eq-eqb (length (spelling b)) 16 (length-spelling b)) (orders (corners_of (spelling b)) b same is)) same

-- ---- bytes that spell a box

number_small : (bytes : List ℕ) → ((i : ℕ) → slice_index bytes i < 256) → from_be_bytes w32 bytes < 2 ^ 32
number_small bytes small = omega (arith, small 0, small 1, small 2, small 3)

number_written : (bytes : List ℕ) → length bytes ≡ 4 → ((i : ℕ) → slice_index bytes i < 256) → number_bytes (number_of bytes) ≡ bytes
unfolding number_bytes number_of
number_written bytes long small =
    let n = from_be_bytes w32 bytes in
    ap (to_be_bytes w32) (of_z-to_z w32 n (number_small bytes small)) ∙ be_bytes_4 bytes n long small refl

pub number_fits : (bytes : List ℕ) → ((i : ℕ) → slice_index bytes i < 256) → FitsSigned w32 (number_of bytes)
unfolding number_of
number_fits bytes small = to_z-Fits w32 (from_be_bytes w32 bytes) (record { fits = number_small bytes small })

-- the first bytes of others
pub small_front : (n : ℕ) (bytes : List ℕ) → ((i : ℕ) → slice_index bytes i < 256) → (i : ℕ) → slice_index (take n bytes) i < 256
small_front n bytes small i =
    elim (cases_lt i n) [
      | inl h ↦ subst (λ b. b < 256) (sym (get_or-take n bytes i 0 h)) (small i)
      | inr h ↦ subst (λ b. b < 256) (sym (get_or_past (take n bytes) i 0 (omega (arith, length-take n bytes)))) (omega arith)
    ]

-- four bytes of others
pub small_part : (bytes : List ℕ) (n : ℕ) → ((i : ℕ) → slice_index bytes i < 256) → (i : ℕ) → slice_index (take 4 (drop n bytes)) i < 256
small_part bytes n small = small_front 4 (drop n bytes) (λ i. subst (λ b. b < 256) (sym (get_or-drop n bytes i 0)) (small (n + i)))

parts_join : (bytes : List ℕ) → length bytes ≡ 16
    → (take 4 (drop 0 bytes) ++ take 4 (drop 4 bytes)) ++ (take 4 (drop 8 bytes) ++ take 4 (drop 12 bytes)) ≡ bytes
parts_join bytes long =
    let last : take 4 (drop 12 bytes) ≡ drop 12 bytes = take_all 4 (drop 12 bytes) (omega (arith, length-drop 12 bytes)) in
    append_assoc (take 4 (drop 0 bytes)) (take 4 (drop 4 bytes)) (take 4 (drop 8 bytes) ++ take 4 (drop 12 bytes))
    ∙ ap (λ l. take 4 (drop 0 bytes) ++ (take 4 (drop 4 bytes) ++ (take 4 (drop 8 bytes) ++ l))) (last ∙ sym (drop-drop 4 8 bytes))
    ∙ ap (λ l. take 4 (drop 0 bytes) ++ (take 4 (drop 4 bytes) ++ l)) (take-append-drop 4 (drop 8 bytes) ∙ sym (drop-drop 4 4 bytes))
    ∙ ap (λ l. take 4 (drop 0 bytes) ++ l) (take-append-drop 4 (drop 4 bytes))
    ∙ take-append-drop 4 bytes

part_long : (bytes : List ℕ) (n : ℕ) → n + 4 ≤ length bytes → length (take 4 (drop n bytes)) ≡ 4
part_long bytes n room = omega (arith, length-take 4 (drop n bytes), length-drop n bytes)

pub part_written : (bytes : List ℕ) (n : ℕ) → n + 4 ≤ length bytes → ((i : ℕ) → slice_index bytes i < 256)
    → number_bytes (number_of (take 4 (drop n bytes))) ≡ take 4 (drop n bytes)
part_written bytes n room small = number_written (take 4 (drop n bytes)) (part_long bytes n room) (small_part bytes n small)

is_box : (bytes : List ℕ) → ((i : ℕ) → slice_index bytes i < 256) → in_order (corners_of bytes) ≡ true → IsBox (corners_of bytes)
unfolding corners_of
is_box bytes small e =
    let b = corners_of bytes in
    let orders = and_parts (int_le b.x1 b.x2) (int_le b.y1 b.y2) e in
    record {
      x_in_order = at_most b.x1 b.x2 orders.0;
      y_in_order = at_most b.y1 b.y2 orders.1;
      x1_fits = number_fits (take 4 (drop 0 bytes)) (small_part bytes 0 small);
      y1_fits = number_fits (take 4 (drop 4 bytes)) (small_part bytes 4 small);
      x2_fits = number_fits (take 4 (drop 8 bytes)) (small_part bytes 8 small);
      y2_fits = number_fits (take 4 (drop 12 bytes)) (small_part bytes 12 small);
    }

corners_written : (bytes : List ℕ) → length bytes ≡ 16 → ((i : ℕ) → slice_index bytes i < 256) → bytes ≡ spelling (corners_of bytes)
unfolding corners_of
corners_written bytes long small =
    let b = corners_of bytes in
    sym (parts_join bytes long)
    ∙ ap (λ l. (l ++ take 4 (drop 4 bytes)) ++ (take 4 (drop 8 bytes) ++ take 4 (drop 12 bytes))) (sym (part_written bytes 0 (omega arith) small))
    ∙ ap (λ l. (number_bytes b.x1 ++ l) ++ (take 4 (drop 8 bytes) ++ take 4 (drop 12 bytes))) (sym (part_written bytes 4 (omega arith) small))
    ∙ ap (λ l. (number_bytes b.x1 ++ number_bytes b.y1) ++ (l ++ take 4 (drop 12 bytes))) (sym (part_written bytes 8 (omega arith) small))
    ∙ ap (λ l. (number_bytes b.x1 ++ number_bytes b.y1) ++ (number_bytes b.x2 ++ l)) (sym (part_written bytes 12 (omega arith) small))

pub told : {T : Type 0} (t : Bool) (a b : T) → (if t then Some a else None) ≡ Some b → (t ≡ true) × (a ≡ b)
told true a b e = (refl, cc)
told false a b e = cc

pub reading_only : (bytes : List ℕ) (b : Rectangle) → ((i : ℕ) → slice_index bytes i < 256) → reading bytes ≡ Some b → IsBox b × (bytes ≡ spelling b)
unfolding reading
reading_only bytes b small e =
    let two = told ((length bytes == 16) && in_order (corners_of bytes)) (corners_of bytes) b e in
    let tests = and_parts (length bytes == 16) (in_order (corners_of bytes)) two.0 in
    let long : length bytes ≡ 16 = eqb-true (length bytes) 16 tests.0 in
    (subst (λ z. IsBox z) two.1 (is_box bytes small tests.1), corners_written bytes long small ∙ ap spelling two.1)
