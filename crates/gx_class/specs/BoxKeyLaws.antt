-- Laws of boxes as keys.
use Rattle.std.proofs.Common.{◌≡◌, ℕ, ◌+◌, ◌*◌, ◌≤◌, ℤ, pos, FitsSigned, true, ◌&&◌, int_eq, refl, ap, sym, ◌∙◌, subst, arith, List, length, [], ◌∷◌, ◌++◌, take, drop, Some, Result, Ok, Err, IsOk, IfOk, IfSome}
use Rattle.std.specs.Result.{result_ok}
use Rattle.gx_geom.specs.declared.refusal.Refusal.{Refusal}
use Rattle.std.specs.Int.{w32, cast_signed, from_be_bytes}
use Rattle.std.specs.Ordering.{is_eq}
use Rattle.std.specs.declared.cmp.Ordering.{Ordering}
use Rattle.std.specs.declared.cmp.Ordering.TheVariants.{Less, Equal as Same, Greater}
use Rattle.std.proofs.lemmas.Int.{ints}
use Rattle.std.proofs.lemmas.Grind.{common_steps}
use Rattle.std.proofs.lemmas.Nat.{from_be_bytes-to_be_bytes_4}
use Rattle.std.proofs.lemmas.List.{append_assoc, append-nil, drop_all, length-append, take-append-drop}
use Rattle.std.proofs.lemmas.Slice.{drop-append-drop}
use lib.Seq.{take-append_seam}
use Rattle.gx_geom.specs.Rectangles.{Rectangle, IsBox, union, area, overlaps, within, rectangle_cmp, rectangle_of}
use Rattle.gx_geom.specs.BoxLaws.{within_through, within_corners, corners_within, overlap_corners, corners_overlap, same_corners, lesser_at_most, at_most_greater, at_most_lesser, greater_at_most, at_most_through}
use Rattle.gx_machine.specs.declared.query.Query.{Query}
use Rattle.gx_machine.specs.declared.query.Query.TheVariants.{Overlap, Within, Equal, Covers}
use Rattle.gx_machine.specs.Keys.{keys, key_matches}
use Rattle.gx_split.specs.Split.{measure, split_sides}
use Rattle.gx_split.proofs.Wastes.{fair_split}
use Rattle.gx_class.specs.Numbers.{read_back as number_read_back, same_number as number_same}
use Rattle.gx_class.specs.Sides.{LeavesEach}
use Rattle.gx_class.specs.Boxes.{may_match, number_bytes, spelling}

pub start_is_box : IsBox (rectangle_of (pos 0) (pos 0) (pos 0) (pos 0))
start_is_box = record {
  x_in_order = omega (arith, ints);
  y_in_order = omega (arith, ints);
  x1_fits = omega (arith, ints);
  y1_fits = omega (arith, ints);
  x2_fits = omega (arith, ints);
  y2_fits = omega (arith, ints);
}

pub union_covers_first : (a b : Rectangle) → within a (union a b) ≡ true
union_covers_first a b =
    corners_within a (union a b) (record {
      x_from = (lesser_at_most a.x1 b.x1).0;
      x_to = (at_most_greater a.x2 b.x2).0;
      y_from = (lesser_at_most a.y1 b.y1).0;
      y_to = (at_most_greater a.y2 b.y2).0;
    })

pub union_covers_second : (a b : Rectangle) → within b (union a b) ≡ true
union_covers_second a b =
    corners_within b (union a b) (record {
      x_from = (lesser_at_most a.x1 b.x1).1;
      x_to = (at_most_greater a.x2 b.x2).1;
      y_from = (lesser_at_most a.y1 b.y1).1;
      y_to = (at_most_greater a.y2 b.y2).1;
    })

pub union_is_least : (a b c : Rectangle) → within a c ≡ true → within b c ≡ true → within (union a b) c ≡ true
union_is_least a b c p q =
    let first = within_corners a c p in
    let second = within_corners b c q in
    corners_within (union a b) c (record {
      x_from = at_most_lesser a.x1 b.x1 c.x1 first.x_from second.x_from;
      x_to = greater_at_most a.x2 b.x2 c.x2 first.x_to second.x_to;
      y_from = at_most_lesser a.y1 b.y1 c.y1 first.y_from second.y_from;
      y_to = greater_at_most a.y2 b.y2 c.y2 first.y_to second.y_to;
    })

-- what overlaps a box overlaps whatever covers it
overlap_covered : (k b q : Rectangle) → overlaps k q ≡ true → within k b ≡ true → overlaps b q ≡ true
overlap_covered k b q p inside =
    let meets = overlap_corners k q p in
    let lies = within_corners k b inside in
    corners_overlap b q (record {
      x_left = at_most_through b.x1 k.x1 q.x2 lies.x_from meets.x_left;
      x_right = at_most_through q.x1 k.x2 b.x2 meets.x_right lies.x_to;
      y_left = at_most_through b.y1 k.y1 q.y2 lies.y_from meets.y_left;
      y_right = at_most_through q.y1 k.y2 b.y2 meets.y_right lies.y_to;
    })

-- what covers a box that lies in another overlaps that one
within_covered : (k b q : Rectangle) → IsBox k → within k q ≡ true → within k b ≡ true → overlaps b q ≡ true
within_covered k b q is p inside =
    let lies = within_corners k q p in
    let lies' = within_corners k b inside in
    corners_overlap b q (record {
      x_left = at_most_through b.x1 k.x1 q.x2 lies'.x_from (at_most_through k.x1 k.x2 q.x2 is.x_in_order lies.x_to);
      x_right = at_most_through q.x1 k.x1 b.x2 lies.x_from (at_most_through k.x1 k.x2 b.x2 is.x_in_order lies'.x_to);
      y_left = at_most_through b.y1 k.y1 q.y2 lies'.y_from (at_most_through k.y1 k.y2 q.y2 is.y_in_order lies.y_to);
      y_right = at_most_through q.y1 k.y1 b.y2 lies.y_from (at_most_through k.y1 k.y2 b.y2 is.y_in_order lies'.y_to);
    })

pub same_order : (o : Ordering) → is_eq o ≡ true → o ≡ Same
same_order Less e = cc
same_order Same e = refl
same_order Greater e = cc

-- boxes are equal if their corners are
pub equal_tells : (a b : Rectangle) → (int_eq a.x1 b.x1 && (int_eq a.y1 b.y1 && (int_eq a.x2 b.x2 && int_eq a.y2 b.y2))) ≡ is_eq (rectangle_cmp a b)
equal_tells a b = grind (arith, common_steps)

pub match_is_consistent : (q : Query Rectangle) (k b : Rectangle) → IsBox k → key_matches (keys rectangle_cmp overlaps within) q k ≡ true → within k b ≡ true
    → may_match q b ≡ true
match_is_consistent (Overlap q) k b is matched inside = overlap_covered k b q matched inside
match_is_consistent (Within q) k b is matched inside = within_covered k b q is matched inside
match_is_consistent (Equal q) k b is matched inside =
    let same : k ≡ q = same_corners k q (same_order (rectangle_cmp k q) matched) in
    subst (λ z. within z b ≡ true) same inside
match_is_consistent (Covers q) k b is matched inside = within_through q k b matched inside

pub split_leaves_each : (xs : List Rectangle) (least : ℕ) → 1 ≤ least → 2 * least ≤ length xs → LeavesEach (length xs) least (split_sides (measure union area) xs least)
split_leaves_each xs least one enough =
    let fair = fair_split (measure union area) xs least one enough in
    record { each_has_one = fair.each_has_one; first_has = fair.first_has; second_has = fair.second_has }

pub length-number_bytes : (z : ℤ) → length (number_bytes z) ≡ 4
unfolding number_bytes
length-number_bytes z = refl

pub length-spelling : (b : Rectangle) → length (spelling b) ≡ 16
length-spelling b =
    let x1 = length-number_bytes b.x1 in
    let y1 = length-number_bytes b.y1 in
    let x2 = length-number_bytes b.x2 in
    let y2 = length-number_bytes b.y2 in
    simp length-append (omega arith)

-- a number's bytes read as the number
pub read_back : (z : ℤ) → FitsSigned w32 z → cast_signed w32 (from_be_bytes w32 (number_bytes z)) ≡ z
unfolding number_bytes
read_back = number_read_back w32 from_be_bytes-to_be_bytes_4

pub same_number : (y z : ℤ) → FitsSigned w32 y → FitsSigned w32 z → number_bytes y ≡ number_bytes z → y ≡ z
unfolding number_bytes
same_number = number_same w32 from_be_bytes-to_be_bytes_4

pub same_halves : (xs ys us vs : List ℕ) → length xs ≡ length us → xs ++ ys ≡ us ++ vs → (xs ≡ us) × (ys ≡ vs)
same_halves [] ys [] vs l e = (refl, e)
same_halves [] ys (u ∷ us) vs l e = absurd (omega arith)
same_halves (x ∷ xs) ys [] vs l e = absurd (omega arith)
same_halves (x ∷ xs) ys (u ∷ us) vs l e =
    let shorter : length xs ≡ length us = omega arith in
    let rest = same_halves xs ys us vs shorter (cc) in
    let head : x ≡ u = cc in
    (cc, rest.1)

same_by_corners : (a b : Rectangle) → a.x1 ≡ b.x1 → a.y1 ≡ b.y1 → a.x2 ≡ b.x2 → a.y2 ≡ b.y2 → a ≡ b
same_by_corners a b x1 y1 x2 y2 =
    ap (λ z. rectangle_of z a.y1 a.x2 a.y2) x1 ∙ ap (λ z. rectangle_of b.x1 z a.x2 a.y2) y1
    ∙ ap (λ z. rectangle_of b.x1 b.y1 z a.y2) x2 ∙ ap (rectangle_of b.x1 b.y1 b.x2) y2

-- corners whose numbers fit are those of their bytes
pub same_spelling : (a b : Rectangle) → FitsSigned w32 a.x1 → FitsSigned w32 a.y1 → FitsSigned w32 a.x2 → FitsSigned w32 a.y2 → IsBox b → spelling a ≡ spelling b → a ≡ b
same_spelling a b x1 y1 x2 y2 is e =
    let long_a = length-append (number_bytes a.x1) (number_bytes a.y1) in
    let long_b = length-append (number_bytes b.x1) (number_bytes b.y1) in
    let ax1 = length-number_bytes a.x1 in
    let ay1 = length-number_bytes a.y1 in
    let ax2 = length-number_bytes a.x2 in
    let bx1 = length-number_bytes b.x1 in
    let by1 = length-number_bytes b.y1 in
    let bx2 = length-number_bytes b.x2 in
    let halves = same_halves (number_bytes a.x1 ++ number_bytes a.y1) (number_bytes a.x2 ++ number_bytes a.y2)
    (number_bytes b.x1 ++ number_bytes b.y1) (number_bytes b.x2 ++ number_bytes b.y2) (omega arith) e in
    let low = same_halves (number_bytes a.x1) (number_bytes a.y1) (number_bytes b.x1) (number_bytes b.y1) (omega arith) halves.0 in
    let high = same_halves (number_bytes a.x2) (number_bytes a.y2) (number_bytes b.x2) (number_bytes b.y2) (omega arith) halves.1 in
    same_by_corners a b (same_number a.x1 b.x1 x1 is.x1_fits low.0) (same_number a.y1 b.y1 y1 is.y1_fits low.1)
    (same_number a.x2 b.x2 x2 is.x2_fits high.0) (same_number a.y2 b.y2 y2 is.y2_fits high.1)

-- one number more is written
pub put_more : (out now front bytes : List ℕ) (at : ℕ) → length front ≡ at → length bytes ≡ 4 → now ≡ front ++ drop at out
    → take at now ++ (bytes ++ drop (at + 4) now) ≡ (front ++ bytes) ++ drop (at + 4) out
put_more out now front bytes at long four is =
    let before : take at now ≡ front = ap (take at) is ∙ ap (λ n. take n (front ++ drop at out)) (sym long) ∙ take-append_seam front (drop at out) in
    let after : drop (at + 4) now ≡ drop (at + 4) out = ap (drop (at + 4)) is ∙ drop-append-drop at out front (at + 4) (omega arith) long in
    ap (λ l. l ++ (bytes ++ drop (at + 4) now)) before ∙ ap (λ l. front ++ (bytes ++ l)) after ∙ sym (append_assoc front bytes (drop (at + 4) out))

-- four numbers over sixteen bytes
pub put_all : (out one two three four a b c d : List ℕ) → length out ≡ 16 → length a ≡ 4 → length b ≡ 4 → length c ≡ 4 → length d ≡ 4
    → one ≡ take 0 out ++ (a ++ drop 4 out) → two ≡ take 4 one ++ (b ++ drop 8 one) → three ≡ take 8 two ++ (c ++ drop 12 two) → four ≡ take 12 three ++ (d ++ drop 16 three)
    → four ≡ (a ++ b) ++ (c ++ d)
put_all out one two three four a b c d room la lb lc ld is1 is2 is3 is4 =
    let ab = length-append a b in
    let abc = length-append (a ++ b) c in
    let abcd = length-append ((a ++ b) ++ c) d in
    let first : one ≡ a ++ drop 4 out = is1 ∙ put_more out out [] a 0 refl la refl in
    let second : two ≡ (a ++ b) ++ drop 8 out = is2 ∙ put_more out one a b 4 la lb first in
    let third : three ≡ ((a ++ b) ++ c) ++ drop 12 out = is3 ∙ put_more out two (a ++ b) c 8 (omega arith) lc second in
    let last : four ≡ (((a ++ b) ++ c) ++ d) ++ drop 16 out = is4 ∙ put_more out three ((a ++ b) ++ c) d 12 (omega arith) ld third in
    last ∙ ap (λ l. (((a ++ b) ++ c) ++ d) ++ l) (drop_all 16 out (omega arith)) ∙ append-nil (((a ++ b) ++ c) ++ d) ∙ append_assoc (a ++ b) c d

-- what an answer has in it, if it is one
pub answer_is : {A : Type 0} (r : Result A Refusal) (key : A) → IsOk r → IfOk r (λ a. a ≡ key) → result_ok r ≡ Some key
answer_is (Ok a) key ok is = ap Some is
answer_is (Err e) key ok is = cc

-- what holds of the answer, if it is one
pub holds_of_answer : {A : Type 0} (P : A → Type 0) (r : Result A Refusal) (key : A) → IfOk r (λ a. a ≡ key) → (IsOk r → P key) → IfSome (result_ok r) P
holds_of_answer P (Ok a) key is holds = subst P (sym is) (holds refl)
holds_of_answer P (Err e) key is holds = tt

-- bytes in two halves
pub halves_join : (bytes front back xs ys : List ℕ) (n : ℕ) → front ≡ take n bytes → back ≡ drop n bytes → front ≡ xs → back ≡ ys → bytes ≡ xs ++ ys
halves_join bytes front back xs ys n is_front is_back first second =
    sym (take-append-drop n bytes) ∙ ap (λ l. l ++ drop n bytes) (sym is_front ∙ first) ∙ ap (λ l. xs ++ l) (sym is_back ∙ second)
