-- Printed numbers, read again.
use Rattle.std.proofs.Common.{◌≡◌, ℕ, suc, ◌+◌, ◌-◌, ◌*◌, ◌/◌, ◌%◌, ◌^◌, ◌<◌, ◌≤◌, ℤ, pos, negsuc, ◌-ℤ◌, List, [], ◌∷◌, ◌++◌, true, false, eqb, leb, ltb, length, get_or, refl, ap, sym, ◌∙◌, arith, append_assoc, Some, FitsSigned, w32, w64, length-append, Option, None}
use Rattle.std.specs.Prelude.{decimal, option_and_then, map, ◌&&◌, int_le}
use Rattle.std.specs.List.{All}
use Rattle.std.specs.Fmt.{signed_decimal}
use Rattle.std.specs.Cmp.Derive.{both_true}
use Rattle.std.proofs.lemmas.Bool.{lt-ltb}
use Rattle.std.proofs.lemmas.Int.{ints}
use Rattle.std.proofs.lemmas.Fmt.{decimal_by_steps}
use Rattle.std.proofs.lemmas.List.{append-nil}
use Rattle.std.proofs.lemmas.List.Elements.{All-nil, All-cons}
use Rattle.std.proofs.lemmas.Bool.Decides.{nat_tests}
use Rattle.gx_geom.specs.Rectangles.{Rectangle, IsBox}
use Rattle.gx_geom.specs.Solids.{Solid, IsSolid}
use Rattle.gx_geom.specs.BoxLaws.{tests_at_most}
use Rattle.gx_script.specs.Numbers.{number_of, next_value, corner_of, to_corner, to_negative_corner}
use Rattle.gx_script.specs.Corners.{Grammar, IsWritten, IsReversed, MakesNoKey, is_short, rectangle_grammar, solid_grammar}
use Rattle.gx_script.specs.Requests.{numbers_of, key_of, key_words}
use Rattle.gx_script.specs.Table.{corner_words}
use Rattle.gx_script.proofs.laws.RequestLemmas.{so_many, makes_none}
use Rattle.gx_script.proofs.NumberLemmas.{number_after, number_after-cons, number_of-after, number_after-end}

-- these digits are read as n, whatever follows, and begin with a digit
pub record IsRead (n : ℕ) (ds : List ℕ) : Type 0 where
  some : 0 < length ds
  digit : 48 ≤ get_or ds 0 0
  read : n < 2 ^ 64 → (rest : List ℕ) → number_after 0 (ds ++ rest) ≡ number_after n rest

-- a digit after a value
next-digit : (v d m : ℕ) → d < 10 → v * 10 + d ≡ m → m < 2 ^ 64 → next_value v (48 + d) ≡ Some m
next-digit v d m small e below =
    let first : leb 48 (48 + d) ≡ true = grind (arith, nat_tests) in
    let second : leb (48 + d) 57 ≡ true = grind (arith, nat_tests) in
    let sum : v * 10 + (48 + d - 48) ≡ m = omega arith in
    let fits : ltb m (2 ^ 64) ≡ true = lt-ltb m (2 ^ 64) below in
    rw (first, second, sum, fits) refl

one_digit : (n : ℕ) → n < 10 → IsRead n ((48 + n) ∷ [])
one_digit n small = record {
  some = omega arith;
  digit = omega arith;
  read = λ below rest. number_after-cons 0 (48 + n) rest ∙ ap (λ o. option_and_then (λ w. number_after w rest) o) (next-digit 0 n n small (omega arith) below);
}

first_kept : (ds es : List ℕ) → 0 < length ds → get_or (ds ++ es) 0 0 ≡ get_or ds 0 0
first_kept [] es h = absurd (omega arith)
first_kept (d ∷ ds) es h = refl

digit_more : (n : ℕ) (ds : List ℕ) → 10 ≤ n → IsRead (n / 10) ds → IsRead n (ds ++ ((48 + n % 10) ∷ []))
digit_more n ds h r =
    let some = r.some in
    let digit = r.digit in
    let same = first_kept ds ((48 + n % 10) ∷ []) r.some in
    record {
      some = omega (arith, length-append ds ((48 + n % 10) ∷ []));
      digit = omega (arith, same, digit);
      read = λ below rest.
          let whole : n / 10 * 10 + n % 10 ≡ n = omega arith in
          let front : n / 10 < 2 ^ 64 = omega arith in
          ap (λ xs. number_after 0 xs) (append_assoc ds ((48 + n % 10) ∷ []) rest) ∙ r.read front ((48 + n % 10) ∷ rest)
          ∙ number_after-cons (n / 10) (48 + n % 10) rest
          ∙ ap (λ o. option_and_then (λ w. number_after w rest) o) (next-digit (n / 10) (n % 10) n (omega arith) whole below);
    }

decimal-read : (n : ℕ) → n < 2 ^ 64 → IsRead n (decimal n)
decimal-read n h = decimal_by_steps (λ m ds. IsRead m ds) one_digit digit_more n h

pub number_of-decimal : (n : ℕ) → n < 2 ^ 64 → number_of (decimal n) ≡ Some n
number_of-decimal n h =
    let r = decimal-read n h in
    number_of-after (decimal n) r.some ∙ ap (λ ds. number_after 0 ds) (sym (append-nil (decimal n))) ∙ r.read h [] ∙ sym (number_after-end n [] h refl)

corner_of-digits : (ds : List ℕ) → 0 < length ds → 48 ≤ get_or ds 0 0 → corner_of ds ≡ option_and_then to_corner (number_of ds)
corner_of-digits [] some h = absurd (omega arith)
corner_of-digits (d ∷ ds) some h = let other : eqb d 45 ≡ false = grind (arith, nat_tests) in rw other refl

below_zero : (n : ℕ) → pos 0 -ℤ pos (suc n) ≡ negsuc n
below_zero n = omega (arith, ints)

pub corner_of-printed : (z : ℤ) → FitsSigned w64 z → corner_of (signed_decimal z) ≡ Some z
corner_of-printed (pos n) fits =
    let small : n < 9223372036854775808 = omega (arith, ints) in
    let big : n < 2 ^ 64 = omega arith in
    let r = decimal-read n big in
    let below : ltb n 9223372036854775808 ≡ true = lt-ltb n 9223372036854775808 small in
    corner_of-digits (decimal n) r.some r.digit ∙ ap (λ o. option_and_then to_corner o) (number_of-decimal n big) ∙ rw below refl
corner_of-printed (negsuc n) fits =
    let small : n < 9223372036854775808 = omega (arith, ints) in
    let below : leb (suc n) 9223372036854775808 ≡ true = grind (arith, nat_tests) in
    ap (λ o. option_and_then to_negative_corner o) (number_of-decimal (suc n) (omega arith)) ∙ rw below (ap (λ (z : ℤ). Some z) (below_zero n))

-- printed numbers, one after another
pub numbers_of-printed : (zs : List ℤ) → All (FitsSigned w64) zs → numbers_of (map signed_decimal zs) ≡ Some zs
numbers_of-printed [] fits = refl
numbers_of-printed (z ∷ zs) fits =
    let first = corner_of-printed z (fits 0 z (omega arith)) in
    let later = numbers_of-printed zs (λ i d h. fits (suc i) d (omega arith)) in
    rw first (rw later refl)

module _ {B : Type 0} (k : Grammar B) where
  -- the words of a key are read as the key
  pub key_words-printed : (key : B) → IsWritten k key → key_words k (corner_words k key) ≡ Some (Some key)
  key_words-printed key is =
      ap (λ o. option_and_then (key_of k) o) (numbers_of-printed (k.corners key) is.in_range)
      ∙ so_many k (k.corners key) true is.as_many is.fits ∙ ap (λ (o : Option B). Some o) is.makes

  pub no_key-printed : (zs : List ℤ) → All (FitsSigned w64) zs → MakesNoKey k zs → key_words k (map signed_decimal zs) ≡ None
  no_key-printed zs fits none = ap (λ o. option_and_then (key_of k) o) (numbers_of-printed zs fits) ∙ makes_none k zs none

  pub reversed-printed : (zs : List ℤ) → All (FitsSigned w64) zs → IsReversed k zs → key_words k (map signed_decimal zs) ≡ Some None
  reversed-printed zs fits is =
      ap (λ o. option_and_then (key_of k) o) (numbers_of-printed zs fits)
      ∙ so_many k zs true is.as_many is.fits ∙ ap (λ (o : Option B). Some o) is.makes

long : (z : ℤ) → FitsSigned w32 z → FitsSigned w64 z
long z fits = omega (arith, ints)

one_more_fits : (z : ℤ) (zs : List ℤ) → FitsSigned w32 z → All (FitsSigned w64) zs → All (FitsSigned w64) (z ∷ zs)
one_more_fits z zs fits rest = All-cons (FitsSigned w64) z zs (long z fits) rest

none_fits : All (FitsSigned w64) []
none_fits = All-nil (FitsSigned w64)

short : (z : ℤ) → FitsSigned w32 z → is_short z ≡ true
short z fits = both_true (tests_at_most (negsuc 2147483647) z (omega (arith, ints))) (tests_at_most z (pos 2147483647) (omega (arith, ints)))

-- a box is made of its own corners
pub rectangle_written : (b : Rectangle) → IsBox b → IsWritten rectangle_grammar b
rectangle_written b is =
    let x1 = short b.x1 is.x1_fits in
    let y1 = short b.y1 is.y1_fits in
    let x2 = short b.x2 is.x2_fits in
    let y2 = short b.y2 is.y2_fits in
    let in_order : (int_le b.x1 b.x2 && int_le b.y1 b.y2) ≡ true = both_true (tests_at_most b.x1 b.x2 is.x_in_order) (tests_at_most b.y1 b.y2 is.y_in_order) in
    record {
      in_range = one_more_fits b.x1 (b.y1 ∷ b.x2 ∷ b.y2 ∷ []) is.x1_fits (one_more_fits b.y1 (b.x2 ∷ b.y2 ∷ []) is.y1_fits
          (one_more_fits b.x2 (b.y2 ∷ []) is.x2_fits (one_more_fits b.y2 [] is.y2_fits none_fits)));
      as_many = refl;
      fits = both_true x1 (both_true y1 (both_true x2 (both_true y2 refl)));
      makes = rw in_order refl;
    }

pub solid_written : (b : Solid) → IsSolid b → IsWritten solid_grammar b
solid_written b is =
    let x1 = short b.x1 is.x1_fits in
    let y1 = short b.y1 is.y1_fits in
    let z1 = short b.z1 is.z1_fits in
    let x2 = short b.x2 is.x2_fits in
    let y2 = short b.y2 is.y2_fits in
    let z2 = short b.z2 is.z2_fits in
    let in_order : (int_le b.x1 b.x2 && (int_le b.y1 b.y2 && int_le b.z1 b.z2)) ≡ true =
    both_true (tests_at_most b.x1 b.x2 is.x_in_order) (both_true (tests_at_most b.y1 b.y2 is.y_in_order) (tests_at_most b.z1 b.z2 is.z_in_order)) in
    record {
      in_range = one_more_fits b.x1 (b.y1 ∷ b.z1 ∷ b.x2 ∷ b.y2 ∷ b.z2 ∷ []) is.x1_fits (one_more_fits b.y1 (b.z1 ∷ b.x2 ∷ b.y2 ∷ b.z2 ∷ []) is.y1_fits
          (one_more_fits b.z1 (b.x2 ∷ b.y2 ∷ b.z2 ∷ []) is.z1_fits (one_more_fits b.x2 (b.y2 ∷ b.z2 ∷ []) is.x2_fits
          (one_more_fits b.y2 (b.z2 ∷ []) is.y2_fits (one_more_fits b.z2 [] is.z2_fits none_fits)))));
      as_many = refl;
      fits = both_true x1 (both_true y1 (both_true z1 (both_true x2 (both_true y2 (both_true z2 refl)))));
      makes = rw in_order refl;
    }
