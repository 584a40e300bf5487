-- Bytes read as a box of space: its own spelling, and nothing else.
use Rattle.std.proofs.Common.{◌≡◌, ℕ, ◌<◌, ℤ, FitsSigned, true, ◌&&◌, ◌==◌, ap, sym, ◌∙◌, subst, arith, List, length, [], ◌++◌, take, drop, Some}
use Rattle.std.specs.Prelude.{slice_index, int_le}
use Rattle.std.specs.Int.{w32}
use Rattle.std.proofs.lemmas.Bool.{and_parts, and_from, eqb-true, eq-eqb}
use Rattle.std.proofs.lemmas.List.{append_assoc, append-nil, take_at, drop_at, take-append-drop, take_all, drop-drop, length-drop}
use Rattle.gx_geom.specs.Solids.{Solid, IsSolid}
use Rattle.gx_geom.specs.BoxLaws.{at_most, tests_at_most}
use Rattle.gx_class.specs.Boxes.{number_bytes, number_of}
use Rattle.gx_class.specs.BoxKeyLaws.{length-number_bytes}
use Rattle.gx_class.specs.BoxReadings.{number_back, number_fits, small_part, part_written, chosen, told}
use Rattle.gx_class.specs.SolidKeys.{three_bytes, spelling, corners_of, in_order, reading}
use Rattle.gx_class.specs.SolidKeyLaws.{length-three_bytes, length-spelling, same_by_corners}

-- ---- a box's bytes

-- the three numbers after some bytes, if more follow
first_at : (x y z : ℤ) (back : List ℕ) → FitsSigned w32 x → number_of (take 4 (three_bytes x y z ++ back)) ≡ x
first_at x y z back fits =
    ap (λ l. number_of (take 4 l)) (append_assoc (number_bytes x) (number_bytes y ++ number_bytes z) back)
    ∙ ap number_of (take_at (number_bytes x) ((number_bytes y ++ number_bytes z) ++ back) 4 (length-number_bytes x))
    ∙ number_back x fits

second_at : (x y z : ℤ) (back : List ℕ) → FitsSigned w32 y → number_of (take 4 (drop 4 (three_bytes x y z ++ back))) ≡ y
second_at x y z back fits =
    ap (λ l. number_of (take 4 (drop 4 l))) (append_assoc (number_bytes x) (number_bytes y ++ number_bytes z) back)
    ∙ ap (λ l. number_of (take 4 l)) (drop_at (number_bytes x) ((number_bytes y ++ number_bytes z) ++ back) 4 (length-number_bytes x)
    ∙ append_assoc (number_bytes y) (number_bytes z) back)
    ∙ ap number_of (take_at (number_bytes y) (number_bytes z ++ back) 4 (length-number_bytes y))
    ∙ number_back y fits

third_at : (x y z : ℤ) (back : List ℕ) → FitsSigned w32 z → number_of (take 4 (drop 8 (three_bytes x y z ++ back))) ≡ z
third_at x y z back fits =
    let all = three_bytes x y z ++ back in
    ap (λ l. number_of (take 4 l)) (sym (drop-drop 4 4 all)
    ∙ ap (drop 4) (ap (drop 4) (append_assoc (number_bytes x) (number_bytes y ++ number_bytes z) back)
    ∙ drop_at (number_bytes x) ((number_bytes y ++ number_bytes z) ++ back) 4 (length-number_bytes x)
    ∙ append_assoc (number_bytes y) (number_bytes z) back)
    ∙ drop_at (number_bytes y) (number_bytes z ++ back) 4 (length-number_bytes y))
    ∙ ap number_of (take_at (number_bytes z) back 4 (length-number_bytes z))
    ∙ number_back z fits

-- the second corner's bytes, after the first one's
behind : (b : Solid) → drop 12 (spelling b) ≡ three_bytes b.x2 b.y2 b.z2 ++ []
behind b =
    drop_at (three_bytes b.x1 b.y1 b.z1) (three_bytes b.x2 b.y2 b.z2) 12 (length-three_bytes b.x1 b.y1 b.z1)
    ∙ sym (append-nil (three_bytes b.x2 b.y2 b.z2))

pub corners_back : (b : Solid) → IsSolid b → corners_of (spelling b) ≡ b
unfolding corners_of
corners_back b is =
    let all = spelling b in
    let high = three_bytes b.x2 b.y2 b.z2 in
    same_by_corners (corners_of all) b
    (first_at b.x1 b.y1 b.z1 high is.x1_fits)
    (second_at b.x1 b.y1 b.z1 high is.y1_fits)
    (third_at b.x1 b.y1 b.z1 high is.z1_fits)
    (ap (λ l. number_of (take 4 l)) (behind b) ∙ first_at b.x2 b.y2 b.z2 [] is.x2_fits)
    (ap (λ l. number_of (take 4 l)) (sym (drop-drop 4 12 all) ∙ ap (drop 4) (behind b)) ∙ second_at b.x2 b.y2 b.z2 [] is.y2_fits)
    (ap (λ l. number_of (take 4 l)) (sym (drop-drop 8 12 all) ∙ ap (drop 8) (behind b)) ∙ third_at b.x2 b.y2 b.z2 [] is.z2_fits)

orders : (a b : Solid) → a ≡ b → IsSolid b → in_order a ≡ true
orders a b e is =
    ap in_order e
    ∙ and_from (int_le b.x1 b.x2) (int_le b.y1 b.y2 && int_le b.z1 b.z2) (tests_at_most b.x1 b.x2 is.x_in_order)
    (and_from (int_le b.y1 b.y2) (int_le b.z1 b.z2) (tests_at_most b.y1 b.y2 is.y_in_order) (tests_at_most b.z1 b.z2 is.z_in_order))

pub reading_back : (b : Solid) → IsSolid b → reading (spelling b) ≡ Some b
unfolding reading
reading_back b is =
    let same = corners_back b is in
    chosen ((length (spelling b) == 24) && in_order (corners_of (spelling b))) (corners_of (spelling b)) b
    (and_from (length (spelling b) == 24) (in_order (corners_of (spelling b))) (eq-eqb (length (spelling b)) 24 (length-spelling b)) (orders (corners_of (spelling b)) b same is)) same

-- ---- bytes that spell a box

parts_join : (bytes : List ℕ) → length bytes ≡ 24
    → (take 4 (drop 0 bytes) ++ (take 4 (drop 4 bytes) ++ take 4 (drop 8 bytes)))
    ++ (take 4 (drop 12 bytes) ++ (take 4 (drop 16 bytes) ++ take 4 (drop 20 bytes))) ≡ bytes
parts_join bytes long =
    let last : take 4 (drop 20 bytes) ≡ drop 20 bytes = take_all 4 (drop 20 bytes) (omega (arith, length-drop 20 bytes)) in
    let high : take 4 (drop 12 bytes) ++ (take 4 (drop 16 bytes) ++ take 4 (drop 20 bytes)) ≡ drop 12 bytes =
    ap (λ l. take 4 (drop 12 bytes) ++ l) (ap (λ l. take 4 (drop 16 bytes) ++ l) (last ∙ sym (drop-drop 4 16 bytes))
    ∙ take-append-drop 4 (drop 16 bytes) ∙ sym (drop-drop 4 12 bytes))
    ∙ take-append-drop 4 (drop 12 bytes) in
    ap (λ l. (take 4 (drop 0 bytes) ++ (take 4 (drop 4 bytes) ++ take 4 (drop 8 bytes))) ++ l) high
    ∙ append_assoc (take 4 (drop 0 bytes)) (take 4 (drop 4 bytes) ++ take 4 (drop 8 bytes)) (drop 12 bytes)
    ∙ ap (λ l. take 4 (drop 0 bytes) ++ l) (append_assoc (take 4 (drop 4 bytes)) (take 4 (drop 8 bytes)) (drop 12 bytes)
    ∙ ap (λ l. take 4 (drop 4 bytes) ++ l) (ap (λ l. take 4 (drop 8 bytes) ++ l) (sym (drop-drop 4 8 bytes))
    ∙ take-append-drop 4 (drop 8 bytes) ∙ sym (drop-drop 4 4 bytes))
    ∙ take-append-drop 4 (drop 4 bytes))
    ∙ take-append-drop 4 bytes

is_solid : (bytes : List ℕ) → ((i : ℕ) → slice_index bytes i < 256) → in_order (corners_of bytes) ≡ true → IsSolid (corners_of bytes)
unfolding corners_of
is_solid bytes small e =
    let b = corners_of bytes in
    let first = and_parts (int_le b.x1 b.x2) (int_le b.y1 b.y2 && int_le b.z1 b.z2) e in
    let others = and_parts (int_le b.y1 b.y2) (int_le b.z1 b.z2) first.1 in
    record {
      x_in_order = at_most b.x1 b.x2 first.0;
      y_in_order = at_most b.y1 b.y2 others.0;
      z_in_order = at_most b.z1 b.z2 others.1;
      x1_fits = number_fits (take 4 (drop 0 bytes)) (small_part bytes 0 small);
      y1_fits = number_fits (take 4 (drop 4 bytes)) (small_part bytes 4 small);
      z1_fits = number_fits (take 4 (drop 8 bytes)) (small_part bytes 8 small);
      x2_fits = number_fits (take 4 (drop 12 bytes)) (small_part bytes 12 small);
      y2_fits = number_fits (take 4 (drop 16 bytes)) (small_part bytes 16 small);
      z2_fits = number_fits (take 4 (drop 20 bytes)) (small_part bytes 20 small);
    }

-- three numbers' bytes, each written anew
three_written : (a b c : List ℕ) (x y z : ℤ) → number_bytes x ≡ a → number_bytes y ≡ b → number_bytes z ≡ c → a ++ (b ++ c) ≡ three_bytes x y z
three_written a b c x y z p q r =
    sym (ap (λ l. l ++ (number_bytes y ++ number_bytes z)) p ∙ ap (λ l. a ++ (l ++ number_bytes z)) q ∙ ap (λ l. a ++ (b ++ l)) r)

corners_written : (bytes : List ℕ) → length bytes ≡ 24 → ((i : ℕ) → slice_index bytes i < 256) → bytes ≡ spelling (corners_of bytes)
unfolding corners_of
corners_written bytes long small =
    let b = corners_of bytes in
    sym (parts_join bytes long)
    ∙ ap (λ l. l ++ (take 4 (drop 12 bytes) ++ (take 4 (drop 16 bytes) ++ take 4 (drop 20 bytes))))
    (three_written (take 4 (drop 0 bytes)) (take 4 (drop 4 bytes)) (take 4 (drop 8 bytes)) b.x1 b.y1 b.z1
    (part_written bytes 0 (omega arith) small) (part_written bytes 4 (omega arith) small) (part_written bytes 8 (omega arith) small))
    ∙ ap (λ l. three_bytes b.x1 b.y1 b.z1 ++ l)
    (three_written (take 4 (drop 12 bytes)) (take 4 (drop 16 bytes)) (take 4 (drop 20 bytes)) b.x2 b.y2 b.z2
    (part_written bytes 12 (omega arith) small) (part_written bytes 16 (omega arith) small) (part_written bytes 20 (omega arith) small))

pub reading_only : (bytes : List ℕ) (b : Solid) → ((i : ℕ) → slice_index bytes i < 256) → reading bytes ≡ Some b → IsSolid b × (bytes ≡ spelling b)
unfolding reading
reading_only bytes b small e =
    let two = told ((length bytes == 24) && in_order (corners_of bytes)) (corners_of bytes) b e in
    let tests = and_parts (length bytes == 24) (in_order (corners_of bytes)) two.0 in
    let long : length bytes ≡ 24 = eqb-true (length bytes) 24 tests.0 in
    (subst (λ z. IsSolid z) two.1 (is_solid bytes small tests.1), corners_written bytes long small ∙ ap spelling two.1)
