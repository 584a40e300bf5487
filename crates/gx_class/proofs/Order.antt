-- The bytes of four numbers, put in the machine's order and read side by side.
use Rattle.std.proofs.Common.{◌≡◌, ℕ, ◌+◌, ◌*◌, ◌^◌, ◌<◌, ◌≤◌, refl, ap, sym, ◌∙◌, arith, List, length, [], ◌∷◌, ◌++◌, take, drop, map, get_or}
use Rattle.std.specs.Prelude.{slice_index}
use Rattle.std.specs.Int.{w32, from_be_bytes}
use Rattle.std.proofs.lemmas.List.{get_or-take, get_or-drop, get_or_append_left, length-take}
use Rattle.std.proofs.lemmas.Simd.{get_or_wider}
use lib.Lanes.{Each1, chunk, pick_l, number_l, digits_l}
use mir.Val.{to_z, of_z}
use Rattle.std.proofs.lemmas.Int.{to_z-of_z}
use Rattle.gx_geom.specs.Rectangles.{Rectangle}
use Rattle.gx_class.specs.Boxes.{number_of, corners_of}
use Rattle.gx_class.specs.Probes.{corners, FourFit}
use Rattle.gx_class.specs.BoxReadings.{number_fits, small_part}

number_four : (bytes : List ℕ) (n : ℕ)
    → from_be_bytes w32 (take 4 (drop n bytes)) ≡ get_or bytes (n + 3) 0 + 256 * (get_or bytes (n + 2) 0 + 256 * (get_or bytes (n + 1) 0 + 256 * (get_or bytes (n + 0) 0 + 256 * 0)))
number_four bytes n =
    let zeroth = get_or-take 4 (drop n bytes) 0 0 (omega arith) ∙ get_or-drop n bytes 0 0 in
    let first = get_or-take 4 (drop n bytes) 1 0 (omega arith) ∙ get_or-drop n bytes 1 0 in
    let second = get_or-take 4 (drop n bytes) 2 0 (omega arith) ∙ get_or-drop n bytes 2 0 in
    let third = get_or-take 4 (drop n bytes) 3 0 (omega arith) ∙ get_or-drop n bytes 3 0 in
    omega arith

-- a byte of the vector, which is joined to itself
byte_in : (bytes : List ℕ) (k : ℕ) → 16 ≤ length bytes → k < 16 → get_or (take 16 bytes ++ take 16 bytes) k 0 ≡ get_or bytes k 0
byte_in bytes k long h =
    get_or_append_left (take 16 bytes) (take 16 bytes) 0 k (omega (arith, length-take 16 bytes)) ∙ get_or-take 16 bytes k 0 h

abbrev turned : List ℕ → List ℕ
turned v = pick_l 0 v (3 ∷ 2 ∷ 1 ∷ 0 ∷ 7 ∷ 6 ∷ 5 ∷ 4 ∷ 11 ∷ 10 ∷ 9 ∷ 8 ∷ 15 ∷ 14 ∷ 13 ∷ 12 ∷ [])

turned_small : (v : List ℕ) → ((k : ℕ) → get_or v k 0 < 256) → Each1 (λ x. x < 256) (turned v)
turned_small v s =
    (s 3, (s 2, (s 1, (s 0, (s 7, (s 6, (s 5, (s 4, (s 11, (s 10, (s 9, (s 8, (s 15, (s 14, (s 13, (s 12, tt))))))))))))))))

-- lane j of four numbers
lane_in : (bytes : List ℕ) (j : ℕ) → ((k : ℕ) → slice_index bytes k < 256) → j < 4
    → get_or (digits_l (2 ^ 32) 4 (number_l 256 (turned bytes))) j 0 ≡ number_l 256 (chunk (4 * j) 4 (turned bytes))
lane_in bytes j small h = get_or_wider 256 4 (2 ^ 32) 4 (turned bytes) j refl (turned_small bytes small) h

same_bytes : (v bytes : List ℕ) → ((k : ℕ) → k < 16 → get_or v k 0 ≡ get_or bytes k 0) → turned v ≡ turned bytes
same_bytes v bytes same =
    let at : (k : ℕ) → k < 16 → get_or v k 0 ≡ get_or bytes k 0 = same in
    cc (
      at 0 (omega arith),
      at 1 (omega arith),
      at 2 (omega arith),
      at 3 (omega arith),
      at 4 (omega arith),
      at 5 (omega arith),
      at 6 (omega arith),
      at 7 (omega arith),
      at 8 (omega arith),
      at 9 (omega arith),
      at 10 (omega arith),
      at 11 (omega arith),
      at 12 (omega arith),
      at 13 (omega arith),
      at 14 (omega arith),
      at 15 (omega arith),
    )

abbrev read_lanes : List ℕ → List ℕ
read_lanes bytes = digits_l (2 ^ 32) 4 (number_l 256 (turned bytes))

lanes_are : (bytes : List ℕ) → ((k : ℕ) → slice_index bytes k < 256)
    → map (to_z w32) (read_lanes bytes) ≡ corners (corners_of bytes)
unfolding corners_of number_of
lanes_are bytes small =
    let at : (j : ℕ) → j < 4 → get_or (read_lanes bytes) j 0 ≡ number_l 256 (chunk (4 * j) 4 (turned bytes)) = λ j h. lane_in bytes j small h in
    let zeroth : get_or (read_lanes bytes) 0 0 ≡ from_be_bytes w32 (take 4 (drop 0 bytes)) = at 0 (omega arith) ∙ sym (number_four bytes 0) in
    let first : get_or (read_lanes bytes) 1 0 ≡ from_be_bytes w32 (take 4 (drop 4 bytes)) = at 1 (omega arith) ∙ sym (number_four bytes 4) in
    let second : get_or (read_lanes bytes) 2 0 ≡ from_be_bytes w32 (take 4 (drop 8 bytes)) = at 2 (omega arith) ∙ sym (number_four bytes 8) in
    let third : get_or (read_lanes bytes) 3 0 ≡ from_be_bytes w32 (take 4 (drop 12 bytes)) = at 3 (omega arith) ∙ sym (number_four bytes 12) in
    ap (λ n. to_z w32 n ∷ to_z w32 (get_or (read_lanes bytes) 1 0) ∷ to_z w32 (get_or (read_lanes bytes) 2 0) ∷ to_z w32 (get_or (read_lanes bytes) 3 0) ∷ []) zeroth
    ∙ ap (λ n. to_z w32 (from_be_bytes w32 (take 4 (drop 0 bytes))) ∷ to_z w32 n ∷ to_z w32 (get_or (read_lanes bytes) 2 0) ∷ to_z w32 (get_or (read_lanes bytes) 3 0) ∷ []) first
    ∙ ap (λ n. to_z w32 (from_be_bytes w32 (take 4 (drop 0 bytes))) ∷ to_z w32 (from_be_bytes w32 (take 4 (drop 4 bytes))) ∷ to_z w32 n ∷ to_z w32 (get_or (read_lanes bytes) 3 0) ∷ []) second
    ∙ ap (λ n. to_z w32 (from_be_bytes w32 (take 4 (drop 0 bytes))) ∷ to_z w32 (from_be_bytes w32 (take 4 (drop 4 bytes))) ∷ to_z w32 (from_be_bytes w32 (take 4 (drop 8 bytes))) ∷ to_z w32 n ∷ []) third

pub lanes_read : (bytes : List ℕ) → 16 ≤ length bytes → ((k : ℕ) → slice_index bytes k < 256)
    → map (to_z w32) (read_lanes (take 16 bytes ++ take 16 bytes)) ≡ corners (corners_of bytes)
lanes_read bytes long small =
    ap (λ v. map (to_z w32) (digits_l (2 ^ 32) 4 (number_l 256 v))) (same_bytes (take 16 bytes ++ take 16 bytes) bytes (λ k h. byte_in bytes k long h))
    ∙ lanes_are bytes small

pub corners_fit : (bytes : List ℕ) → ((k : ℕ) → slice_index bytes k < 256) → FourFit (corners (corners_of bytes))
unfolding corners_of
corners_fit bytes small = record {
  first = number_fits (take 4 (drop 0 bytes)) (small_part bytes 0 small);
  second = number_fits (take 4 (drop 4 bytes)) (small_part bytes 4 small);
  third = number_fits (take 4 (drop 8 bytes)) (small_part bytes 8 small);
  fourth = number_fits (take 4 (drop 12 bytes)) (small_part bytes 12 small);
}

-- numbers that fit, passed on
pub passed_on : (b : Rectangle) → FourFit (corners b) → map (to_z w32) (map (of_z w32) (corners b)) ≡ corners b
passed_on b fits =
    ap (λ z. z ∷ to_z w32 (of_z w32 b.y1) ∷ to_z w32 (of_z w32 b.x2) ∷ to_z w32 (of_z w32 b.y2) ∷ []) (to_z-of_z w32 b.x1 fits.first)
    ∙ ap (λ z. b.x1 ∷ z ∷ to_z w32 (of_z w32 b.x2) ∷ to_z w32 (of_z w32 b.y2) ∷ []) (to_z-of_z w32 b.y1 fits.second)
    ∙ ap (λ z. b.x1 ∷ b.y1 ∷ z ∷ to_z w32 (of_z w32 b.y2) ∷ []) (to_z-of_z w32 b.x2 fits.third)
    ∙ ap (λ z. b.x1 ∷ b.y1 ∷ b.x2 ∷ z ∷ []) (to_z-of_z w32 b.y2 fits.fourth)
