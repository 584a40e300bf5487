-- Laws of boxes of space as keys.
use Rattle.std.proofs.Common.{◌≡◌, ℕ, ◌+◌, ◌*◌, ◌≤◌, ℤ, pos, FitsSigned, true, ◌&&◌, int_eq, ap, ◌∙◌, subst, arith, List, length, ◌++◌, take, drop}
use Rattle.std.specs.Int.{w32}
use Rattle.std.specs.Ordering.{is_eq}
use Rattle.std.proofs.lemmas.Int.{ints}
use Rattle.std.proofs.lemmas.Grind.{common_steps}
use Rattle.std.proofs.lemmas.List.{append_assoc, length-append}
use Rattle.gx_geom.specs.Solids.{Solid, IsSolid, union, volume, overlaps, within, solid_cmp, solid_of, along_x, along_y, along_z}
use Rattle.gx_geom.specs.SolidLaws.{within_through, within_corners, overlap_corners, same_corners}
use Rattle.gx_geom.specs.SpanLaws.{in_by_ends, meet_by_ends}
use Rattle.std.specs.Cmp.Derive.{both_true}
use Rattle.gx_machine.specs.declared.query.Query.{Query}
use Rattle.gx_machine.specs.declared.query.Query.TheVariants.{Overlap, Within, Equal, Covers}
use Rattle.gx_machine.specs.Keys.{keys, key_matches}
use Rattle.gx_split.specs.Split.{measure, split_sides}
use Rattle.gx_split.proofs.Wastes.{fair_split}
use Rattle.gx_class.specs.BoxKeyLaws.{same_order, same_halves, same_number, length-number_bytes, put_more}
use Rattle.gx_class.specs.IntervalKeyLaws.{meets_covered, inside_covered}
use Rattle.gx_class.specs.Sides.{LeavesEach}
use Rattle.gx_class.specs.Boxes.{number_bytes}
use Rattle.gx_class.specs.SolidKeys.{may_match, three_bytes, spelling}

pub start_is_solid : IsSolid (solid_of (pos 0) (pos 0) (pos 0) (pos 0) (pos 0) (pos 0))
start_is_solid = record {
  x_in_order = omega (arith, ints);
  y_in_order = omega (arith, ints);
  z_in_order = omega (arith, ints);
  x1_fits = omega (arith, ints);
  y1_fits = omega (arith, ints);
  z1_fits = omega (arith, ints);
  x2_fits = omega (arith, ints);
  y2_fits = omega (arith, ints);
  z2_fits = omega (arith, ints);
}

-- what overlaps a box overlaps whatever covers it
overlap_covered : (k b q : Solid) → overlaps k q ≡ true → within k b ≡ true → overlaps b q ≡ true
overlap_covered k b q p inside =
    let both = overlap_corners k q p in
    let lies = within_corners k b inside in
    both_true
    (meets_covered (along_x k) (along_x b) (along_x q) (meet_by_ends (along_x k) (along_x q) both.in_x) (in_by_ends (along_x k) (along_x b) lies.in_x))
    (both_true
    (meets_covered (along_y k) (along_y b) (along_y q) (meet_by_ends (along_y k) (along_y q) both.in_y) (in_by_ends (along_y k) (along_y b) lies.in_y))
    (meets_covered (along_z k) (along_z b) (along_z q) (meet_by_ends (along_z k) (along_z q) both.in_z) (in_by_ends (along_z k) (along_z b) lies.in_z)))

-- what covers a box that lies in another overlaps that one
within_covered : (k b q : Solid) → IsSolid k → within k q ≡ true → within k b ≡ true → overlaps b q ≡ true
within_covered k b q is p inside =
    let there = within_corners k q p in
    let here = within_corners k b inside in
    both_true
    (inside_covered (along_x k) (along_x b) (along_x q) is.x_in_order (in_by_ends (along_x k) (along_x q) there.in_x) (in_by_ends (along_x k) (along_x b) here.in_x))
    (both_true
    (inside_covered (along_y k) (along_y b) (along_y q) is.y_in_order (in_by_ends (along_y k) (along_y q) there.in_y) (in_by_ends (along_y k) (along_y b) here.in_y))
    (inside_covered (along_z k) (along_z b) (along_z q) is.z_in_order (in_by_ends (along_z k) (along_z q) there.in_z) (in_by_ends (along_z k) (along_z b) here.in_z)))

-- boxes are equal if their corners are
pub equal_tells : (a b : Solid)
    → (int_eq a.x1 b.x1 && (int_eq a.y1 b.y1 && (int_eq a.z1 b.z1 && (int_eq a.x2 b.x2 && (int_eq a.y2 b.y2 && int_eq a.z2 b.z2))))) ≡ is_eq (solid_cmp a b)
equal_tells a b = grind (arith, common_steps)

pub match_is_consistent : (q : Query Solid) (k b : Solid) → IsSolid k → key_matches (keys solid_cmp overlaps within) q k ≡ true → within k b ≡ true
    → may_match q b ≡ true
match_is_consistent (Overlap q) k b is matched inside = overlap_covered k b q matched inside
match_is_consistent (Within q) k b is matched inside = within_covered k b q is matched inside
match_is_consistent (Equal q) k b is matched inside =
    let same : k ≡ q = same_corners k q (same_order (solid_cmp k q) matched) in
    subst (λ z. within z b ≡ true) same inside
match_is_consistent (Covers q) k b is matched inside = within_through q k b matched inside

pub split_leaves_each : (xs : List Solid) (least : ℕ) → 1 ≤ least → 2 * least ≤ length xs → LeavesEach (length xs) least (split_sides (measure union volume) xs least)
split_leaves_each xs least one enough =
    let fair = fair_split (measure union volume) xs least one enough in
    record { each_has_one = fair.each_has_one; first_has = fair.first_has; second_has = fair.second_has }

pub length-three_bytes : (x y z : ℤ) → length (three_bytes x y z) ≡ 12
length-three_bytes x y z =
    let one = length-number_bytes x in
    let two = length-number_bytes y in
    let three = length-number_bytes z in
    simp length-append (omega arith)

pub length-spelling : (b : Solid) → length (spelling b) ≡ 24
length-spelling b =
    let low = length-three_bytes b.x1 b.y1 b.z1 in
    let high = length-three_bytes b.x2 b.y2 b.z2 in
    omega (arith, length-append (three_bytes b.x1 b.y1 b.z1) (three_bytes b.x2 b.y2 b.z2))

-- numbers that fit are those of their bytes
pub same_three : (x y z x' y' z' : ℤ) → FitsSigned w32 x → FitsSigned w32 y → FitsSigned w32 z → FitsSigned w32 x' → FitsSigned w32 y' → FitsSigned w32 z'
    → three_bytes x y z ≡ three_bytes x' y' z' → (x ≡ x') × (y ≡ y') × (z ≡ z')
same_three x y z x' y' z' fx fy fz fx' fy' fz' e =
    let first = same_halves (number_bytes x) (number_bytes y ++ number_bytes z) (number_bytes x') (number_bytes y' ++ number_bytes z')
    (omega (arith, length-number_bytes x, length-number_bytes x')) e in
    let others = same_halves (number_bytes y) (number_bytes z) (number_bytes y') (number_bytes z')
    (omega (arith, length-number_bytes y, length-number_bytes y')) first.1 in
    (same_number x x' fx fx' first.0, same_number y y' fy fy' others.0, same_number z z' fz fz' others.1)

pub same_by_corners : (a b : Solid) → a.x1 ≡ b.x1 → a.y1 ≡ b.y1 → a.z1 ≡ b.z1 → a.x2 ≡ b.x2 → a.y2 ≡ b.y2 → a.z2 ≡ b.z2 → a ≡ b
same_by_corners a b x1 y1 z1 x2 y2 z2 i =
    record { x1 = x1 i; y1 = y1 i; z1 = z1 i; x2 = x2 i; y2 = y2 i; z2 = z2 i }

-- corners whose numbers fit are those of their bytes
pub same_spelling : (a b : Solid) → FitsSigned w32 a.x1 → FitsSigned w32 a.y1 → FitsSigned w32 a.z1 → FitsSigned w32 a.x2 → FitsSigned w32 a.y2 → FitsSigned w32 a.z2
    → IsSolid b → spelling a ≡ spelling b → a ≡ b
same_spelling a b x1 y1 z1 x2 y2 z2 is e =
    let halves = same_halves (three_bytes a.x1 a.y1 a.z1) (three_bytes a.x2 a.y2 a.z2) (three_bytes b.x1 b.y1 b.z1) (three_bytes b.x2 b.y2 b.z2)
    (omega (arith, length-three_bytes a.x1 a.y1 a.z1, length-three_bytes b.x1 b.y1 b.z1)) e in
    let low = same_three a.x1 a.y1 a.z1 b.x1 b.y1 b.z1 x1 y1 z1 is.x1_fits is.y1_fits is.z1_fits halves.0 in
    let high = same_three a.x2 a.y2 a.z2 b.x2 b.y2 b.z2 x2 y2 z2 is.x2_fits is.y2_fits is.z2_fits halves.1 in
    same_by_corners a b low.0 low.1 low.2 high.0 high.1 high.2

-- three numbers more are written
pub put_three : (out now one two three front a b c : List ℕ) (at : ℕ) → length front ≡ at → length a ≡ 4 → length b ≡ 4 → length c ≡ 4
    → now ≡ front ++ drop at out → one ≡ take at now ++ (a ++ drop (at + 4) now) → two ≡ take (at + 4) one ++ (b ++ drop (at + 4 + 4) one)
    → three ≡ take (at + 4 + 4) two ++ (c ++ drop (at + 4 + 4 + 4) two)
    → three ≡ (front ++ (a ++ (b ++ c))) ++ drop (at + 4 + 4 + 4) out
put_three out now one two three front a b c at long la lb lc is is1 is2 is3 =
    let fa = length-append front a in
    let fab = length-append (front ++ a) b in
    let first : one ≡ (front ++ a) ++ drop (at + 4) out = is1 ∙ put_more out now front a at long la is in
    let second : two ≡ ((front ++ a) ++ b) ++ drop (at + 4 + 4) out = is2 ∙ put_more out one (front ++ a) b (at + 4) (omega arith) lb first in
    let third : three ≡ (((front ++ a) ++ b) ++ c) ++ drop (at + 4 + 4 + 4) out = is3 ∙ put_more out two ((front ++ a) ++ b) c (at + 4 + 4) (omega arith) lc second in
    third ∙ ap (λ l. l ++ drop (at + 4 + 4 + 4) out) (append_assoc (front ++ a) b c ∙ append_assoc front a (b ++ c))
