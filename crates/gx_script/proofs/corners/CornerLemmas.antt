-- A box of space, made of six numbers.
use Rattle.std.proofs.Common.{◌≡◌, ℕ, ◌<◌, ℤ, pos, negsuc, ◌≤ℤ◌, List, Bool, true, false, cond, length, refl, ap, sym, ◌∙◌, arith, FitsSigned, w32, to_z, of_z, Some, None, Result, Ok, Err}
use Rattle.std.specs.Prelude.{◌↔◌, ◌&&◌, int_le, IsOk, IfOk, OnErr, MatchResult}
use Rattle.std.specs.List.{list_all}
use Rattle.std.specs.Cmp.Derive.{both_true}
use Rattle.std.proofs.lemmas.Int.{ints, to_z-of_z}
use Rattle.std.proofs.lemmas.List.Elements.{All-get_or}
use Rattle.std.proofs.lemmas.List.Sums.{AllPass-from_list_all}
use Rattle.gx_geom.specs.declared.refusal.Refusal.{Refusal}
use Rattle.gx_geom.specs.declared.refusal.Refusal.TheVariants.{BadBox}
use Rattle.gx_geom.specs.BoxLaws.{split_true, at_most, tests_at_most}
use Rattle.gx_geom.specs.Solids.{Solid, solid_of}
use Rattle.gx_script.specs.Corners.{is_short, number_at, solid_made}

-- a number that is stored in 32 bits is the one that it was
short_fits : (z : ℤ) → is_short z ≡ true → FitsSigned w32 z
short_fits z e =
    let both = split_true (int_le (negsuc 2147483647) z) (int_le z (pos 2147483647)) e in
    let low = at_most (negsuc 2147483647) z both.0 in
    let high = at_most z (pos 2147483647) both.1 in
    omega (arith, ints, low, high)

pub short_stored : (zs : List ℤ) (i : ℕ) (x : ℤ) → list_all is_short zs ≡ true → i < length zs → x ≡ number_at i zs → to_z w32 (of_z w32 x) ≡ number_at i zs
short_stored zs i x all h is =
    ap (λ z. to_z w32 (of_z w32 z)) is
    ∙ to_z-of_z w32 (number_at i zs) (short_fits (number_at i zs) (All-get_or (λ z. is_short z ≡ true) zs i (pos 0) h (AllPass-from_list_all is_short zs all)))

never_made : (t : Bool) (b : Solid) → (t ≡ true → ⊥) → cond t (Some b) None ≡ None
never_made true b never = absurd (never refl)
never_made false b never = refl

made_of_numbers : (zs : List ℤ) (r : Result Solid Refusal)
    → IsOk r ↔ ((number_at 0 zs ≤ℤ number_at 3 zs) × (number_at 1 zs ≤ℤ number_at 4 zs) × (number_at 2 zs ≤ℤ number_at 5 zs))
    → IfOk r (λ b. b ≡ solid_of (number_at 0 zs) (number_at 1 zs) (number_at 2 zs) (number_at 3 zs) (number_at 4 zs) (number_at 5 zs))
    → OnErr r (r ≡ Err BadBox) → MatchResult r (λ b. solid_made zs ≡ Some b) (λ why. (why ≡ BadBox) × (solid_made zs ≡ None))
made_of_numbers zs (Ok b) ok corners refused =
    let order = ok.0 refl in
    let all : (int_le (number_at 0 zs) (number_at 3 zs) && (int_le (number_at 1 zs) (number_at 4 zs) && int_le (number_at 2 zs) (number_at 5 zs))) ≡ true =
    both_true (tests_at_most (number_at 0 zs) (number_at 3 zs) order.0)
    (both_true (tests_at_most (number_at 1 zs) (number_at 4 zs) order.1) (tests_at_most (number_at 2 zs) (number_at 5 zs) order.2)) in
    rw all (ap (λ (s : Solid). Some s) (sym corners))
made_of_numbers zs (Err why) ok corners refused =
    let same : why ≡ BadBox = cc in (
      same,
      never_made (int_le (number_at 0 zs) (number_at 3 zs) && (int_le (number_at 1 zs) (number_at 4 zs) && int_le (number_at 2 zs) (number_at 5 zs)))
          (solid_of (number_at 0 zs) (number_at 1 zs) (number_at 2 zs) (number_at 3 zs) (number_at 4 zs) (number_at 5 zs))
          (λ all.
          let in_x = split_true (int_le (number_at 0 zs) (number_at 3 zs)) (int_le (number_at 1 zs) (number_at 4 zs) && int_le (number_at 2 zs) (number_at 5 zs)) all in
          let in_yz = split_true (int_le (number_at 1 zs) (number_at 4 zs)) (int_le (number_at 2 zs) (number_at 5 zs)) in_x.1 in
          let made : false ≡ true =
          ok.1 (at_most (number_at 0 zs) (number_at 3 zs) in_x.0, at_most (number_at 1 zs) (number_at 4 zs) in_yz.0, at_most (number_at 2 zs) (number_at 5 zs) in_yz.1) in
          cc),
    )

-- a box of space is made of six numbers
pub solid_is_made : (zs : List ℤ) (r : Result Solid Refusal) (x1 y1 z1 x2 y2 z2 : ℤ)
    → x1 ≡ number_at 0 zs → y1 ≡ number_at 1 zs → z1 ≡ number_at 2 zs → x2 ≡ number_at 3 zs → y2 ≡ number_at 4 zs → z2 ≡ number_at 5 zs
    → IsOk r ↔ ((x1 ≤ℤ x2) × (y1 ≤ℤ y2) × (z1 ≤ℤ z2)) → IfOk r (λ b. b ≡ solid_of x1 y1 z1 x2 y2 z2)
    → OnErr r (r ≡ Err BadBox) → MatchResult r (λ b. solid_made zs ≡ Some b) (λ why. (why ≡ BadBox) × (solid_made zs ≡ None))
solid_is_made zs r x1 y1 z1 x2 y2 z2 a b c d e f ok corners refused =
    made_of_numbers zs r (rw (a, b, c, d, e, f) at ok) (rw (a, b, c, d, e, f) at corners) refused
