-- Four numbers compared with their limits at once.
use Rattle.std.proofs.Common.{◌≡◌, ℕ, ◌%◌, ◌^◌, ℤ, pos, Bool, true, false, not, ◌&&◌, ◌||◌, cond, refl, ap, ◌∙◌, subst, arith, List, length, [], ◌∷◌, map, get_or, FitsSigned, eqb}
use Rattle.std.specs.Prelude.{int_le, int_lt}
use Rattle.std.specs.Int.{w32}
use Rattle.std.proofs.lemmas.Int.{ints, to_z-of_z}
use lib.Lanes.{mask_l, top, zip2}
use mir.Syntax.{bit_or, mask, lt, signed}
use mir.Val.{of_z, to_z}
use borrow.Table.Row.{s_int}
use borrow.Rule.Simd.Lanes.{act2}
use Rattle.gx_class.specs.Probes.{FourFit, are_between}

-- one lane's comparison: all ones if the first is less
abbrev less : ℕ → ℕ → ℕ
less = act2 (mask (lt signed)) (s_int w32) (s_int w32) (s_int w32)

abbrev either : ℕ → ℕ → ℕ
either = act2 bit_or (s_int w32) (s_int w32) (s_int w32)

either_top : (p q : Bool) → top 31 (either (cond p 4294967295 0) (cond q 4294967295 0)) ≡ (p || q)
either_top true true = refl
either_top true false = refl
either_top false true = refl
either_top false false = refl

lane : (l h x : ℤ) → FitsSigned w32 l → FitsSigned w32 h → FitsSigned w32 x
    → top 31 (either (less (of_z w32 x) (of_z w32 l)) (less (of_z w32 h) (of_z w32 x))) ≡ (int_lt x l || int_lt h x)
lane l h x fl fh fx =
    either_top (int_lt (to_z w32 (of_z w32 x)) (to_z w32 (of_z w32 l))) (int_lt (to_z w32 (of_z w32 h)) (to_z w32 (of_z w32 x)))
    ∙ ap (λ z. int_lt z (to_z w32 (of_z w32 l)) || int_lt (to_z w32 (of_z w32 h)) z) (to_z-of_z w32 x fx)
    ∙ ap (λ z. int_lt x z || int_lt (to_z w32 (of_z w32 h)) x) (to_z-of_z w32 l fl)
    ∙ ap (λ z. int_lt x l || int_lt z x) (to_z-of_z w32 h fh)

turned : (a b : ℤ) → int_lt a b ≡ not (int_le b a)
turned a b = grind (arith, ints)

neither : (p q : Bool) → (not p || not q) ≡ not (p && q)
neither true q = refl
neither false q = refl

lane_out : (l h x : ℤ) → FitsSigned w32 l → FitsSigned w32 h → FitsSigned w32 x
    → top 31 (either (less (of_z w32 x) (of_z w32 l)) (less (of_z w32 h) (of_z w32 x))) ≡ not (int_le l x && int_le x h)
lane_out l h x fl fh fx =
    lane l h x fl fh fx ∙ ap (λ (t : Bool). t || int_lt h x) (turned x l) ∙ ap (λ (t : Bool). not (int_le l x) || t) (turned h x) ∙ neither (int_le l x) (int_le x h)

none_out : (s t u v : Bool) → eqb (mask_l (not s ∷ not t ∷ not u ∷ not v ∷ []) % 2 ^ 64) 0 ≡ (s && (t && (u && (v && true))))
none_out true true true true = refl
none_out true true true false = refl
none_out true true false true = refl
none_out true true false false = refl
none_out true false true true = refl
none_out true false true false = refl
none_out true false false true = refl
none_out true false false false = refl
none_out false true true true = refl
none_out false true true false = refl
none_out false true false true = refl
none_out false true false false = refl
none_out false false true true = refl
none_out false false true false = refl
none_out false false false true = refl
none_out false false false false = refl

four_out : (a b c d s t u v : Bool) → a ≡ not s → b ≡ not t → c ≡ not u → d ≡ not v
    → eqb (mask_l (a ∷ b ∷ c ∷ d ∷ []) % 2 ^ 64) 0 ≡ (s && (t && (u && (v && true))))
four_out a b c d s t u v p q r w =
    ap (λ (z : Bool). eqb (mask_l (z ∷ b ∷ c ∷ d ∷ []) % 2 ^ 64) 0) p ∙ ap (λ (z : Bool). eqb (mask_l (not s ∷ z ∷ c ∷ d ∷ []) % 2 ^ 64) 0) q
    ∙ ap (λ (z : Bool). eqb (mask_l (not s ∷ not t ∷ z ∷ d ∷ []) % 2 ^ 64) 0) r ∙ ap (λ (z : Bool). eqb (mask_l (not s ∷ not t ∷ not u ∷ z ∷ []) % 2 ^ 64) 0) w
    ∙ none_out s t u v

-- the whole comparison
abbrev compared : List ℤ → List ℤ → List ℤ → Bool
compared low high numbers =
    eqb (mask_l (map (top 31) (zip2 either (zip2 less (map (of_z w32) numbers) (map (of_z w32) low)) (zip2 less (map (of_z w32) high) (map (of_z w32) numbers)))) % 2 ^ 64) 0

abbrev Tells : List ℤ → List ℤ → List ℤ → Type 0
Tells low high numbers = compared low high numbers ≡ are_between low high numbers

abbrev four : List ℤ → List ℤ
four xs = get_or xs 0 (pos 0) ∷ get_or xs 1 (pos 0) ∷ get_or xs 2 (pos 0) ∷ get_or xs 3 (pos 0) ∷ []

four_tell : (low high numbers : List ℤ) → FourFit low → FourFit high → FourFit numbers → Tells (four low) (four high) (four numbers)
four_tell low high numbers fl fh fn =
    four_out _ _ _ _ _ _ _ _
    (lane_out (get_or low 0 (pos 0)) (get_or high 0 (pos 0)) (get_or numbers 0 (pos 0)) fl.first fh.first fn.first)
    (lane_out (get_or low 1 (pos 0)) (get_or high 1 (pos 0)) (get_or numbers 1 (pos 0)) fl.second fh.second fn.second)
    (lane_out (get_or low 2 (pos 0)) (get_or high 2 (pos 0)) (get_or numbers 2 (pos 0)) fl.third fh.third fn.third)
    (lane_out (get_or low 3 (pos 0)) (get_or high 3 (pos 0)) (get_or numbers 3 (pos 0)) fl.fourth fh.fourth fn.fourth)

four_of : (xs : List ℤ) → length xs ≡ 4 → four xs ≡ xs
four_of [] h = absurd (omega arith)
four_of (a ∷ []) h = absurd (omega arith)
four_of (a ∷ b ∷ []) h = absurd (omega arith)
four_of (a ∷ b ∷ c ∷ []) h = absurd (omega arith)
four_of (a ∷ b ∷ c ∷ e ∷ []) h = refl
four_of (a ∷ b ∷ c ∷ e ∷ f ∷ xs) h = absurd (omega arith)

pub lanes_tell : (low high numbers : List ℤ) → length low ≡ 4 → length high ≡ 4 → length numbers ≡ 4 → FourFit low → FourFit high → FourFit numbers
    → Tells low high numbers
lanes_tell low high numbers a b c fl fh fn =
    subst (λ (l : List ℤ). Tells l high numbers) (four_of low a)
    (subst (λ (h : List ℤ). Tells (four low) h numbers) (four_of high b)
    (subst (λ (n : List ℤ). Tells (four low) (four high) n) (four_of numbers c) (four_tell low high numbers fl fh fn)))
