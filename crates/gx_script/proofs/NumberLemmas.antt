-- A number, digit by digit from the front.
use Rattle.std.proofs.Common.{◌≡◌, ℕ, zero, suc, ◌+◌, ◌-◌, ◌*◌, ◌^◌, ◌<◌, ◌≤◌, List, [], ◌∷◌, Bool, true, false, cond, ltb, leb, length, get_or, drop, refl, ap, sym, subst, ◌∙◌, arith, Option, None, Some, inl, inr, ℤ, pos, ◌-ℤ◌, FitsSigned, w64}
use Rattle.std.specs.Prelude.{option_and_then, if◌then◌else◌, SomeIff, IfSome}
use Rattle.std.proofs.lemmas.Int.{ints}
use Rattle.std.proofs.lemmas.Bool.Decides.{nat_tests}
use Rattle.std.specs.List.{list_all}
use Rattle.std.proofs.Math.Nat.{pow-suc}
use Rattle.std.proofs.lemmas.Bool.{ltb-false, le-ltb, lt-ltb, cases_lt}
use Rattle.std.proofs.lemmas.List.{drop_more}
use Rattle.gx_script.specs.Numbers.{is_digit, digits_value, if_below, number_of, next_value, to_negative_corner}

-- the number of these digits after a value
abbrev pub number_after : ℕ → List ℕ → Option ℕ
number_after value ds = if list_all is_digit ds then if_below (2 ^ 64) (value * 10 ^ length ds + digits_value ds) else None

-- a value of 0 in front counts for nothing
none_before : (x r : ℕ) → r ≡ 0 * x + r
none_before x r = omega arith

pub number_of-after : (ds : List ℕ) → 0 < length ds → number_of ds ≡ number_after 0 ds
number_of-after [] h = absurd (omega arith)
number_of-after (d ∷ ds) h =
    ap (λ n. if list_all is_digit (d ∷ ds) then if_below (2 ^ 64) n else None) (none_before (10 ^ length (d ∷ ds)) (digits_value (d ∷ ds)))

le-times : (x p : ℕ) → 0 < p → x ≤ x * p
le-times x zero h = absurd (omega arith)
le-times x (suc p) h = omega arith

ten-pow_pos : (n : ℕ) → 0 < 10 ^ n
ten-pow_pos zero = omega arith
ten-pow_pos (suc n) = let below = ten-pow_pos n in omega (arith, pow-suc 10 n)

same_value : (v d p r : ℕ) → v * (p * 10) + (d * p + r) ≡ (v * 10 + d) * p + r
same_value v d p r = omega arith

joined : (all t : Bool) (v d p r limit : ℕ) → 0 < p → ltb (v * 10 + d) limit ≡ t
    → cond all (if_below limit (v * (p * 10) + (d * p + r))) None ≡ option_and_then (λ w. cond all (if_below limit (w * p + r)) None) (if_below limit (v * 10 + d))
joined false true v d p r limit h e = rw e refl
joined false false v d p r limit h e = rw e refl
joined true true v d p r limit h e = rw e (ap (λ n. if_below limit n) (same_value v d p r))
joined true false v d p r limit h e =
    let past : limit ≤ v * 10 + d = ltb-false _ _ e in
    let more : v * 10 + d ≤ (v * 10 + d) * p = le-times (v * 10 + d) p h in
    let over : ltb ((v * 10 + d) * p + r) limit ≡ false = le-ltb _ _ (omega arith) in
    rw (e, same_value v d p r, over) refl

stepped : (t : Bool) (v d : ℕ) (ds : List ℕ) → is_digit d ≡ t → number_after v (d ∷ ds) ≡ option_and_then (λ w. number_after w ds) (next_value v d)
stepped false v d ds e = rw e refl
stepped true v d ds e = rw (e, pow-suc 10 (length ds)) (joined (list_all is_digit ds) (ltb (v * 10 + (d - 48)) (2 ^ 64)) v (d - 48) (10 ^ length ds) (digits_value ds) (2 ^ 64) (ten-pow_pos (length ds)) refl)

-- one digit more
pub number_after-cons : (v d : ℕ) (ds : List ℕ) → number_after v (d ∷ ds) ≡ option_and_then (λ w. number_after w ds) (next_value v d)
number_after-cons v d ds = stepped (is_digit d) v d ds refl

pub number_of-more : (word : List ℕ) (v i : ℕ) → i < length word → number_of word ≡ number_after v (drop i word)
    → number_of word ≡ option_and_then (λ w. number_after w (drop (i + 1) word)) (next_value v (get_or word i 0))
number_of-more word v i h e = e ∙ ap (λ ds. number_after v ds) (drop_more word i 0 h) ∙ number_after-cons v (get_or word i 0) (drop (i + 1) word)

one_time : (v : ℕ) → v ≡ v * 1 + 0
one_time v = omega arith

-- no digit more
pub number_after-end : (v : ℕ) (ds : List ℕ) → v < 2 ^ 64 → length ds ≡ 0 → Some v ≡ number_after v ds
number_after-end v [] small e = let below : ltb v (2 ^ 64) ≡ true = lt-ltb _ _ small in ap (λ (t : Bool). cond t (Some v) None) (sym below) ∙ ap (λ n. if_below (2 ^ 64) n) (one_time v)
number_after-end v (d ∷ ds) small e = absurd (omega arith)

-- what lies so far below 0, if it fits
pub below-checked : (r : Option ℤ) (n : ℕ) → SomeIff r (FitsSigned w64 (pos 0 -ℤ pos n)) (pos 0 -ℤ pos n) → r ≡ to_negative_corner n
below-checked None n h = elim (cases_lt 9223372036854775808 n) [
  | inl over ↦ let no : leb n 9223372036854775808 ≡ false = grind (arith, nat_tests) in rw no refl
  | inr within ↦ absurd (h (omega (arith, ints)))
]
below-checked (Some z) n h = elim (cases_lt 9223372036854775808 n) [
  | inl over ↦ absurd (let fits = h.0 in omega (arith, ints))
  | inr within ↦ let so : leb n 9223372036854775808 ≡ true = grind (arith, nat_tests) in rw so (ap (λ (x : ℤ). Some x) h.1)
]

pub below-fits : (r : Option ℤ) (n : ℕ) → SomeIff r (FitsSigned w64 (pos 0 -ℤ pos n)) (pos 0 -ℤ pos n) → IfSome r (λ z. FitsSigned w64 z)
below-fits None n h = tt
below-fits (Some z) n h = subst (λ (x : ℤ). FitsSigned w64 x) (sym h.1) h.0
