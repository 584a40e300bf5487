-- Whether any element of a list passes a test.
use Rattle.std.proofs.Common.{◌≡◌, ◌∙◌, ap, refl, ℕ, zero, suc, ◌<◌, Bool, true, false, List, [], ◌∷◌, length, Option, None, Some, arith}
use Rattle.std.specs.Prelude.{slice_get}
use Rattle.gx_node.specs.Lists.{how_many, one_if}

module _ {X : Type 0} (test : X → Bool) where
  -- none before this place passes
  abbrev pub NonePasses : List X → ℕ → Type 0
  NonePasses xs n = (k : ℕ) → k < n → (x : X) → slice_get xs k ≡ Some x → test x ≡ false

  pub none_passes : (xs : List X) → NonePasses xs (length xs) → how_many test xs ≡ 0
  none_passes [] none = refl
  none_passes (x ∷ xs) none =
      let here : one_if (test x) ≡ 0 = ap one_if (none 0 (omega arith) x refl) in
      let rest : how_many test xs ≡ 0 = none_passes xs (λ k low y at. none (suc k) (omega (arith, low)) y at) in
      omega (arith, here, rest)

  pub one_passes : (xs : List X) (k : ℕ) (x : X) → slice_get xs k ≡ Some x → test x ≡ true → 0 < how_many test xs
  one_passes [] k x at passes = absurd (let never : ◌≡◌ {A = Option X} None (Some x) = at in cc)
  one_passes (y ∷ ys) zero x at passes =
      let found : ◌≡◌ {A = Option X} (Some y) (Some x) = at in
      let same : y ≡ x = cc in
      let here : one_if (test y) ≡ 1 = ap one_if (ap test same ∙ passes) in
      omega (arith, here)
  one_passes (y ∷ ys) (suc k) x at passes = let rest : 0 < how_many test ys = one_passes ys k x at passes in omega (arith, rest)
