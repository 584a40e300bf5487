-- Numbers read from the one byte in which each is written.
use Rattle.std.proofs.Common.{◌≡◌, ℕ, ◌<◌, sym, ◌∙◌, ap, subst, List, [], ◌∷◌, Option, Some, None}
use Rattle.std.specs.Prelude.{slice_index}

abbrev pub one_byte : {B : Type 0} → (ℕ → B) → List ℕ → Option B
one_byte made [] = None
one_byte made (n ∷ []) = Some (made n)
one_byte made (n ∷ m ∷ rest) = None

-- what is read is written in that byte
pub one_byte_only : {B : Type 0} (made : ℕ → B) (number : B → ℕ) → ((n : ℕ) → number (made n) ≡ n)
    → (bytes : List ℕ) (k : B) → ((i : ℕ) → slice_index bytes i < 256) → one_byte made bytes ≡ Some k → (number k < 256) × (bytes ≡ number k ∷ [])
one_byte_only made number back [] k small e = cc
one_byte_only {B} made number back (n ∷ []) k small e =
    let is : made n ≡ k = cc in
    let same : n ≡ number k = sym (back n) ∙ ap number is in
    (subst (λ m. m < 256) same (small 0), ap (λ m. m ∷ []) same)
one_byte_only made number back (n ∷ m ∷ rest) k small e = cc
