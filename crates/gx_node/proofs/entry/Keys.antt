-- The key that bytes spell.
use Rattle.std.proofs.Common.{◌≡◌, ℕ, ◌<◌, List, Option, Some, None, refl, sym, ◌∙◌, ap}
use Rattle.std.specs.Prelude.{slice_index, IfSome}

-- an answer that is a key only for its bytes, and that is the key for a key's bytes, is what the bytes are read as
pub read_is : {B : Type 0} (IsKey : B → Type 0) (spelling : B → List ℕ) (reading : List ℕ → Option B)
    → ((k : B) → IsKey k → reading (spelling k) ≡ Some k)
    → ((bytes : List ℕ) (k : B) → ((i : ℕ) → slice_index bytes i < 256) → reading bytes ≡ Some k → IsKey k × (bytes ≡ spelling k))
    → (result : Option B) (bytes : List ℕ) → ((i : ℕ) → slice_index bytes i < 256)
    → IfSome result (λ k. IsKey k × (bytes ≡ spelling k)) → ((k : B) → IsKey k → bytes ≡ spelling k → result ≡ Some k) → result ≡ reading bytes
read_is IsKey spelling reading back_law only_law (Some k) bytes small only back = sym (ap reading only.1 ∙ back_law k only.0)
read_is {B} IsKey spelling reading back_law only_law None bytes small only back = none (reading bytes) refl
  where
    none : (r : Option B) → reading bytes ≡ r → None ≡ r
    none None e = refl
    none (Some k) e = let is = only_law bytes k small e in back k is.0 is.1
