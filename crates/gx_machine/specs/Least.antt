-- The least session that bars another.
use Rattle.std.specs.Prelude.{ℕ, ◌+◌, ◌==◌, Bool, not, ◌&&◌, if◌then◌else◌, Option, None, Some, List, [], ◌∷◌}

-- the least session but s that bars it, where those given are numbered from n
abbrev pub least_barring : {X : Type 0} → (X → Bool) → ℕ → ℕ → List X → Option ℕ
least_barring bars s n [] = None
least_barring bars s n (x ∷ xs) = if not (n == s) && bars x then Some n else least_barring bars s (n + 1) xs
