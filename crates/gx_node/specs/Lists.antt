-- Words on lists and numbers that the tree's definitions are made of.
use Rattle.std.specs.Prelude.{ℕ, zero, suc, ◌+◌, Bool, true, false, cond, ◌⊎◌, List, [], ◌∷◌}

-- the sum of f over the elements
abbrev pub sum_over : {X : Type 0} → (X → ℕ) → List X → ℕ
sum_over f [] = 0
sum_over f (x ∷ xs) = f x + sum_over f xs

-- one if the test passes, and nothing if it doesn't
abbrev pub one_if : Bool → ℕ
one_if b = cond b 1 0

-- how many elements pass the test
abbrev pub how_many : {X : Type 0} → (X → Bool) → List X → ℕ
how_many test xs = sum_over (λ x. one_if (test x)) xs

-- P holds of each element
abbrev pub Each : {X : Type 0} → (X → Type 0) → List X → Type 0
Each P [] = Unit {0}
Each P (x ∷ xs) = P x × Each P xs

-- the sum of f over the numbers from 1 to n
abbrev pub total : (ℕ → ℕ) → ℕ → ℕ
total f zero = 0
total f (suc n) = f (suc n) + total f n

-- what stays and what goes, where the sides say of each element in turn whether it goes
abbrev pub staying : {X : Type 0} → List Bool → List X → List X
staying sides [] = []
staying [] (x ∷ xs) = x ∷ xs
staying (true ∷ sides) (x ∷ xs) = staying sides xs
staying (false ∷ sides) (x ∷ xs) = x ∷ staying sides xs

abbrev pub going : {X : Type 0} → List Bool → List X → List X
going sides [] = []
going [] (x ∷ xs) = []
going (true ∷ sides) (x ∷ xs) = x ∷ going sides xs
going (false ∷ sides) (x ∷ xs) = going sides xs

-- P holds of some element
abbrev pub SomeOf : {X : Type 0} → (X → Type 0) → List X → Type 0
SomeOf P [] = ⊥
SomeOf P (x ∷ xs) = P x ⊎ SomeOf P xs
