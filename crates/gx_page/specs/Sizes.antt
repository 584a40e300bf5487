-- How long the items of a page are.
use Rattle.std.specs.Prelude.{◌≡◌, ℕ, ◌≤◌, List, length}
use Rattle.std.specs.List.{All}

-- each item has this length
abbrev pub AllOfLength : ℕ → List (List ℕ) → Type 0
AllOfLength size items = All (λ item. length item ≡ size) items

-- no item is longer
abbrev pub NoneLonger : ℕ → List (List ℕ) → Type 0
NoneLonger size items = All (λ item. length item ≤ size) items
