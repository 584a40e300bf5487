-- What is kept beside a session's claims, so that most questions of them need no search.
use Rattle.std.specs.Prelude.{ℕ, ◌≡◌, ◌%◌, Bool, true, false, List, [], ◌∷◌, map}
use Rattle.std.specs.List.{slice_index_or}
use Rattle.gx_machine.specs.declared.entry.Entry.{Entry}
use Rattle.gx_txn.specs.declared.marks.TheConstants.{ROW_MARKS}

-- the row's mark is set: many rows share one
abbrev pub is_marked : ℕ → List Bool → Bool
is_marked row marks = slice_index_or marks (row % ROW_MARKS) false

-- the row of each claim is marked
abbrev pub AreMarked : {B : Type 0} → List Bool → List (Entry B) → Type 0
AreMarked marks [] = Unit {0}
AreMarked marks (e ∷ claims) = (is_marked e.row marks ≡ true) × AreMarked marks claims

-- the claims' keys are kept in a separate list, in the same order, and their rows are marked
pub record IsTabled {B : Type 0} (marks : List Bool) (keys : List B) (claims : List (Entry B)) : Type 0 where
  pub same_keys : keys ≡ map (λ e. e.key) claims
  pub marked : AreMarked marks claims
