-- Predicates by their kinds.
use Rattle.std.specs.Prelude.{◌≡◌, List, [], ◌∷◌}
use Rattle.gx_machine.specs.declared.query.Query.{Query}
use Rattle.gx_machine.specs.declared.query.Query.TheVariants.{Overlap, Within, Equal, Covers}

-- the keys of the predicates of each kind, in the order of asking
abbrev pub overlap_keys : {B : Type 0} → List (Query B) → List B
overlap_keys [] = []
overlap_keys (Overlap q ∷ asked) = q ∷ overlap_keys asked
overlap_keys (Within q ∷ asked) = overlap_keys asked
overlap_keys (Equal q ∷ asked) = overlap_keys asked
overlap_keys (Covers q ∷ asked) = overlap_keys asked

abbrev pub within_keys : {B : Type 0} → List (Query B) → List B
within_keys [] = []
within_keys (Overlap q ∷ asked) = within_keys asked
within_keys (Within q ∷ asked) = q ∷ within_keys asked
within_keys (Equal q ∷ asked) = within_keys asked
within_keys (Covers q ∷ asked) = within_keys asked

abbrev pub equal_keys : {B : Type 0} → List (Query B) → List B
equal_keys [] = []
equal_keys (Overlap q ∷ asked) = equal_keys asked
equal_keys (Within q ∷ asked) = equal_keys asked
equal_keys (Equal q ∷ asked) = q ∷ equal_keys asked
equal_keys (Covers q ∷ asked) = equal_keys asked

abbrev pub covers_keys : {B : Type 0} → List (Query B) → List B
covers_keys [] = []
covers_keys (Overlap q ∷ asked) = covers_keys asked
covers_keys (Within q ∷ asked) = covers_keys asked
covers_keys (Equal q ∷ asked) = covers_keys asked
covers_keys (Covers q ∷ asked) = q ∷ covers_keys asked

-- these are the keys of each kind
pub record AreByKind {B : Type 0} (asked : List (Query B)) (overlap within equal covers : List B) : Type 0 where
  pub of_overlap : overlap ≡ overlap_keys asked
  pub of_within : within ≡ within_keys asked
  pub of_equal : equal ≡ equal_keys asked
  pub of_covers : covers ≡ covers_keys asked
