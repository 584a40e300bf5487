-- Sets of entries: lists in order by row and then key, each entry once.
use Rattle.std.specs.declared.cmp.Ordering.TheVariants.{Less}
use Rattle.std.specs.Prelude.{◌≡◌, Bool, not, List, [], ◌∷◌, filter}
use Rattle.std.specs.List.{list_any}
use Rattle.std.specs.Ordering.{match_ordering}
use Rattle.gx_machine.specs.declared.entry.Entry.{Entry}
use Rattle.gx_machine.specs.declared.query.Query.{Query}
use Rattle.gx_machine.specs.Keys.{Keys, entry_cmp, same_entry, matches}

-- the entry is in the set
abbrev pub has : {B : Type 0} → Keys B → Entry B → List (Entry B) → Bool
has k e set = list_any (same_entry k e) set

-- the set with the entry, at its place in the order
abbrev pub including : {B : Type 0} → Keys B → Entry B → List (Entry B) → List (Entry B)
including k e [] = e ∷ []
including k e (x ∷ set) = match_ordering (entry_cmp k e x) (e ∷ x ∷ set) (x ∷ set) (x ∷ including k e set)

-- the set without the entry
abbrev pub excluding : {B : Type 0} → Keys B → Entry B → List (Entry B) → List (Entry B)
excluding k e set = filter (λ x. not (same_entry k e x)) set

-- the set with each of these entries
abbrev pub including_all : {B : Type 0} → Keys B → List (Entry B) → List (Entry B) → List (Entry B)
including_all k [] set = set
including_all k (e ∷ more) set = including_all k more (including k e set)

-- the set with none of these entries
abbrev pub excluding_all : {B : Type 0} → Keys B → List (Entry B) → List (Entry B) → List (Entry B)
excluding_all k gone set = filter (λ x. not (has k x gone)) set

-- the entries of the set that match a query, in the set's order
abbrev pub found : {B : Type 0} → Keys B → Query B → List (Entry B) → List (Entry B)
found k q set = filter (matches k q) set

-- the entry comes before each of these
abbrev pub Before : {B : Type 0} → Keys B → Entry B → List (Entry B) → Type 0
Before k e [] = Unit {0}
Before k e (x ∷ set) = (entry_cmp k e x ≡ Less) × Before k e set

-- each entry comes before all that follow it
abbrev pub InOrder : {B : Type 0} → Keys B → List (Entry B) → Type 0
InOrder k [] = Unit {0}
InOrder k (x ∷ set) = Before k x set × InOrder k set

-- the set of the entries that pass this test
pub record IsSetOf {B : Type 0} (k : Keys B) (test : Entry B → Bool) (set : List (Entry B)) : Type 0 where
  pub in_order : InOrder k set
  pub members : (e : Entry B) → has k e set ≡ test e
