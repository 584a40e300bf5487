-- The place of an entry in a set in order: where it is, or where it would go.
use Rattle.std.specs.Prelude.{◌≡◌, ℕ, ◌<◌, ◌≤◌, true, false, Result, Ok, Err, List, [], ◌∷◌, length, take, drop}
use Rattle.std.specs.List.{insert, slice_index_or}
use Rattle.std.specs.declared.cmp.Ordering.TheVariants.{Less}
use Rattle.gx_machine.specs.declared.entry.Entry.{Entry}
use Rattle.gx_machine.specs.Keys.{Keys, entry_cmp}
use Rattle.gx_machine.specs.Sets.{has, including, Before}

-- each of these comes before the entry
abbrev pub Below : {B : Type 0} → Keys B → Entry B → List (Entry B) → Type 0
Below k e [] = Unit {0}
Below k e (x ∷ xs) = (entry_cmp k x e ≡ Less) × Below k e xs

-- the place where a set has the entry
pub record IsFound {B : Type 0} (k : Keys B) (e : Entry B) (set : List (Entry B)) (i : ℕ) : Type 0 where
  pub within : i < length set
  pub has : has k e set ≡ true
  pub at : (d : Entry B) → slice_index_or set i d ≡ e

-- the place for an entry that the set doesn't have
pub record IsPlace {B : Type 0} (k : Keys B) (e : Entry B) (set : List (Entry B)) (i : ℕ) : Type 0 where
  pub within : i ≤ length set
  pub lacks : has k e set ≡ false
  pub goes : including k e set ≡ insert set i e
  pub below : Below k e (take i set)
  pub before : Before k e (drop i set)

-- the set has the entry in this place, or doesn't have it and this is its place
abbrev pub IsSearched : {B : Type 0} → Keys B → Entry B → List (Entry B) → Result ℕ ℕ → Type 0
IsSearched k e set (Ok i) = IsFound k e set i
IsSearched k e set (Err i) = IsPlace k e set i
