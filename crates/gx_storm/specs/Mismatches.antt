-- Where the replay of a record isn't defined.
use Rattle.std.specs.Prelude.{ℕ, ◌≡◌, ◌+◌, ◌≤◌, true, All, List, [], ◌∷◌, take, drop, length}
use Rattle.gx_machine.specs.declared.item.Item.{Item}
use Rattle.gx_machine.specs.declared.limits.TheConstants.{LAST_NUMBER}
use Rattle.gx_machine.specs.Keys.{Keys}
use Rattle.gx_machine.specs.Machine.{Machine, newest}
use Rattle.gx_events.specs.Replay.{Point, At, Fits, Leads, EndsAt}
use Rattle.gx_plain.specs.Index.{Index}
use Rattle.gx_storm.specs.Following.{is_faultless}
use Rattle.gx_storm.specs.declared.items.Mismatch.{Mismatch}
use Rattle.gx_storm.specs.declared.items.Mismatch.TheVariants as mismatch

-- no reply of the record is a fault, or that numbers have run out
abbrev pub AreFaultless : {B : Type 0} → List (Item B) → Type 0
AreFaultless items = All (λ item. is_faultless item ≡ true) items

-- the index has numbers for so many commits and so many transactions
pub record HasNumbersFor {B : Type 0} (count : ℕ) (index : Index B) : Type 0 where
  pub commits : newest index.machine + count ≤ LAST_NUMBER
  pub transactions : index.next + count ≤ LAST_NUMBER

-- the first of these items fits nowhere; or there is none, and the record may not end here
abbrev pub GoesNowhere : {B : Type 0} → Keys B → Point B → List (Item B) → Type 0
GoesNowhere {B} k p [] = (end : Machine B) → EndsAt k p end → ⊥
GoesNowhere {B} k p (item ∷ items) = (next : Point B) → Fits k p item next → ⊥

-- The replay goes up to the item at this place, and no further.
pub record StopsAt {B : Type 0} (k : Keys B) (start : Machine B) (items : List (Item B)) (place : ℕ) : Type 0 where
  pub within : place ≤ length items
  pub point : Point B
  pub leads : Leads k (At start) (take place items) point
  pub nowhere : GoesNowhere k point (drop place items)

-- what a mismatch says: nothing if memory was refused
abbrev pub IsMismatch : {B : Type 0} → Keys B → Machine B → List (Item B) → Mismatch → Type 0
IsMismatch k start items (mismatch.At place) = StopsAt k start items place
IsMismatch k start items mismatch.Memory = Unit {0}
