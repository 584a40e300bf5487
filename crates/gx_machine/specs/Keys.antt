-- Keys by their order and relations alone, and what matches a query.
use Rattle.std.specs.Prelude.{◌≡◌, Bool, false, Option}
use Rattle.std.specs.Cmp.{IsTotalOrder}
use Rattle.std.specs.declared.cmp.Ordering.TheVariants.{Equal}
use Rattle.std.specs.declared.cmp.Ordering.{Ordering}
use Rattle.std.specs.Ordering.{is_eq, nat_cmp, ordering_then}
use Rattle.gx_machine.specs.declared.entry.Entry.{Entry}
use Rattle.gx_machine.specs.declared.query.Query.{Query}
use Rattle.gx_machine.specs.declared.query.Query.TheVariants.{Overlap, Within, Equal, Covers}

-- what is known of the keys: their order, whether two share a point, whether the first lies in the second
pub record Keys (B : Type 0) : Type 0 where
  pub cmp : B → B → Ordering
  pub overlaps : B → B → Bool
  pub within : B → B → Bool

-- the order is total, and only what is the same compares as equal
pub record IsLawful {B : Type 0} (k : Keys B) : Type 0 where
  pub total : IsTotalOrder k.cmp
  pub exact : (a b : B) → k.cmp a b ≡ Equal → a ≡ b

-- all that a key type's trait and the comparisons below it say of its keys
abbrev pub Members : Type 0 → Type 0
Members B = record { partial_cmp : B → B → Option Ordering; eq : B → B → Bool; cmp : B → B → Ordering; overlap : B → B → Bool; inside : B → B → Bool }

-- the keys of a type, from what its trait says of them
abbrev pub keys_of : {B : Type 0} → Members B → Keys B
keys_of shape = record { cmp = shape.cmp; overlaps = shape.overlap; within = shape.inside }

-- the same, from an order and the two relations
abbrev pub keys : {B : Type 0} → (B → B → Ordering) → (B → B → Bool) → (B → B → Bool) → Keys B
keys cmp overlaps within = record { cmp = cmp; overlaps = overlaps; within = within }

-- a key matches a query
abbrev pub key_matches : {B : Type 0} → Keys B → Query B → B → Bool
key_matches k (Overlap q) key = k.overlaps key q
key_matches k (Within q) key = k.within key q
key_matches k (Equal q) key = is_eq (k.cmp key q)
key_matches k (Covers q) key = k.within q key

-- an entry matches if its key does
abbrev pub matches : {B : Type 0} → Keys B → Query B → Entry B → Bool
matches k q e = key_matches k q e.key

-- entries are ordered by row, then key
abbrev pub entry_cmp : {B : Type 0} → Keys B → Entry B → Entry B → Ordering
entry_cmp k a b = ordering_then (nat_cmp a.row b.row) (k.cmp a.key b.key)

-- two are the same entry
abbrev pub same_entry : {B : Type 0} → Keys B → Entry B → Entry B → Bool
same_entry k a b = is_eq (entry_cmp k a b)

-- two are the same query
abbrev pub same_query : {B : Type 0} → Keys B → Query B → Query B → Bool
same_query k (Overlap a) (Overlap b) = is_eq (k.cmp a b)
same_query k (Within a) (Within b) = is_eq (k.cmp a b)
same_query k (Equal a) (Equal b) = is_eq (k.cmp a b)
same_query k (Covers a) (Covers b) = is_eq (k.cmp a b)
same_query k a b = false
