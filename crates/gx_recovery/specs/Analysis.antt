-- What reading a log from its beginning gives, apart from the pages.
use Rattle.std.specs.Prelude.{ℕ, ◌+◌, max, Bool, not, ◌&&◌, ◌==◌, List, [], ◌∷◌, filter}
use Rattle.std.specs.List.{list_any}
use Rattle.std.specs.declared.cmp.Ordering.{Ordering}
use Rattle.std.specs.Ordering.{match_ordering, ordering_then, nat_cmp}
use Rattle.gx_recovery.specs.Known.{Known, same}
use Rattle.gx_recovery.specs.Records.{Record, Pages, Adjust, Write, Commit, End, Counters, Note, Touch}

-- the number of the last commit; the counter of splits; the greatest page number in use; the next transaction's
-- number; and what open transactions have touched, by transaction and then entry, each once, with the first mark
-- before and the last leaf
pub record Analysis (E : Type 0) : Type 0 where
  pub number : ℕ
  pub counter : ℕ
  pub used : ℕ
  pub next : ℕ
  pub touched : List (Touch E)

-- touches are ordered by transaction, then entry
abbrev pub touch_cmp : {E P : Type 0} → Known E P → Touch E → Touch E → Ordering
touch_cmp k a b = ordering_then (nat_cmp a.transaction b.transaction) (k.cmp a.entry b.entry)

-- one more touch, at its place: of what the transaction had touched before, only the leaf is new
abbrev pub touching : {E P : Type 0} → Known E P → Touch E → List (Touch E) → List (Touch E)
touching k t [] = t ∷ []
touching k t (x ∷ xs) = match_ordering (touch_cmp k t x) (t ∷ x ∷ xs) (record x { leaf = t.leaf } ∷ xs) (x ∷ touching k t xs)

-- what all transactions but t have touched
abbrev pub without : {E : Type 0} → ℕ → List (Touch E) → List (Touch E)
without t xs = filter (λ x. not (x.transaction == t)) xs

-- one more record is read
abbrev pub read : {E P : Type 0} → Known E P → Analysis E → Record E P → Analysis E
read k a (Pages images counter used) = record a { counter = counter; used = used }
read k a (Adjust page change) = a
read k a (Write transaction entry before after leaf said) =
    record a { next = max a.next (transaction + 1); touched = touching k (record { transaction = transaction; entry = entry; before = before; leaf = leaf }) a.touched }
read k a (Commit transaction number) = record a { number = number; next = max a.next (transaction + 1); touched = without transaction a.touched }
read k a (End transaction) = record a { next = max a.next (transaction + 1); touched = without transaction a.touched }
read k a (Counters number counter used next) = record a { number = number; counter = counter; used = used; next = next }
read k a (Note transaction entry before leaf) =
    record a { next = max a.next (transaction + 1); touched = touching k (record { transaction = transaction; entry = entry; before = before; leaf = leaf }) a.touched }

-- these records are read in turn
abbrev pub read_on : {E P : Type 0} → Known E P → Analysis E → List (Record E P) → Analysis E
read_on k a [] = a
read_on k a (r ∷ rs) = read_on k (read k a r) rs

-- nothing is read
abbrev pub unread : {E : Type 0} → Analysis E
unread = record { number = 0; counter = 0; used = 0; next = 0; touched = [] }

-- what a log says
abbrev pub analysis : {E P : Type 0} → Known E P → List (Record E P) → Analysis E
analysis k log = read_on k unread log

-- the number of a log's last commit
abbrev pub number_of : {E P : Type 0} → Known E P → List (Record E P) → ℕ
number_of k log = (analysis k log).number

-- whether transaction t is among those that have touched the entry
abbrev pub lists : {E P : Type 0} → Known E P → ℕ → E → List (Touch E) → Bool
lists k t e xs = list_any (λ x. x.transaction == t && same k e x.entry) xs
