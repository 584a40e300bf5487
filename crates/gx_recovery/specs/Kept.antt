-- What is kept of a log while it is read, and which record it lets come next, by the order of entries alone.
use Rattle.std.specs.Prelude.{◌≡◌, ℕ, ◌+◌, max, Bool, true, false, not, ◌&&◌, ◌||◌, nat_le, nat_lt, ◌==◌, length, List, [], Result, Ok, Err}
use Rattle.std.specs.List.{list_any, list_all}
use Rattle.std.specs.declared.cmp.Ordering.{Ordering}
use Rattle.gx_geom.specs.declared.refusal.Refusal.{Refusal}
use Rattle.gx_geom.specs.declared.refusal.Refusal.TheVariants.{Damaged}
use Rattle.gx_recovery.specs.declared.TheConstants.{TOUCHED}
use Rattle.gx_recovery.specs.Known.{Known, same}
use Rattle.gx_recovery.specs.Records.{Touch}
use Rattle.gx_recovery.specs.Analysis.{Analysis, touching, without}
use Rattle.gx_recovery.specs.Damage.{is_transaction, is_page, transactions}

-- What the records so far say, the transactions that they close, and how many pages the device has.
pub record Kept (E : Type 0) : Type 0 where
  pub told : Analysis E
  pub closed : List ℕ
  pub pages : ℕ

-- entries known by their order alone
abbrev pub by_order : {E : Type 0} → (E → E → Ordering) → Known E ℕ
by_order cmp = record {
  cmp = cmp;
  live = λ tree e. false;
  sound = λ tree. Unit {0};
  placed = λ tree e leaf. Unit {0};
  is_entry = λ e. true;
  own = λ content. content;
  most = 0;
  pages = 0;
  head = [];
}

abbrev pub is_closed : ℕ → List ℕ → Bool
is_closed t closed = list_any (λ u. u == t) closed

abbrev pub is_of : {E : Type 0} → ℕ → Touch E → Bool
is_of t x = x.transaction == t

abbrev pub has_touched : {E : Type 0} → ℕ → List (Touch E) → Bool
has_touched t touched = list_any (is_of t) touched

-- no other transaction has touched the entry
abbrev pub lies_apart : {E : Type 0} → (E → E → Ordering) → Touch E → List (Touch E) → Bool
lies_apart cmp t touched = list_all (λ x. t.transaction == x.transaction || not (same (by_order cmp) t.entry x.entry)) touched

-- eight transactions may be open at once; one that is open already may go on
abbrev pub may_be_open : {E : Type 0} → ℕ → List (Touch E) → Bool
may_be_open t touched = has_touched t touched || nat_lt (transactions touched) 8

-- they may have touched 512 entries in all, with this one
abbrev pub has_place : {E : Type 0} → (E → E → Ordering) → Touch E → List (Touch E) → Bool
has_place cmp t touched = nat_le (length (touching (by_order cmp) t touched)) TOUCHED

-- one more touch: its transaction has a number that another can follow, and its leaf is in use
abbrev pub may_touch : {E : Type 0} → (E → E → Ordering) → Touch E → Kept E → Bool
may_touch cmp t s =
    is_transaction t.transaction && (is_page s.told.used t.leaf
    && (lies_apart cmp t s.told.touched && (may_be_open t.transaction s.told.touched && has_place cmp t s.told.touched)))

abbrev pub may_write : {E : Type 0} → (E → E → Ordering) → Touch E → Kept E → Bool
may_write cmp t s = not (is_closed t.transaction s.closed) && may_touch cmp t s

-- pages of these numbers, and what the counter and the pages in use are then
abbrev pub may_give : {E : Type 0} → (counter used : ℕ) (numbers : List ℕ) → Kept E → Bool
may_give counter used numbers s =
    nat_le s.told.counter counter && (nat_le s.told.used used && (list_all (is_page used) numbers && nat_le used s.pages))

abbrev pub may_end : {E : Type 0} → ℕ → Kept E → Bool
may_end t s = is_transaction t && not (is_closed t s.closed)

abbrev pub may_commit : {E : Type 0} → (t number : ℕ) → Kept E → Bool
may_commit t number s = may_end t s && number == s.told.number + 1

-- what is kept after these numbers; after one more touch; after pages; after an end, and a commit
abbrev pub with_counters : {E : Type 0} → (number counter used next : ℕ) → Kept E → Kept E
with_counters number counter used next s = record s { told = record s.told { number = number; counter = counter; used = used; next = next } }

abbrev pub with_touch : {E : Type 0} → (E → E → Ordering) → Touch E → Kept E → Kept E
with_touch cmp t s = record s { told = record s.told { next = max s.told.next (t.transaction + 1); touched = touching (by_order cmp) t s.told.touched } }

abbrev pub with_pages : {E : Type 0} → (counter used : ℕ) → Kept E → Kept E
with_pages counter used s = record s { told = record s.told { counter = counter; used = used } }

abbrev pub with_end : {E : Type 0} → ℕ → Analysis E → Analysis E
with_end t a = record a { next = max a.next (t + 1); touched = without t a.touched }

abbrev pub with_commit : {E : Type 0} → (t number : ℕ) → Analysis E → Analysis E
with_commit t number a = record a { number = number; next = max a.next (t + 1); touched = without t a.touched }

-- taken exactly if it may come; else it is damage, and nothing changes
abbrev pub Takes : {E : Type 0} → Bool → Kept E → Kept E → Result (Unit {0}) Refusal → Kept E → Type 0
Takes may taken old (Ok done) new = (may ≡ true) × (new ≡ taken)
Takes may taken old (Err refusal) new = (may ≡ false) × (refusal ≡ Damaged) × (new ≡ old)

-- one transaction more is closed
pub record ClosesOne (t : ℕ) (old new : List ℕ) : Type 0 where
  pub has : (u : ℕ) → is_closed u new ≡ (is_closed u old || t == u)
  pub count : length new ≡ length old + 1

pub record ClosedBy {E : Type 0} (t : ℕ) (told : Analysis E) (old new : Kept E) : Type 0 where
  pub told_is : new.told ≡ told
  pub closed : ClosesOne t old.closed new.closed
  pub pages : new.pages ≡ old.pages

abbrev pub Closes : {E : Type 0} → Bool → ℕ → Analysis E → Kept E → Result (Unit {0}) Refusal → Kept E → Type 0
Closes may t told old (Ok done) new = (may ≡ true) × ClosedBy t told old new
Closes may t told old (Err refusal) new = (may ≡ false) × (refusal ≡ Damaged) × (new ≡ old)
