-- Which rule a record breaks that may not come next, by what is kept of the log before it.
use Rattle.std.specs.Prelude.{◌≡◌, ℕ, ◌+◌, Bool, true, false, not, nat_lt, ◌==◌, List, Result, Ok, Err}
use Rattle.std.specs.List.{list_all}
use Rattle.std.specs.declared.cmp.Ordering.{Ordering}
use Rattle.gx_geom.specs.declared.refusal.Refusal.{Refusal}
use Rattle.gx_geom.specs.declared.refusal.Refusal.TheVariants.{Damaged}
use Rattle.gx_recovery.specs.Records.{Touch}
use Rattle.gx_recovery.specs.Damage.{is_transaction, is_page}
use Rattle.gx_recovery.specs.Kept.{Kept, is_closed, lies_apart, may_be_open, has_place}
use Rattle.gx_recovery.specs.declared.rule.LogRule.{LogRule}
use Rattle.gx_recovery.specs.declared.rule.LogRule.TheVariants.{PagesOfDevice, CounterFalls, UsedFalls, PageInUse, TransactionNumber, LeafInUse, SharedEntry, TooManyTransactions, TooManyTouches, Ended, CommitNumber}

-- the number of the refusal, whatever the reason is
abbrev pub refused : {T R : Type 0} → Result T R → Result T Refusal
refused (Ok x) = Ok x
refused (Err why) = Err Damaged

-- numbers that a log begins with
abbrev pub breaks_counters : {E : Type 0} → (used : ℕ) → Kept E → LogRule → Bool
breaks_counters used s PagesOfDevice = nat_lt s.pages used
breaks_counters used s rule = false

-- a touch
abbrev pub breaks_touch : {E : Type 0} → (E → E → Ordering) → Touch E → Kept E → LogRule → Bool
breaks_touch cmp t s TransactionNumber = not (is_transaction t.transaction)
breaks_touch cmp t s LeafInUse = not (is_page s.told.used t.leaf)
breaks_touch cmp t s SharedEntry = not (lies_apart cmp t s.told.touched)
breaks_touch cmp t s TooManyTransactions = not (may_be_open t.transaction s.told.touched)
breaks_touch cmp t s TooManyTouches = not (has_place cmp t s.told.touched)
breaks_touch cmp t s rule = false

-- a write, whose transaction may have ended
abbrev pub breaks_write : {E : Type 0} → (E → E → Ordering) → Touch E → Kept E → LogRule → Bool
breaks_write cmp t s Ended = is_closed t.transaction s.closed
breaks_write cmp t s rule = breaks_touch cmp t s rule

-- pages of these numbers, and what the counter and the pages in use are then
abbrev pub breaks_pages : {E : Type 0} → (counter used : ℕ) (numbers : List ℕ) → Kept E → LogRule → Bool
breaks_pages counter used numbers s CounterFalls = nat_lt counter s.told.counter
breaks_pages counter used numbers s UsedFalls = nat_lt used s.told.used
breaks_pages counter used numbers s PageInUse = not (list_all (is_page used) numbers)
breaks_pages counter used numbers s PagesOfDevice = nat_lt s.pages used
breaks_pages counter used numbers s rule = false

-- an end, and a commit
abbrev pub breaks_end : {E : Type 0} → ℕ → Kept E → LogRule → Bool
breaks_end t s TransactionNumber = not (is_transaction t)
breaks_end t s Ended = is_closed t s.closed
breaks_end t s rule = false

abbrev pub breaks_commit : {E : Type 0} → (t number : ℕ) → Kept E → LogRule → Bool
breaks_commit t number s CommitNumber = not (number == s.told.number + 1)
breaks_commit t number s rule = breaks_end t s rule

-- A test by a rule: what may come passes, and what may not breaks the rule that is returned.
abbrev pub Tested : Bool → (LogRule → Bool) → Result (Unit {0}) LogRule → Type 0
Tested may breaks (Ok done) = may ≡ true
Tested may breaks (Err rule) = (may ≡ false) × (breaks rule ≡ true)
