-- A write that gets its lock claims its entry.
use Rattle.std.proofs.Common.{◌≡◌, ℕ, Bool, true, false, List, Option, Some, None, refl, ap, sym, ◌∙◌}
use Rattle.std.specs.Prelude.{nat_lt, Result, Ok, Err}
use Rattle.gx_geom.specs.declared.refusal.Refusal.{Refusal}
use Rattle.gx_machine.specs.declared.entry.Entry.{Entry}
use Rattle.gx_machine.specs.declared.call.Call.{Call}
use Rattle.gx_machine.specs.declared.call.Call.TheVariants.{Begin, Insert, Delete, Search, Commit, Abort}
use Rattle.gx_machine.specs.Keys.{Keys, IsLawful}
use Rattle.gx_machine.specs.Sets.{has}
use Rattle.gx_machine.specs.Sessions.{Locks, no_locks, with_claim, unless_busy}
use Rattle.gx_machine.proofs.SessionMoves.{claim_given, has_included}
use Rattle.gx_txn.specs.Tables.{Held, held_by, with_locks, least_in, claims_in, locks_for}
use Rattle.gx_phases.specs.States.{ClaimsFor}

module _ {B : Type 0} (k : Keys B) (l : IsLawful k) where
  -- if locks are given, the entry is among their claims
  abbrev Claimed : Entry B → Result (Locks B) Refusal → Type 0
  Claimed e (Ok locks) = has k e locks.claims ≡ true
  Claimed e (Err why) = Unit {0}

  claimed_given : (e : Entry B) (claimed room : Bool) (locks : Locks B) → has k e locks.claims ≡ claimed → Claimed e (claim_given k e claimed room locks)
  claimed_given e true room locks is = is
  claimed_given e false true locks is = has_included k l e locks.claims
  claimed_given e false false locks is = tt

  unless_given : (e : Entry B) (least : Option ℕ) (r : Result (Locks B) Refusal) → Claimed e r → Claimed e (unless_busy least r)
  unless_given e None r h = h
  unless_given e (Some other) r h = tt

  write_claims : (e : Entry B) (least : Option ℕ) (spent : ℕ) (own : Locks B) → Claimed e (unless_busy least (with_claim k e spent own))
  write_claims e least spent own =
      unless_given e least (with_claim k e spent own) (claimed_given e (has k e own.claims) (nat_lt spent 512) own refl)

  -- the locks that are given
  abbrev locks_in : Result (Locks B) Refusal → Locks B
  locks_in (Ok locks) = locks
  locks_in (Err why) = no_locks

  of_ok : (e : Entry B) (r : Result (Locks B) Refusal) (locks : Locks B) → Claimed e r → r ≡ Ok locks → has k e locks.claims ≡ true
  of_ok e (Ok given) locks h is = sym (ap (λ (r : Result (Locks B) Refusal). has k e (locks_in r).claims) is) ∙ h
  of_ok e (Err why) locks h is = let no : ⊥ = cc in absurd no

  -- a call that has its lock has claimed what it writes
  pub claims_for : (call : Call B) (s : ℕ) (table : List (Held B)) (locks : Locks B) → locks_for k call s table ≡ Ok locks → ClaimsFor k call (with_locks locks (held_by s table))
  claims_for Begin s table locks is = tt
  claims_for (Insert e) s table locks is = of_ok e (locks_for k (Insert e) s table) locks (write_claims e (least_in k (Insert e) s 1 table) (claims_in table) (held_by s table).locks) is
  claims_for (Delete e) s table locks is = of_ok e (locks_for k (Delete e) s table) locks (write_claims e (least_in k (Delete e) s 1 table) (claims_in table) (held_by s table).locks) is
  claims_for (Search q) s table locks is = tt
  claims_for Commit s table locks is = tt
  claims_for Abort s table locks is = tt
