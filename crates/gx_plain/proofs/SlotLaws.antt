-- What asking does to the counts that the plain index keeps.
use Rattle.std.proofs.Common.{◌≡◌, ℕ, ◌+◌, ◌≤◌, Bool, true, false, cond, length, refl, sym, subst, arith, nat_lt}
use Rattle.std.specs.Prelude.{Option, None, Some, Result, Ok, Err}
use Rattle.std.proofs.lemmas.Bool.{ltb-true}
use Rattle.gx_geom.specs.declared.refusal.Refusal.{Refusal}
use Rattle.gx_machine.specs.declared.entry.Entry.{Entry}
use Rattle.gx_machine.specs.declared.query.Query.{Query}
use Rattle.gx_machine.specs.declared.call.Call.{Call}
use Rattle.gx_machine.specs.declared.call.Call.TheVariants.{Begin, Insert, Delete, Search, Commit, Abort}
use Rattle.gx_machine.specs.declared.limits.TheConstants.{MAX_CLAIMS, MAX_PREDICATES}
use Rattle.gx_machine.specs.Keys.{Keys}
use Rattle.gx_machine.specs.Sets.{has}
use Rattle.gx_machine.specs.Sessions.{Locks, Changes, no_locks, no_changes, Session, Idle, Open, Aborting, Committing, claims_of, has_query, with_lock, lock_for, asked_with, ask_open, ask_session}
use Rattle.gx_machine.proofs.SessionMoves.{claim_given, predicate_given}
use Rattle.gx_plain.specs.Index.{has_begun}
use Rattle.gx_plain.specs.Slots.{added_by, opened_by, begins, CanAnswer}
use Rattle.gx_machine.proofs.SetLemmas.{length-including}

module _ {B : Type 0} (k : Keys B) where
  -- a fact of what asking gives, by whether the call has its lock
  by_lock : (P : Session B → Type 0) (call : Call B) (lock : Result (Locks B) Refusal) (locks : Locks B) (changes : Changes B)
      → ((g : Locks B) → lock ≡ Ok g → P (Open g changes (Some call))) → P (Open locks changes None) → P (asked_with call lock locks changes).1
  by_lock P call (Ok g) locks changes held lacked = held g refl
  by_lock P call (Err why) locks changes held lacked = lacked

  -- a fact of what asking in a transaction gives
  by_call : (P : Session B → Type 0) (call : Call B) (least : Option ℕ) (spent : ℕ) (locks : Locks B) (changes : Changes B)
      → ((g : Locks B) (asked : Call B) → asked ≡ call → lock_for k asked least spent locks ≡ Ok g → P (Open g changes (Some asked))) → P (Open locks changes None) → P (Aborting locks)
      → P (ask_open k call least spent locks changes).1
  by_call P Begin least spent locks changes held lacked aborting = lacked
  by_call P (Insert e) least spent locks changes held lacked aborting =
      by_lock P (Insert e) (lock_for k (Insert e) least spent locks) locks changes (λ g is. held g (Insert e) refl is) lacked
  by_call P (Delete e) least spent locks changes held lacked aborting =
      by_lock P (Delete e) (lock_for k (Delete e) least spent locks) locks changes (λ g is. held g (Delete e) refl is) lacked
  by_call P (Search q) least spent locks changes held lacked aborting =
      by_lock P (Search q) (lock_for k (Search q) least spent locks) locks changes (λ g is. held g (Search q) refl is) lacked
  by_call P Commit least spent locks changes held lacked aborting =
      by_lock P Commit (lock_for k Commit least spent locks) locks changes (λ g is. held g Commit refl is) lacked
  by_call P Abort least spent locks changes held lacked aborting = aborting

  -- the claims of a lock that is given
  abbrev claims_given : Locks B → Result (Locks B) Refusal → ℕ
  claims_given locks (Ok g) = length g.claims
  claims_given locks (Err why) = length locks.claims

  -- claims are taken only if places are left
  claim_few : (e : Entry B) (spent : ℕ) (claimed room : Bool) (locks : Locks B) → (room ≡ true → spent + 1 ≤ 512) → spent ≤ 512
      → claims_given locks (claim_given k e claimed room locks) + spent ≤ length locks.claims + 512
  claim_few e spent true room locks left places = omega arith
  claim_few e spent false true locks left places = omega (arith, left refl, length-including k e locks.claims)
  claim_few e spent false false locks left places = omega arith

  predicate_few : (q : Query B) (spent : ℕ) (held room : Bool) (locks : Locks B) → spent ≤ 512
      → claims_given locks (predicate_given q held room locks) + spent ≤ length locks.claims + 512
  predicate_few q spent true room locks places = omega arith
  predicate_few q spent false true locks places = omega arith
  predicate_few q spent false false locks places = omega arith

  with_few : (call : Call B) (spent : ℕ) (locks : Locks B) → spent ≤ 512 → claims_given locks (with_lock k call spent locks) + spent ≤ length locks.claims + 512
  with_few Begin spent locks places = omega arith
  with_few (Insert e) spent locks places =
      claim_few e spent (has k e locks.claims) (nat_lt spent MAX_CLAIMS) locks (λ left. omega (arith, ltb-true spent 512 left)) places
  with_few (Delete e) spent locks places =
      claim_few e spent (has k e locks.claims) (nat_lt spent MAX_CLAIMS) locks (λ left. omega (arith, ltb-true spent 512 left)) places
  with_few (Search q) spent locks places =
      predicate_few q spent (has_query k q locks.predicates) (nat_lt (length locks.predicates) MAX_PREDICATES) locks places
  with_few Commit spent locks places = omega arith
  with_few Abort spent locks places = omega arith

  lock_few : (call : Call B) (least : Option ℕ) (spent : ℕ) (locks g : Locks B) → spent ≤ 512 → lock_for k call least spent locks ≡ Ok g
      → length g.claims + spent ≤ length locks.claims + 512
  lock_few call None spent locks g places h =
      subst (λ (r : Result (Locks B) Refusal). claims_given locks r + spent ≤ length locks.claims + 512) h (with_few call spent locks places)
  lock_few call (Some other) spent locks g places h = let no : ⊥ = cc in absurd no

  pub claims_ask : (call : Call B) (least : Option ℕ) (spent : ℕ) (x : Session B) → spent ≤ 512
      → claims_of (ask_session k call least spent x).1 + spent ≤ claims_of x + 512
  claims_ask Begin least spent Idle h = omega arith
  claims_ask (Insert e) least spent Idle h = omega arith
  claims_ask (Delete e) least spent Idle h = omega arith
  claims_ask (Search q) least spent Idle h = omega arith
  claims_ask Commit least spent Idle h = omega arith
  claims_ask Abort least spent Idle h = omega arith
  claims_ask call least spent (Open locks changes None) h =
      by_call (λ x. claims_of x + spent ≤ length locks.claims + 512) call least spent locks changes
      (λ g asked same is. lock_few asked least spent locks g h is) (omega arith) (omega arith)
  claims_ask call least spent (Open locks changes (Some pending)) h = omega arith
  claims_ask call least spent (Aborting locks) h = omega arith
  claims_ask call least spent (Committing number) h = omega arith

  pub added_ask : (call : Call B) (least : Option ℕ) (spent : ℕ) (x : Session B) → added_by (ask_session k call least spent x).1 ≤ added_by x
  added_ask Begin least spent Idle = omega arith
  added_ask (Insert e) least spent Idle = omega arith
  added_ask (Delete e) least spent Idle = omega arith
  added_ask (Search q) least spent Idle = omega arith
  added_ask Commit least spent Idle = omega arith
  added_ask Abort least spent Idle = omega arith
  added_ask call least spent (Open locks changes None) =
      by_call (λ x. added_by x ≤ length changes.added) call least spent locks changes (λ g asked same is. omega arith) (omega arith) (omega arith)
  added_ask call least spent (Open locks changes (Some pending)) = omega arith
  added_ask call least spent (Aborting locks) = omega arith
  added_ask call least spent (Committing number) = omega arith

  -- a call in a transaction is one that is answered
  can_answer_open : (commits : ℕ) (call : Call B) (least : Option ℕ) (spent : ℕ) (locks : Locks B) (changes : Changes B)
      → CanAnswer commits (ask_open k call least spent locks changes).1
  can_answer_open commits Begin least spent locks changes = tt
  can_answer_open commits (Insert e) least spent locks changes =
      by_lock (λ x. CanAnswer commits x) (Insert e) (lock_for k (Insert e) least spent locks) locks changes (λ g is. tt) tt
  can_answer_open commits (Delete e) least spent locks changes =
      by_lock (λ x. CanAnswer commits x) (Delete e) (lock_for k (Delete e) least spent locks) locks changes (λ g is. tt) tt
  can_answer_open commits (Search q) least spent locks changes =
      by_lock (λ x. CanAnswer commits x) (Search q) (lock_for k (Search q) least spent locks) locks changes (λ g is. tt) tt
  can_answer_open commits Commit least spent locks changes =
      by_lock (λ x. CanAnswer commits x) Commit (lock_for k Commit least spent locks) locks changes (λ g is. tt) tt
  can_answer_open commits Abort least spent locks changes = tt

  pub can_answer_ask : (commits : ℕ) (call : Call B) (least : Option ℕ) (spent : ℕ) (x : Session B) → CanAnswer commits x → CanAnswer commits (ask_session k call least spent x).1
  can_answer_ask commits Begin least spent Idle = λ can. tt
  can_answer_ask commits (Insert e) least spent Idle = λ can. tt
  can_answer_ask commits (Delete e) least spent Idle = λ can. tt
  can_answer_ask commits (Search q) least spent Idle = λ can. tt
  can_answer_ask commits Commit least spent Idle = λ can. tt
  can_answer_ask commits Abort least spent Idle = λ can. tt
  can_answer_ask commits call least spent (Open locks changes None) = λ can. can_answer_open commits call least spent locks changes
  can_answer_ask commits call least spent (Open locks changes (Some pending)) = λ can. can
  can_answer_ask commits call least spent (Aborting locks) = λ can. tt
  can_answer_ask commits call least spent (Committing number) = λ can. can

  pub opened_ask : (call : Call B) (least : Option ℕ) (spent : ℕ) (x : Session B) → opened_by (ask_session k call least spent x).1 ≤ opened_by x + cond (begins call x) 1 0
  opened_ask Begin least spent Idle = omega arith
  opened_ask (Insert e) least spent Idle = omega arith
  opened_ask (Delete e) least spent Idle = omega arith
  opened_ask (Search q) least spent Idle = omega arith
  opened_ask Commit least spent Idle = omega arith
  opened_ask Abort least spent Idle = omega arith
  opened_ask call least spent (Open locks changes None) =
      more (cond (begins call (Open locks changes None)) 1 0) (opened_by (ask_open k call least spent locks changes).1)
      (by_call (λ x. opened_by x ≤ 1) call least spent locks changes (λ g asked same is. omega arith) (omega arith) (omega arith))
    where
      more : (a b : ℕ) → b ≤ 1 → b ≤ 1 + a
      more a b h = omega arith
  opened_ask call least spent (Open locks changes (Some pending)) = omega arith
  opened_ask call least spent (Aborting locks) = omega arith
  opened_ask call least spent (Committing number) = omega arith

  begun_lock : (call : Call B) (lock : Result (Locks B) Refusal) (locks : Locks B) (changes : Changes B) → has_begun (asked_with call lock locks changes).0 ≡ false
  begun_lock call (Ok g) locks changes = refl
  begun_lock call (Err why) locks changes = refl

  begun_open : (call : Call B) (least : Option ℕ) (spent : ℕ) (locks : Locks B) (changes : Changes B) (pending : Option (Call B))
      → has_begun (ask_open k call least spent locks changes).0 ≡ begins call (Open locks changes pending)
  begun_open Begin least spent locks changes pending = refl
  begun_open (Insert e) least spent locks changes pending = begun_lock (Insert e) (lock_for k (Insert e) least spent locks) locks changes
  begun_open (Delete e) least spent locks changes pending = begun_lock (Delete e) (lock_for k (Delete e) least spent locks) locks changes
  begun_open (Search q) least spent locks changes pending = begun_lock (Search q) (lock_for k (Search q) least spent locks) locks changes
  begun_open Commit least spent locks changes pending = begun_lock Commit (lock_for k Commit least spent locks) locks changes
  begun_open Abort least spent locks changes pending = refl

  -- a session that isn't idle begins nothing
  begins_none : (call : Call B) (locks : Locks B) (changes : Changes B) (pending : Option (Call B)) (number : ℕ)
      → (begins call (Open locks changes pending) ≡ false) × (begins call (Aborting locks) ≡ false) × (begins {B = B} call (Committing number) ≡ false)
  begins_none Begin locks changes pending number = (refl, refl, refl)
  begins_none (Insert e) locks changes pending number = (refl, refl, refl)
  begins_none (Delete e) locks changes pending number = (refl, refl, refl)
  begins_none (Search q) locks changes pending number = (refl, refl, refl)
  begins_none Commit locks changes pending number = (refl, refl, refl)
  begins_none Abort locks changes pending number = (refl, refl, refl)

  pub begun_ask : (call : Call B) (least : Option ℕ) (spent : ℕ) (x : Session B) → has_begun (ask_session k call least spent x).0 ≡ begins call x
  begun_ask Begin least spent Idle = refl
  begun_ask (Insert e) least spent Idle = refl
  begun_ask (Delete e) least spent Idle = refl
  begun_ask (Search q) least spent Idle = refl
  begun_ask Commit least spent Idle = refl
  begun_ask Abort least spent Idle = refl
  begun_ask call least spent (Open locks changes None) = begun_open call least spent locks changes None
  begun_ask call least spent (Open locks changes (Some pending)) = sym (begins_none call locks changes (Some pending) 0).0
  begun_ask call least spent (Aborting locks) = sym (begins_none call locks no_changes None 0).1
  begun_ask call least spent (Committing number) = sym (begins_none call no_locks no_changes None number).2
