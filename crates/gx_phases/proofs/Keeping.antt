-- What is kept of the sessions stays kept if one of them is changed.
use Rattle.std.proofs.Common.{◌≡◌, ℕ, zero, suc, ◌+◌, ◌-◌, ◌<◌, ◌≤◌, Bool, true, false, ◌||◌, List, [], ◌∷◌, length, Result, Ok, Err, None, Some, refl, ap, sym, ◌∙◌, arith, subst}
use Rattle.std.specs.Prelude.{slice_set, sum_by, nat_le}
use Rattle.std.proofs.lemmas.Bool.{leb-false}
use Rattle.std.proofs.lemmas.List.{length-set, set-get_or}
use Rattle.std.proofs.lemmas.List.Sums.{sum_by-set, sum_by-cons}
use Rattle.gx_geom.specs.declared.refusal.Refusal.{Refusal}
use Rattle.gx_geom.specs.declared.refusal.Refusal.TheVariants.{NoTransaction, InTransaction, CallOpen, HistoryFull}
use Rattle.gx_machine.specs.declared.call.Call.{Call}
use Rattle.gx_machine.specs.declared.call.Call.TheVariants.{Begin, Insert, Delete, Search, Commit, Abort}
use Rattle.gx_machine.specs.declared.reply.Asked.{Asked}
use Rattle.gx_machine.specs.Keys.{Keys, IsLawful}
use Rattle.gx_machine.specs.Sessions.{Locks}
use Rattle.gx_machine.specs.Machine.{is_session}
use Rattle.gx_machine.proofs.Places.{session_bounds}
use Rattle.gx_txn.specs.Tables.{Held, nothing_held, with_held, with_locks, locks_for}
use Rattle.gx_phases.specs.declared.phase.Phase.{Phase}
use Rattle.gx_phases.specs.declared.phase.Phase.TheVariants as phase
use Rattle.gx_phases.specs.States.{State, phase_at, held_at, with_phase, with_phase_of, with_session, with_transaction, may_commit, IsPlaced, IsKept, WaitsForSealed}
use Rattle.gx_phases.specs.Moves.{waits_for}
use Rattle.gx_phases.specs.Asked.{IsRefused, LockTaken, is_full, Begun, AskedFree, AskedWorking, AskedAt}
use Rattle.gx_phases.proofs.Slots.{placed_set}
use Rattle.gx_phases.proofs.Claiming.{claims_for}

pub not_full : (latest next : ℕ) (a : Bool) → nat_le 18446744073709551607 latest ≡ a → (a || nat_le 18446744073709551607 next) ≡ false → latest < 18446744073709551607
not_full latest next true is h = let no : ⊥ = cc in absurd no
not_full latest next false is h = leb-false 18446744073709551607 latest is

pub next_small : (a : Bool) (next : ℕ) → (a || nat_le 18446744073709551607 next) ≡ false → next < 18446744073709551607
next_small true next h = let no : ⊥ = cc in absurd no
next_small false next h = leb-false 18446744073709551607 next h

module _ {B W : Type 0} where
  -- a session that doesn't wait, waits for nothing that isn't sealed
  pub no_wait : (latest : ℕ) (p : Phase B W) → waits_for p ≡ None → WaitsForSealed latest p
  no_wait latest p none number is =
      let clash : Some number ≡ None = ap waits_for (sym is) ∙ none in
      let no : ⊥ = cc in absurd no

  -- one session is changed, and no fewer commits are sealed
  sealed_set : (latest latest' : ℕ) (ps : List (Phase B W)) (i : ℕ) (q : Phase B W) → latest ≤ latest' → WaitsForSealed latest' q
      → ((j : ℕ) → WaitsForSealed latest (phase_at j ps)) → (j : ℕ) → WaitsForSealed latest' (phase_at j (slice_set ps i q))
  sealed_set latest latest' [] i q later own kept j number is = (let low = kept j number is in omega (arith, low, later))
  sealed_set latest latest' (p ∷ ps) zero q later own kept zero number is = own number is
  sealed_set latest latest' (p ∷ ps) (suc i) q later own kept zero number is = (let low = kept 0 number is in omega (arith, low, later))
  sealed_set latest latest' (p ∷ ps) zero q later own kept (suc j) number is = (let low = kept (suc j) number is in omega (arith, low, later))
  sealed_set latest latest' (p ∷ ps) (suc i) q later own kept (suc j) number is =
      sealed_set latest latest' ps i q later own (λ n. kept (suc n)) j number is

  commits_most : (p : Phase B W) → may_commit p ≤ 1
  commits_most phase.Free = omega arith
  commits_most phase.Working = omega arith
  commits_most (phase.Open call work) = omega arith
  commits_most (phase.Undoing restored work) = omega arith
  commits_most (phase.Waiting number) = omega arith

  commits_in_all : (phases : List (Phase B W)) → sum_by may_commit phases ≤ length phases
  commits_in_all [] = omega arith
  commits_in_all (p ∷ ps) = omega (arith, sum_by-cons may_commit p ps, commits_in_all ps, commits_most p)

  -- numbers are left if no more may commit, and if one more does and they weren't used up
  pub numbers_left : (phases phases' : List (Phase B W)) (i : ℕ) (q : Phase B W) (last last' : ℕ) → length phases ≡ 8 → i < 8 → phases' ≡ slice_set phases i q
      → last + sum_by may_commit phases ≤ 18446744073709551615 → last' + may_commit q ≤ last + may_commit (phase_at i phases)
      → last' + sum_by may_commit phases' ≤ 18446744073709551615
  numbers_left phases phases' i q last last' eight low is few less =
      let changed : sum_by may_commit (slice_set phases i q) + may_commit (phase_at i phases) ≡ sum_by may_commit phases + may_commit q =
      sum_by-set may_commit phases i q phase.Free (omega (arith, eight, low)) in
      omega (arith, changed, ap (sum_by may_commit) is, few, less)

  pub numbers_left_to_begin : (phases phases' : List (Phase B W)) (i : ℕ) (q : Phase B W) (last : ℕ) → length phases ≡ 8 → phases' ≡ slice_set phases i q
      → last < 18446744073709551607 → last + sum_by may_commit phases' ≤ 18446744073709551615
  numbers_left_to_begin phases phases' i q last eight is low =
      omega (arith, commits_in_all phases', ap length is, length-set phases i q, eight, low)

module _ {B W : Type 0} (k : Keys B) (old : State B W) (kept : IsKept k old) (s : ℕ) (is : is_session s ≡ true) where
  pub low : s - 1 < 8
  low = let bounds : (0 < s) × (s < 9) = session_bounds s is in omega (arith, bounds.0, bounds.1)

  -- one session is changed
  pub kept_with : (new : State B W) (q : Phase B W) (h : Held B) → new.phases ≡ with_phase s q old.phases → new.table ≡ with_held s h old.table
      → length new.transactions ≡ 8 → IsPlaced k q h → new.latest + sum_by may_commit new.phases ≤ 18446744073709551615 → new.durable ≤ new.latest
      → old.latest ≤ new.latest → WaitsForSealed new.latest q → IsKept k new
  kept_with new q h phases table transactions own numbers durable later waits = record {
    phases = ap (λ (ps : List (Phase B W)). length ps) phases ∙ length-set old.phases (s - 1) q ∙ kept.phases;
    table = ap (λ (hs : List (Held B)). length hs) table ∙ length-set old.table (s - 1) h ∙ kept.table;
    transactions = transactions;
    placed = λ j small.
        subst (λ (ps : List (Phase B W)). IsPlaced k (phase_at j ps) (held_at j new.table)) (sym phases)
        (subst (λ (hs : List (Held B)). IsPlaced k (phase_at j (slice_set old.phases (s - 1) q)) (held_at j hs)) (sym table)
        (placed_set (IsPlaced k) old.phases old.table (s - 1) j q h (omega (arith, kept.phases, low)) (omega (arith, kept.table, low)) (λ e. own)
        (λ ne. kept.placed j small)));
    numbers = numbers;
    durable = durable;
    sealed = subst (λ (ps : List (Phase B W)). (j : ℕ) → WaitsForSealed new.latest (phase_at j ps)) (sym phases)
        (sealed_set old.latest new.latest old.phases (s - 1) q later waits kept.sealed);
  }

  -- a session that holds other locks is in another phase, in which it may commit no more than before
  pub kept_session : (new : State B W) (q : Phase B W) (h : Held B) → new ≡ with_session s q h old → IsPlaced k q h
      → may_commit q ≤ may_commit (phase_at (s - 1) old.phases) → WaitsForSealed old.latest q → IsKept k new
  kept_session new q h changed own fewer waits =
      subst (IsKept k) (sym changed) (
      kept_with (with_session s q h old) q h refl refl kept.transactions own
      (numbers_left old.phases (with_phase s q old.phases) (s - 1) q old.latest old.latest kept.phases low refl kept.numbers (omega (arith, fewer))) kept.durable
      (omega arith) waits)

  -- the same, with what it held
  pub same_session : (q : Phase B W) → with_phase_of s q old ≡ with_session s q (held_at (s - 1) old.table) old
  same_session q = ap (λ (hs : List (Held B)). record old { phases = with_phase s q old.phases; table = hs }) (sym (set-get_or old.table (s - 1) nothing_held))

module _ {B W : Type 0} (k : Keys B) (l : IsLawful k) (old : State B W) (kept : IsKept k old) (s : ℕ) (is : is_session s ≡ true) (given : Asked B) (new : State B W) where
  abbrev p : Phase B W
  p = phase_at (s - 1) old.phases

  abbrev h : Held B
  h = held_at (s - 1) old.table

  was : IsPlaced k p h
  was = kept.placed (s - 1) (low k old kept s is)

  refused_kept : (why : Refusal) → IsRefused why old given new → IsKept k new
  refused_kept why a = subst (IsKept k) (sym a.1) kept

  lock_kept : (r : Result (Locks B) Refusal) (call : Call B) (work : W) → p ≡ phase.Working → locks_for k call s old.table ≡ r
      → LockTaken r s call work old given new → IsKept k new
  lock_kept (Ok locks) call work at decided a =
      kept_session k old kept s is new (phase.Open call work) (with_locks locks h) a.1
      (record { nothing = tt; claimed = claims_for k l call s old.table locks decided; in_order = was.in_order })
      (omega (arith, ap may_commit at)) (no_wait old.latest (phase.Open call work) refl)
  lock_kept (Err why) call work at decided a = refused_kept why a

  working_kept : (call : Call B) (work : W) → p ≡ phase.Working → AskedWorking k s call work old given new → IsKept k new
  working_kept Begin work at a = refused_kept InTransaction a
  working_kept (Insert e) work at a = lock_kept (locks_for k (Insert e) s old.table) (Insert e) work at refl a
  working_kept (Delete e) work at a = lock_kept (locks_for k (Delete e) s old.table) (Delete e) work at refl a
  working_kept (Search q) work at a = lock_kept (locks_for k (Search q) s old.table) (Search q) work at refl a
  working_kept Commit work at a =
      kept_session k old kept s is new (phase.Open Commit work) h (a.1 ∙ same_session k old kept s is (phase.Open Commit work))
      (record { nothing = tt; claimed = tt; in_order = was.in_order }) (omega (arith, ap may_commit at)) (no_wait old.latest (phase.Open Commit work) refl)
  working_kept Abort work at a =
      kept_session k old kept s is new (phase.Undoing 0 work) h (a.1 ∙ same_session k old kept s is (phase.Undoing 0 work))
      (record { nothing = tt; claimed = tt; in_order = was.in_order }) (omega (arith, ap may_commit at)) (no_wait old.latest (phase.Undoing 0 work) refl)

  pub begun_kept : (full : Bool) → is_full old ≡ full → Begun full s old given new → IsKept k new
  begun_kept true is_so a = refused_kept HistoryFull a
  begun_kept false is_so a =
      subst (IsKept k) (sym a.1) (
      kept_with k old kept s is (with_transaction s old) phase.Working h refl (sym (set-get_or old.table (s - 1) nothing_held))
      (length-set old.transactions (s - 1) old.next ∙ kept.transactions) (record { nothing = tt; claimed = tt; in_order = was.in_order })
      (numbers_left_to_begin old.phases (with_phase s phase.Working old.phases) (s - 1) phase.Working old.latest kept.phases refl
      (not_full old.latest old.next (nat_le 18446744073709551607 old.latest) refl is_so)) kept.durable
      (omega arith) (no_wait old.latest phase.Working refl))

  free_kept : (call : Call B) → AskedFree s call old given new → IsKept k new
  free_kept Begin a = begun_kept (is_full old) refl a
  free_kept (Insert e) a = refused_kept NoTransaction a
  free_kept (Delete e) a = refused_kept NoTransaction a
  free_kept (Search q) a = refused_kept NoTransaction a
  free_kept Commit a = refused_kept NoTransaction a
  free_kept Abort a = refused_kept NoTransaction a

  pub at_kept : (call : Call B) (work : W) (q : Phase B W) → p ≡ q → AskedAt k s call work q old given new → IsKept k new
  at_kept call work phase.Free at a = free_kept call a
  at_kept call work phase.Working at a = working_kept call work at a
  at_kept call work (phase.Open pending on) at a = refused_kept CallOpen a
  at_kept call work (phase.Undoing restored on) at a = refused_kept CallOpen a
  at_kept call work (phase.Waiting number) at a = refused_kept CallOpen a
