-- Asking by slots is asking by sessions: locks alone decide it.
use Rattle.std.proofs.Common.{◌≡◌, ℕ, ◌+◌, Bool, true, false, not, ◌&&◌, ◌||◌, List, [], ◌∷◌, ◌++◌, Option, Some, None, length, refl, ap, ◌∙◌}
use Rattle.std.specs.Prelude.{if◌then◌else◌, nat_lt, ◌==◌, Result, Ok, Err}
use Rattle.std.specs.List.{fold}
use Rattle.gx_geom.specs.declared.refusal.Refusal.{Refusal}
use Rattle.gx_machine.specs.declared.limits.TheConstants.{MAX_CLAIMS, MAX_PREDICATES}
use Rattle.gx_machine.specs.declared.entry.Entry.{Entry}
use Rattle.gx_machine.specs.declared.query.Query.{Query}
use Rattle.gx_machine.specs.declared.call.Call.{Call}
use Rattle.gx_machine.specs.declared.call.Call.TheVariants.{Begin, Insert, Delete, Search, Commit, Abort}
use Rattle.gx_machine.specs.declared.reply.Asked.{Asked}
use Rattle.std.proofs.lemmas.List.Folds.{list_any-append}
use Rattle.gx_machine.specs.Keys.{Keys, IsLawful, same_query}
use Rattle.gx_machine.specs.Sets.{has, including}
use Rattle.gx_machine.specs.Sessions as sessions
use Rattle.gx_machine.specs.Sessions.{Session, Locks, locks_of, conflicts, has_query, lock_for, claims_of}
use Rattle.gx_machine.specs.Machine as machine
use Rattle.gx_machine.specs.Invariants.{Covered, HoldsFor}
use Rattle.gx_machine.proofs.SessionMoves.{claim_given, predicate_given, or_first, or_second, same_query_itself, included_covers, has_included}
use Rattle.gx_events.specs.Slots.{Note, Slot, Free, Working, Undoing, Waiting, locks_held, notes_kept, entries_of}
use Rattle.gx_events.specs.Engines.{HoldsItsLocks, changes_of, session_of, sessions_of}
use Rattle.gx_events.specs.Asking.{least_barring, claims_held, asked_with, ask_working, ask_free, ask_slot}
use Rattle.gx_events.proofs.Sees.{same_locks}

module _ {B : Type 0} (k : Keys B) (l : IsLawful k) where
  module _ (live : Entry B → Bool) where
    -- Asked by slots, a call gives what it gives asked by sessions.

    pub same_least : (call : Call B) (s n : ℕ) (slots : List (Slot B))
        → machine.least_conflicting k call s n (sessions_of k live slots) ≡ least_barring k call s n slots
    same_least call s n [] = refl
    same_least call s n (x ∷ xs) =
        let locks : locks_of (session_of k live x) ≡ locks_held x = same_locks k l live x in
        let later : machine.least_conflicting k call s (n + 1) (sessions_of k live xs) ≡ least_barring k call s (n + 1) xs = same_least call s (n + 1) xs in
        λ i. if not (n == s) && conflicts k call (locks i) then Some n else later i

    held_from : (a : ℕ) (slots : List (Slot B))
        → fold (λ (n : ℕ) (x : Session B). n + claims_of x) a (sessions_of k live slots) ≡ fold (λ (n : ℕ) (x : Slot B). n + length (locks_held x).claims) a slots
    held_from a [] = refl
    held_from a (x ∷ xs) =
        ap (λ (locks : Locks B). fold (λ (n : ℕ) (y : Session B). n + claims_of y) (a + length locks.claims) (sessions_of k live xs)) (same_locks k l live x)
        ∙ held_from (a + length (locks_held x).claims) xs

    pub same_held : (slots : List (Slot B)) → machine.claims_held (sessions_of k live slots) ≡ claims_held slots
    same_held slots = held_from 0 slots

    -- with its lock given or refused
    same_with : (call : Call B) (given : Result (Locks B) Refusal) (locks : Locks B) (notes : List (Note B))
        → ((asked_with call given locks notes).0 ≡ (sessions.asked_with call given locks (changes_of k live notes)).0)
        × (session_of k live (asked_with call given locks notes).1 ≡ (sessions.asked_with call given locks (changes_of k live notes)).1)
    same_with call (Ok locks) old notes = (refl, refl)
    same_with call (Err why) old notes = (refl, refl)

    abbrev AsksAlike : Asked B × Slot B → Asked B × Session B → Type 0
    AsksAlike x y = (x.0 ≡ y.0) × (session_of k live x.1 ≡ y.1)

    working_alike : (call : Call B) (least : Option ℕ) (spent : ℕ) (locks : Locks B) (notes : List (Note B))
        → AsksAlike (ask_working k call least spent locks notes) (sessions.ask_open k call least spent locks (changes_of k live notes))
    working_alike Begin least spent locks notes = (refl, refl)
    working_alike (Insert e) least spent locks notes = same_with (Insert e) (lock_for k (Insert e) least spent locks) locks notes
    working_alike (Delete e) least spent locks notes = same_with (Delete e) (lock_for k (Delete e) least spent locks) locks notes
    working_alike (Search q) least spent locks notes = same_with (Search q) (lock_for k (Search q) least spent locks) locks notes
    working_alike Commit least spent locks notes = same_with Commit (lock_for k Commit least spent locks) locks notes
    working_alike Abort least spent locks notes = (refl, refl)

    free_alike : (call : Call B) → AsksAlike (ask_free call) (sessions.ask_idle call)
    free_alike Begin = (refl, refl)
    free_alike (Insert e) = (refl, refl)
    free_alike (Delete e) = (refl, refl)
    free_alike (Search q) = (refl, refl)
    free_alike Commit = (refl, refl)
    free_alike Abort = (refl, refl)

    pub asks_alike : (call : Call B) (least : Option ℕ) (spent : ℕ) (x : Slot B)
        → AsksAlike (ask_slot k call least spent x) (sessions.ask_session k call least spent (session_of k live x))
    asks_alike call least spent Free = free_alike call
    asks_alike call least spent (Working locks notes None) = working_alike call least spent locks notes
    asks_alike call least spent (Working locks notes (Some pending)) = (refl, refl)
    asks_alike call least spent (Undoing locks notes) = (refl, refl)
    asks_alike call least spent (Waiting number) = (refl, refl)

  -- No ask changes notes.

  with_notes : (call : Call B) (given : Result (Locks B) Refusal) (locks : Locks B) (notes : List (Note B)) → notes_kept (asked_with call given locks notes).1 ≡ notes
  with_notes call (Ok locks) old notes = refl
  with_notes call (Err why) old notes = refl

  working_notes : (call : Call B) (least : Option ℕ) (spent : ℕ) (locks : Locks B) (notes : List (Note B)) → notes_kept (ask_working k call least spent locks notes).1 ≡ notes
  working_notes Begin least spent locks notes = refl
  working_notes (Insert e) least spent locks notes = with_notes (Insert e) (lock_for k (Insert e) least spent locks) locks notes
  working_notes (Delete e) least spent locks notes = with_notes (Delete e) (lock_for k (Delete e) least spent locks) locks notes
  working_notes (Search q) least spent locks notes = with_notes (Search q) (lock_for k (Search q) least spent locks) locks notes
  working_notes Commit least spent locks notes = with_notes Commit (lock_for k Commit least spent locks) locks notes
  working_notes Abort least spent locks notes = refl

  free_notes : (call : Call B) → notes_kept (ask_free call).1 ≡ []
  free_notes Begin = refl
  free_notes (Insert e) = refl
  free_notes (Delete e) = refl
  free_notes (Search q) = refl
  free_notes Commit = refl
  free_notes Abort = refl

  pub asks_keep_notes : (call : Call B) (least : Option ℕ) (spent : ℕ) (x : Slot B) → notes_kept (ask_slot k call least spent x).1 ≡ notes_kept x
  asks_keep_notes call least spent Free = free_notes call
  asks_keep_notes call least spent (Working locks notes None) = working_notes call least spent locks notes
  asks_keep_notes call least spent (Working locks notes (Some pending)) = refl
  asks_keep_notes call least spent (Undoing locks notes) = refl
  asks_keep_notes call least spent (Waiting number) = refl

  -- A slot that has asked holds its locks.

  write_holds : (call : Call B) (e : Entry B) (claimed room : Bool) (locks : Locks B) (notes : List (Note B)) → has k e locks.claims ≡ claimed
      → ((g : Locks B) → has k e g.claims ≡ true → HoldsFor k call g) → Covered k (entries_of notes) locks.claims
      → HoldsItsLocks k (asked_with call (claim_given k e claimed room locks) locks notes).1
  write_holds call e true room locks notes is holds covered = (covered, holds locks is)
  write_holds call e false true locks notes is holds covered = (
    λ x h. included_covers k l e locks.claims x (covered x h),
    holds (record locks { claims = including k e locks.claims }) (has_included k l e locks.claims),
  )
  write_holds call e false false locks notes is holds covered = covered

  has_predicate_added : (q : Query B) (predicates : List (Query B)) → has_query k q (predicates ++ q ∷ []) ≡ true
  has_predicate_added q predicates =
      list_any-append (same_query k q) predicates (q ∷ [])
      ∙ or_second (has_query k q predicates) (same_query k q q || false) (or_first (same_query k q q) false (same_query_itself k l q))

  search_holds : (q : Query B) (held room : Bool) (locks : Locks B) (notes : List (Note B)) → has_query k q locks.predicates ≡ held
      → Covered k (entries_of notes) locks.claims → HoldsItsLocks k (asked_with (Search q) (predicate_given q held room locks) locks notes).1
  search_holds q true room locks notes is covered = (covered, is)
  search_holds q false true locks notes is covered = (covered, has_predicate_added q locks.predicates)
  search_holds q false false locks notes is covered = covered

  working_holds : (call : Call B) (least : Option ℕ) (spent : ℕ) (locks : Locks B) (notes : List (Note B)) → Covered k (entries_of notes) locks.claims
      → HoldsItsLocks k (ask_working k call least spent locks notes).1
  working_holds Begin least spent locks notes covered = covered
  working_holds (Insert e) None spent locks notes covered =
      write_holds (Insert e) e (has k e locks.claims) (nat_lt spent MAX_CLAIMS) locks notes refl (λ g is. is) covered
  working_holds (Delete e) None spent locks notes covered =
      write_holds (Delete e) e (has k e locks.claims) (nat_lt spent MAX_CLAIMS) locks notes refl (λ g is. is) covered
  working_holds (Search q) None spent locks notes covered =
      search_holds q (has_query k q locks.predicates) (nat_lt (length locks.predicates) MAX_PREDICATES) locks notes refl covered
  working_holds Commit None spent locks notes covered = (covered, tt)
  working_holds (Insert e) (Some other) spent locks notes covered = covered
  working_holds (Delete e) (Some other) spent locks notes covered = covered
  working_holds (Search q) (Some other) spent locks notes covered = covered
  working_holds Commit (Some other) spent locks notes covered = covered
  working_holds Abort least spent locks notes covered = covered

  free_holds : (call : Call B) → HoldsItsLocks k (ask_free call).1
  free_holds Begin = λ e is. is
  free_holds (Insert e) = tt
  free_holds (Delete e) = tt
  free_holds (Search q) = tt
  free_holds Commit = tt
  free_holds Abort = tt

  pub ask_holds : (call : Call B) (least : Option ℕ) (spent : ℕ) (x : Slot B) → HoldsItsLocks k x → HoldsItsLocks k (ask_slot k call least spent x).1
  ask_holds call least spent Free h = free_holds call
  ask_holds call least spent (Working locks notes None) h = working_holds call least spent locks notes h
  ask_holds call least spent (Working locks notes (Some pending)) h = h
  ask_holds call least spent (Undoing locks notes) h = h
  ask_holds call least spent (Waiting number) h = tt
