-- Transactions that a crash cut off, as an opened engine has them: a session holds each, and undoes it.
use Rattle.std.specs.Prelude.{ℕ, ◌≡◌, ◌≢◌, ◌-◌, ◌≤◌, Bool, true, false, if◌then◌else◌, length, map, List, [], ◌∷◌}
use Rattle.std.specs.List.{slice_index_or}
use Rattle.gx_machine.specs.declared.entry.Entry.{Entry}
use Rattle.gx_machine.specs.Keys.{Keys}
use Rattle.gx_machine.specs.Sets.{has}
use Rattle.gx_machine.specs.Sessions.{Session, Idle, Aborting, Locks}
use Rattle.gx_machine.specs.Machine.{Machine, is_session}
use Rattle.gx_events.specs.Slots.{Note, Slot, Free, Undoing, entries_of}
use Rattle.gx_events.specs.Engines.{Engine, last_number, stood, kept}
use Rattle.gx_events.specs.Happenings.{Happening, Asks, RefusesAsk, Inserts, Deletes, FindsPresent, FindsAbsent, Finds, Closes, Seals, Durable, Acknowledges, Undoes, EndsUndo, RefusesCall, Fails, Opens, Works}

-- the session of such a transaction claims the entries that it noted
abbrev pub loser_locks : {B : Type 0} → List (Note B) → Locks B
loser_locks notes = record { claims = entries_of notes; predicates = [] }

-- the slot of a session with these notes to undo: it is free if there are none
abbrev pub loser_slot : {B : Type 0} → List (Note B) → Slot B
loser_slot [] = Free
loser_slot (n ∷ notes) = Undoing (loser_locks (n ∷ notes)) (n ∷ notes)

abbrev pub loser_session : {B : Type 0} → List (Note B) → Session B
loser_session [] = Idle
loser_session (n ∷ notes) = Aborting (loser_locks (n ∷ notes))

-- the notes of a session by its number
abbrev pub loser_at : {B : Type 0} → ℕ → List (List (Note B)) → List (Note B)
loser_at s losers = if is_session s then slice_index_or losers (s - 1) [] else []

-- notes for each of the eight sessions, if no two of them noted one entry
pub record AreLosers {B : Type 0} (k : Keys B) (losers : List (List (Note B))) : Type 0 where
  pub eight : length losers ≡ 8
  pub apart : (a b : ℕ) → a ≢ b → (e : Entry B) → has k e (entries_of (loser_at a losers)) ≡ true → has k e (entries_of (loser_at b losers)) ≡ false

-- An engine opened over the kept set of a number, with losers: the committed set is that set, and each slot is free or
-- undoes.
pub record IsReopened {B : Type 0} (k : Keys B) (number : ℕ) (losers : List (List (Note B))) (old new : Engine B) : Type 0 where
  pub rises : old.oldest ≤ number
  pub sealed : number ≤ last_number old
  pub stands : (e : Entry B) → stood k new e ≡ kept k number old e
  pub slots : new.slots ≡ map loser_slot losers
  pub older : new.older ≡ []
  pub oldest : new.oldest ≡ number
  pub failed : new.failed ≡ false

-- the machine that it is seen as: that set is left, and the sessions of losers abort
abbrev pub losing_machine : {B : Type 0} → ℕ → List (Entry B) → List (List (Note B)) → Machine B
losing_machine number set losers = record { older = []; latest = set; oldest = number; sessions = map loser_session losers; failed = false }

-- the events of an opening's undo: no session asks, and no fault comes
abbrev pub is_of_opening : {B : Type 0} → Happening B → Bool
is_of_opening (Asks s call given) = false
is_of_opening (RefusesAsk s call why) = false
is_of_opening (Inserts s e) = false
is_of_opening (Deletes s e) = false
is_of_opening (FindsPresent s e) = false
is_of_opening (FindsAbsent s e) = false
is_of_opening (Finds s query entries) = false
is_of_opening (Closes s call why) = false
is_of_opening (Seals s set number) = false
is_of_opening (Durable number) = false
is_of_opening (Acknowledges s number) = false
is_of_opening (Undoes s e) = true
is_of_opening (EndsUndo s) = true
is_of_opening (RefusesCall s why) = false
is_of_opening Fails = false
is_of_opening (Opens number) = false
is_of_opening Works = true
