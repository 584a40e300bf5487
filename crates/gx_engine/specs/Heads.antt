-- The head of the renewed log, as it is written in memory: the numbers, and the sessions' notes in the order of their
-- transactions.
use Rattle.std.specs.Prelude.{ℕ, ◌≡◌, ◌⊎◌, ◌+◌, ◌-◌, ◌*◌, ◌<◌, ◌≤◌, nat_le, nat_lt, Bool, true, ◌&&◌, Option, None, Some, Result, Ok, Err, List, ◌∷◌, ◌++◌, length}
use Rattle.gx_machine.specs.declared.entry.Entry.{Entry}
use Rattle.gx_machine.specs.Machine.{is_session}
use Rattle.gx_glog.specs.declared.stage.Turn.TheVariants.{Closed}
use Rattle.gx_glog.specs.State.{Log}
use Rattle.gx_glog.specs.declared.extent.TheConstants.{BODY_ROOM}
use Rattle.gx_recovery.specs.Records.{Record, Counters, Touch}
use Rattle.gx_recovery.specs.Renewal.{notes_of}
use Rattle.gx_durable.specs.Spelled.{Reading, AreRecords}
use Rattle.gx_store.specs.declared.fault.StoreFault.{StoreFault}
use Rattle.gx_class.specs.declared.class.TheConstants.{MAX_KEY}
use Rattle.gx_record.specs.declared.sizes.TheConstants.{COUNTERS_RECORD, NOTE_BESIDE_KEY}
use Rattle.gx_storage.specs.State.{Volume}
use Rattle.gx_phases.specs.Moves.{transaction_of}
use Rattle.gx_phases.specs.States.{State, phase_at}
use Rattle.gx_engine.specs.Noted.{AreNoted, has_transaction}

-- how many bytes the note of an entry has at most
abbrev pub note_record : ℕ
note_record = NOTE_BESIDE_KEY + MAX_KEY

-- These records came after those of a head, in so many bytes at most.
pub record Puts {E P : Type 0} (r : Reading E P) (records : List (Record E P)) (size : ℕ) (old new : Log) : Type 0 where
  pub bytes : List ℕ
  pub log : new ≡ record old { flight = old.flight ++ bytes }
  pub few : length bytes ≤ size
  pub fits : length old.flight ≤ BODY_ROOM → length new.flight ≤ BODY_ROOM
  pub has : (head : List (Record E P)) → AreRecords r old.flight head → AreRecords r new.flight (head ++ records)

-- only the head has changed
abbrev pub OnlyHead : {D : Type 0} → Volume D → Volume D → Type 0
OnlyHead v w = w ≡ record v { log = record v.log { flight = w.log.flight } }

-- these records came, or there was no room for so many bytes
abbrev pub PutsAll : {E P D : Type 0} → Reading E P → List (Record E P) → ℕ → Volume D → Volume D → Result (Unit {0}) StoreFault → Type 0
PutsAll r records size v w (Ok done) = Puts r records size v.log w.log
PutsAll r records size v w (Err fault) = v.log.turn ≡ Closed → BODY_ROOM < length v.log.flight + size

-- the least number of a transaction that comes after this one
abbrev pub from_of : Option ℕ → ℕ
from_of None = 0
from_of (Some last) = last + 1

-- a session's transaction has a number from this one on, and one below that of another session's, if there is one
abbrev pub is_less : {B W : Type 0} → State B W → ℕ → Option ℕ → Bool
is_less sessions t None = true
is_less sessions t (Some other) = nat_lt t (transaction_of other sessions)

abbrev pub comes_before : {B W : Type 0} → State B W → ℕ → ℕ → Option ℕ → Bool
comes_before sessions from session other =
    has_transaction (phase_at (session - 1) sessions.phases) && (nat_le from (transaction_of session sessions) && is_less sessions (transaction_of session sessions) other)

-- Of the sessions up to this one, the one whose transaction has the least number from this one on, or none has such a transaction.
abbrev pub IsNextOf : {B W : Type 0} → State B W → ℕ → ℕ → Option ℕ → Type 0
IsNextOf sessions from upto None = (a : ℕ) → is_session a ≡ true → a ≤ upto → has_transaction (phase_at (a - 1) sessions.phases) ≡ true → transaction_of a sessions < from
IsNextOf sessions from upto (Some s) =
    (is_session s ≡ true) × (has_transaction (phase_at (s - 1) sessions.phases) ≡ true) × (from ≤ transaction_of s sessions)
    × ((a : ℕ) → is_session a ≡ true → a ≤ upto → has_transaction (phase_at (a - 1) sessions.phases) ≡ true
    → (transaction_of a sessions < from) ⊎ (transaction_of s sessions ≤ transaction_of a sessions))

-- If sessions have noted what a log's transactions have touched: a note of each touch comes, by transaction and entry.
abbrev pub PutsTouches : {B D W : Type 0} {P : Type 0} → Reading (Entry B) P → State B W → Volume D → Volume D → Result (Unit {0}) StoreFault → Type 0
PutsTouches {B} r sessions v w result = (xs : List (Touch (Entry B))) → AreNoted sessions xs → PutsAll r (notes_of xs) (note_record * length xs) v w result

-- the same after the numbers
abbrev pub PutsHead : {B D W : Type 0} {P : Type 0} → Reading (Entry B) P → State B W → Volume D → Volume D → Result (Unit {0}) StoreFault → Type 0
PutsHead {B} r sessions v w result = (xs : List (Touch (Entry B))) → AreNoted sessions xs
    → PutsAll r (Counters sessions.latest v.shelf.counter v.shelf.used sessions.next ∷ notes_of xs) (COUNTERS_RECORD + note_record * length xs) v w result
