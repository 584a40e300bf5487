-- The sessions of transactions that a crash cut off.
use Rattle.std.specs.Prelude.{ℕ, ◌≡◌, ◌+◌, ◌-◌, ◌<◌, ◌≤◌, ◌==◌, ◌⊎◌, true, false, if◌then◌else◌, Option, None, Some, Result, Ok, Err, length, map, List, [], ◌∷◌}
use Rattle.std.specs.List.{AllByRecursion, slice_index_or}
use Rattle.std.specs.declared.cmp.Ordering.TheVariants.{Less}
use Rattle.gx_geom.specs.declared.refusal.Refusal.{Refusal}
use Rattle.gx_geom.specs.declared.refusal.Refusal.TheVariants.{Damaged}
use Rattle.gx_machine.specs.declared.entry.Entry.{Entry}
use Rattle.gx_machine.specs.Keys.{Keys, entry_cmp, same_entry}
use Rattle.gx_machine.specs.Machine.{is_session}
use Rattle.gx_machine.specs.declared.limits.TheConstants.{MAX_CLAIMS, SESSIONS}
use Rattle.gx_events.specs.Losers.{loser_slot}
use Rattle.gx_recovery.specs.Records.{Touch}
use Rattle.gx_index_laws.specs.Openings.{losers_of, numbers_of}
use Rattle.gx_txn.specs.declared.note.Note.{Note}
use Rattle.gx_phases.specs.declared.phase.Phase.{Phase}
use Rattle.gx_phases.specs.declared.phase.Phase.TheVariants.{Free, Working, Open, Undoing, Waiting}
use Rattle.gx_phases.specs.Moves.{transaction_of}
use Rattle.gx_phases.specs.States.{State, slots_of}
use Rattle.gx_engine.specs.declared.work.Work.{Work}
use Rattle.gx_engine.specs.declared.work.Work.TheVariants.{Rests, Looks, Descends, Seeks}
use Rattle.gx_engine.specs.Noted.{AreNoted}

-- what undoing a touched entry needs
abbrev pub note_in : {B : Type 0} → Touch (Entry B) → Note B
note_in x = record { entry = x.entry; before = x.before; leaf = x.leaf }

-- one touch comes before another: it is of a lower transaction, which has touched another entry; or it is of a lower entry of the same
-- transaction
abbrev pub ComesBefore : {B : Type 0} → Keys B → Touch (Entry B) → Touch (Entry B) → Type 0
ComesBefore k x y =
    ((x.transaction < y.transaction) × (same_entry k y.entry x.entry ≡ false)) ⊎ ((x.transaction ≡ y.transaction) × (entry_cmp k x.entry y.entry ≡ Less))

-- each comes before all that follow it
abbrev pub ComeInOrder : {B : Type 0} → Keys B → List (Touch (Entry B)) → Type 0
ComeInOrder k [] = Unit {0}
ComeInOrder k (x ∷ xs) = AllByRecursion (ComesBefore k x) xs × ComeInOrder k xs

-- An undamaged log may have these touches: in the order of transaction and then entry, no entry twice, at most 512, of
-- at most eight transactions.
pub record AreCutOff {B : Type 0} (k : Keys B) (xs : List (Touch (Entry B))) : Type 0 where
  pub in_order : ComeInOrder k xs
  pub eight : length (numbers_of xs) ≤ SESSIONS
  pub few : length xs ≤ MAX_CLAIMS

-- a session has nothing to do, or undoes its transaction from its first note on, with no work begun
abbrev pub HasNoWork : {B : Type 0} → Work B → Type 0
HasNoWork Rests = Unit {0}
HasNoWork (Looks look) = ⊥
HasNoWork (Descends from item) = ⊥
HasNoWork (Seeks leaf) = ⊥

abbrev pub IsAtRest : {B : Type 0} → Phase B (Work B) → Type 0
IsAtRest Free = Unit {0}
IsAtRest Working = ⊥
IsAtRest (Open call work) = ⊥
IsAtRest (Undoing restored work) = (restored ≡ 0) × HasNoWork work
IsAtRest (Waiting number) = ⊥

abbrev pub AllRest : {B : Type 0} → List (Phase B (Work B)) → Type 0
AllRest phases = AllByRecursion IsAtRest phases

-- Each transaction has a session, from 1 on in the order of the numbers, which undoes what the transaction has touched; the other
-- sessions are free.
pub record AreHeld {B : Type 0} (xs : List (Touch (Entry B))) (sessions : State B (Work B)) : Type 0 where
  pub slots : slots_of sessions.phases sessions.table ≡ map loser_slot (losers_of xs)
  pub transactions : (a : ℕ) → is_session a ≡ true → transaction_of a sessions ≡ slice_index_or (numbers_of xs) (a - 1) 0
  pub noted : AreNoted sessions xs

-- All get sessions if an undamaged log may have them; if that is refused, no undamaged log has them.
abbrev pub HoldsAll : {B : Type 0} → Keys B → List (Touch (Entry B)) → State B (Work B) → Result (Unit {0}) Refusal → Type 0
HoldsAll k xs new (Ok done) = AreCutOff k xs → AreHeld xs new
HoldsAll k xs new (Err why) = (why ≡ Damaged) × (AreCutOff k xs → ⊥)

-- the numbers of transactions and commits are as before
abbrev pub OnlyHeld : {B W : Type 0} → State B W → State B W → Type 0
OnlyHeld old new = new ≡ record old { phases = new.phases; table = new.table; transactions = new.transactions }

-- the session of a transaction, after a note that has this session and is of that transaction
abbrev pub session_after : ℕ → Option ℕ → ℕ → ℕ
session_after session None transaction = session + 1
session_after session (Some before) transaction = if before == transaction then session else session + 1
