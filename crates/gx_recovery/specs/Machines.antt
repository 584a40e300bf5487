-- Kept sets of a log as those of the set machine, which are lists in order; and a transaction's changes, read from a log.
use Rattle.std.specs.Prelude.{◌≡◌, ℕ, ◌≤◌, Bool, true, false, not, ◌==◌, filter, map, Some, List}
use Rattle.gx_machine.specs.declared.entry.Entry.{Entry}
use Rattle.gx_machine.specs.declared.call.Call.TheVariants as call
use Rattle.gx_machine.specs.Keys.{Keys}
use Rattle.gx_machine.specs.Sets.{has, IsSetOf}
use Rattle.gx_machine.specs.Sessions as sessions
use Rattle.gx_machine.specs.Machine as machine
use Rattle.gx_machine.specs.Runs as runs
use Rattle.gx_recovery.specs.Known.{Known}
use Rattle.gx_recovery.specs.Records.{Record, Touch}
use Rattle.gx_recovery.specs.Analysis.{analysis}
use Rattle.gx_recovery.specs.Redo.{tree_of}
use Rattle.gx_recovery.specs.Life.{Kept, Move, Stays, Durable, Seals, Crashes}

-- a machine keeps these sets, under the same numbers
pub record KeepsSets {B : Type 0} (k : Keys B) (kept : Kept (Entry B)) (m : machine.Machine B) : Type 0 where
  pub oldest : m.oldest ≡ kept.first
  pub newest : machine.newest m ≡ kept.last
  pub sets : (number : ℕ) → kept.first ≤ number → number ≤ kept.last → IsSetOf k (kept.set number) (machine.set_of number m)

-- a session asks to commit changes that make this view
pub record AsksToCommit {B : Type 0} (k : Keys B) (added : Entry B → Bool) (s : ℕ) (m : machine.Machine B) : Type 0 where
  pub is_session : machine.is_session s ≡ true
  pub locks : sessions.Locks B
  pub changes : sessions.Changes B
  pub session : machine.session_at s m.sessions ≡ sessions.Open locks changes (Some call.Commit)
  pub view : (e : Entry B) → has k e (sessions.view k m.latest changes) ≡ added e

-- the moves that a machine makes only while it hasn't failed: a crash comes also of one that has
abbrev pub is_working : {E : Type 0} → Move E → Bool
is_working Stays = false
is_working Durable = true
is_working (Seals view) = true
is_working Crashes = false

-- A move of the kept sets is a step of the machine that keeps them: nothing; durable up to the new first number; the
-- seal of any session that asks to commit the view; a crash that leaves the new number.
abbrev pub IsMachineStep : {B : Type 0} → Keys B → machine.Machine B → Move (Entry B) → Kept (Entry B) → Type 0
IsMachineStep k m Stays new = runs.IsStep k m runs.Nothing m × KeepsSets k new m
IsMachineStep k m Durable new = runs.IsStep k m (runs.Durable new.first) (machine.durable new.first m) × KeepsSets k new (machine.durable new.first m)
IsMachineStep {B} k m (Seals view) new =
    (s : ℕ) → AsksToCommit k view s m
    → ((next : machine.Machine B) × runs.IsStep k m (runs.Seals s new.last) next × KeepsSets k new next)
IsMachineStep k m Crashes new = runs.IsStep k m (runs.Crashes new.first) (machine.crash new.first m) × KeepsSets k new (machine.crash new.first m)

-- the entries that transaction t has touched, in order
abbrev pub entries_of : {E : Type 0} → ℕ → List (Touch E) → List E
entries_of t xs = map (λ x. x.entry) (filter (λ x. x.transaction == t) xs)

-- what a transaction has added, by a log: what it touched and is live; and taken away: what it touched and isn't
abbrev pub changes_of : {B P : Type 0} → Known (Entry B) P → ℕ → (ℕ → P) → List (Record (Entry B) P) → sessions.Changes B
changes_of k t area log = record {
  added = filter (λ e. k.live (tree_of k area log) e) (entries_of t (analysis k log).touched);
  taken = filter (λ e. not (k.live (tree_of k area log) e)) (entries_of t (analysis k log).touched);
}
