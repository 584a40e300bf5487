-- Whatever a crash leaves of a whole index stands for a set that its machine keeps, and for no older one than was acknowledged.
use Rattle.std.proofs.Common.{◌≡◌, ℕ, ◌+◌, ◌≤◌, List, ◌∷◌, length, sym, ◌∙◌, subst, arith}
use Rattle.gx_machine.specs.declared.entry.Entry.{Entry}
use Rattle.gx_machine.specs.Machine.{Machine}
use Rattle.gx_machine.specs.Machine as machine
use Rattle.gx_machine.proofs.Survival.{run_rises}
use Rattle.gx_machine.proofs.SetsByTests.{set_of_a_test_that_agrees}
use Rattle.gx_machine.proofs.SetLaws.{entry_total, entry_exact}
use Rattle.gx_events.specs.Engines as engines
use Rattle.gx_events.specs.Engines.{SeenAs}
use Rattle.gx_events.specs.Happenings.{Happening, Acknowledges}
use Rattle.gx_events.specs.Runs.{steps_of, RunsAs}
use Rattle.gx_events.proofs.Faults.{kept_set}
use Rattle.gx_events.proofs.EventRuns.{run_follows}
use Rattle.gx_recovery.specs.Records.{Record}
use Rattle.gx_recovery.specs.Analysis.{number_of}
use Rattle.gx_recovery.specs.Standing.{stands_for}
use Rattle.gx_recovery.specs.Logged.{IsLeft, StandsForKept}
use Rattle.gx_recovery.proofs.Lives.{left_stands}
use Rattle.gx_index_laws.specs.Classes.{Class, IsLawful, Page, known_of}
use Rattle.gx_index_laws.specs.States.{State, engine_of}
use Rattle.gx_index_laws.specs.Whole.{IsWhole}
use Rattle.gx_index_laws.specs.Happening.{AreHappening}
use Rattle.gx_index_laws.specs.Openings.{IsKeptBy}
use Rattle.gx_index_laws.proofs.Restarts.{kept_alike, are_events, whole_on}

module _ {B : Type 0} (c : Class B) (l : IsLawful c) where
  module _ (s : State B) (w : IsWhole c s) (m : Machine B) (seen : SeenAs c.keys (engine_of c s) m) (area : ℕ → Page B) (log : List (Record (Entry B) (Page B))) (left : IsLeft s.log area log) where
    stands : StandsForKept (known_of c) s.log area log
    stands = left_stands (known_of c) (record { total = entry_total c.keys l.keys; exact = entry_exact c.keys l.keys }) s.log w.healthy area log left

    rises : s.oldest ≤ number_of (known_of c) log
    rises = let first = w.sets.first in let low = stands.at_least in omega (arith, first, low)

    sealed : number_of (known_of c) log ≤ s.oldest + length s.older
    sealed = let last = w.sets.last in let high = stands.at_most in omega (arith, last, high)

    newest_is : machine.newest m ≡ s.oldest + length s.older
    newest_is = λ j. seen.oldest j + length (seen.older j)

    -- whatever a crash leaves stands for the set that the machine keeps under its number
    pub image_stands : IsKeptBy c m area log
    image_stands = record {
      at_least = subst (λ n. n ≤ number_of (known_of c) log) (sym seen.oldest) rises;
      at_most = subst (λ n. number_of (known_of c) log ≤ n) (sym newest_is) sealed;
      set = set_of_a_test_that_agrees c.keys l.keys (engines.kept c.keys (number_of (known_of c) log) (engine_of c s)) (stands_for (known_of c) area log)
          (machine.set_of (number_of (known_of c) log) m)
          (λ e. kept_alike c l s w (number_of (known_of c) log) rises sealed e ∙ sym (stands.same_set e))
          (kept_set c.keys l.keys (engine_of c s) m w.sound seen (number_of (known_of c) log) rises sealed);
    }

  happening_runs : (events : List (Happening B)) (old new : State B) (m : Machine B) → IsWhole c old → SeenAs c.keys (engine_of c old) m → AreHappening c old events new
      → RunsAs c.keys m (steps_of events) (engine_of c new)
  happening_runs events old new m w seen life = run_follows c.keys l.keys events (engine_of c old) (engine_of c new) m w.sound seen (are_events c events old new life)

  oldest_rises : (events : List (Happening B)) (old new : State B) → IsWhole c old → AreHappening c old events new → old.oldest ≤ new.oldest
  oldest_rises events old new w life =
      let run : RunsAs c.keys w.machine (steps_of events) (engine_of c new) = happening_runs events old new w.machine w w.seen life in
      let up = run_rises c.keys (steps_of events) w.machine run.end run.runs in
      let first : w.machine.oldest ≡ old.oldest = w.seen.oldest in
      let last : run.end.oldest ≡ new.oldest = run.seen.oldest in
      omega (arith, up, first, last)

  -- a commit that was acknowledged is left by every later crash
  pub acknowledged_is_left : (a number : ℕ) (events : List (Happening B)) (old new : State B) (area : ℕ → Page B) (log : List (Record (Entry B) (Page B))) → IsWhole c old
      → AreHappening c old (Acknowledges a number ∷ events) new → IsLeft new.log area log → number ≤ number_of (known_of c) log
  acknowledged_is_left a number events old new area log w life left =
      let now : number ≤ old.oldest = life.1.is_event.is_durable in
      let later : old.oldest ≤ new.oldest = oldest_rises (Acknowledges a number ∷ events) old new w life in
      let whole : IsWhole c new = whole_on c (Acknowledges a number ∷ events) old new w life in
      let low : new.oldest ≤ number_of (known_of c) log = rises new whole whole.machine whole.seen area log left in
      omega (arith, now, later, low)
