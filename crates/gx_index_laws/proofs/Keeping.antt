-- What an opening keeps at each moment: the set that its log stands for, under the log's number.
use Rattle.std.proofs.Common.{◌≡◌, ℕ, ◌+◌, ◌-◌, ◌≤◌, Bool, true, false, ◌||◌, List, [], ◌∷◌, length, All, refl, ap, sym, ◌∙◌, subst, arith}
use Rattle.std.specs.Prelude.{drop}
use Rattle.std.specs.List.{list_any}
use Rattle.std.proofs.lemmas.List.Elements.{All-nil, All-cons, All-head, All-tail}
use Rattle.gx_machine.specs.declared.entry.Entry.{Entry}
use Rattle.gx_events.specs.Engines.{Engine, stood}
use Rattle.gx_events.specs.Happenings as events
use Rattle.gx_events.specs.Happenings.{Happening, IsHappening}
use Rattle.gx_events.specs.Kinds.{changes_what_stood}
use Rattle.gx_events.proofs.WhatStood.{event_stood}
use Rattle.gx_recovery.specs.Records.{Record}
use Rattle.gx_recovery.specs.Analysis.{analysis, number_of}
use Rattle.gx_recovery.specs.Redo.{tree_of}
use Rattle.gx_recovery.specs.Standing.{stands_for}
use Rattle.gx_recovery.specs.Damage.{IsLog}
use Rattle.gx_recovery.specs.Coming.{IsGood}
use Rattle.gx_recovery.specs.Logged.{latest, kept, IsLeft, StandsForKept}
use Rattle.gx_recovery.proofs.Lives.{left_stands}
use Rattle.gx_index_laws.specs.Classes.{Class, IsLawful, Page, known_of}
use Rattle.gx_index_laws.specs.States.{State, engine_of}
use Rattle.gx_index_laws.specs.Whole.{IsWhole}
use Rattle.gx_index_laws.specs.Happening.{Happens, AreHappening}
use Rattle.gx_index_laws.specs.Openings.{found_state, is_in_opening, is_fault}
use Rattle.gx_index_laws.proofs.Standing.{known_lawful}
use Rattle.gx_index_laws.proofs.Listed.{log_listed}
use Rattle.gx_index_laws.proofs.Found.{found_stood, found_whole}

-- an index whose last set is this one, under this number, and that keeps no other
pub record KeepsOne {B : Type 0} (c : Class B) (number : ℕ) (in_set : Entry B → Bool) (s : State B) : Type 0 where
  pub whole : IsWhole c s
  pub older : s.older ≡ []
  pub oldest : s.oldest ≡ number
  pub stands : (e : Entry B) → stood c.keys (engine_of c s) e ≡ in_set e

-- what an event does that is an opening's, or a fault
record IsQuiet {B : Type 0} (event : Happening B) (old new : Engine B) : Type 0 where
  older : new.older ≡ []
  oldest : new.oldest ≡ old.oldest
  failed : new.failed ≡ (is_fault event || old.failed)
  still : changes_what_stood event ≡ false

only_one : (oldest number more : ℕ) → more ≡ 0 → oldest ≤ number → number ≤ oldest + more → number ≡ oldest
only_one oldest number more none low high = omega (arith, none, low, high)

nothing_less : (oldest number : ℕ) → number ≡ oldest → number - oldest ≡ 0
nothing_less oldest number same = omega (arith, same)

or_moves : (first later was : Bool) → (later || (first || was)) ≡ ((first || later) || was)
or_moves true true was = refl
or_moves true false was = refl
or_moves false later was = refl

-- an event may come in an opening
abbrev MayCome : {B : Type 0} → Happening B → Type 0
MayCome event = (is_in_opening event || is_fault event) ≡ true

abbrev InOpening : {B : Type 0} → Happening B → Type 0
InOpening event = is_in_opening event ≡ true

module _ {B : Type 0} (c : Class B) where
  is_quiet : (event : Happening B) (old new : Engine B) → old.older ≡ [] → IsHappening c.keys old event new → MayCome event → IsQuiet event old new
  is_quiet (events.Undoes s x) old new none h is = record { older = h.is.older ∙ none; oldest = h.is.oldest; failed = h.is.failed; still = refl }
  is_quiet (events.EndsUndo s) old new none h is = record { older = h.is.older ∙ none; oldest = h.is.oldest; failed = h.is.failed; still = refl }
  is_quiet events.Works old new none h is = record { older = h.older ∙ none; oldest = h.oldest; failed = h.failed; still = refl }
  is_quiet events.Fails old new none h is = record { older = h.older ∙ none; oldest = h.oldest; failed = h.failed; still = refl }
  is_quiet (events.Durable number) old new none h is =
      let same : number ≡ old.oldest = only_one old.oldest number (length old.older) (ap length none) h.rises h.sealed in
      record {
        older = h.is.older ∙ ap (λ n. drop n old.older) (nothing_less old.oldest number same) ∙ none;
        oldest = h.is.oldest ∙ same;
        failed = h.is.failed;
        still = refl;
      }
  is_quiet other old new none h is = let no : ⊥ = cc in absurd no

  module _ (l : IsLawful c) where
    module _ (number : ℕ) (in_set : Entry B → Bool) where
      event_keeps : (event : Happening B) (old new : State B) → KeepsOne c number in_set old → Happens c old event new → MayCome event
          → KeepsOne c number in_set new
      event_keeps event old new keeps h is =
          let quiet : IsQuiet event (engine_of c old) (engine_of c new) = is_quiet event (engine_of c old) (engine_of c new) keeps.older h.is_event is in
          record {
            whole = h.whole;
            older = quiet.older;
            oldest = quiet.oldest ∙ keeps.oldest;
            stands = λ e. event_stood c.keys l.keys (engine_of c old) keeps.whole.sound event (engine_of c new) h.is_event quiet.still e ∙ keeps.stands e;
          }

      -- an opening's events keep it
      pub goes_on : (list : List (Happening B)) (old new : State B) → KeepsOne c number in_set old → AreHappening c old list new → All MayCome list → KeepsOne c number in_set new
      goes_on [] old new keeps are all = subst (KeepsOne c number in_set) (sym are) keeps
      goes_on (event ∷ list) old new keeps are all =
          goes_on list are.0 new (event_keeps event old are.0 keeps are.1 (All-head MayCome event list all)) are.2 (All-tail MayCome event list all)

      -- and faults alone make it fail
      pub fails_by : (list : List (Happening B)) (old new : State B) → KeepsOne c number in_set old → AreHappening c old list new → All MayCome list
          → new.failed ≡ (list_any is_fault list || old.failed)
      fails_by [] old new keeps are all = ap (λ (s : State B). s.failed) are
      fails_by (event ∷ list) old new keeps are all =
          let may : MayCome event = All-head MayCome event list all in
          let quiet : IsQuiet event (engine_of c old) (engine_of c are.0) = is_quiet event (engine_of c old) (engine_of c are.0) keeps.older are.1.is_event may in
          fails_by list are.0 new (event_keeps event old are.0 keeps are.1 may) are.2 (All-tail MayCome event list all)
          ∙ ap (λ b. list_any is_fault list || b) quiet.failed ∙ or_moves (is_fault event) (list_any is_fault list) old.failed

      -- whatever a crash leaves of it stands for that set, under that number
      pub one_left : (s : State B) → KeepsOne c number in_set s → (area : ℕ → Page B) (log : List (Record (Entry B) (Page B))) → IsLeft s.log area log
          → (number_of (known_of c) log ≡ number) × ((e : Entry B) → stands_for (known_of c) area log e ≡ in_set e)
      one_left s keeps area log left =
          let stands : StandsForKept (known_of c) s.log area log = left_stands (known_of c) (known_lawful c l) s.log keeps.whole.healthy area log left in
          let none : length s.older ≡ 0 = ap length keeps.older in
          let first = keeps.whole.sets.first in
          let last = keeps.whole.sets.last in
          let low = stands.at_least in
          let high = stands.at_most in
          let at = keeps.oldest in
          let is_last : number_of (known_of c) log ≡ latest (known_of c) s.log = omega (arith, none, first, last, low, high) in (
            omega (arith, none, last, is_last, at),
            λ e. stands.same_set e ∙ ap (λ n. kept (known_of c) s.log n e) is_last ∙ sym (keeps.whole.sets.stands e) ∙ keeps.stands e,
          )

    -- the index that is found keeps what its log stands for
    pub found_keeps : (next : ℕ) (area : ℕ → Page B) (log : List (Record (Entry B) (Page B))) → IsLog (known_of c) log → IsGood (known_of c) (tree_of (known_of c) area log) log
        → (analysis (known_of c) log).next ≤ next → KeepsOne c (number_of (known_of c) log) (stands_for (known_of c) area log) (found_state c next area log)
    found_keeps next area log is good up =
        let listed = log_listed c l area log in
        record { whole = found_whole c l next area log is up good listed.0 listed.1; older = refl; oldest = refl; stands = found_stood c l next area log is }

no_fault : {B : Type 0} (event : Happening B) → is_in_opening event ≡ true → is_fault event ≡ false
no_fault events.Fails h = let no : ⊥ = cc in absurd no
no_fault other h = refl

-- an opening's events may come, and are no faults
pub all_may_come : {B : Type 0} (list : List (Happening B)) → All InOpening list → All MayCome list
all_may_come [] all = All-nil MayCome
all_may_come (event ∷ list) all =
    All-cons MayCome event list (ap (λ b. b || is_fault event) (All-head InOpening event list all)) (all_may_come list (All-tail InOpening event list all))

pub no_faults : {B : Type 0} (list : List (Happening B)) → All InOpening list → list_any is_fault list ≡ false
no_faults [] all = refl
no_faults (event ∷ list) all =
    ap (λ b. b || list_any is_fault list) (no_fault event (All-head InOpening event list all)) ∙ no_faults list (All-tail InOpening event list all)
