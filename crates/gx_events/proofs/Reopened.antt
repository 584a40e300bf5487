-- An engine that is opened with losers: it is sound, it is seen as a machine whose sessions abort, and once its slots are
-- free it is opened.
use Rattle.std.proofs.Common.{◌≡◌, ℕ, zero, suc, ◌-◌, Bool, true, false, ◌||◌, List, [], ◌∷◌, length, map, replicate, refl, ap, sym, ◌∙◌, subst, arith, All}
use Rattle.std.specs.Prelude.{if◌then◌else◌, unwrap_or}
use Rattle.std.specs.List.{slice_index_or}
use Rattle.std.proofs.lemmas.List.{length-map}
use Rattle.std.proofs.lemmas.List.Elements.{All-nil, All-head, All-tail}
use Rattle.gx_machine.specs.declared.limits.TheConstants.{SESSIONS}
use Rattle.gx_machine.specs.declared.entry.Entry.{Entry}
use Rattle.gx_machine.specs.Keys.{Keys, IsLawful}
use Rattle.gx_machine.specs.Sets.{InOrder, IsSetOf}
use Rattle.gx_machine.specs.Sessions.{Locks}
use Rattle.gx_machine.specs.Machine.{Machine, is_session}
use Rattle.gx_machine.specs.Machine as machine
use Rattle.gx_machine.specs.Invariants.{Apart}
use Rattle.gx_machine.specs.Runs as runs
use Rattle.gx_events.specs.Slots.{Note, Free, locks_held, slot_at, noted_in}
use Rattle.gx_events.specs.Engines.{Engine, SeenAs, IsSound, HoldsItsLocks, last_number, stood, kept, session_of, sessions_of}
use Rattle.gx_events.specs.Happenings as events
use Rattle.gx_events.specs.Happenings.{Happening, IsHappening, IsOpened, step_of}
use Rattle.gx_events.specs.Runs.{AreHappenings, RunsAs}
use Rattle.gx_events.specs.Losers.{loser_locks, loser_slot, loser_session, loser_at, AreLosers, IsReopened, losing_machine, is_of_opening}
use Rattle.gx_events.proofs.Follow.{Follows}
use Rattle.gx_events.proofs.Faults.{event_follows, kept_set}
use Rattle.gx_events.proofs.EventRuns.{still_sound, run_follows}
use Rattle.gx_events.proofs.WhatStood.{event_stood, last_is_stood}

module _ {B : Type 0} where
  pub placed : (losers : List (List (Note B))) (i : ℕ) → slice_index_or (map loser_slot losers) i Free ≡ loser_slot (slice_index_or losers i [])
  placed [] i = refl
  placed (notes ∷ losers) zero = refl
  placed (notes ∷ losers) (suc i) = placed losers i

  placed_by : (s : ℕ) (losers : List (List (Note B))) (there : Bool)
      → (if there then slice_index_or (map loser_slot losers) (s - 1) Free else Free) ≡ loser_slot (if there then slice_index_or losers (s - 1) [] else [])
  placed_by s losers true = placed losers (s - 1)
  placed_by s losers false = refl

  -- a slot by its session's number
  pub loser_slot_at : (s : ℕ) (losers : List (List (Note B))) → slot_at s (map loser_slot losers) ≡ loser_slot (loser_at s losers)
  loser_slot_at s losers = placed_by s losers (is_session s)

  pub locks_of_loser : (notes : List (Note B)) → locks_held (loser_slot notes) ≡ loser_locks notes
  locks_of_loser [] = refl
  locks_of_loser (n ∷ notes) = refl

  module _ (k : Keys B) where
    loser_holds : (notes : List (Note B)) → HoldsItsLocks k (loser_slot notes)
    loser_holds [] = tt
    loser_holds (n ∷ notes) = λ e h. h

    -- sound, with losers
    pub reopened_sound : (losers : List (List (Note B))) (engine : Engine B) → AreLosers k losers → engine.slots ≡ map loser_slot losers → engine.older ≡ []
        → IsSound k engine
    reopened_sound losers engine are slots older =
        let at : (s : ℕ) → slot_at s engine.slots ≡ loser_slot (loser_at s losers) = λ s. ap (slot_at s) slots ∙ loser_slot_at s losers in
        let held : (s : ℕ) → locks_held (slot_at s engine.slots) ≡ loser_locks (loser_at s losers) = λ s. ap locks_held (at s) ∙ locks_of_loser (loser_at s losers) in
        record {
          eight = ap length slots ∙ length-map losers loser_slot ∙ are.eight;
          holds = λ s. subst (HoldsItsLocks k) (sym (at s)) (loser_holds (loser_at s losers));
          apart = λ a b ne.
              subst (λ (x : Locks B). Apart k x (locks_held (slot_at b engine.slots))) (sym (held a))
              (subst (λ (y : Locks B). Apart k (loser_locks (loser_at a losers)) y) (sym (held b))
              (λ e h. ap (λ t. t || false) (are.apart a b ne e h)));
          in_order = subst (All (InOrder k)) (sym older) (All-nil (InOrder k));
        }

    session_of_loser : (live : Entry B → Bool) (notes : List (Note B)) → session_of k live (loser_slot notes) ≡ loser_session notes
    session_of_loser live [] = refl
    session_of_loser live (n ∷ notes) = refl

    pub sessions_of_losers : (live : Entry B → Bool) (losers : List (List (Note B))) → sessions_of k live (map loser_slot losers) ≡ map loser_session losers
    sessions_of_losers live [] = refl
    sessions_of_losers live (notes ∷ losers) =
        let first : session_of k live (loser_slot notes) ≡ loser_session notes = session_of_loser live notes in
        let rest : sessions_of k live (map loser_slot losers) ≡ map loser_session losers = sessions_of_losers live losers in
        λ i. first i ∷ rest i

    -- seen as the machine whose sessions abort
    pub reopened_seen : (number : ℕ) (losers : List (List (Note B))) (set : List (Entry B)) (old new : Engine B) → IsSetOf k (kept k number old) set
        → IsReopened k number losers old new → SeenAs k new (losing_machine number set losers)
    reopened_seen number losers set old new is r = record {
      sessions = sym (ap (sessions_of k new.live) r.slots ∙ sessions_of_losers new.live losers);
      latest = record { in_order = is.in_order; members = λ e. is.members e ∙ sym (r.stands e) };
      older = sym r.older;
      oldest = sym r.oldest;
      failed = sym r.failed;
    }

-- what an opening's undo keeps
record Keeps {B : Type 0} (k : Keys B) (old new : Engine B) : Type 0 where
  stands : (e : Entry B) → stood k new e ≡ stood k old e
  older : new.older ≡ old.older
  oldest : new.oldest ≡ old.oldest
  failed : new.failed ≡ old.failed

module _ {B : Type 0} (k : Keys B) (l : IsLawful k) where
  abbrev OfOpening : Happening B → Type 0
  OfOpening event = is_of_opening event ≡ true

  event_keeps : (event : Happening B) (old new : Engine B) → IsSound k old → IsHappening k old event new → is_of_opening event ≡ true → Keeps k old new
  event_keeps (events.Undoes s x) old new i h is =
      record { stands = event_stood k l old i (events.Undoes s x) new h refl; older = h.is.older; oldest = h.is.oldest; failed = h.is.failed }
  event_keeps (events.EndsUndo s) old new i h is =
      record { stands = event_stood k l old i (events.EndsUndo s) new h refl; older = h.is.older; oldest = h.is.oldest; failed = h.is.failed }
  event_keeps events.Works old new i h is =
      record { stands = event_stood k l old i events.Works new h refl; older = h.older; oldest = h.oldest; failed = h.failed }
  event_keeps (events.Asks s call given) old new i h is = let no : ⊥ = cc in absurd no
  event_keeps (events.RefusesAsk s call why) old new i h is = let no : ⊥ = cc in absurd no
  event_keeps (events.Inserts s x) old new i h is = let no : ⊥ = cc in absurd no
  event_keeps (events.Deletes s x) old new i h is = let no : ⊥ = cc in absurd no
  event_keeps (events.FindsPresent s x) old new i h is = let no : ⊥ = cc in absurd no
  event_keeps (events.FindsAbsent s x) old new i h is = let no : ⊥ = cc in absurd no
  event_keeps (events.Finds s query entries) old new i h is = let no : ⊥ = cc in absurd no
  event_keeps (events.Closes s call why) old new i h is = let no : ⊥ = cc in absurd no
  event_keeps (events.Seals s set number) old new i h is = let no : ⊥ = cc in absurd no
  event_keeps (events.Durable number) old new i h is = let no : ⊥ = cc in absurd no
  event_keeps (events.Acknowledges s number) old new i h is = let no : ⊥ = cc in absurd no
  event_keeps (events.RefusesCall s why) old new i h is = let no : ⊥ = cc in absurd no
  event_keeps events.Fails old new i h is = let no : ⊥ = cc in absurd no
  event_keeps (events.Opens number) old new i h is = let no : ⊥ = cc in absurd no

  keeps_twice : (old middle new : Engine B) → Keeps k old middle → Keeps k middle new → Keeps k old new
  keeps_twice old middle new first later = record {
    stands = λ e. later.stands e ∙ first.stands e;
    older = later.older ∙ first.older;
    oldest = later.oldest ∙ first.oldest;
    failed = later.failed ∙ first.failed;
  }

  undo_keeps : (list : List (Happening B)) (old new : Engine B) (m : Machine B) → IsSound k old → SeenAs k old m → AreHappenings k old list new
      → All OfOpening list → Keeps k old new
  undo_keeps [] old new m i seen same all =
      subst (Keeps k old) (sym same) (record { stands = λ e. refl; older = refl; oldest = refl; failed = refl })
  undo_keeps (event ∷ list) old new m i seen run all =
      let f : Follows k m (step_of event) run.0 = event_follows k l old m i seen event run.0 run.1 in
      keeps_twice old run.0 new (event_keeps event old run.0 i run.1 (All-head OfOpening event list all))
      (undo_keeps list run.0 new f.next (still_sound k l old run.0 m (step_of event) i seen f) f.seen run.2 (All-tail OfOpening event list all))

  module _ (number : ℕ) (losers : List (List (Note B))) (old middle : Engine B) (m : Machine B) (i : IsSound k old) (seen : SeenAs k old m) (r : IsReopened k number losers old middle) where
    left : IsSetOf k (kept k number old) (machine.set_of number m)
    left = kept_set k l old m i seen number r.rises r.sealed

    -- the kept set is left, so it is seen as that machine
    pub reopened_as : SeenAs k middle (losing_machine number (machine.set_of number m) losers)
    reopened_as = reopened_seen k number losers (machine.set_of number m) old middle left r

    module _ (new : Engine B) (are : AreLosers k losers) (list : List (Happening B)) (run : AreHappenings k middle list new) (all : All OfOpening list) (free : new.slots ≡ replicate SESSIONS Free) where
      -- undone and ended, it is opened
      pub reopened_opens : IsOpened k number old new
      reopened_opens =
          let keeps : Keeps k middle new =
          undo_keeps list middle new (losing_machine number (machine.set_of number m) losers) (reopened_sound k losers middle are r.slots r.older) reopened_as run all in
          record {
            rises = r.rises;
            sealed = r.sealed;
            live = λ e. sym (ap (λ slots. unwrap_or (noted_in k e slots) (new.live e)) free) ∙ keeps.stands e ∙ r.stands e;
            slots = free;
            older = keeps.older ∙ r.older;
            oldest = keeps.oldest ∙ r.oldest;
            failed = keeps.failed ∙ r.failed;
          }

      pub reopened_run : RunsAs k m (runs.Crashes number ∷ []) new
      reopened_run = run_follows k l (events.Opens number ∷ []) old new m i seen (new, reopened_opens, refl)

    -- a crash in the midst of it, and another opening, are one opening of what was lost first
    module _ (list : List (Happening B)) (cut : Engine B) (are : AreLosers k losers) (run : AreHappenings k middle list cut) (all : All OfOpening list)
        (again : ℕ) (left_over : List (List (Note B))) (new : Engine B) (r2 : IsReopened k again left_over cut new) where
      kept_on : Keeps k middle cut
      kept_on = undo_keeps list middle cut (losing_machine number (machine.set_of number m) losers) (reopened_sound k losers middle are r.slots r.older) reopened_as run all

      cut_at : cut.oldest ≡ number
      cut_at = kept_on.oldest ∙ r.oldest

      cut_last : last_number cut ≡ number
      cut_last =
          let none : length cut.older ≡ 0 = ap length (kept_on.older ∙ r.older) in
          let first = cut_at in
          omega (arith, none, first)

      pub same_number : again ≡ number
      same_number = let low = r2.rises in let high = r2.sealed in let first = cut_at in let last = cut_last in omega (arith, low, high, first, last)

      pub reopened_again : IsReopened k number left_over old new
      reopened_again = record {
        rises = r.rises;
        sealed = r.sealed;
        stands = λ e.
            r2.stands e ∙ ap (λ n. kept k n cut e) (same_number ∙ sym cut_last) ∙ last_is_stood k cut e ∙ kept_on.stands e ∙ r.stands e;
        slots = r2.slots;
        older = r2.older;
        oldest = r2.oldest ∙ same_number;
        failed = r2.failed;
      }
