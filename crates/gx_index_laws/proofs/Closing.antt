-- A commit, and an abort's end: a record that closes the session's transaction.
use Rattle.std.proofs.Common.{◌≡◌, ◌≢◌, ℕ, ◌+◌, ◌<◌, ◌≤◌, max, Bool, true, false, not, ◌&&◌, ◌||◌, List, [], ◌∷◌, ◌++◌, length, Option, Some, None, refl, ap, sym, ◌∙◌, subst, arith}
use Rattle.std.specs.Prelude.{is_some, option_map, ◌==◌, if◌then◌else◌}
use Rattle.std.specs.List.{slice_index_or}
use Rattle.std.proofs.lemmas.Bool.{eq-eqb, ne_eqb}
use Rattle.std.proofs.lemmas.List.{get_or_append_left, length-append}
use Rattle.std.proofs.Math.Seq.{get_or-append_seam}
use Rattle.std.proofs.Math.Decide.{ℕ_discrete}
use Rattle.gx_machine.specs.declared.entry.Entry.{Entry}
use Rattle.gx_machine.specs.declared.call.Call.TheVariants.{Commit as CommitCall}
use Rattle.gx_machine.specs.Sets.{has, IsSetOf}
use Rattle.gx_machine.specs.Sessions.{Locks}
use Rattle.gx_machine.specs.Machine.{is_session}
use Rattle.gx_machine.proofs.SetsByTests.{set_of_a_test_that_agrees}
use Rattle.gx_node.specs.Trees.{Tree}
use Rattle.gx_events.specs.Slots.{Note, Slot, Free, Working, Undoing, Waiting, notes_kept, slot_at, with_slot, noted}
use Rattle.gx_events.specs.Engines.{stood}
use Rattle.gx_events.specs.Happenings as events
use Rattle.gx_events.specs.Happenings.{IsSealed, IsRestored}
use Rattle.gx_events.proofs.Standing.{working_there, undoing_there}
use Rattle.gx_events.proofs.WhatStood.{commit_stood}
use Rattle.gx_recovery.specs.Known.{Known}
use Rattle.gx_recovery.specs.Records.{Record, Commit, End, touch_of, closes, settled, any_number}
use Rattle.gx_recovery.specs.Analysis.{Analysis, analysis, read}
use Rattle.gx_recovery.specs.Redo.{tree_of, redone, redo}
use Rattle.std.specs.Option.{option_or}
use Rattle.gx_recovery.specs.Standing.{mark_before, own_before, view_of}
use Rattle.gx_recovery.specs.Damage.{is_transaction}
use Rattle.gx_recovery.specs.Coming.{MayCome}
use Rattle.gx_recovery.specs.Logged.{all_records, appended, latest, kept}
use Rattle.gx_recovery.specs.Life.{kept_of, IsAdded}
use Rattle.gx_recovery.proofs.Tests.{or_none_first, or_none_second}
use Rattle.gx_recovery.proofs.Folds.{or-none, analysis-snoc, first-snoc, settled-snoc, tree-snoc}
use Rattle.gx_recovery.proofs.Undo.{commit_may_come, end_may_come}
use Rattle.gx_recovery.proofs.Lives.{appended_healthy, appended_moves}
use Rattle.gx_index_laws.specs.Classes.{Class, Page, IsLawful, is_live, tree_in, known_of}
use Rattle.gx_index_laws.specs.States.{State, Rests, tree_after, tree_now, engine_of}
use Rattle.gx_index_laws.specs.Working.{DoesWork, AreRestored}
use Rattle.gx_index_laws.specs.Whole.{is_busy, HasTransaction, IsHad, IsTied, IsWhole}
use Rattle.gx_index_laws.specs.Happening.{Comes, changed_at, with_record, slotted}
use Rattle.gx_index_laws.proofs.Tools.{not_true}
use Rattle.gx_index_laws.proofs.Standing.{grown, known_lawful, is_log, is_good}
use Rattle.gx_index_laws.proofs.Happens.{happens, sets_stay}
use Rattle.gx_index_laws.proofs.Quiet.{here, beside, slotted_works, slotted_restored}

and_true : (b : Bool) → (b && true) ≡ b
and_true true = refl
and_true false = refl

module _ {B : Type 0} (c : Class B) (l : IsLawful c) (old : State B) (w : IsWhole c old) where
  abbrev k : Known (Entry B) (Page B)
  k = known_of c

  abbrev log : List (Record (Entry B) (Page B))
  log = all_records old.log

  -- A record of session s that closes its transaction and says nothing of pages.
  module _ (s : ℕ) (busy : is_busy (slot_at s old.slots) ≡ true) (there : is_session s ≡ true) (x : Slot B) (freed : is_busy x ≡ false)
      (r : Record (Entry B) (Page B)) (touches : touch_of r ≡ None) (shuts : (t : ℕ) → closes any_number t r ≡ (old.transaction s == t))
      (same_tree : tree_of k old.log.area (all_records (appended r old.log)) ≡ tree_of k old.log.area log)
      (next_is : (read k (analysis k log) r).next ≡ max (analysis k log).next (old.transaction s + 1)) (may_come : MayCome k old.log.area log r) (older : List (List (Entry B))) where
    abbrev then_state : State B
    then_state = record (slotted s x Rests (with_record r old)) { older = older }

    closed_now : (t : ℕ) → settled any_number t (all_records (appended r old.log)) ≡ (settled any_number t log || (old.transaction s == t))
    closed_now t = ap (settled any_number t) (grown r old.log) ∙ settled-snoc k any_number t log r ∙ ap (λ b. settled any_number t log || b) (shuts t)

    own_now : (t : ℕ) (e : Entry B) → own_before k t e (all_records (appended r old.log)) ≡ own_before k t e log
    own_now t e =
        ap (own_before k t e) (grown r old.log) ∙ first-snoc k (λ u. u == t) e log r
        ∙ ap (λ o. option_or (own_before k t e log) (mark_before k (λ u. u == t) e o)) touches ∙ or-none (own_before k t e log)

    or_false : (b : Bool) → (b || false) ≡ b
    or_false true = refl
    or_false false = refl

    open_still : (t : ℕ) → old.transaction s ≢ t → settled any_number t (all_records (appended r old.log)) ≡ settled any_number t log
    open_still t ne = closed_now t ∙ ap (λ b. settled any_number t log || b) (ne_eqb (old.transaction s) t ne) ∙ or_false (settled any_number t log)

    not_itself : (a : ℕ) → is_busy (slot_at a (with_slot s x old.slots)) ≡ true → a ≢ s
    not_itself a now same = not_true (is_busy x) (sym (ap is_busy (here c l old w s there x Rests)) ∙ ap (λ (n : ℕ). is_busy (slot_at n (with_slot s x old.slots))) (sym same) ∙ now) freed

    was_busy : (a : ℕ) → is_busy (slot_at a (with_slot s x old.slots)) ≡ true → is_busy (slot_at a old.slots) ≡ true
    was_busy a now = ap is_busy (sym (beside c l old w s there x Rests a (not_itself a now))) ∙ now

    closed_tied : IsTied c then_state
    closed_tied = record {
      each = λ a now.
          let ne : a ≢ s = not_itself a now in
          let h : HasTransaction c old a = w.tied.each a (was_busy a now) in
          let other : old.transaction s ≢ old.transaction a = λ p. ne (w.tied.own a s (was_busy a now) busy (sym p)) in
          record {
            open_yet = ap (λ b. is_transaction (old.transaction a) && not b) (open_still (old.transaction a) other) ∙ h.open_yet;
            below = h.below;
            notes = λ e.
                ap (λ (y : Slot B). noted c.keys e (notes_kept y)) (beside c l old w s there x Rests a ne) ∙ h.notes e
                ∙ sym (ap (option_map not) (own_now (old.transaction a) e));
          };
      own = λ a b first second same. w.tied.own a b (was_busy a first) (was_busy b second) same;
      had = λ t e open_yet some.
          let both : (settled any_number t log || (old.transaction s == t)) ≡ false = sym (closed_now t) ∙ open_yet in
          let h : IsHad old t = w.tied.had t e (or_none_first (settled any_number t log) (old.transaction s == t) both) (ap is_some (sym (own_now t e)) ∙ some) in
          let ne : h.session ≢ s = λ p.
          not_true (old.transaction s == t) (eq-eqb (old.transaction s) t (ap old.transaction (sym p) ∙ h.has)) (or_none_second (settled any_number t log) (old.transaction s == t) both) in
          record { session = h.session; busy = ap is_busy (beside c l old w s there x Rests h.session ne) ∙ h.busy; has = h.has };
    }

    same_nodes : tree_after c (appended r old.log) ≡ tree_now c old
    same_nodes = ap tree_in same_tree

    closed_next : (analysis k (all_records (appended r old.log))).next ≤ old.next
    closed_next =
        let below = (w.tied.each s busy).below in
        let was = w.next in
        let is : (analysis k (all_records (appended r old.log))).next ≡ max (analysis k log).next (old.transaction s + 1) =
        ap (λ (a : Analysis (Entry B)). a.next) (ap (analysis k) (grown r old.log) ∙ analysis-snoc k log r) ∙ next_is in
        omega (arith, below, was, is)

    closed_works : (a : ℕ) → DoesWork c (tree_after c (appended r old.log)) (slot_at a (with_slot s x old.slots)) (changed_at s Rests old.work a)
    closed_works a = subst (λ (t : Tree B). DoesWork c t (slot_at a (with_slot s x old.slots)) (changed_at s Rests old.work a)) (sym same_nodes) (slotted_works c l old w s there x Rests tt a)

    closed_restored : (a : ℕ) → AreRestored c.keys (is_live c (tree_after c (appended r old.log))) (slot_at a (with_slot s x old.slots)) (changed_at s [] old.restored a)
    closed_restored a =
        subst (λ (t : Tree B). AreRestored c.keys (is_live c t) (slot_at a (with_slot s x old.slots)) (changed_at s [] old.restored a)) (sym same_nodes) (slotted_restored c l old w s there x Rests a)

  -- A commit or an end doesn't change the tree.
  pub quiet_tree : (r : Record (Entry B) (Page B)) → redo (redone old.log.area log) r ≡ redone old.log.area log → (read k (analysis k log) r).counter ≡ (analysis k log).counter
      → (read k (analysis k log) r).used ≡ (analysis k log).used → tree_of k old.log.area (all_records (appended r old.log)) ≡ tree_of k old.log.area log
  quiet_tree r pages counter used =
      ap (tree_of k old.log.area) (grown r old.log) ∙ tree-snoc k old.log.area log r
      ∙ (λ i. record { page = pages i; counter = counter i; used = used i })

  module _ (works : old.failed ≡ false) (s : ℕ) (locks : Locks B) (notes : List (Note B)) where
    some_mapped : (o : Option Bool) → is_some (option_map not o) ≡ is_some o
    some_mapped None = refl
    some_mapped (Some b) = refl

    -- A commit.
    module _ (at : slot_at s old.slots ≡ Working locks notes (Some CommitCall)) (set : List (Entry B)) (is_set : IsSetOf c.keys (stood c.keys (engine_of c old)) set) where
      abbrev t : ℕ
      t = old.transaction s

      abbrev number : ℕ
      number = latest k old.log + 1

      abbrev r : Record (Entry B) (Page B)
      r = Commit t number

      abbrev later : State B
      later = record (slotted s (Waiting number) Rests (with_record r old)) { older = old.older ++ set ∷ [] }

      busy : is_busy (slot_at s old.slots) ≡ true
      busy = ap is_busy at

      there : is_session s ≡ true
      there = working_there c.keys l.keys (engine_of c old) w.sound s locks notes (Some CommitCall) at

      commit_comes : MayCome k old.log.area log r
      commit_comes = commit_may_come k (known_lawful c l) old.log.area log (is_log c l old w) (is_good c l old w) t (w.tied.each s busy).open_yet

      same_tree : tree_of k old.log.area (all_records (appended r old.log)) ≡ tree_of k old.log.area log
      same_tree = quiet_tree r refl refl refl

      adds : IsAdded (view_of k t old.log.area log) (kept_of k old.log) (kept_of k (appended r old.log))
      adds = appended_moves k (known_lawful c l) old.log w.healthy r commit_comes

      is_sealed : IsSealed c.keys s set number (engine_of c old) (engine_of c later)
      is_sealed = record {
        works = works;
        locks = locks;
        notes = notes;
        asked = at;
        next = (let e = w.sets.last in omega (arith, e));
        stands = is_set;
        is = record { live = λ e. ap (λ (x : Tree B). is_live c x e) (ap tree_in same_tree); slots = refl; older = refl; oldest = refl; failed = refl };
      }

      old_kept : (n : ℕ) → old.oldest ≤ n → n ≤ latest k old.log → (e : Entry B) → kept k (appended r old.log) n e ≡ kept k old.log n e
      old_kept n from to e = adds.sets n (subst (λ m. m ≤ n) w.sets.first from) to e

      set_by : (n : ℕ) → n < length (old.older ++ set ∷ []) → IsSetOf c.keys (kept k (appended r old.log) (old.oldest + n)) (slice_index_or (old.older ++ set ∷ []) n [])
      set_by n low =
          elim (ℕ_discrete n (length old.older)) [
            | yes same ↦
                (let found : slice_index_or (old.older ++ set ∷ []) n [] ≡ set = ap (λ m. slice_index_or (old.older ++ set ∷ []) m []) same ∙ get_or-append_seam old.older set [] [] in
                let last : old.oldest + n ≡ latest k old.log = (let e = w.sets.last in omega (arith, e, same)) in
                subst (IsSetOf c.keys (kept k (appended r old.log) (old.oldest + n))) (sym found)
                (set_of_a_test_that_agrees c.keys l.keys (stood c.keys (engine_of c old)) (kept k (appended r old.log) (old.oldest + n)) set
                (λ e. w.sets.stands e ∙ ap (λ m. kept k old.log m e) (sym last) ∙ sym (old_kept (old.oldest + n) (omega arith) (omega (arith, last)) e)) is_set))
            | no ne ↦
                (let long = length-append old.older (set ∷ []) in
                let below : n < length old.older = omega (arith, low, long, ne) in
                let high : old.oldest + n ≤ latest k old.log = (let e = w.sets.last in omega (arith, e, below)) in
                subst (IsSetOf c.keys (kept k (appended r old.log) (old.oldest + n))) (sym (get_or_append_left old.older (set ∷ []) [] n below))
                (set_of_a_test_that_agrees c.keys l.keys (kept k old.log (old.oldest + n)) (kept k (appended r old.log) (old.oldest + n)) (slice_index_or old.older n [])
                (λ e. sym (old_kept (old.oldest + n) (omega arith) high e)) (w.sets.sets n below)))
          ]

      pub sealed : Comes c old r (events.Seals s set number) later
      sealed = record {
        may_come = commit_comes;
        happens = happens c l old w (events.Seals s set number) later is_sealed (record {
          healthy = appended_healthy k (known_lawful c l) old.log w.healthy r commit_comes;
          works = closed_works s busy there (Waiting number) refl r refl (λ u. and_true (t == u)) same_tree refl commit_comes (old.older ++ set ∷ []);
          restored = closed_restored s busy there (Waiting number) refl r refl (λ u. and_true (t == u)) same_tree refl commit_comes (old.older ++ set ∷ []);
          tied = closed_tied s busy there (Waiting number) refl r refl (λ u. and_true (t == u)) same_tree refl commit_comes (old.older ++ set ∷ []);
          next = closed_next s busy there (Waiting number) refl r refl (λ u. and_true (t == u)) same_tree refl commit_comes (old.older ++ set ∷ []);
          sets = record {
            first = w.sets.first;
            last = (let long = length-append old.older (set ∷ []) in let e = w.sets.last in let more = adds.last in omega (arith, long, e, more));
            sets = set_by;
            stands = λ e.
                commit_stood c.keys l.keys (engine_of c old) w.sound s set number (engine_of c later) is_sealed e
                ∙ ap (λ b. if b then is_live c (tree_now c old) e else stood c.keys (engine_of c old) e)
                (ap is_some ((w.tied.each s busy).notes e) ∙ some_mapped (own_before k t e log))
                ∙ ap (λ b. if is_some (own_before k t e log) then is_live c (tree_now c old) e else b) (w.sets.stands e)
                ∙ sym (adds.added e);
          };
        });
      }

    -- An abort's end.
    module _ (at : slot_at s old.slots ≡ Undoing locks notes) (all : (e : Entry B) (was : Bool) → noted c.keys e notes ≡ Some was → has c.keys e (old.restored s) ≡ true) where
      restored_each : (e : Entry B) (was : Bool) → noted c.keys e notes ≡ Some was → is_live c (tree_now c old) e ≡ was
      restored_each e was is = subst (λ (x : Slot B). AreRestored c.keys (is_live c (tree_now c old)) x (old.restored s)) at (w.restored s) e was (all e was is) is

      busy_end : is_busy (slot_at s old.slots) ≡ true
      busy_end = ap is_busy at

      there_end : is_session s ≡ true
      there_end = undoing_there c.keys l.keys (engine_of c old) w.sound s locks notes at

      abbrev done : Record (Entry B) (Page B)
      done = End (old.transaction s)

      end_comes : MayCome k old.log.area log done
      end_comes = end_may_come k (known_lawful c l) old.log.area log (is_log c l old w) (is_good c l old w) (old.transaction s) (w.tied.each s busy_end).open_yet
          (λ e before own. restored_each e (not before)
          (ap (λ (x : Slot B). noted c.keys e (notes_kept x)) (sym at) ∙ (w.tied.each s busy_end).notes e ∙ ap (option_map not) own))

      end_tree : tree_of k old.log.area (all_records (appended done old.log)) ≡ tree_of k old.log.area log
      end_tree = quiet_tree done refl refl refl

      is_restored : IsRestored c.keys s (engine_of c old) (engine_of c (slotted s Free Rests (with_record done old)))
      is_restored = record {
        works = works;
        locks = locks;
        notes = notes;
        aborts = at;
        restored = restored_each;
        is = record { live = λ e. ap (λ (x : Tree B). is_live c x e) (ap tree_in end_tree); slots = refl; older = refl; oldest = refl; failed = refl };
      }

      pub ended : Comes c old done (events.EndsUndo s) (slotted s Free Rests (with_record done old))
      ended = record {
        may_come = end_comes;
        happens = happens c l old w (events.EndsUndo s) (slotted s Free Rests (with_record done old)) is_restored (record {
          healthy = appended_healthy k (known_lawful c l) old.log w.healthy done end_comes;
          works = closed_works s busy_end there_end Free refl done refl (λ u. refl) end_tree refl end_comes old.older;
          restored = closed_restored s busy_end there_end Free refl done refl (λ u. refl) end_tree refl end_comes old.older;
          tied = closed_tied s busy_end there_end Free refl done refl (λ u. refl) end_tree refl end_comes old.older;
          next = closed_next s busy_end there_end Free refl done refl (λ u. refl) end_tree refl end_comes old.older;
          sets = sets_stay c l old w (events.EndsUndo s) (slotted s Free Rests (with_record done old)) is_restored refl
              (appended_moves k (known_lawful c l) old.log w.healthy done end_comes) refl refl;
        });
      }
