-- What happens, from its parts: the engine's event, and what the event leaves of the log, the tree and the tables.
use Rattle.std.proofs.Common.{◌≡◌, ℕ, ◌+◌, ◌<◌, ◌≤◌, false, List, [], ◌∷◌, length, refl, ap, sym, ◌∙◌, subst, arith}
use Rattle.std.specs.List.{slice_index_or}
use Rattle.gx_machine.specs.declared.entry.Entry.{Entry}
use Rattle.gx_machine.specs.Sets.{IsSetOf}
use Rattle.gx_machine.proofs.SetsByTests.{set_of_a_test_that_agrees}
use Rattle.gx_events.specs.Slots.{slot_at}
use Rattle.gx_events.specs.Happenings.{Happening, IsHappening, step_of}
use Rattle.gx_events.specs.Kinds.{changes_what_stood}
use Rattle.gx_events.proofs.Claims.{claims_stay_few}
use Rattle.gx_events.proofs.Follow.{Follows}
use Rattle.gx_events.proofs.Faults.{event_follows}
use Rattle.gx_events.proofs.EventRuns.{still_sound, run_follows}
use Rattle.gx_events.proofs.WhatStood.{event_stood}
use Rattle.gx_recovery.specs.Analysis.{analysis}
use Rattle.gx_recovery.specs.Logged.{all_records, kept, IsHealthy}
use Rattle.gx_recovery.specs.Life.{kept_of, AreSame}
use Rattle.gx_index_laws.specs.Classes.{Class, IsLawful, known_of}
use Rattle.gx_index_laws.specs.States.{State, tree_now, engine_of}
use Rattle.gx_index_laws.specs.Working.{DoesWork, AreRestored}
use Rattle.gx_index_laws.specs.Whole.{IsTied, KeepsSets, IsWhole}
use Rattle.gx_index_laws.specs.Happening.{Happens}

-- what an event leaves, beside what the engine's laws say of it
pub record Leaves {B : Type 0} (c : Class B) (s : State B) : Type 0 where
  pub healthy : IsHealthy (known_of c) s.log
  pub works : (a : ℕ) → DoesWork c (tree_now c s) (slot_at a s.slots) (s.work a)
  pub restored : (a : ℕ) → AreRestored c.keys (engine_of c s).live (slot_at a s.slots) (s.restored a)
  pub tied : IsTied c s
  pub next : (analysis (known_of c) (all_records s.log)).next ≤ s.next
  pub sets : KeepsSets c s

module _ {B : Type 0} (c : Class B) (l : IsLawful c) (old : State B) (w : IsWhole c old) where
  pub happens : (event : Happening B) (new : State B) → IsHappening c.keys (engine_of c old) event (engine_of c new) → Leaves c new → Happens c old event new
  happens event new is left =
      let f : Follows c.keys w.machine (step_of event) (engine_of c new) = event_follows c.keys l.keys (engine_of c old) w.machine w.sound w.seen event (engine_of c new) is in
      record {
        is_event = is;
        steps = λ m seen. run_follows c.keys l.keys (event ∷ []) (engine_of c old) (engine_of c new) m w.sound seen (engine_of c new, is, refl);
        whole = record {
          healthy = left.healthy;
          sound = still_sound c.keys l.keys (engine_of c old) (engine_of c new) w.machine (step_of event) w.sound w.seen f;
          few = claims_stay_few c.keys l.keys (engine_of c old) w.sound (engine_of c new) event is w.few;
          works = left.works;
          restored = left.restored;
          tied = left.tied;
          next = left.next;
          sets = left.sets;
          machine = f.next;
          seen = f.seen;
        };
      }

  -- if the log's sets stay, and so do those that are older
  pub sets_stay : (event : Happening B) (new : State B) → IsHappening c.keys (engine_of c old) event (engine_of c new) → changes_what_stood event ≡ false
      → AreSame (kept_of (known_of c) old.log) (kept_of (known_of c) new.log) → new.oldest ≡ old.oldest → new.older ≡ old.older → KeepsSets c new
  sets_stay event new is stays same oldest older =
      let last : new.oldest + length new.older ≡ old.oldest + length old.older = ap (λ (n : ℕ). n + length new.older) oldest ∙ ap (λ (xs : List (List (Entry B))). old.oldest + length xs) older in
      record {
        first = oldest ∙ w.sets.first ∙ sym same.first;
        last = last ∙ w.sets.last ∙ sym same.last;
        sets = λ n low.
            let below : n < length old.older = subst (λ (xs : List (List (Entry B))). n < length xs) older low in
            let from : (kept_of (known_of c) old.log).first ≤ old.oldest + n = (let e = w.sets.first in omega (arith, e)) in
            let to : old.oldest + n ≤ (kept_of (known_of c) old.log).last = (let e = w.sets.last in omega (arith, e, below)) in
            subst (λ (o : ℕ). IsSetOf c.keys (kept (known_of c) new.log (o + n)) (slice_index_or new.older n [])) (sym oldest)
            (subst (λ (xs : List (List (Entry B))). IsSetOf c.keys (kept (known_of c) new.log (old.oldest + n)) (slice_index_or xs n [])) (sym older)
            (set_of_a_test_that_agrees c.keys l.keys (kept (known_of c) old.log (old.oldest + n)) (kept (known_of c) new.log (old.oldest + n)) (slice_index_or old.older n [])
            (λ e. sym (same.sets (old.oldest + n) from to e)) (w.sets.sets n below)));
        stands = λ e.
            event_stood c.keys l.keys (engine_of c old) w.sound event (engine_of c new) is stays e ∙ w.sets.stands e
            ∙ sym (ap (λ (n : ℕ). kept (known_of c) new.log n e) same.last ∙ same.sets (kept_of (known_of c) old.log).last (let a = w.sets.first in let b = w.sets.last in omega (arith, a, b)) (omega arith) e);
      }

  -- the log's sets, if nothing of the log changes
  pub same_sets : AreSame (kept_of (known_of c) old.log) (kept_of (known_of c) old.log)
  same_sets = record { first = refl; last = refl; sets = λ number from to e. refl }
