-- The log goes on: a batch begins, pages are written, a gate is synced, a new log is put in its place.
use Rattle.std.proofs.Common.{◌≡◌, ℕ, ◌+◌, ◌-◌, ◌<◌, ◌≤◌, Bool, true, false, not, ◌&&◌, List, [], ◌++◌, length, refl, ap, sym, ◌∙◌, subst, arith}
use Rattle.std.specs.Prelude.{is_some, option_map, drop}
use Rattle.std.specs.List.{slice_index_or}
use Rattle.std.proofs.lemmas.List.{append-nil, get_or-drop}
use Rattle.std.proofs.lemmas.List.{append_assoc, length-drop}
use Rattle.gx_machine.specs.declared.entry.Entry.{Entry}
use Rattle.gx_machine.specs.Sets.{IsSetOf}
use Rattle.gx_machine.proofs.SetsByTests.{set_of_a_test_that_agrees}
use Rattle.gx_node.specs.Trees.{Tree}
use Rattle.gx_events.specs.Slots.{slot_at}
use Rattle.gx_events.specs.Engines.{IsSame, last_number}
use Rattle.gx_events.specs.Happenings as events
use Rattle.gx_events.specs.Happenings.{IsDurable}
use Rattle.gx_events.proofs.WhatStood.{event_stood}
use Rattle.gx_recovery.specs.Known.{Known}
use Rattle.gx_recovery.specs.Records.{Record, settled, any_number}
use Rattle.gx_recovery.specs.Analysis.{analysis, lists}
use Rattle.gx_recovery.specs.Redo.{tree_of, redone}
use Rattle.gx_recovery.specs.Standing.{own_before}
use Rattle.gx_recovery.specs.Damage.{is_transaction}
use Rattle.gx_recovery.specs.Logged.{Logged, all_records, durable, latest, kept, IsHealthy, begun, gate_synced, AgreesBeside}
use Rattle.gx_recovery.specs.Renewal.{renewed}
use Rattle.gx_recovery.specs.Life.{kept_of, AreSame, AreFewer, AllWritten}
use Rattle.gx_recovery.proofs.Tests.{and_first, and_second}
use Rattle.gx_recovery.proofs.Logs.{untrue, told_log}
use Rattle.gx_recovery.proofs.Told.{Told}
use Rattle.gx_recovery.proofs.States.{tree_agrees}
use Rattle.gx_recovery.proofs.Lives.{begun_healthy, begun_stays, written_healthy, written_stays, synced_healthy, synced_moves}
use Rattle.gx_recovery.proofs.Moves.{checkpoint_healthy, checkpoint_stays}
use Rattle.gx_recovery.proofs.Renewals.{same_touched, same_tree, renewed_is_log}
use Rattle.gx_recovery.proofs.Unnamed.{renewed_open, renewed_marks}
use Rattle.gx_recovery.proofs.Numbers.{next_renewed}
use Rattle.gx_index_laws.specs.Classes.{Class, Page, IsLawful, is_live, tree_in, known_of}
use Rattle.gx_index_laws.specs.States.{State, tree_after, tree_now, engine_of}
use Rattle.gx_index_laws.specs.Working.{DoesWork, AreRestored}
use Rattle.gx_index_laws.specs.Whole.{HasTransaction, IsHad, IsTied, KeepsSets, IsWhole}
use Rattle.gx_index_laws.specs.Happening.{Happens}
use Rattle.gx_index_laws.proofs.Standing.{known_lawful, tells}
use Rattle.gx_index_laws.proofs.Happens.{happens, sets_stay}
use Rattle.gx_index_laws.proofs.Paging.{tied_alike}

module _ {B : Type 0} (c : Class B) (l : IsLawful c) (old : State B) (w : IsWhole c old) where
  abbrev k : Known (Entry B) (Page B)
  k = known_of c

  abbrev log : List (Record (Entry B) (Page B))
  log = all_records old.log

  -- A log that has the same tree.
  module _ (after_it : Logged (Entry B) (Page B)) (tree : tree_of k after_it.area (all_records after_it) ≡ tree_of k old.log.area log) where
    same_nodes : tree_after c after_it ≡ tree_now c old
    same_nodes = ap tree_in tree

    same_live : (e : Entry B) → is_live c (tree_after c after_it) e ≡ is_live c (tree_now c old) e
    same_live e = ap (λ (t : Tree B). is_live c t e) same_nodes

    works_on : (a : ℕ) → DoesWork c (tree_after c after_it) (slot_at a old.slots) (old.work a)
    works_on a = subst (λ (t : Tree B). DoesWork c t (slot_at a old.slots) (old.work a)) (sym same_nodes) (w.works a)

    restored_on : (a : ℕ) → AreRestored c.keys (is_live c (tree_after c after_it)) (slot_at a old.slots) (old.restored a)
    restored_on a = subst (λ (t : Tree B). AreRestored c.keys (is_live c t) (slot_at a old.slots) (old.restored a)) (sym same_nodes) (w.restored a)

    -- it works on, if the kept sets stay
    goes_on : IsHealthy k after_it → IsTied c (record old { log = after_it }) → (analysis k (all_records after_it)).next ≤ old.next → AreSame (kept_of k old.log) (kept_of k after_it)
        → Happens c old events.Works (record old { log = after_it })
    goes_on healthy tied next same =
        let alike : IsSame (engine_of c (record old { log = after_it })) (engine_of c old) = record { live = same_live; slots = refl; older = refl; oldest = refl; failed = refl } in
        happens c l old w events.Works (record old { log = after_it }) alike (record {
          healthy = healthy;
          works = works_on;
          restored = restored_on;
          tied = tied;
          next = next;
          sets = sets_stay c l old w events.Works (record old { log = after_it }) alike refl same refl refl;
        })

  -- The records are the same ones.
  same_tied : (after_it : Logged (Entry B) (Page B)) → all_records after_it ≡ log → IsTied c (record old { log = after_it })
  same_tied after_it same = tied_alike c l old w after_it (λ t. ap (settled any_number t) same) (λ t e. ap (own_before k t e) same)

  same_next : (after_it : Logged (Entry B) (Page B)) → all_records after_it ≡ log → (analysis k (all_records after_it)).next ≤ old.next
  same_next after_it same = subst (λ x. (analysis k x).next ≤ old.next) (sym same) w.next

  pub begins : old.log.flight ≡ [] → Happens c old events.Works (record old { log = begun old.log })
  begins none =
      let same : all_records (begun old.log) ≡ log = ap (λ x. old.log.gated ++ x) (append-nil old.log.filling ∙ sym (ap (λ x. x ++ old.log.filling) none)) in
      goes_on (begun old.log) (ap (tree_of k old.log.area) same) (begun_healthy k old.log w.healthy none) (same_tied (begun old.log) same) (same_next (begun old.log) same)
      (begun_stays k old.log w.healthy none)

  pub writes_pages : (area : ℕ → Page B) → AgreesBeside old.log.gated old.log.area area → Happens c old events.Works (record old { log = record old.log { area = area } })
  writes_pages area agrees =
      goes_on (record old.log { area = area }) (tree_agrees k (known_lawful c l) old.log.gated (old.log.flight ++ old.log.filling) old.log.area area agrees)
      (written_healthy k old.log w.healthy (known_lawful c l) area agrees) (same_tied (record old.log { area = area }) refl) (same_next (record old.log { area = area }) refl)
      (written_stays k old.log w.healthy (known_lawful c l) area agrees)

  -- A gate's sync: commits are durable, and older sets go.
  module _ (works : old.failed ≡ false) where
    abbrev then_log : Logged (Entry B) (Page B)
    then_log = gate_synced old.log

    abbrev number : ℕ
    number = durable k then_log

    abbrev later : State B
    later = record old { log = then_log; older = drop (number - old.oldest) old.older; oldest = number }

    same_records : all_records then_log ≡ log
    same_records = append_assoc old.log.gated old.log.flight old.log.filling

    fewer : AreFewer (kept_of k old.log) (kept_of k then_log)
    fewer = synced_moves k (known_lawful c l) old.log w.healthy

    rises : old.oldest ≤ number
    rises = subst (λ m. m ≤ number) (sym w.sets.first) fewer.first

    high : number ≤ last_number (engine_of c old)
    high = (let a = fewer.some_left in let b = fewer.last in let e = w.sets.last in omega (arith, a, b, e))

    is_durable : IsDurable number (engine_of c old) (engine_of c later)
    is_durable = record {
      works = works;
      rises = rises;
      sealed = high;
      is = record { live = same_live then_log (ap (tree_of k old.log.area) same_records); slots = refl; older = refl; oldest = refl; failed = refl };
    }

    long : length (drop (number - old.oldest) old.older) ≡ length old.older - (number - old.oldest)
    long = length-drop (number - old.oldest) old.older

    synced_sets : KeepsSets c later
    synced_sets = record {
      first = refl;
      last = (let a = rises in let b = high in let d = long in let e = w.sets.last in let f = fewer.last in omega (arith, a, b, d, e, f));
      sets = λ n low.
          let at : old.oldest + ((number - old.oldest) + n) ≡ number + n = (let a = rises in omega (arith, a)) in
          let below : (number - old.oldest) + n < length old.older = (let d = long in omega (arith, low, d)) in
          let up : number + n ≤ latest k old.log = (let e = w.sets.last in omega (arith, below, at, e)) in
          subst (IsSetOf c.keys (kept k then_log (number + n))) (sym (get_or-drop (number - old.oldest) old.older n []))
          (set_of_a_test_that_agrees c.keys l.keys (kept k old.log (old.oldest + ((number - old.oldest) + n))) (kept k then_log (number + n))
          (slice_index_or old.older ((number - old.oldest) + n) [])
          (λ e. ap (λ m. kept k old.log m e) at ∙ sym (fewer.sets (number + n) (omega arith) up e)) (w.sets.sets ((number - old.oldest) + n) below));
      stands = λ e.
          event_stood c.keys l.keys (engine_of c old) w.sound (events.Durable number) (engine_of c later) is_durable refl e ∙ w.sets.stands e
          ∙ sym (ap (λ m. kept k then_log m e) fewer.last ∙ fewer.sets (latest k old.log) (let a = fewer.some_left in let b = fewer.last in omega (arith, a, b)) (omega arith) e);
    }

    pub synced : Happens c old (events.Durable number) later
    synced = happens c l old w (events.Durable number) later is_durable (record {
      healthy = synced_healthy k (known_lawful c l) old.log w.healthy;
      works = works_on then_log (ap (tree_of k old.log.area) same_records);
      restored = restored_on then_log (ap (tree_of k old.log.area) same_records);
      tied = later_tied;
      next = same_next then_log same_records;
      sets = synced_sets;
    })
      where
        again : IsTied c (record old { log = then_log })
        again = same_tied then_log same_records

        later_tied : IsTied c later
        later_tied = record {
          each = λ a busy. (let h : HasTransaction c (record old { log = then_log }) a = again.each a busy in record { open_yet = h.open_yet; below = h.below; notes = h.notes });
          own = again.own;
          had = λ t e open_yet some. (let h : IsHad (record old { log = then_log }) t = again.had t e open_yet some in record { session = h.session; busy = h.busy; has = h.has });
        }

  -- A checkpoint's new log.
  module _ (no_flight : old.log.flight ≡ []) (no_filling : old.log.filling ≡ []) (written : AllWritten old.log) (next : ℕ) where
    abbrev new_log : Logged (Entry B) (Page B)
    new_log = record old.log { gated = renewed k next old.log.gated }

    none_else : old.log.flight ++ old.log.filling ≡ []
    none_else = ap (λ x. x ++ old.log.filling) no_flight ∙ no_filling

    old_records : log ≡ old.log.gated
    old_records = ap (λ x. old.log.gated ++ x) none_else ∙ append-nil old.log.gated

    new_records : all_records new_log ≡ renewed k next old.log.gated
    new_records = ap (λ x. renewed k next old.log.gated ++ x) none_else ∙ append-nil (renewed k next old.log.gated)

    area_is : old.log.area ≡ redone old.log.area old.log.gated
    area_is = λ i p. written p i

    pub new_tree : tree_of k old.log.area (all_records new_log) ≡ tree_of k old.log.area log
    new_tree =
        ap (tree_of k old.log.area) new_records ∙ ap (λ (a : ℕ → Page B). tree_of k a (renewed k next old.log.gated)) area_is
        ∙ same_tree k (known_lawful c l) next old.log.area old.log.gated w.healthy.gated ∙ sym (ap (tree_of k old.log.area) old_records)

    now_open : (t : ℕ) → settled any_number t (all_records new_log) ≡ false
    now_open t = ap (settled any_number t) new_records ∙ renewed_open k next t old.log.gated

    now_own : (t : ℕ) (e : Entry B) → settled any_number t log ≡ false → own_before k t e (all_records new_log) ≡ own_before k t e log
    now_own t e open_yet =
        ap (own_before k t e) new_records
        ∙ renewed_marks k (known_lawful c l) next old.log.area old.log.gated w.healthy.gated t e (ap (settled any_number t) (sym old_records) ∙ open_yet)
        ∙ ap (own_before k t e) (sym old_records)

    told_now : Told k (renewed k next old.log.gated)
    told_now = told_log k (known_lawful c l) (renewed k next old.log.gated) (renewed_is_log k (known_lawful c l) next old.log.area old.log.gated w.healthy.gated)

    -- what the new log says is touched is touched in the old one, by an open transaction
    touched_before : (t : ℕ) (e : Entry B) → is_some (own_before k t e (all_records new_log)) ≡ true → (settled any_number t log ≡ false) × (is_some (own_before k t e log) ≡ true)
    touched_before t e some =
        let there : is_some (own_before k t e (renewed k next old.log.gated)) ≡ true = ap (λ x. is_some (own_before k t e x)) (sym new_records) ∙ some in
        let listed : lists k t e (analysis k (renewed k next old.log.gated)).touched ≡ true =
        told_now.listed t e ∙ ap (λ b. not b && is_some (own_before k t e (renewed k next old.log.gated))) (renewed_open k next t old.log.gated) ∙ there in
        let before : lists k t e (analysis k log).touched ≡ true =
        ap (λ x. lists k t e (analysis k x).touched) old_records
        ∙ ap (lists k t e) (sym (same_touched k (known_lawful c l) next old.log.area old.log.gated w.healthy.gated)) ∙ listed in
        let both : (not (settled any_number t log) && is_some (own_before k t e log)) ≡ true = sym ((tells c l old w).listed t e) ∙ before in
        (untrue (settled any_number t log) (and_first (not (settled any_number t log)) (is_some (own_before k t e log)) both), and_second (not (settled any_number t log)) (is_some (own_before k t e log)) both)

    open_of : (t : ℕ) (b : Bool) → (is_transaction t && not b) ≡ true → b ≡ false
    open_of t b h = untrue b (and_second (is_transaction t) (not b) h)

    new_tied : IsTied c (record old { log = new_log })
    new_tied = record {
      each = λ a busy.
          let h : HasTransaction c old a = w.tied.each a busy in
          let open_yet : settled any_number (old.transaction a) log ≡ false = open_of (old.transaction a) (settled any_number (old.transaction a) log) h.open_yet in
          record {
            open_yet = ap (λ b. is_transaction (old.transaction a) && not b) (now_open (old.transaction a) ∙ sym open_yet) ∙ h.open_yet;
            below = h.below;
            notes = λ e. h.notes e ∙ sym (ap (option_map not) (now_own (old.transaction a) e open_yet));
          };
      own = w.tied.own;
      had = λ t e open_yet some.
          let both = touched_before t e some in
          let h : IsHad old t = w.tied.had t e both.0 both.1 in
          record { session = h.session; busy = h.busy; has = h.has };
    }

    pub renews : (analysis k old.log.gated).next ≤ next → next ≤ old.next → Happens c old events.Works (record old { log = new_log })
    renews covers upto =
        goes_on new_log new_tree (checkpoint_healthy k (known_lawful c l) old.log w.healthy no_flight no_filling written next) new_tied
        (let carried = next_renewed k (known_lawful c l) next old.log.gated w.healthy.gated covers in
        let same = ap (λ x. (analysis k x).next) new_records in
        omega (arith, carried, same, upto))
        (checkpoint_stays k (known_lawful c l) old.log w.healthy no_flight no_filling written next)
