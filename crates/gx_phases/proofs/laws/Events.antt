-- Each move is an event of the engine's laws.
use Rattle.std.proofs.Common.{◌≡◌, ℕ, ◌+◌, ◌-◌, ◌<◌, ◌≤◌, Bool, true, false, not, List, [], ◌∷◌, ◌++◌, length, map, drop, get_or, refl, ap, sym, ◌∙◌, arith, subst}
use Rattle.std.proofs.lemmas.List.{set-get_or}
use Rattle.gx_machine.specs.declared.entry.Entry.{Entry}
use Rattle.gx_machine.specs.declared.call.Call.{Call}
use Rattle.gx_machine.specs.declared.call.Call.TheVariants.{Commit}
use Rattle.gx_machine.specs.Keys.{Keys, IsLawful}
use Rattle.gx_machine.specs.Sets.{IsSetOf}
use Rattle.gx_machine.specs.Machine.{is_session}
use Rattle.gx_txn.specs.declared.note.Note as txn
use Rattle.gx_txn.specs.Notes.{noting}
use Rattle.gx_txn.specs.Tables.{Held, nothing_held, with_notes}
use Rattle.gx_events.specs.Slots as slots
use Rattle.gx_events.specs.Slots.{Slot, slot_at, with_slot}
use Rattle.gx_events.specs.Engines.{stood}
use Rattle.gx_events.specs.Happenings.{IsWritten, IsClosed, IsSealed, IsDurable, IsAcknowledged, IsUndone, IsRestored, marked}
use Rattle.gx_phases.specs.declared.phase.Phase.{Phase}
use Rattle.gx_phases.specs.declared.phase.Phase.TheVariants as phase
use Rattle.gx_phases.specs.States.{State, slot_of, slots_of, note_of, phase_at, held_at, with_phase, with_phase_of, engine_of, IsKept}
use Rattle.gx_phases.specs.Moves.{answered_state, written_state, sealed_state, ended_state, synced_state}
use Rattle.gx_phases.specs.Restoring.{AreRestored}
use Rattle.gx_phases.proofs.Slots.{slots_at, slots_set, slot_here}
use Rattle.gx_phases.proofs.Keeping.{low}
use Rattle.gx_phases.proofs.Noting.{noting_notes}
use Rattle.gx_phases.proofs.Undoing.{IsNoted, each_noted, one_more_restored, all_restored}

-- commits get durable
pub is_durable : {B W : Type 0} (k : Keys B) (live : Entry B → Bool) (older : List (List (Entry B))) (old : State B W) → old.failed ≡ false
    → old.durable + length older ≡ old.latest → (number : ℕ) → old.durable ≤ number → number ≤ old.latest
    → IsDurable number (engine_of live older old) (engine_of live (drop (number - old.durable) older) (synced_state number old))
is_durable k live older old works many number rises sealed = record {
  works = works;
  rises = rises;
  sealed = omega (arith, many, sealed);
  is = record { live = λ e. refl; slots = refl; older = refl; oldest = refl; failed = refl };
}

module _ {B W : Type 0} (k : Keys B) (live : Entry B → Bool) (older : List (List (Entry B))) (old : State B W) (kept : IsKept k old) (works : old.failed ≡ false)
    (s : ℕ) (is : is_session s ≡ true) where
  abbrev h : Held B
  h = held_at (s - 1) old.table

  abbrev all : List (Slot B)
  all = slots_of old.phases old.table

  same : length old.phases ≡ length old.table
  same = kept.phases ∙ sym kept.table

  -- the session's slot
  slot_is : (q : Phase B W) → phase_at (s - 1) old.phases ≡ q → slot_at s all ≡ slot_of q h
  slot_is q at = slot_here s old.phases old.table is same ∙ ap (λ (x : Phase B W). slot_of x h) at

  -- the slots once it is that far, with what it held
  slots_moved : (q : Phase B W) → slots_of (with_phase s q old.phases) old.table ≡ with_slot s (slot_of q h) all
  slots_moved q =
      ap (λ (hs : List (Held B)). slots_of (with_phase s q old.phases) hs) (sym (set-get_or old.table (s - 1) nothing_held))
      ∙ slots_set old.phases old.table (s - 1) q h same

  pub is_closed : (call : Call B) (work : W) → phase_at (s - 1) old.phases ≡ phase.Open call work → IsClosed s call (engine_of live older old) (engine_of live older (answered_state s old))
  is_closed call work at = record {
    works = works;
    locks = h.locks;
    notes = map note_of h.notes;
    asked = slot_is (phase.Open call work) at;
    is = record { live = λ e. refl; slots = slots_moved phase.Working; older = refl; oldest = refl; failed = refl };
  }

  pub is_written : IsLawful k → (later : Entry B → Bool) (call : Call B) (work : W) → phase_at (s - 1) old.phases ≡ phase.Open call work
      → (e : Entry B) (now : Bool) (leaf : ℕ) → live e ≡ not now → ((x : Entry B) → later x ≡ marked k e now live x)
      → IsWritten k s call e now (engine_of live older old) (engine_of later older (written_state k s (record { entry = e; before = now; leaf = leaf }) old))
  is_written l later call work at e now leaf was_so lives =
      let note : txn.Note B = record { entry = e; before = now; leaf = leaf } in
      record {
        works = works;
        locks = h.locks;
        notes = map note_of h.notes;
        asked = slot_is (phase.Open call work) at;
        was = was_so;
        then_notes = map note_of (noting k note h.notes);
        with_note = noting_notes k l note h.notes (kept.placed (s - 1) (low k old kept s is)).in_order;
        is = record {
          live = lives;
          slots = slots_set old.phases old.table (s - 1) phase.Working (with_notes (noting k note h.notes) h) same;
          older = refl;
          oldest = refl;
          failed = refl;
        };
      }

  pub is_sealed : (work : W) → phase_at (s - 1) old.phases ≡ phase.Open Commit work → old.durable + length older ≡ old.latest → (set : List (Entry B))
      → IsSetOf k (stood k (engine_of live older old)) set
      → IsSealed k s set (old.latest + 1) (engine_of live older old) (engine_of live (older ++ set ∷ []) (sealed_state s old))
  is_sealed work at many set stands = record {
    works = works;
    locks = h.locks;
    notes = map note_of h.notes;
    asked = slot_is (phase.Open Commit work) at;
    next = omega (arith, many);
    stands = stands;
    is = record {
      live = λ e. refl;
      slots = slots_set old.phases old.table (s - 1) (phase.Waiting (old.latest + 1)) nothing_held same;
      older = refl;
      oldest = refl;
      failed = refl;
    };
  }

  pub is_acknowledged : (number : ℕ) → phase_at (s - 1) old.phases ≡ phase.Waiting number → number ≤ old.durable
      → IsAcknowledged s number (engine_of live older old) (engine_of live older (with_phase_of s phase.Free old))
  is_acknowledged number at durable = record {
    works = works;
    waits = slot_is (phase.Waiting number) at;
    is_durable = durable;
    is = record { live = λ e. refl; slots = slots_moved phase.Free; older = refl; oldest = refl; failed = refl };
  }

  module _ (l : IsLawful k) (later : Entry B → Bool) (restored : ℕ) (left : restored < length h.notes) (n : txn.Note B) (next : n ≡ get_or h.notes restored n)
      (lives : (x : Entry B) → later x ≡ marked k n.entry (not n.before) live x) where
    note_is : IsNoted k n h.notes
    note_is =
        subst (λ (x : txn.Note B). IsNoted k x h.notes) (sym next)
        (each_noted k l h.notes restored n (kept.placed (s - 1) (low k old kept s is)).in_order left)

    pub is_undone : (work then_work : W) → phase_at (s - 1) old.phases ≡ phase.Undoing restored work
        → IsUndone k s n.entry (engine_of live older old) (engine_of later older (with_phase_of s (phase.Undoing (restored + 1) then_work) old))
    is_undone work then_work at = record {
      works = works;
      locks = h.locks;
      notes = map note_of h.notes;
      aborts = slot_is (phase.Undoing restored work) at;
      was_live = not n.before;
      was_noted = note_is.was;
      is = record {
        live = lives;
        slots = slots_moved (phase.Undoing (restored + 1) then_work)
            ∙ ap (λ (x : Slot B). with_slot s x all) (sym (slots_at old.phases old.table (s - 1) same ∙ ap (λ (q : Phase B W). slot_of q h) at))
            ∙ set-get_or all (s - 1) slots.Free;
        older = refl;
        oldest = refl;
        failed = refl;
      };
    }

  pub is_restored : (restored : ℕ) (work : W) → phase_at (s - 1) old.phases ≡ phase.Undoing restored work → length h.notes ≤ restored
      → AreRestored k live restored h.notes → IsRestored k s (engine_of live older old) (engine_of live older (ended_state s old))
  is_restored restored work at past done = record {
    works = works;
    locks = h.locks;
    notes = map note_of h.notes;
    aborts = slot_is (phase.Undoing restored work) at;
    restored = all_restored k live restored h.notes past done;
    is = record {
      live = λ e. refl;
      slots = slots_set old.phases old.table (s - 1) phase.Free nothing_held same;
      older = refl;
      oldest = refl;
      failed = refl;
    };
  }

-- a note that is restored is one more
pub one_more : {B W : Type 0} (k : Keys B) (live : Entry B → Bool) (old : State B W) → IsKept k old → (s : ℕ) → is_session s ≡ true → IsLawful k
    → (later : Entry B → Bool) (restored : ℕ) → restored < length (held_at (s - 1) old.table).notes → (n : txn.Note B)
    → n ≡ get_or (held_at (s - 1) old.table).notes restored n → ((x : Entry B) → later x ≡ marked k n.entry (not n.before) live x)
    → AreRestored k live restored (held_at (s - 1) old.table).notes → AreRestored k later (restored + 1) (held_at (s - 1) old.table).notes
one_more {B} k live old kept s is l later restored left n next lives before =
    let h : Held B = held_at (s - 1) old.table in
    let note_is : IsNoted k n h.notes =
    subst (λ (x : txn.Note B). IsNoted k x h.notes) (sym next) (each_noted k l h.notes restored n (kept.placed (s - 1) (low k old kept s is)).in_order left) in
    one_more_restored k l h.notes restored n left next note_is live later lives before
