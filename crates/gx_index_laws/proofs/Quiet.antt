-- Events that change a session's slot and work, and nothing of the log.
use Rattle.std.proofs.Common.{◌≡◌, ◌≢◌, ℕ, Bool, true, false, List, [], refl, ap, sym, ◌∙◌, subst}
use Rattle.gx_machine.specs.declared.entry.Entry.{Entry}
use Rattle.gx_machine.specs.Machine.{is_session}
use Rattle.gx_events.specs.Slots.{Slot, Free, Working, Undoing, Waiting, notes_kept, slot_at, with_slot, noted}
use Rattle.gx_events.specs.Happenings.{Happening, IsHappening}
use Rattle.gx_events.specs.Engines.{Engine, IsSame}
use Rattle.gx_events.specs.Kinds.{changes_what_stood}
use Rattle.gx_events.specs.Happenings as events
use Rattle.gx_events.proofs.Places.{slot_same, slot_other}
use Rattle.gx_index_laws.specs.Classes.{Class, IsLawful, is_live}
use Rattle.gx_index_laws.specs.States.{State, Work, tree_now, engine_of}
use Rattle.gx_index_laws.specs.Working.{DoesWork, AreRestored}
use Rattle.gx_index_laws.specs.Whole.{is_busy, HasTransaction, IsHad, IsTied, IsWhole}
use Rattle.gx_index_laws.specs.Happening.{Happens, changed_at, with_work, slotted}
use Rattle.gx_index_laws.proofs.Tools.{changed_here, changed_beside, by_session, not_true}
use Rattle.gx_index_laws.proofs.Happens.{happens, sets_stay, same_sets}

-- nothing is restored
pub none_restored : {B : Type 0} (c : Class B) (live : Entry B → Bool) (slot : Slot B) → AreRestored c.keys live slot []
none_restored c live Free = tt
none_restored c live (Working locks notes call) = tt
none_restored c live (Undoing locks notes) = λ e was there is. not_true false there refl
none_restored c live (Waiting number) = tt

-- an engine of the same parts
pub as_it_is : {B : Type 0} (engine : Engine B) → IsSame engine engine
as_it_is engine = record { live = λ e. refl; slots = refl; older = refl; oldest = refl; failed = refl }

module _ {B : Type 0} (c : Class B) (l : IsLawful c) (old : State B) (w : IsWhole c old) where
  -- if the parts that hold of a session by its slot change at one session
  pub turned : (s : ℕ) (work : Work B) → DoesWork c (tree_now c old) (slot_at s old.slots) work → Happens c old events.Works (with_work s work old)
  turned s work does = happens c l old w events.Works (with_work s work old) (as_it_is (engine_of c old)) (record {
    healthy = w.healthy;
    works = by_session (λ a. DoesWork c (tree_now c old) (slot_at a old.slots) (changed_at s work old.work a)) s
        (subst (λ (x : Work B). DoesWork c (tree_now c old) (slot_at s old.slots) x) (sym (changed_here s work old.work s refl)) does)
        (λ a ne. subst (λ (x : Work B). DoesWork c (tree_now c old) (slot_at a old.slots) x) (sym (changed_beside s work old.work a ne)) (w.works a));
    restored = w.restored;
    tied = record { each = λ a busy. same_transaction a (w.tied.each a busy); own = w.tied.own; had = λ t e open_yet some. same_had t (w.tied.had t e open_yet some) };
    next = w.next;
    sets = sets_stay c l old w events.Works (with_work s work old) (as_it_is (engine_of c old)) refl (same_sets c l old w) refl refl;
  })
    where
      same_transaction : (a : ℕ) → HasTransaction c old a → HasTransaction c (with_work s work old) a
      same_transaction a h = record { open_yet = h.open_yet; below = h.below; notes = h.notes }

      same_had : (t : ℕ) → IsHad old t → IsHad (with_work s work old) t
      same_had t h = record { session = h.session; busy = h.busy; has = h.has }

  module _ (s : ℕ) (there : is_session s ≡ true) (x : Slot B) (work : Work B) where
    pub here : slot_at s (with_slot s x old.slots) ≡ x
    here = slot_same s old.slots x there w.sound.eight

    pub beside : (a : ℕ) → a ≢ s → slot_at a (with_slot s x old.slots) ≡ slot_at a old.slots
    beside a ne = slot_other a s old.slots x there ne

    -- what holds of the sessions' work and of what they restored
    pub slotted_works : DoesWork c (tree_now c old) x work → (a : ℕ) → DoesWork c (tree_now c old) (slot_at a (with_slot s x old.slots)) (changed_at s work old.work a)
    slotted_works does =
        by_session (λ a. DoesWork c (tree_now c old) (slot_at a (with_slot s x old.slots)) (changed_at s work old.work a)) s
        (subst (λ (y : Slot B). DoesWork c (tree_now c old) y (changed_at s work old.work s)) (sym here)
        (subst (λ (y : Work B). DoesWork c (tree_now c old) x y) (sym (changed_here s work old.work s refl)) does))
        (λ a ne. subst (λ (y : Slot B). DoesWork c (tree_now c old) y (changed_at s work old.work a)) (sym (beside a ne))
        (subst (λ (y : Work B). DoesWork c (tree_now c old) (slot_at a old.slots) y) (sym (changed_beside s work old.work a ne)) (w.works a)))

    pub slotted_restored : (a : ℕ) → AreRestored c.keys (is_live c (tree_now c old)) (slot_at a (with_slot s x old.slots)) (changed_at s [] old.restored a)
    slotted_restored =
        by_session (λ a. AreRestored c.keys (is_live c (tree_now c old)) (slot_at a (with_slot s x old.slots)) (changed_at s [] old.restored a)) s
        (subst (λ (y : List (Entry B)). AreRestored c.keys (is_live c (tree_now c old)) (slot_at s (with_slot s x old.slots)) y) (sym (changed_here s [] old.restored s refl))
        (none_restored c (is_live c (tree_now c old)) (slot_at s (with_slot s x old.slots))))
        (λ a ne. subst (λ (y : Slot B). AreRestored c.keys (is_live c (tree_now c old)) y (changed_at s [] old.restored a)) (sym (beside a ne))
        (subst (λ (y : List (Entry B)). AreRestored c.keys (is_live c (tree_now c old)) (slot_at a old.slots) y) (sym (changed_beside s [] old.restored a ne)) (w.restored a)))

    module _ (busy : is_busy x ≡ is_busy (slot_at s old.slots)) (notes : notes_kept x ≡ notes_kept (slot_at s old.slots)) (does : DoesWork c (tree_now c old) x work) where
      busy_alike : (a : ℕ) → is_busy (slot_at a (with_slot s x old.slots)) ≡ is_busy (slot_at a old.slots)
      busy_alike = by_session (λ a. is_busy (slot_at a (with_slot s x old.slots)) ≡ is_busy (slot_at a old.slots)) s (ap is_busy here ∙ busy) (λ a ne. ap is_busy (beside a ne))

      noted_alike : (a : ℕ) (e : Entry B) → noted c.keys e (notes_kept (slot_at a (with_slot s x old.slots))) ≡ noted c.keys e (notes_kept (slot_at a old.slots))
      noted_alike = by_session (λ a. (e : Entry B) → noted c.keys e (notes_kept (slot_at a (with_slot s x old.slots))) ≡ noted c.keys e (notes_kept (slot_at a old.slots))) s
          (λ e. ap (λ (y : Slot B). noted c.keys e (notes_kept y)) here ∙ ap (noted c.keys e) notes)
          (λ a ne e. ap (λ (y : Slot B). noted c.keys e (notes_kept y)) (beside a ne))

      slotted_tied : IsTied c (slotted s x work old)
      slotted_tied = record {
        each = λ a now.
            let h : HasTransaction c old a = w.tied.each a (sym (busy_alike a) ∙ now) in
            record { open_yet = h.open_yet; below = h.below; notes = λ e. noted_alike a e ∙ h.notes e };
        own = λ a b first second same. w.tied.own a b (sym (busy_alike a) ∙ first) (sym (busy_alike b) ∙ second) same;
        had = λ t e open_yet some.
            let h : IsHad old t = w.tied.had t e open_yet some in
            record { session = h.session; busy = busy_alike h.session ∙ h.busy; has = h.has };
      }

      -- an event that gives a session another slot, with its transaction and notes unchanged
      pub quietly : (event : Happening B) → IsHappening c.keys (engine_of c old) event (engine_of c (slotted s x work old)) → changes_what_stood event ≡ false
          → Happens c old event (slotted s x work old)
      quietly event is stays = happens c l old w event (slotted s x work old) is (record {
        healthy = w.healthy;
        works = slotted_works does;
        restored = slotted_restored;
        tied = slotted_tied;
        next = w.next;
        sets = sets_stay c l old w event (slotted s x work old) is stays (same_sets c l old w) refl refl;
      })
