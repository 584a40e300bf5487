-- The committed set, event by event.
use Rattle.std.proofs.Common.{◌≡◌, ℕ, Bool, true, not, ◌&&◌, ◌||◌, ◌⊎◌, inl, inr, List, [], ◌∷◌, ◌++◌, Option, Some, None, ap, sym, ◌∙◌, subst}
use Rattle.std.specs.Prelude.{is_some, unwrap_or}
use Rattle.std.specs.Option.{option_or}
use Rattle.gx_machine.specs.declared.entry.Entry.{Entry}
use Rattle.gx_machine.specs.declared.call.Call.{Call}
use Rattle.gx_machine.specs.declared.call.Call.TheVariants.{Commit}
use Rattle.gx_machine.specs.Keys.{Keys, IsLawful, same_entry}
use Rattle.gx_machine.specs.Sets.{has}
use Rattle.gx_machine.specs.Sessions.{Locks, write_conflicts}
use Rattle.gx_machine.specs.Machine.{is_session}
use Rattle.gx_machine.specs.Invariants.{HoldsFor, Covered}
use Rattle.gx_machine.proofs.SetLaws.{same_is}
use Rattle.gx_machine.proofs.SessionMoves.{or_either}
use Rattle.gx_events.specs.Slots.{Note, Slot, Free, Working, Undoing, Waiting, locks_held, notes_kept, slot_at, with_slot, entries_of, noted, noted_in}
use Rattle.gx_events.specs.Engines.{Engine, IsSound, HoldsItsLocks, IsSame, stood}
use Rattle.gx_events.specs.Happenings.{marked, IsWritten, IsSealed, IsUndone, IsRestored}
use Rattle.gx_events.proofs.Options.{sealed_view, write_stands, undo_stands, end_stands, or_nothing, some_either}
use Rattle.gx_events.proofs.Places.{is_there}
use Rattle.gx_events.proofs.Noted.{has_with_note}
use Rattle.gx_events.proofs.Locking.{of_others, noted_is_claimed, barred_is_own, rest_or_own, noted_with, noted_now}

-- engines that decide alike are one
pub is_one : {B : Type 0} (new other : Engine B) → IsSame new other → new ≡ other
is_one new other same = λ i. record {
  live = λ e. same.live e i;
  slots = same.slots i;
  older = same.older i;
  oldest = same.oldest i;
  failed = same.failed i;
}

module _ {B : Type 0} (k : Keys B) (l : IsLawful k) (old : Engine B) (i : IsSound k old) where
  busy_slot : (s : ℕ) (x : Slot B) → slot_at s old.slots ≡ x → ¬ (x ≡ Free) → is_session s ≡ true
  busy_slot s x at busy = is_there s old.slots (λ free. busy (sym at ∙ free))

  pub working_there : (s : ℕ) (locks : Locks B) (notes : List (Note B)) (call : Option (Call B)) → slot_at s old.slots ≡ Working locks notes call → is_session s ≡ true
  working_there s locks notes call at = busy_slot s (Working locks notes call) at (λ p. cc)

  pub undoing_there : (s : ℕ) (locks : Locks B) (notes : List (Note B)) → slot_at s old.slots ≡ Undoing locks notes → is_session s ≡ true
  undoing_there s locks notes at = busy_slot s (Undoing locks notes) at (λ p. cc)

  pub waiting_there : (s number : ℕ) → slot_at s old.slots ≡ Waiting number → is_session s ≡ true
  waiting_there s number at = busy_slot s (Waiting number) at (λ p. cc)

  -- the committed set, by the notes of one slot
  pub stood_by : (s : ℕ) (x : Slot B) → is_session s ≡ true → slot_at s old.slots ≡ x → (e : Entry B)
      → stood k old e ≡ unwrap_or (option_or (of_others k old s e) (noted k e (notes_kept x))) (old.live e)
  stood_by s x is at e =
      ap (λ o. unwrap_or o (old.live e))
      (noted_now k l old i s is e ∙ ap (λ (y : Slot B). option_or (of_others k old s e) (noted k e (notes_kept y))) at)

  -- what is noted once a slot has other notes of what it claims
  then_noted : (s : ℕ) (x later : Slot B) → is_session s ≡ true → slot_at s old.slots ≡ x → Covered k (entries_of (notes_kept later)) (locks_held x).claims → (e : Entry B)
      → noted_in k e (with_slot s later old.slots) ≡ option_or (of_others k old s e) (noted k e (notes_kept later))
  then_noted s x later is at covered e =
      noted_with k l old i s is later (subst (λ (y : Slot B). Covered k (entries_of (notes_kept later)) (locks_held y).claims) (sym at) covered) e

  -- of what a session's locks bar, no other has noted anything
  pub none_by_locks : (s : ℕ) (locks : Locks B) (notes : List (Note B)) (call : Option (Call B)) → slot_at s old.slots ≡ Working locks notes call
      → (e : Entry B) → write_conflicts k e locks ≡ true → of_others k old s e ≡ None
  none_by_locks s locks notes call at e barred =
      barred_is_own k l old i s (working_there s locks notes call at) e (ap (λ (x : Slot B). write_conflicts k e (locks_held x)) at ∙ barred)

  -- one slot changed, with its notes and what is live as before
  pub quiet_stood : (s : ℕ) (x later : Slot B) → is_session s ≡ true → slot_at s old.slots ≡ x → notes_kept later ≡ notes_kept x
      → (e : Entry B) → unwrap_or (noted_in k e (with_slot s later old.slots)) (old.live e) ≡ stood k old e
  quiet_stood s x later is at notes e =
      let covered : Covered k (entries_of (notes_kept later)) (locks_held x).claims =
      subst (λ (ns : List (Note B)). Covered k (entries_of ns) (locks_held x).claims) (sym notes) (noted_is_claimed k l x (subst (HoldsItsLocks k) at (i.holds s))) in
      ap (λ o. unwrap_or o (old.live e)) (then_noted s x later is at covered e ∙ ap (λ ns. option_or (of_others k old s e) (noted k e ns)) notes)
      ∙ sym (stood_by s x is at e)

  module _ (s : ℕ) (call : Call B) (e : Entry B) (now : Bool) (new : Engine B) (w : IsWritten k s call e now old new) (claim : HoldsFor k call w.locks → has k e w.locks.claims ≡ true) where
    -- what is noted once an entry is written is claimed
    pub write_covers : Covered k (entries_of w.then_notes) w.locks.claims
    write_covers = λ x h.
        let held : HoldsItsLocks k (Working w.locks w.notes (Some call)) = subst (HoldsItsLocks k) w.asked (i.holds s) in
        elim (or_either (has k x (entries_of w.notes)) (same_entry k x e) (sym (has_with_note k e (not now) w.notes w.then_notes w.with_note x) ∙ h)) [
          | inl among ↦ held.0 x among
          | inr same ↦ ap (λ (z : Entry B). has k z w.locks.claims) (same_is k l x e same) ∙ claim held.1
        ]

    pub write_stood : (x : Entry B)
        → unwrap_or (noted_in k x (with_slot s (Working w.locks w.then_notes None) old.slots)) (marked k e now old.live x) ≡ stood k old x
    write_stood x =
        let is : is_session s ≡ true = working_there s w.locks w.notes (Some call) w.asked in
        ap (λ o. unwrap_or o (marked k e now old.live x))
        (then_noted s (Working w.locks w.notes (Some call)) (Working w.locks w.then_notes None) is w.asked write_covers x
        ∙ ap (option_or (of_others k old s x)) (w.with_note x))
        ∙ write_stands (of_others k old s x) (noted k x w.notes) (same_entry k x e) now (old.live x) (λ same. ap old.live (same_is k l x e same) ∙ w.was)
        ∙ sym (stood_by s (Working w.locks w.notes (Some call)) is w.asked x)

  module _ (s : ℕ) (set : List (Entry B)) (number : ℕ) (new : Engine B) (c : IsSealed k s set number old new) where
    abbrev sealed_engine : Engine B
    sealed_engine = record old { older = old.older ++ set ∷ []; slots = with_slot s (Waiting number) old.slots }

    sealed_there : is_session s ≡ true
    sealed_there = working_there s c.locks c.notes (Some Commit) c.asked

    pub one_noted : (e : Entry B) → (of_others k old s e ≡ None) ⊎ (noted k e c.notes ≡ None)
    one_noted e = subst (λ (x : Slot B). (of_others k old s e ≡ None) ⊎ (noted k e (notes_kept x) ≡ None)) c.asked (rest_or_own k l old i s sealed_there e)

    -- the committed set later is what others noted, or else what is live
    pub sealed_noted : (e : Entry B) → stood k sealed_engine e ≡ unwrap_or (of_others k old s e) (old.live e)
    sealed_noted e =
        let covered : Covered k [] c.locks.claims = λ x h. cc in
        ap (λ o. unwrap_or o (old.live e))
        (then_noted s (Working c.locks c.notes (Some Commit)) (Waiting number) sealed_there c.asked covered e ∙ or_nothing (of_others k old s e))

    pub sealed_stood : (e : Entry B)
        → ((old.live e && is_some (noted k e c.notes)) || (not (not (old.live e) && is_some (noted k e c.notes)) && stood k old e)) ≡ stood k sealed_engine e
    sealed_stood e =
        ap (λ b. (old.live e && is_some (noted k e c.notes)) || (not (not (old.live e) && is_some (noted k e c.notes)) && b))
        (stood_by s (Working c.locks c.notes (Some Commit)) sealed_there c.asked e)
        ∙ sealed_view (of_others k old s e) (noted k e c.notes) (old.live e) (one_noted e) ∙ sym (sealed_noted e)

  pub undone_stood : (s : ℕ) (e : Entry B) (new : Engine B) (u : IsUndone k s e old new) (x : Entry B)
      → unwrap_or (noted_in k x old.slots) (marked k e u.was_live old.live x) ≡ stood k old x
  undone_stood s e new u x =
      let is : is_session s ≡ true = undoing_there s u.locks u.notes u.aborts in
      let is_noted : is_some (noted_in k e old.slots) ≡ true =
      ap is_some (noted_now k l old i s is e ∙ ap (λ (y : Slot B). option_or (of_others k old s e) (noted k e (notes_kept y))) u.aborts
      ∙ ap (option_or (of_others k old s e)) u.was_noted) ∙ some_either (of_others k old s e) u.was_live in
      undo_stands (noted_in k x old.slots) (same_entry k x e) u.was_live (old.live x)
      (λ same. ap (λ (z : Entry B). is_some (noted_in k z old.slots)) (same_is k l x e same) ∙ is_noted)

  pub restored_stood : (s : ℕ) (new : Engine B) (u : IsRestored k s old new) (e : Entry B)
      → unwrap_or (noted_in k e (with_slot s Free old.slots)) (old.live e) ≡ stood k old e
  restored_stood s new u e =
      let is : is_session s ≡ true = undoing_there s u.locks u.notes u.aborts in
      let covered : Covered k [] u.locks.claims = λ x h. cc in
      ap (λ o. unwrap_or o (old.live e)) (then_noted s (Undoing u.locks u.notes) Free is u.aborts covered e ∙ or_nothing (of_others k old s e))
      ∙ end_stands (of_others k old s e) (noted k e u.notes) (old.live e) (u.restored e)
      ∙ sym (stood_by s (Undoing u.locks u.notes) is u.aborts e)
