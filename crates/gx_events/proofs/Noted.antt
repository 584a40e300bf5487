-- What is noted, in one slot and in all of them, as one slot changes.
use Rattle.std.proofs.Common.{◌≡◌, ◌≢◌, ℕ, zero, suc, ◌<◌, Bool, true, false, ◌||◌, ◌⊎◌, inl, inr, List, [], ◌∷◌, Option, Some, None, length, refl, ap, sym, ◌∙◌, arith}
use Rattle.std.specs.Prelude.{if◌then◌else◌, is_some, slice_set}
use Rattle.std.specs.List.{slice_index_or}
use Rattle.std.specs.Option.{option_or}
use Rattle.gx_machine.specs.declared.entry.Entry.{Entry}
use Rattle.gx_machine.specs.Keys.{Keys, same_entry}
use Rattle.gx_machine.specs.Sets.{has}
use Rattle.gx_events.specs.Slots.{Note, Slot, Free, notes_kept, entries_of, noted, noted_in, WithNote}
use Rattle.gx_events.proofs.Options.{some_or_none, none_from, swapped, passed_on, noted_more}

noted_if : (same was : Bool) (rest : Option Bool) (among : Bool) → is_some rest ≡ among → is_some (if same then Some was else rest) ≡ (same || among)
noted_if true was rest among h = refl
noted_if false was rest among h = h

module _ {B : Type 0} (k : Keys B) where
  -- an entry is noted if it is one of those that are
  pub noted_has : (e : Entry B) (notes : List (Note B)) → is_some (noted k e notes) ≡ has k e (entries_of notes)
  noted_has e [] = refl
  noted_has e (n ∷ notes) = noted_if (same_entry k e n.entry) n.was_live (noted k e notes) (has k e (entries_of notes)) (noted_has e notes)

  pub none_noted : (e : Entry B) (notes : List (Note B)) → has k e (entries_of notes) ≡ false → noted k e notes ≡ None
  none_noted e notes h = none_from (noted k e notes) (noted_has e notes ∙ h)

  pub has_noted : (e : Entry B) (notes : List (Note B)) (was : Bool) → noted k e notes ≡ Some was → has k e (entries_of notes) ≡ true
  has_noted e notes was h = sym (noted_has e notes) ∙ ap is_some h

  -- with one note more
  pub has_with_note : (e : Entry B) (was : Bool) (old new : List (Note B)) → WithNote k e was old new → (x : Entry B)
      → has k x (entries_of new) ≡ (has k x (entries_of old) || same_entry k x e)
  has_with_note e was old new with_note x =
      sym (noted_has x new) ∙ ap is_some (with_note x) ∙ noted_more (noted k x old) (same_entry k x e) was
      ∙ ap (λ b. b || same_entry k x e) (noted_has x old)

  -- one slot apart: what the others have noted, or else what it has
  pub noted_set : (e : Entry B) (slots : List (Slot B)) (i : ℕ) (x : Slot B) → i < length slots
      → (noted_in k e (slice_set slots i Free) ≡ None) ⊎ (noted k e (notes_kept x) ≡ None)
      → noted_in k e (slice_set slots i x) ≡ option_or (noted_in k e (slice_set slots i Free)) (noted k e (notes_kept x))
  noted_set e [] i x low h = absurd (omega arith)
  noted_set e (y ∷ ys) zero x low h = swapped (noted_in k e ys) (noted k e (notes_kept x)) h
  noted_set e (y ∷ ys) (suc i) x low h =
      passed_on (noted k e (notes_kept y)) (noted_in k e (slice_set ys i x)) (noted_in k e (slice_set ys i Free)) (noted k e (notes_kept x)) h
      (λ g. noted_set e ys i x (omega arith) g)

  -- what is noted is noted in some slot
  somewhere : (e : Entry B) (slots : List (Slot B)) (was : Bool) → noted_in k e slots ≡ Some was
      → (j : ℕ) × (j < length slots) × (noted k e (notes_kept (slice_index_or slots j Free)) ≡ Some was)
  somewhere e [] was h = let no : ⊥ = cc in absurd no
  somewhere e (y ∷ ys) was h =
      elim (some_or_none (noted k e (notes_kept y))) [
        | inl none ↦
            (let later = somewhere e ys was (sym (ap (λ o. option_or o (noted_in k e ys)) none) ∙ h) in
            (suc later.0, omega arith, later.2))
        | inr some ↦ (0, omega arith, some.1 ∙ sym (ap (λ o. option_or o (noted_in k e ys)) some.1) ∙ h)
      ]

  -- what others have noted is noted in another slot
  pub of_another : (e : Entry B) (slots : List (Slot B)) (i : ℕ) (was : Bool) → noted_in k e (slice_set slots i Free) ≡ Some was
      → (j : ℕ) × (j < length slots) × (j ≢ i) × (noted k e (notes_kept (slice_index_or slots j Free)) ≡ Some was)
  of_another e [] i was h = let no : ⊥ = cc in absurd no
  of_another e (y ∷ ys) zero was h =
      let at = somewhere e ys was h in (suc at.0, omega arith, omega arith, at.2)
  of_another e (y ∷ ys) (suc i) was h =
      elim (some_or_none (noted k e (notes_kept y))) [
        | inl none ↦
            (let later = of_another e ys i was (sym (ap (λ o. option_or o (noted_in k e (slice_set ys i Free))) none) ∙ h) in
            (suc later.0, omega arith, omega arith, later.3))
        | inr some ↦ (0, omega arith, omega arith, some.1 ∙ sym (ap (λ o. option_or o (noted_in k e (slice_set ys i Free))) some.1) ∙ h)
      ]
