-- What claims and predicates give: an entry that one session's locks bar, no other session has noted.
use Rattle.std.proofs.Common.{◌≡◌, ◌≢◌, ℕ, suc, ◌-◌, ◌<◌, Bool, true, false, ◌⊎◌, inl, inr, List, Option, Some, None, length, ap, sym, ◌∙◌, arith, subst}
use Rattle.std.specs.Prelude.{if◌then◌else◌, unwrap_or}
use Rattle.std.specs.List.{list_any}
use Rattle.std.specs.Option.{option_or}
use Rattle.gx_machine.specs.declared.entry.Entry.{Entry}
use Rattle.gx_machine.specs.Keys.{Keys, IsLawful, same_entry, matches}
use Rattle.gx_machine.specs.Sets.{has}
use Rattle.gx_machine.specs.Sessions.{write_conflicts}
use Rattle.gx_machine.specs.Machine.{is_session}
use Rattle.gx_machine.specs.Invariants.{Covered}
use Rattle.gx_machine.proofs.SetLaws.{same_is}
use Rattle.gx_machine.proofs.Places.{session_bounds}
use Rattle.gx_events.specs.Slots.{Note, Slot, Free, Working, Undoing, Waiting, locks_held, notes_kept, slot_at, with_slot, entries_of, noted, noted_in}
use Rattle.gx_events.specs.Engines.{Engine, IsSound, HoldsItsLocks, stood, session_of}
use Rattle.gx_events.specs.Happenings.{marked}
use Rattle.gx_events.proofs.Options.{some_or_none, true_or_false, not_both, uncovered, or_left}
use Rattle.gx_events.proofs.Places.{by_place, set_itself, place_below}
use Rattle.gx_events.proofs.Noted.{none_noted, noted_set, of_another}
use Rattle.gx_events.proofs.Sees.{seen_alike}

-- what the slots but one have noted of an entry
abbrev pub of_others : {B : Type 0} → Keys B → Engine B → ℕ → Entry B → Option Bool
of_others k engine s e = noted_in k e (with_slot s Free engine.slots)

-- what that one has
abbrev pub of_own : {B : Type 0} → Keys B → Engine B → ℕ → Entry B → Option Bool
of_own k engine s e = noted k e (notes_kept (slot_at s engine.slots))

module _ {B : Type 0} (k : Keys B) (l : IsLawful k) where
  -- a slot claims what it noted
  pub noted_is_claimed : (x : Slot B) → HoldsItsLocks k x → Covered k (entries_of (notes_kept x)) (locks_held x).claims
  noted_is_claimed Free h = λ e is. is
  noted_is_claimed (Working locks notes None) h = h
  noted_is_claimed (Working locks notes (Some call)) h = h.0
  noted_is_claimed (Undoing locks notes) h = h
  noted_is_claimed (Waiting number) h = λ e is. is

  module _ (engine : Engine B) (i : IsSound k engine) where
    abbrev bars : ℕ → Entry B → Bool
    bars s e = write_conflicts k e (locks_held (slot_at s engine.slots))

    abbrev claims : ℕ → Entry B → Bool
    claims s e = has k e (locks_held (slot_at s engine.slots)).claims

    pub claim_bars : (s : ℕ) (e : Entry B) → claims s e ≡ true → bars s e ≡ true
    claim_bars s e h = or_left (claims s e) (list_any (λ q. matches k q e) (locks_held (slot_at s engine.slots)).predicates) h

    -- what one session's locks bar, no other claims
    pub not_claimed_elsewhere : (a b : ℕ) → a ≢ b → (e : Entry B) → bars a e ≡ true → claims b e ≡ false
    not_claimed_elsewhere a b ne e barred = not_both (claims b e) (bars a e) (λ h. i.apart b a (λ p. ne (sym p)) e h) barred

    unnoted_elsewhere : (a b : ℕ) → a ≢ b → (e : Entry B) → bars a e ≡ true → has k e (entries_of (notes_kept (slot_at b engine.slots))) ≡ false
    unnoted_elsewhere a b ne e barred =
        uncovered (has k e (entries_of (notes_kept (slot_at b engine.slots)))) (claims b e)
        (noted_is_claimed (slot_at b engine.slots) (i.holds b) e) (not_claimed_elsewhere a b ne e barred)

    -- nor has noted
    pub not_noted_elsewhere : (a b : ℕ) → a ≢ b → (e : Entry B) → bars a e ≡ true → noted k e (notes_kept (slot_at b engine.slots)) ≡ None
    not_noted_elsewhere a b ne e barred = none_noted k e (notes_kept (slot_at b engine.slots)) (unnoted_elsewhere a b ne e barred)

    module _ (s : ℕ) (is : is_session s ≡ true) where
      -- if another slot has none of it, the others have none
      pub none_of_others : (e : Entry B) → ((a : ℕ) → a ≢ s → noted k e (notes_kept (slot_at a engine.slots)) ≡ None) → of_others k engine s e ≡ None
      none_of_others e none =
          elim (some_or_none (of_others k engine s e)) [
            | inl h ↦ h
            | inr some ↦
                (let bounds : (0 < s) × (s < 9) = session_bounds s is in
                let at = of_another k e engine.slots (s - 1) some.0 some.1 in
                let eight : length engine.slots ≡ 8 = i.eight in
                let low : at.0 < 8 = omega (arith, at.1) in
                let place = by_place at.0 engine.slots low in
                let far = at.2 in
                let both : None ≡ Some some.0 =
                sym (none (suc at.0) (λ p. far (omega arith))) ∙ ap (λ (x : Slot B). noted k e (notes_kept x)) place ∙ at.3 in
                absurd (let no : ⊥ = cc in no))
          ]

      pub barred_is_own : (e : Entry B) → bars s e ≡ true → of_others k engine s e ≡ None
      barred_is_own e barred = none_of_others e (λ a ne. not_noted_elsewhere s a (λ p. ne (sym p)) e barred)

      one_of_them : (e : Entry B) → (of_others k engine s e ≡ None) ⊎ (claims s e ≡ false)
      one_of_them e =
          elim (true_or_false (claims s e)) [
            | inl h ↦ inl (barred_is_own e (claim_bars s e h))
            | inr h ↦ inr h
          ]

      apart_from : (notes : List (Note B)) → Covered k (entries_of notes) (locks_held (slot_at s engine.slots)).claims → (e : Entry B)
          → (of_others k engine s e ≡ None) ⊎ (noted k e notes ≡ None)
      apart_from notes covered e =
          elim (one_of_them e) [
            | inl h ↦ inl h
            | inr h ↦ inr (none_noted k e notes (uncovered (has k e (entries_of notes)) (claims s e) (covered e) h))
          ]

      -- an entry is noted by others or by this one
      pub rest_or_own : (e : Entry B) → (of_others k engine s e ≡ None) ⊎ (of_own k engine s e ≡ None)
      rest_or_own e = apart_from (notes_kept (slot_at s engine.slots)) (noted_is_claimed (slot_at s engine.slots) (i.holds s)) e

      -- what is noted once this slot has other notes of what it claims
      pub noted_with : (x : Slot B) → Covered k (entries_of (notes_kept x)) (locks_held (slot_at s engine.slots)).claims → (e : Entry B)
          → noted_in k e (with_slot s x engine.slots) ≡ option_or (of_others k engine s e) (noted k e (notes_kept x))
      noted_with x covered e = noted_set k e engine.slots (s - 1) x (place_below s engine.slots is i.eight) (apart_from (notes_kept x) covered e)

      pub noted_now : (e : Entry B) → noted_in k e engine.slots ≡ option_or (of_others k engine s e) (of_own k engine s e)
      noted_now e =
          sym (ap (noted_in k e) (set_itself s engine.slots is))
          ∙ noted_with (slot_at s engine.slots) (noted_is_claimed (slot_at s engine.slots) (i.holds s)) e

      -- what no other session has noted was as this session's note says, or else is unchanged
      pub stood_own : (e : Entry B) → of_others k engine s e ≡ None → stood k engine e ≡ unwrap_or (of_own k engine s e) (engine.live e)
      stood_own e none = ap (λ o. unwrap_or o (engine.live e)) (noted_now e ∙ ap (λ o. option_or o (of_own k engine s e)) none)

      -- others are seen as before if a claimed entry changes
      pub others_seen : (e : Entry B) (now : Bool) → claims s e ≡ true → (a : ℕ) → a ≢ s
          → session_of k (marked k e now engine.live) (slot_at a engine.slots) ≡ session_of k engine.live (slot_at a engine.slots)
      others_seen e now claimed a ne =
          seen_alike k l engine.live (marked k e now engine.live) (slot_at a engine.slots)
          (λ x h. elim (true_or_false (same_entry k x e)) [
            | inl same ↦
                (let there : has k e (entries_of (notes_kept (slot_at a engine.slots))) ≡ true =
                subst (λ (z : Entry B). has k z (entries_of (notes_kept (slot_at a engine.slots))) ≡ true) (same_is k l x e same) h in
                let both : true ≡ false = sym there ∙ unnoted_elsewhere s a (λ p. ne (sym p)) e (claim_bars s e claimed) in
                absurd (let no : ⊥ = cc in no))
            | inr other ↦ ap (λ b. if b then now else engine.live x) other
          ])
