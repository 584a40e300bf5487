-- What sessions claim is what their index's slots claim.
use Rattle.std.proofs.Common.{◌≡◌, ◌∙◌, sym, ap, ℕ, suc, ◌<◌, ◌||◌, List, [], ◌∷◌, length, refl, arith}
use Rattle.gx_machine.specs.declared.entry.Entry.{Entry}
use Rattle.gx_machine.specs.Keys.{Keys}
use Rattle.gx_machine.specs.Sets.{has}
use Rattle.gx_events.specs.Slots.{Slot, locks_held}
use Rattle.gx_events.specs.Wants.{is_claimed}
use Rattle.gx_index_laws.specs.States as index
use Rattle.gx_txn.specs.Tables.{Held, claimed_in, claims}
use Rattle.gx_phases.specs.declared.phase.Phase.{Phase}
use Rattle.gx_phases.specs.declared.phase.Phase.TheVariants as phase
use Rattle.gx_phases.specs.Indexes.{AreOf}
use Rattle.gx_phases.specs.States.{State, HoldsNothing, IsKept, held_at, phase_at, slot_of, slots_of}

module _ {B W : Type 0} (k : Keys B) (e : Entry B) where
  -- a session without a transaction claims nothing
  slot_claims : (p : Phase B W) (h : Held B) → HoldsNothing p h → has k e (locks_held (slot_of p h)).claims ≡ claims k e h
  slot_claims phase.Free h none = ap (λ (x : Held B). claims k e x) (sym none)
  slot_claims phase.Working h none = refl
  slot_claims (phase.Open call work) h none = refl
  slot_claims (phase.Undoing restored work) h none = refl
  slot_claims (phase.Waiting number) h none = ap (λ (x : Held B). claims k e x) (sym none)

  slots_claim : (phases : List (Phase B W)) (table : List (Held B)) → length phases ≡ length table
      → ((i : ℕ) → i < length phases → HoldsNothing (phase_at i phases) (held_at i table))
      → is_claimed k e (slots_of phases table) ≡ claimed_in k e table
  slots_claim [] [] same none = refl
  slots_claim [] (h ∷ hs) same none = absurd (omega (arith, same))
  slots_claim (p ∷ ps) [] same none = absurd (omega (arith, same))
  slots_claim (p ∷ ps) (h ∷ hs) same none =
      ap (λ b. b || is_claimed k e (slots_of ps hs)) (slot_claims p h (none 0 (omega arith)))
      ∙ ap (λ b. claims k e h || b) (slots_claim ps hs (omega (arith, same)) (λ i low. none (suc i) (omega (arith, low))))

-- some session claims an entry exactly if a slot of the index does
pub claimed_alike : {B W : Type 0} (k : Keys B) (sessions : State B W) (i : index.State B) → IsKept k sessions → AreOf sessions i
    → (e : Entry B) → claimed_in k e sessions.table ≡ is_claimed k e i.slots
claimed_alike k sessions i kept of e =
    sym (ap (λ (xs : List (Slot _)). is_claimed k e xs) of.slots
    ∙ slots_claim k e sessions.phases sessions.table (kept.phases ∙ sym kept.table)
    (λ j low. (kept.placed j (omega (arith, low, kept.phases))).nothing))
