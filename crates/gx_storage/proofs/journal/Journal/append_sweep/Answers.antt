use Rattle.std.proofs.Common.{◌≡◌, ◌∙◌, sym, ap, refl, subst, ℕ, ◌+◌, ◌*◌, List, length, take, arith}
use Rattle.gx_record.specs.Format.{IsInRange}
use Rattle.gx_record.specs.Rec.{Rec, Sweep}
use Rattle.gx_record.specs.Slots.{AreSlots, slots_bytes, slots_in}
use Rattle.gx_record.specs.declared.sizes.TheConstants.{SLOT_NUMBER, SWEEP_BESIDE_SLOTS}
use Rattle.gx_record.proofs.Writes.{spelling_size}
use Rattle.gx_record.proofs.SlotBytes.{slots_again}
use Rattle.gx_storage.specs.State.{Journal}
use Rattle.gx_storage.proofs.SmallSweeps.{sweep_in_range}
use Rattle.gx_storage.proofs.SweptSlots.{are_slots}
use Rattle.gx_storage.proofs.Writing.{is_last}
use Rattle.gx_storage.proofs.journal.Journal.append_sweep.Goals as goal

-- what the bytes of slots spell is these slots
spelled_slots : (slots bytes : List ℕ) → take (SLOT_NUMBER * length slots) bytes ≡ slots_bytes slots → AreSlots 0 slots → slots_in (take (SLOT_NUMBER * length slots) bytes) ≡ slots
spelled_slots slots bytes spelled are = ap slots_in spelled ∙ slots_again 0 slots are

pub append-requires-clause-in_range : goal.append-requires-clause-in_range
append-requires-clause-in_range g c =
    let slots = c.args.slots.now in
    let are = are_slots 0 slots c.requires.rising (λ k. (c.type_inv.slots k).fits) in
    subst {A = List ℕ} (λ l. IsInRange (Sweep c.args.leaf l)) (sym (spelled_slots slots c.spell_slots.new.bytes c.spell_slots.ensures are))
    (sweep_in_range c.args.leaf slots c.requires.may.held.from c.ranges.leaf.fits c.requires.some c.requires.few are)

pub returns-clause-last : goal.returns-clause-last
returns-clause-last g c =
    let i = c.self.inside in
    let old : Journal = record { log = i.log; imaged = i.imaged } in
    let new : Journal = record { log = c.append.new.log; imaged = i.imaged } in
    let takes = rw (← c.self.view_is) at c.requires.may.takes in
    let slots = c.args.slots.now in
    let are = are_slots 0 slots c.requires.rising (λ k. (c.type_inv.slots k).fits) in
    let back = spelled_slots slots c.spell_slots.new.bytes c.spell_slots.ensures are in
    let x : Rec = Sweep c.args.leaf (slots_in (take (SLOT_NUMBER * length slots) c.spell_slots.new.bytes)) in
    let in_range : IsInRange x = subst {A = List ℕ} (λ l. IsInRange (Sweep c.args.leaf l)) (sym back)
    (sweep_in_range c.args.leaf slots c.requires.may.held.from c.ranges.leaf.fits c.requires.some c.requires.few are) in
    let size = spelling_size x in_range in
    let same = ap (λ (l : List ℕ). Sweep c.args.leaf l) back in
    let long = ap (λ (l : List ℕ). length l) back in
    rw (← c.self.view_is) (is_last _ _ x _ (SWEEP_BESIDE_SLOTS + SLOT_NUMBER * length slots) old new c.append.result same c.append.ensures.appends takes (omega (arith, size, long)) tt
    (λ l. c.append.ensures.up l) c.append.ensures.stamped refl)
