use Rattle.std.proofs.Common.{◌≡◌, ℕ, ◌*◌, ◌/◌, length, take, sym, ap, ◌∙◌, arith}
use Rattle.gx_record.specs.Slots.{slots_in}
use Rattle.gx_record.specs.declared.sizes.TheConstants.{SLOT_NUMBER}
use Rattle.gx_record.proofs.SlotBytes.{length-slots_in, slots_back}
use Rattle.gx_record.proofs.slots.whole_slots.Goals as goal

pub returns : goal.returns
returns c =
    let bytes = c.args.bytes.now in
    let two = length-slots_in bytes in
    let count : SLOT_NUMBER * (length bytes / SLOT_NUMBER) ≡ SLOT_NUMBER * length (slots_in bytes) = omega (arith, two.0, two.1) in
    ap (λ (n : ℕ). take n bytes) count ∙ sym (slots_back bytes (λ k. omega (arith, c.type_inv.bytes k)))
