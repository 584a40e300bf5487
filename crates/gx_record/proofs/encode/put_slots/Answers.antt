use Rattle.std.proofs.Common.{ℕ, List, ◌∷◌, length, ap, subst, ◌∙◌, arith}
use Rattle.gx_record.specs.Slots.{slots_bytes, slots_in}
use Rattle.gx_record.specs.Writing.{Wrote}
use Rattle.gx_record.proofs.SlotBytes.{length-slots_bytes}
use Rattle.gx_record.proofs.Writes.{then_wrote}
use Rattle.gx_record.proofs.encode.put_slots.Goals as goal

pub put_bytes-requires : goal.put_bytes-requires
put_bytes-requires c =
    let size = length-slots_bytes (slots_in c.args.slots.now.bytes.now) in
    omega (arith, c.requires.room, c.put_bytes-at.ensures.behind, c.put_bytes-at.auto.out, ap length c.whole_slots.ensures, size)

pub returns : goal.returns
returns c =
    let slots = slots_in c.args.slots.now.bytes.now in
    let text = ap (λ (l : List ℕ). c.count.result ∷ l) c.whole_slots.ensures ∙ ap (λ (n : ℕ). n ∷ slots_bytes slots) c.count.ensures in
    subst (λ (l : List ℕ). Wrote c.args.out.now c.put_bytes.new.out c.args.at l c.put_bytes.result) text (then_wrote c.put_bytes-at.ensures.wrote c.put_bytes.ensures.wrote)
