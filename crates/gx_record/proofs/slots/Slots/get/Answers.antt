use Rattle.std.proofs.Common.{sym, ap, ◌∙◌, arith}
use Rattle.std.proofs.lemmas.Option.{slice_get_past}
use Rattle.gx_record.specs.Slots.{slots_in}
use Rattle.gx_record.proofs.Fields.{found}
use Rattle.gx_record.proofs.SlotBytes.{length-slots_in, slot_at}
use Rattle.gx_record.proofs.slots.Slots.get.Goals as goal

pub returns-then-size-place : goal.returns-then-size-place
returns-then-size-place c =
    let bytes = c.args.self.now.bytes.now in
    let two = length-slots_in bytes in
    let past = c.if-size-place.true in
    sym (slice_get_past (slots_in bytes) c.args.place (omega arith))

pub returns : goal.returns
returns c =
    let bytes = c.args.self.now.bytes.now in
    let two = length-slots_in bytes in
    ap found c.from_be_bytes.ensures ∙ sym (slot_at bytes c.args.place (omega arith))
