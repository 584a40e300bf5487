-- The block after all writes is the image of the longer list.
use Rattle.std.proofs.Common.{◌-◌, length, arith, refl}
use Rattle.gx_page.proofs.Steps.{moved_size, insert_block, insert_goes}
use Rattle.gx_page.proofs.edits.insert.Goals as goal

pub open_slot-requires-clause-block : goal.open_slot-requires-clause-block
open_slot-requires-clause-block c =
    let from = c.from-from.result in let to = c.from-to.result in let x = c.args.bytes.now in
    moved_size c.args.block.now.bytes c.copy_within.new.self.bytes c.write.new.self.bytes x from to (from - length x) (to - length x) c.requires.image (omega arith) (omega arith) (omega arith) (omega arith) c.copy_within.ensures c.write.ensures

pub returns : goal.returns
returns c =
    let goes = insert_block c.args.block.now.bytes c.copy_within.new.self.bytes c.write.new.self.bytes c.open_slot.new.block.bytes c.set_u16.new.self.bytes c.set_u16-2.new.self.bytes
    c.args.slot c.count_of-count.result c.start_of-start.result c.end_of-end.result (length c.args.bytes.now) c.from-from.result c.from-to.result c.from.result c.args.bytes.now
    c.requires.image c.requires.slot c.requires.fits c.count_of-count.ensures.count c.start_of-start.ensures c.end_of-end.ensures.end refl c.from-from.ensures c.from-to.ensures c.from.ensures
    c.copy_within.ensures c.write.ensures c.open_slot.ensures c.set_u16.ensures c.set_u16-2.ensures in
    let made = insert_goes c.args.block.now.bytes c.set_u16-2.new.self.bytes c.args.slot c.args.bytes.now c.requires.image c.requires.slot c.requires.item (λ k. (c.type_inv.bytes k).fits) c.requires.fits goes in
    record { image = made.0; items = made.1 }
