-- The block after all writes is the image of the shorter list.
use Rattle.std.proofs.Common.{◌+◌, ◌-◌, arith}
use Rattle.gx_page.specs.Bytes.{zeros}
use Rattle.gx_page.proofs.Pieces.{length-zeros}
use Rattle.gx_page.proofs.Steps.{moved_size, remove_block, remove_goes}
use Rattle.gx_page.proofs.edits.remove.Goals as goal

pub close_slot-requires-clause-block : goal.close_slot-requires-clause-block
close_slot-requires-clause-block c =
    let from = c.from-from.result in let to = c.from-to.result in let gap = c.from-gap.result in
    moved_size c.args.block.now.bytes c.copy_within.new.self.bytes c.clear.new.self.bytes (zeros (from + gap - from)) from (to - gap) (from + gap) from c.requires.image (omega arith) (omega arith) (omega arith)
    (omega (arith, length-zeros (from + gap - from))) c.copy_within.ensures c.clear.ensures

pub returns : goal.returns
returns c =
    let goes = remove_block c.args.block.now.bytes c.copy_within.new.self.bytes c.clear.new.self.bytes c.close_slot.new.block.bytes c.set_u16.new.self.bytes c.set_u16-2.new.self.bytes
    c.args.slot c.count_of-count.result c.start_of-start.result c.end_of-end.result c.size_of-size.result c.from-from.result c.from-to.result c.from-gap.result c.from.result
    c.requires.image c.requires.slot c.count_of-count.ensures.count c.start_of-start.ensures c.end_of-end.ensures.end c.size_of-size.ensures.size c.from-from.ensures c.from-to.ensures c.from-gap.ensures c.from.ensures
    c.copy_within.ensures c.clear.ensures c.close_slot.ensures c.set_u16.ensures c.set_u16-2.ensures in
    let made = remove_goes c.args.block.now.bytes c.set_u16-2.new.self.bytes c.args.slot c.requires.image c.requires.slot goes in
    record { image = made.0; items = made.1 }
