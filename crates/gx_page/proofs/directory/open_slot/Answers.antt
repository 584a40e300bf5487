use Rattle.std.proofs.Common.{◌≡◌, ◌+◌, ◌-◌, ◌*◌, suc, arith}
use Rattle.gx_page.proofs.Moves.{after_opening, opening_goes, opening_ends}
use Rattle.gx_page.proofs.directory.open_slot.Goals as goal

pub loop-index-preserved : goal.loop-index-preserved
loop-index-preserved c =
    let i = c.loop-index.index in let n = c.args.count - (i + 1) in let k = c.args.count - i in
    let more : k ≡ suc n = omega arith in
    let goes = opening_goes c.loop-index.block.bytes c.set_u16.new.self.bytes c.set_u16-in-loop-index.new.self.bytes i n k c.slot_at-at.result c.loop-index.above c.loop-index.pending
    c.saturating_sub-above.result c.u16_at-next.result (after_opening c.args.block.now.bytes c.args.slot (c.args.count - c.args.slot) c.args.end c.args.size)
    c.loop-index.invariant.size (omega arith) more c.slot_at-at.ensures c.saturating_sub-above.ensures c.u16_at-next.ensures c.set_u16.ensures c.set_u16-in-loop-index.ensures c.loop-index.invariant.rest in
    record { size = goes.0; rest = goes.1 }

pub returns : goal.returns
returns c =
    let none : c.args.count - c.loop-index.index ≡ 0 = omega arith in let i = c.loop-index.index in
    let at_end : c.slot_at-at-2.result ≡ 32 + 4 * i = omega (arith, c.slot_at-at-2.ensures) in
    opening_ends c.loop-index.block.bytes c.set_u16-2.new.self.bytes c.set_u16-3.new.self.bytes i (c.args.count - i) c.slot_at-at-2.result c.loop-index.above c.loop-index.pending c.saturating_sub.result
    (after_opening c.args.block.now.bytes c.args.slot (c.args.count - c.args.slot) c.args.end c.args.size)
    c.loop-index.invariant.size (omega arith) none at_end c.saturating_sub.ensures c.set_u16-2.ensures c.set_u16-3.ensures c.loop-index.invariant.rest
