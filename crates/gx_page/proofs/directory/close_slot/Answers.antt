use Rattle.std.proofs.Common.{◌≡◌, ℕ, ◌+◌, ◌-◌, ◌*◌, suc, arith, sym, ap, ◌∙◌}
use Rattle.gx_page.proofs.Moves.{after_closing, closing_goes, closed_last}
use Rattle.gx_page.proofs.directory.close_slot.Goals as goal

pub loop-index-preserved : goal.loop-index-preserved
loop-index-preserved c =
    let i = c.loop-index.index in let n = c.args.count - 1 - (i + 1) in let k = c.args.count - 1 - i in
    let more : k ≡ suc n = omega arith in
    let goes = closing_goes c.loop-index.block.bytes c.set_u16.new.self.bytes c.set_u16-in-loop-index.new.self.bytes i n k c.slot_at-at.result c.loop-index.above c.u16_at-size.result
    c.saturating_sub-above.result (after_closing c.args.block.now.bytes c.args.slot (c.args.count - 1 - c.args.slot) c.args.end)
    c.loop-index.invariant.size (omega arith) more c.slot_at-at.ensures c.u16_at-size.ensures c.saturating_sub-above.ensures c.set_u16.ensures c.set_u16-in-loop-index.ensures c.loop-index.invariant.rest in
    record { size = goes.0; rest = goes.1 }

pub returns : goal.returns
returns c =
    let i = c.loop-index.index in let bytes = c.loop-index.block.bytes in let at = c.slot_at-at-2.result in
    let none : c.args.count - 1 - i ≡ 0 = omega arith in
    let at_end : at ≡ 32 + 4 * i = omega (arith, c.slot_at-at-2.ensures) in
    c.clear.ensures ∙ closed_last bytes i c.loop-index.above at (at + 4) at_end (omega arith) ∙ ap (λ (m : ℕ). after_closing bytes i m c.loop-index.above) (sym none) ∙ c.loop-index.invariant.rest
