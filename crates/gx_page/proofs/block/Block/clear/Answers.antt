-- The part that `fill` leaves is zeros, as many as it had bytes.
use Rattle.std.proofs.Common.{◌≡◌, ℕ, ◌-◌, List, length, drop, replicate, ap, ◌∙◌, arith, length-take, length-drop}
use borrow.Rule.Slice.PartMut.{mid_of}
use Rattle.gx_page.specs.Bytes.{overwrite, zeros}
use Rattle.gx_page.proofs.Pieces.{fill_zeros}
use Rattle.gx_page.proofs.block.Block.clear.Goals as goal

pub returns : goal.returns
returns c =
    let bytes = c.bytes_mut.result.now in let from = c.args.from in let to = c.args.to in
    let size : length bytes ≡ 4096 = ap length c.bytes_mut.ensures.value.0 ∙ c.bytes_mut.ensures.value.1 in
    let part : length (mid_of from (to - from) bytes) ≡ to - from = omega (arith, length-take (to - from) (drop from bytes), length-drop from bytes) in
    let filled : c.fill.new.self ≡ replicate (to - from) 0 = c.fill.ensures.after (λ y e. e) ∙ ap (λ (n : ℕ). replicate n 0) part in
    fill_zeros bytes c.fill.new.self from to c.requires.0 (omega arith) filled ∙ ap (λ (xs : List ℕ). overwrite xs from (zeros (to - from))) c.bytes_mut.ensures.value.0
