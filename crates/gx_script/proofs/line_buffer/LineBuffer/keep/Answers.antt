use Rattle.std.proofs.Common.{◌≡◌, ◌+◌, ℕ, List, length, ap, arith}
use Rattle.gx_script.proofs.LineLemmas.{kept-more}
use Rattle.gx_script.proofs.line_buffer.LineBuffer.keep.Goals as goal

pub returns : goal.returns
returns c =
    let room : c.remaining_capacity-room.result + length c.args.self.now ≡ 1026 =
    omega (arith, c.remaining_capacity-room.ensures, ap (λ (v : List ℕ). length v) c.self.view_is) in
    cc (kept-more c.args.self.now c.args.bytes.now c.remaining_capacity-room.result room, c.add.ensures, c.split_at.ensures.front, c.min.ensures)
