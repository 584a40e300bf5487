use Rattle.std.proofs.Common.{arith}
use Rattle.std.proofs.lemmas.Int.{ints}
use Rattle.gx_split.proofs.Frames.{side_reached}
use Rattle.gx_split.proofs.boxes.longest_side.Goals as goal

pub returns : goal.returns
returns c a b after in_order before narrow =
    let own = c.abs_diff.ensures in
    let to_high = c.abs_diff-2.ensures in
    let to_low = c.abs_diff-3.ensures in
    let first = c.max-own.ensures in
    let second = c.max.ensures in
    let last = c.max-2.ensures in
    side_reached c.args.low c.args.high c.args.from c.args.to a b c.max-2.result c.requires after in_order before (omega arith) (omega (arith, ints)) (omega (arith, ints)) (omega (arith, ints))
