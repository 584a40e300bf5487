use Rattle.std.proofs.Common.{◌≡◌, true, false, ap, length, replicate, slice_set, rules}
use Rattle.gx_split.proofs.sides.begin_sides.Goals as goal

pub returns : goal.returns
returns c =
    let filled : c.fill.new.self ≡ replicate (length c.args.sides.now) false = search rules in
    ap (λ l. slice_set l c.args.second true) filled
