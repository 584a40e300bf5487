use Rattle.std.proofs.Common.{◌<◌, length, refl, arith}
use Rattle.gx_node.proofs.Gathering.{offered, at_most_one}
use Rattle.gx_node.proofs.passing.offer.Goals as goal

pub returns-clause-kept : goal.returns-clause-kept
returns-clause-kept c =
    let within : c.args.place < length c.args.slots.now = omega (arith, c.told-slots, c.requires) in
    offered c.args.slots.now c.args.place c.args.slot c.from.result c.args.passes _ within c.from.ensures refl

pub returns-clause-next : goal.returns-clause-next
returns-clause-next c = omega (arith, at_most_one c.args.passes c.from.result c.from.ensures)
