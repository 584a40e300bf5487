use Rattle.std.proofs.lemmas.Grind.{common_steps}
use Rattle.std.proofs.Common.{rules, arith, FitsSigned}
use Rattle.std.proofs.lemmas.Int.{to_z-of_z}
use Rattle.std.specs.Int.{w128}
use Rattle.gx_split.specs.Split.{waste_at}
use Rattle.gx_split.proofs.Steps.{size_at, sizes_long}
use Rattle.gx_split.proofs.seeds.pair_of.Goals as goal

pub returns-clause-wastes : goal.returns-clause-wastes
unfolding waste_at
returns-clause-wastes g c =
    let fits : FitsSigned w128 c.waste-waste.result = search rules in
    rw (to_z-of_z, c.key_at.ensures, c.key_at-2.ensures) c.waste-waste.ensures

pub waste-waste-requires : goal.waste-waste-requires
waste-waste-requires g c =
    let low = size_at g.M.Measure.extent c.args.keys.now c.args.sizes.now c.args.lower c.key_at.result c.requires.sizes c.key_at.ensures (omega arith) in
    let high = size_at g.M.Measure.extent c.args.keys.now c.args.sizes.now c.args.higher c.key_at-2.result c.requires.sizes c.key_at-2.ensures c.requires.within in
    record { first = low.0; second = high.0; first_small = low.1; second_small = high.1 }

pub bounds-sizes-lower : goal.bounds-sizes-lower
bounds-sizes-lower g c = let long = sizes_long g.M.Measure.extent c.args.keys.now c.args.sizes.now c.requires.sizes in omega arith

pub bounds-sizes-higher : goal.bounds-sizes-higher
bounds-sizes-higher g c = let long = sizes_long g.M.Measure.extent c.args.keys.now c.args.sizes.now c.requires.sizes in omega arith

pub offset_bounds-sizes-lower : goal.offset_bounds-sizes-lower
offset_bounds-sizes-lower g c = grind (arith, common_steps)

pub offset_bounds-sizes-higher : goal.offset_bounds-sizes-higher
offset_bounds-sizes-higher g c = grind (arith, common_steps)
