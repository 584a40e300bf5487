use Rattle.std.proofs.lemmas.Grind.{common_steps}
use Rattle.std.proofs.Common.{◌+◌, ◌-◌, ◌≤ℤ◌, All, length, sym, arith, rules, FitsSigned}
use Rattle.std.specs.Int.{w128}
use Rattle.std.proofs.lemmas.Int.{to_z-of_z}
use Rattle.gx_split.specs.Split.{measure, pair, waste, waste_at}
use Rattle.gx_split.proofs.Steps.{size_at, sizes_long, row_keeps, row_wastes}
use Rattle.gx_split.proofs.seeds.worst_with_row.Goals as goal

pub returns-then-is_spent-clause-slots : goal.returns-then-is_spent-clause-slots
returns-then-is_spent-clause-slots g c =
    let m = measure g.M.Measure.joined g.M.Measure.extent in
    let keys = c.args.keys.now in
    let fits : FitsSigned w128 c.args.best.waste = search rules in
    let spent : All (λ other. waste m c.key_at.result other ≤ℤ c.args.best.waste) keys =
    λ k d h. rw (sym (to_z-of_z w128 c.args.best.waste fits)) (c.is_spent.ensures c.if-is_spent.true keys c.requires.frame k d h)
    in
    sym (row_keeps (waste_at m keys) (pair c.args.best.lower c.args.best.higher) c.args.lower (length keys - 1 - c.args.lower)
    (λ d h. row_wastes m keys c.args.lower (c.args.lower + 1 + d) c.key_at.result c.args.best.waste _ c.key_at.ensures (omega arith) spent c.requires.wasted))

pub is_spent-requires : goal.is_spent-requires
is_spent-requires g c =
    let at = size_at g.M.Measure.extent c.args.keys.now c.args.sizes.now c.args.lower c.key_at.result c.requires.sizes c.key_at.ensures c.requires.within in
    record { size = at.0; small = at.1 }

pub bounds-sizes-lower : goal.bounds-sizes-lower
bounds-sizes-lower g c = let long = sizes_long g.M.Measure.extent c.args.keys.now c.args.sizes.now c.requires.sizes in omega arith

pub offset_bounds-sizes-lower : goal.offset_bounds-sizes-lower
offset_bounds-sizes-lower g c = grind (arith, common_steps)
