use Rattle.std.proofs.lemmas.Grind.{common_steps}
use Rattle.std.proofs.Common.{rules, arith, ◌≤◌, ◌*◌, length, sym, subst}
use Rattle.gx_class.specs.Sides.{LeavesEach}
use Rattle.gx_tree.proofs.Parted.{left_united, right_united, written}
use Rattle.gx_tree.proofs.halves.halves_of.Goals as goal

pub returns-in_err-left-clause-none : goal.returns-in_err-left-clause-none
returns-in_err-left-clause-none g c =
    let keys = c.args.keys.now in
    let least = c.max.result in
    let one : 1 ≤ least = search rules in
    let enough : 2 * least ≤ length keys = search rules in
    let few : length keys ≤ 101 = omega (arith, c.requires.few) in
    let fair = subst (LeavesEach (length keys) least) (sym c.pick_split.ensures) (g.met.K.KeyClass.split_leaves_each keys least one enough few) in
    absurd (left_united g.K.Key.Shape.inside c.union_of.result _ c.pick_split.new.sides keys least c.union_of.ensures
    (written (length keys) c.pick_split.new.sides _ fair.each_has_one) fair one c.in_err-left.was)

pub returns-in_err-right-clause-none : goal.returns-in_err-right-clause-none
returns-in_err-right-clause-none g c =
    let keys = c.args.keys.now in
    let least = c.max.result in
    let one : 1 ≤ least = search rules in
    let enough : 2 * least ≤ length keys = search rules in
    let few : length keys ≤ 101 = omega (arith, c.requires.few) in
    let fair = subst (LeavesEach (length keys) least) (sym c.pick_split.ensures) (g.met.K.KeyClass.split_leaves_each keys least one enough few) in
    absurd (right_united g.K.Key.Shape.inside c.union_of-2.result _ c.pick_split.new.sides keys least c.union_of-2.ensures
    (written (length keys) c.pick_split.new.sides _ fair.each_has_one) fair one c.in_err-right.was)

pub slice_bounds-sides-end-2 : goal.slice_bounds-sides-end-2
slice_bounds-sides-end-2 g c = grind (arith, common_steps)

pub slice_bounds-union_of-end : goal.slice_bounds-union_of-end
slice_bounds-union_of-end g c = grind (arith, common_steps)

pub union_of-requires : goal.union_of-requires
union_of-requires g c = grind (arith, common_steps)

pub slice_bounds-sides-end-3 : goal.slice_bounds-sides-end-3
slice_bounds-sides-end-3 g c = grind (arith, common_steps)

pub slice_bounds-union_of-end-2 : goal.slice_bounds-union_of-end-2
slice_bounds-union_of-end-2 g c = grind (arith, common_steps)

pub union_of-requires-2 : goal.union_of-requires-2
union_of-requires-2 g c = grind (arith, common_steps)

pub returns-clause-halves : goal.returns-clause-halves
returns-clause-halves g c = grind (arith, common_steps)

pub returns-clause-few : goal.returns-clause-few
returns-clause-few g c = grind (arith, common_steps)
