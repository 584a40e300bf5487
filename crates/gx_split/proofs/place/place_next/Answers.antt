use Rattle.std.proofs.lemmas.Grind.{common_steps}
use Rattle.std.proofs.Common.{arith, All, map, ap, sym, subst, ◌∙◌}
use Rattle.gx_split.specs.Split.{measure}
use Rattle.gx_split.specs.Waiting.{with_growth, HasGrowths, IsShort}
use Rattle.gx_split.proofs.Placing.{All-remove, placed_by, kept_by}
use Rattle.gx_split.proofs.place.place_next.Goals as goal

pub returns-clause-placed : goal.returns-clause-placed
returns-clause-placed g c keys kept =
    let m = measure g.M.Measure.joined g.M.Measure.extent in
    let is = c.as_slice-all.ensures.value in
    let within = rw is at c.farthest-place.ensures.within in
    let is_place = rw is at c.farthest-place.ensures.place in
    let is_next = rw is at c.index-all-place.is in
    let is_side = rw is at c.goes_second-second.ensures in
    let waiting = c.assign_key.ensures.waiting ∙ ap (map (with_growth m c.goes_second-second.result c.assign_key.new.covers)) c.remove.ensures.items in
    placed_by m keys c.args.covers.now c.assign_key.new.covers c.args.waiting.now.items c.assign_key.new.waiting.items c.args.sides.now c.mark.new.sides
    c.args.least c.farthest-place.result c.index-all-place.result c.goes_second-second.result kept within is_place is_next is_side c.assign_key.ensures.covers waiting c.mark.ensures

pub returns-clause-kept : goal.returns-clause-kept
returns-clause-kept g c keys kept =
    let m = measure g.M.Measure.joined g.M.Measure.extent in
    let within = rw c.as_slice-all.ensures.value at c.farthest-place.ensures.within in
    let waiting = c.assign_key.ensures.waiting ∙ ap (map (with_growth m c.goes_second-second.result c.assign_key.new.covers)) c.remove.ensures.items in
    kept_by m keys c.args.covers.now c.assign_key.new.covers c.args.waiting.now.items c.assign_key.new.waiting.items c.farthest-place.result _ c.goes_second-second.result
    kept within c.assign_key.ensures.covers waiting

pub assign_key-requires : goal.assign_key-requires
assign_key-requires g c =
    let grown = HasGrowths (measure g.M.Measure.joined g.M.Measure.extent) c.args.covers.now in
    let short = IsShort g.M.Measure.SHORT in
    let few = c.requires.few in (
      omega arith,
      (
        omega arith,
        (
          omega arith,
          (
            subst (All grown) (sym c.remove.ensures.items) (All-remove grown c.args.waiting.now.items c.farthest-place.result c.requires.grown),
            subst (All short) (sym c.remove.ensures.items) (All-remove short c.args.waiting.now.items c.farthest-place.result c.requires.short),
          ),
        ),
      ),
    )

pub returns-clause-one_less : goal.returns-clause-one_less
returns-clause-one_less g c = grind (arith, common_steps)
