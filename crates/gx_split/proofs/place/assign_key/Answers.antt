use Rattle.std.proofs.lemmas.Grind.{common_steps}
use Rattle.std.proofs.Common.{map, ap, sym, ◌∙◌, arith}
use Rattle.gx_split.specs.Split.{measure}
use Rattle.gx_split.specs.Waiting.{with_growth}
use Rattle.gx_split.proofs.Placing.{all_stay}
use Rattle.gx_split.proofs.place.assign_key.Goals as goal

pub returns-else-not-is_covered-clause-waiting : goal.returns-else-not-is_covered-clause-waiting
returns-else-not-is_covered-clause-waiting g c =
    let m = measure g.M.Measure.joined g.M.Measure.extent in
    let covered = c.is_covered-is_covered.ensures c.if-not-is_covered.false in
    all_stay m c.args.covers.now c.args.key.now c.args.second c.args.waiting.now.items covered c.requires.grown
    ∙ ap (λ k. map (with_growth m c.args.second k) c.args.waiting.now.items) (sym c.join_group.ensures)

pub returns-then-not-is_covered-clause-waiting : goal.returns-then-not-is_covered-clause-waiting
returns-then-not-is_covered-clause-waiting g c = grind (arith, common_steps)

pub returns-then-not-is_covered-clause-short : goal.returns-then-not-is_covered-clause-short
returns-then-not-is_covered-clause-short g c = grind (arith, common_steps)
