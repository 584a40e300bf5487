use Rattle.gx_split.specs.Split.{measure}
use Rattle.gx_split.proofs.Placing.{grown_first, grown_second}
use Rattle.gx_split.proofs.place.refresh.Goals as goal

pub returns-then-second-clause-grown : goal.returns-then-second-clause-grown
returns-then-second-clause-grown g c =
    let m = measure g.M.Measure.joined g.M.Measure.extent in
    grown_second m c.args.covers.now c.args.waiting.now c.growth-waiting.result c.distance-waiting.result c.args.second c.if-second.true c.growth-waiting.ensures.value c.distance-waiting.ensures

pub returns-else-second-clause-grown : goal.returns-else-second-clause-grown
returns-else-second-clause-grown g c =
    let m = measure g.M.Measure.joined g.M.Measure.extent in
    grown_first m c.args.covers.now c.args.waiting.now c.growth-waiting-else-second.result c.distance-waiting-else-second.result c.args.second c.if-second.false
    c.growth-waiting-else-second.ensures.value c.distance-waiting-else-second.ensures
