use Rattle.std.proofs.Common.{◌≡◌, ◌++◌, take, drop, map, All}
use Rattle.gx_split.specs.Split.{measure}
use Rattle.gx_split.specs.Waiting.{with_growth, IsShort}
use Rattle.gx_split.proofs.place.refresh_all.Given as goal

abbrev pub invariant-loop-other : goal.invariant-loop-other
invariant-loop-other g l = record {
  grown :
      l.waiting
      ≡ map (with_growth (measure g.M.Measure.joined g.M.Measure.extent) l.second l.covers) (take l.other-index l.initial.waiting)
      ++ drop l.other-index l.initial.waiting;
  short : All (IsShort g.M.Measure.SHORT) l.waiting;
}
