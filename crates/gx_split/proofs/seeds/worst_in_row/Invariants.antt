use Rattle.std.proofs.Common.{length}
use Rattle.gx_split.specs.Split.{measure, waste_at, pair}
use Rattle.gx_split.proofs.Steps.{IsWorstInRow}
use Rattle.gx_split.proofs.seeds.worst_in_row.Given as goal

abbrev pub invariant-loop-k : goal.invariant-loop-k
invariant-loop-k g l =
    IsWorstInRow (waste_at (measure g.M.Measure.joined g.M.Measure.extent) l.keys) (length l.keys) (pair l.fn.best.lower l.fn.best.higher) l.lower l.k l.worst
