use Rattle.std.proofs.Common.{◌≡◌, ◌<◌, length}
use Rattle.gx_split.specs.Split.{measure, waste_at, pair, worst_in_rows}
use Rattle.gx_split.proofs.seeds.worst_pair.Given as goal

abbrev pub invariant-loop-lower : goal.invariant-loop-lower
invariant-loop-lower g l = record {
  slots :
      pair l.worst.lower l.worst.higher
      ≡ worst_in_rows (waste_at (measure g.M.Measure.joined g.M.Measure.extent) l.keys) (length l.keys) l.lower;
  wastes : l.worst.waste ≡ waste_at (measure g.M.Measure.joined g.M.Measure.extent) l.keys l.worst.lower l.worst.higher;
  in_order : l.worst.lower < l.worst.higher;
  within : l.worst.higher < length l.keys;
}
