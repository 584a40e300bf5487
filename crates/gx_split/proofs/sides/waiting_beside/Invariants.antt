use Rattle.std.proofs.Common.{◌≡◌, ◌≤◌, All, length, map}
use Rattle.gx_split.specs.Split.{measure, pair, others}
use Rattle.gx_split.specs.Waiting.{slot_of, IsFresh, IsShort}
use Rattle.gx_split.proofs.sides.waiting_beside.Given as goal

abbrev pub invariant-loop-slot : goal.invariant-loop-slot
invariant-loop-slot g l = record {
  slots : map slot_of l.waiting.items ≡ others (pair l.seeds.lower l.seeds.higher) l.slot;
  fresh : All (IsFresh (measure g.M.Measure.joined g.M.Measure.extent) l.keys l.covers) l.waiting.items;
  short : All (IsShort g.M.Measure.SHORT) l.waiting.items;
  few : length l.waiting.items ≤ l.slot;
}
