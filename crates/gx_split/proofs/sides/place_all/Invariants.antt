use Rattle.std.proofs.Common.{◌≡◌, ◌+◌, All, length}
use Rattle.gx_split.specs.Split.{measure, placed}
use Rattle.gx_split.specs.Waiting.{groups_of, IsShort, IsKept}
use Rattle.gx_split.proofs.sides.place_all.Given as goal

abbrev pub invariant-loop-placed : goal.invariant-loop-placed
invariant-loop-placed g l = record {
  groups :
      groups_of l.covers l.waiting.items l.sides
      ≡ placed (measure g.M.Measure.joined g.M.Measure.extent) l.keys l.least
      (groups_of l.initial.covers l.initial.waiting.items l.initial.sides) l._placed;
  kept : IsKept (measure g.M.Measure.joined g.M.Measure.extent) l.keys l.covers l.waiting.items;
  short : All (IsShort g.M.Measure.SHORT) l.waiting.items;
  left : length l.waiting.items + l._placed + 2 ≡ length l.keys;
}
