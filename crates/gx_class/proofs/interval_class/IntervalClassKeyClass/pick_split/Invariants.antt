use Rattle.std.proofs.Common.{◌≡◌, take}
use Rattle.gx_geom.specs.Spans.{span_cmp}
use Rattle.gx_class.specs.Halving.{halves_by_order}
use Rattle.gx_class.proofs.interval_class.IntervalClassKeyClass.pick_split.Given as goal

-- the sides so far are those of the halves
abbrev pub invariant-loop-slot : goal.invariant-loop-slot
invariant-loop-slot l = take l.slot l.sides ≡ take l.slot (halves_by_order span_cmp l.keys)
