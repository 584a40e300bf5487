use Rattle.std.proofs.Common.{◌≡◌, take}
use Rattle.std.specs.Prelude.{count_by}
use Rattle.std.specs.List.{enumerate_from}
use Rattle.gx_geom.specs.Spans.{span_cmp}
use Rattle.gx_class.specs.Halving.{comes_before}
use Rattle.gx_class.proofs.interval_class.place.Given as goal

-- how many so far come before the key
abbrev pub invariant-loop-other_slot : goal.invariant-loop-other_slot
invariant-loop-other_slot l = l.before ≡ count_by (λ y. comes_before span_cmp y (l.slot, l.key)) (take l.other_slot (enumerate_from 0 l.keys))
