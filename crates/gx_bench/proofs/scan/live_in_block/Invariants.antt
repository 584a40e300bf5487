use Rattle.std.proofs.Common.{◌≡◌, ◌≤◌, not, take}
use Rattle.std.specs.Prelude.{slice_get}
use Rattle.std.specs.List.{count_by, filter_map}
use Rattle.gx_bench.proofs.scan.live_in_block.Given as goal

abbrev pub invariant-loop-slot : goal.invariant-loop-slot
invariant-loop-slot l = record {
  counted : l.hits ≡ count_by (λ pair. not pair.marked) (filter_map (slice_get l.leaf.pairs) (take l.slot-index l.slots));
  few : l.hits ≤ l.slot-index;
}
