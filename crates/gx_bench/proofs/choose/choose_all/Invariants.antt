use Rattle.std.proofs.Common.{◌≡◌, length}
use Rattle.gx_bench.specs.Choices.{AreChosen}
use Rattle.gx_bench.proofs.choose.choose_all.Given as goal

abbrev pub invariant-loop-place : goal.invariant-loop-place
invariant-loop-place l = record {
  as_many : length l.slots ≡ length l.keys;
  chosen : AreChosen l.inner.children l.keys l.slots l.place;
}
