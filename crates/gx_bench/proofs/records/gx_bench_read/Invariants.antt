use Rattle.std.proofs.Common.{length}
use Rattle.gx_bench.proofs.records.Rests.{ReadTo}
use Rattle.gx_bench.proofs.records.gx_bench_read.Given as goal

abbrev pub invariant-loop-size : goal.invariant-loop-size
invariant-loop-size l = ReadTo l.key l.bytes l.rest

abbrev pub decreases-loop-size : goal.decreases-loop-size
decreases-loop-size l = length l.rest
