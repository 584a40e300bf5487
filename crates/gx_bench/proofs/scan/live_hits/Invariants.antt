use Rattle.std.proofs.Common.{◌≡◌, ◌≤◌, ◌*◌, take}
use Rattle.std.specs.List.{count_by}
use Rattle.gx_class.specs.Probes.{corners, are_between}
use Rattle.gx_bench.specs.Scans.{is_live_hit}
use Rattle.gx_bench.proofs.scan.live_hits.Given as goal

abbrev pub invariant-loop-block : goal.invariant-loop-block
invariant-loop-block l = record {
  few : l.hits ≤ l.block * 64;
  counted : l.hits ≡ count_by (is_live_hit (λ key. are_between l.probe.low l.probe.high (corners key))) (take (l.block * 64) l.leaf.pairs);
}
