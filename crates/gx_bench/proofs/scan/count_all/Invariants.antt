use Rattle.std.proofs.Common.{◌≡◌, length, map, take}
use Rattle.gx_bench.specs.Sent.{key_of}
use Rattle.gx_bench.specs.Scans.{hits_in_all}
use Rattle.gx_bench.proofs.scan.count_all.Given as goal

abbrev pub invariant-loop-place : goal.invariant-loop-place
invariant-loop-place l = record {
  as_many : length l.counts ≡ length l.queries;
  written : take l.place l.counts ≡ map (λ q. hits_in_all l.pages (key_of q)) (take l.place l.queries);
}
