use Rattle.std.proofs.Common.{◌≡◌, length, map, take}
use Rattle.gx_bench.specs.Sent.{key_of}
use Rattle.gx_bench.proofs.split.write_keys.Given as goal

abbrev pub invariant-loop-place : goal.invariant-loop-place
invariant-loop-place l = record {
  as_many : length l.keys ≡ length l.sent;
  written : take l.place l.keys ≡ map key_of (take l.place l.sent);
}
