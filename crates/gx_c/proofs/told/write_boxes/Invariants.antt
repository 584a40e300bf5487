use Rattle.std.proofs.Common.{◌≡◌, length, map, take}
use Rattle.gx_c.specs.Sent.{sent_entry}
use Rattle.gx_c.proofs.told.write_boxes.Given as goal

abbrev pub invariant-loop-place : goal.invariant-loop-place
invariant-loop-place l = record {
  as_many : length l.out ≡ length l.entries;
  written : take l.place l.out ≡ map sent_entry (take l.place l.entries);
}
