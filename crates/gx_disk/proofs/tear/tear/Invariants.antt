use Rattle.std.proofs.Common.{◌≡◌, ◌*◌, ◌<◌, ◌≤◌, ℕ, length, false}
use Rattle.gx_disk.specs.Sectors.{sector_of}
use Rattle.gx_disk.specs.Memory.{pending_after, bytes_before}
use Rattle.gx_disk.specs.Crash.{pending_below, crashed}
use Rattle.gx_disk.proofs.tear.tear.Given as goal

abbrev pub invariant-loop-s : goal.invariant-loop-s
invariant-loop-s l = record {
  size : length l.bytes.items ≡ 512 * l.sectors;
  count : l.i ≡ pending_below (pending_after l.calls false) l.s;
  few : l.i ≤ l.s;
  below : (r : ℕ) → r < l.s → sector_of l.bytes.items r ≡ crashed (pending_after l.calls false) l.torn (bytes_before l.calls l.kept l.initial.bytes.items) l.initial.bytes.items r;
  above : (r : ℕ) → l.s ≤ r → sector_of l.bytes.items r ≡ sector_of l.initial.bytes.items r;
}
