use Rattle.std.proofs.Common.{◌≡◌, ◌*◌, ℕ, List, length, drop, true}
use Rattle.gx_disk.specs.Sectors.{sector_of}
use Rattle.gx_disk.specs.Memory.{bytes_before, total_kept, fit_all}
use Rattle.gx_disk.proofs.tear.old_bytes.Given as goal

abbrev pub invariant-loop-call : goal.invariant-loop-call
invariant-loop-call l = record {
  fits : fit_all l.sectors (drop l.call-index l.calls) ≡ true;
  sized : total_kept (drop l.call-index l.calls) ≡ length l.rest;
  same : (now : List ℕ) → length now ≡ 512 * l.sectors → sector_of (bytes_before (drop l.call-index l.calls) l.rest now) l.s ≡ sector_of (bytes_before l.calls l.kept now) l.s;
}
