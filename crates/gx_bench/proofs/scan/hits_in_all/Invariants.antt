use Rattle.std.proofs.Common.{◌≡◌, ◌≤◌, ◌*◌, take}
use Rattle.std.specs.List.{sum_by}
use Rattle.gx_bench.specs.Sent.{key_of}
use Rattle.gx_bench.specs.Scans.{hits_in}
use Rattle.gx_bench.proofs.scan.hits_in_all.Given as goal

abbrev pub invariant-loop-page : goal.invariant-loop-page
invariant-loop-page l = record {
  counted : l.hits ≡ sum_by (hits_in (key_of l.sent)) (take l.page-index l.pages);
  few : l.hits ≤ 832 * l.page-index;
}
