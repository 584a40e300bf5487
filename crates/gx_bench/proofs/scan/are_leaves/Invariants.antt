use Rattle.std.proofs.Common.{◌≡◌, ◌<◌, ℕ, true}
use Rattle.std.specs.Prelude.{slice_index_or}
use Rattle.gx_page.specs.Contents.{Contents}
use Rattle.gx_node.specs.Reading.{is_leaf}
use Rattle.gx_bench.specs.Scans.{boxes}
use Rattle.gx_bench.proofs.scan.are_leaves.Given as goal

abbrev pub invariant-loop-page : goal.invariant-loop-page
invariant-loop-page l = (k : ℕ) (d : Contents) → k < l.page-index → is_leaf boxes (slice_index_or l.pages k d) ≡ true
