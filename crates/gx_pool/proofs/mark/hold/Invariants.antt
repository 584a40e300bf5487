use Rattle.std.proofs.Common.{◌≡◌, take}
use Rattle.gx_pool.proofs.mark.hold.Given as goal

abbrev pub invariant-loop-page : goal.invariant-loop-page
invariant-loop-page l = l.held.items ≡ take l.page-index l.pages
