use Rattle.std.proofs.Common.{◌≡◌, map, take}
use Rattle.gx_bench.specs.Sent.{page_of}
use Rattle.gx_bench.proofs.sent.pages_of.Given as goal

abbrev pub invariant-loop-one : goal.invariant-loop-one
invariant-loop-one l = l.pages.items ≡ map page_of (take l.one-index l.sent)
