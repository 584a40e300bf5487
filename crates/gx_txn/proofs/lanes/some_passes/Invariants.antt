use Rattle.std.proofs.Common.{◌≡◌, take}
use Rattle.std.specs.List.{list_any}
use Rattle.gx_txn.proofs.lanes.some_passes.Given as goal

-- whether one of the keys so far passes
abbrev pub invariant-loop-key : goal.invariant-loop-key
invariant-loop-key g l = l.found ≡ list_any (g.T.Test.test l.test) (take l.key-index l.keys)
