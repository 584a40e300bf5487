use Rattle.std.proofs.Common.{◌≡◌, suc, drop}
use Rattle.gx_node.specs.Store.{numbered}
use Rattle.gx_memory_tree.proofs.memory.are_numbered.Given as goal

-- what is left decides
abbrev pub invariant-loop-at : goal.invariant-loop-at
invariant-loop-at l = numbered 1 l.pages ≡ numbered (suc l.at) (drop l.at l.pages)
