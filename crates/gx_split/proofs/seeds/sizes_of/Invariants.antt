use Rattle.std.proofs.Common.{take}
use Rattle.gx_split.specs.Sizes.{IsSizes}
use Rattle.gx_split.proofs.seeds.sizes_of.Given as goal

abbrev pub invariant-loop-key : goal.invariant-loop-key
invariant-loop-key g l = IsSizes g.M.Measure.extent (take l.key-index l.keys) l.sizes.items
