use Rattle.std.proofs.Common.{All, take}
use Rattle.gx_split.specs.Frames.{IsInSolidFrame}
use Rattle.gx_split.proofs.solids.Box3Measure.frame.Given as goal

abbrev pub invariant-loop-key : goal.invariant-loop-key
invariant-loop-key l = All (IsInSolidFrame l.frame) (take l.key-index l.keys)
