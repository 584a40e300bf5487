use Rattle.std.proofs.Common.{All, take}
use Rattle.gx_split.specs.Frames.{IsInFrame}
use Rattle.gx_split.proofs.boxes.Box2Measure.frame.Given as goal

abbrev pub invariant-loop-key : goal.invariant-loop-key
invariant-loop-key l = All (IsInFrame l.frame) (take l.key-index l.keys)
