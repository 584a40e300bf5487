use Rattle.std.proofs.Common.{length}
use Rattle.gx_storm.specs.Mismatches.{AreFaultless, HasNumbersFor}
use Rattle.gx_machine.specs.Keys.{keys}
use Rattle.gx_storm.proofs.items.Replaying.{IsUpTo}
use Rattle.gx_storm.proofs.items.replay.Given as goal

-- the replay goes up to here, and the index has gone along
abbrev pub invariant-loop-place : goal.invariant-loop-place
invariant-loop-place g l =
    AreFaultless l.items → HasNumbersFor (length l.items) l.fn.index
    → IsUpTo (keys g.B.Ord.cmp g.B.Shape.overlap g.B.Shape.inside) l.items l.fn.index l.place l.asking l.index
