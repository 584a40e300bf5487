use Rattle.std.proofs.Common.{◌≤◌, take}
use Rattle.std.specs.Prelude.{IfSome}
use Rattle.gx_machine.specs.Keys.{keys}
use Rattle.gx_engine.specs.Losing.{AllRest, AreCutOff, OnlyHeld}
use Rattle.gx_engine.proofs.LosingStates.{IsSoFar}
use Rattle.gx_engine.proofs.losers.hold_losers.Given as goal

-- if a log has them, the notes up to this one are taken up
abbrev pub invariant-loop-loser : goal.invariant-loop-loser
invariant-loop-loser g l =
    (l.session ≤ 8) × IfSome l.last (λ t. 1 ≤ l.session) × AllRest l.sessions.phases × OnlyHeld l.fn.sessions l.sessions
    × (AreCutOff (keys g.B.Ord.cmp g.B.Shape.overlap g.B.Shape.inside) l.losers → IsSoFar l.fn.sessions (take l.loser-index l.losers) l.session l.last l.sessions)
