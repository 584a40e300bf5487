use Rattle.std.proofs.Common.{subst}
use Rattle.gx_machine.specs.Keys.{keys}
use Rattle.gx_phases.specs.States.{IsKept}
use Rattle.gx_phases.proofs.sessions.Sessions.has_failed.Goals as goal

pub returns-clause-kept : goal.returns-clause-kept
returns-clause-kept g c =
    subst (IsKept (keys g.B.Ord.cmp g.B.Shape.overlap g.B.Shape.inside)) c.self.view_is c.self.invariant
