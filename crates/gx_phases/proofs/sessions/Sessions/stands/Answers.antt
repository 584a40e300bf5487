use Rattle.std.proofs.Common.{subst}
use Rattle.gx_machine.specs.Keys.{keys}
use Rattle.gx_phases.specs.States.{IsKept}
use Rattle.gx_phases.proofs.sessions.Sessions.stands.Goals as goal

pub returns : goal.returns
returns g c =
    subst (IsKept (keys g.B.Ord.cmp g.B.Shape.overlap g.B.Shape.inside)) c.self.view_is c.self.invariant
