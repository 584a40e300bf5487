use Rattle.gx_node.specs.Reading.{format_of}
use Rattle.gx_opening.specs.Standing.{limits_of}
use Rattle.gx_restart.proofs.verification.Verified.{opened_verified}
use Rattle.gx_restart.proofs.verification.report_of.Goals as goal

pub returns-in-Ok-clause-verified : goal.returns-in-Ok-clause-verified
returns-in-Ok-clause-verified g c = λ a idle o.
    opened_verified (record { partial_cmp = g.K.Key.PartialOrd.partial_cmp; eq = g.K.Key.PartialEq.eq; cmp = g.K.Key.Ord.cmp; overlap = g.K.Key.Shape.overlap; inside = g.K.Key.Shape.inside }) g.K.ReadKeys.is_proper g.K.ReadKeys.said (format_of g.K.KeyClass) _ c.a_class_is_lawful.ensures (g.D.SectorDisk.state a) _ c.args.engine idle o _
    c.commits-commits.ensures (c.in-Ok.ensures (limits_of o.parameters) o.holds.bodies o.holds.index o.holds.holds) c.used-used.ensures
