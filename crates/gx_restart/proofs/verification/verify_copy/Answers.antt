use Rattle.std.proofs.Common.{sym, ◌∙◌, arith}
use Rattle.gx_node.specs.Reading.{format_of}
use Rattle.gx_opening.specs.Shown.{HoldsDamaged}
use Rattle.gx_restart.specs.Verified.{IsDamagedCopy}
use Rattle.gx_restart.proofs.Copied.{damaged_as, damaged_left, never_device, refused_so}
use Rattle.gx_restart.proofs.verification.Verified.{memory_only, memory_so, never_damaged}
use Rattle.gx_restart.proofs.verification.verify_copy.Goals as goal

pub returns-in-Ok-clause-verified : goal.returns-in-Ok-clause-verified
returns-in-Ok-clause-verified g c = λ honest. c.report_of.ensures.verified c.args.copy c.in-Ok.ensures.idle (c.in-Ok.ensures.opened honest)

pub returns-in-Ok-clause-refused : goal.returns-in-Ok-clause-refused
returns-in-Ok-clause-refused g c = λ honest.
    memory_so (record { partial_cmp = g.K.Key.PartialOrd.partial_cmp; eq = g.K.Key.PartialEq.eq; cmp = g.K.Key.Ord.cmp; overlap = g.K.Key.Shape.overlap; inside = g.K.Key.Shape.inside }) g.K.ReadKeys.is_proper g.K.ReadKeys.said (format_of g.K.KeyClass) _ (g.D.SectorDisk.state c.args.copy) c.report_of.result c.report_of.ensures.refused

pub returns-in-Ok-clause-device : goal.returns-in-Ok-clause-device
returns-in-Ok-clause-device g c = memory_only c.report_of.result c.report_of.ensures.refused

pub returns-in-Err-clause-refused : goal.returns-in-Err-clause-refused
returns-in-Err-clause-refused g c = λ honest.
    rw c.told_of_copy.ensures
    (refused_so (record { partial_cmp = g.K.Key.PartialOrd.partial_cmp; eq = g.K.Key.PartialEq.eq; cmp = g.K.Key.Ord.cmp; overlap = g.K.Key.Shape.overlap; inside = g.K.Key.Shape.inside }) g.K.ReadKeys.is_proper g.K.ReadKeys.said (format_of g.K.KeyClass) g.D.SectorDisk.state _ c.args.copy c.in-Err.refused.disk
    c.in-Err.refused.why (c.in-Err.ensures.refused honest c.requires.frames.0 c.requires.frames.1 (omega (arith, c.requires.large))))

pub returns-in-Err-clause-device : goal.returns-in-Err-clause-device
returns-in-Err-clause-device g c = λ is. never_device c.in-Err.refused.why (sym c.told_of_copy.ensures ∙ is)

pub returns-in-Ok-clause-damaged : goal.returns-in-Ok-clause-damaged
returns-in-Ok-clause-damaged g c = λ honest.
    never_damaged (λ n. IsDamagedCopy (record { partial_cmp = g.K.Key.PartialOrd.partial_cmp; eq = g.K.Key.PartialEq.eq; cmp = g.K.Key.Ord.cmp; overlap = g.K.Key.Shape.overlap; inside = g.K.Key.Shape.inside }) g.K.ReadKeys.is_proper g.K.ReadKeys.said (format_of g.K.KeyClass) (g.D.SectorDisk.state c.args.copy) (g.D.SectorDisk.state n.disk))
    c.report_of.result c.report_of.ensures.refused

pub returns-in-Err-clause-damaged : goal.returns-in-Err-clause-damaged
returns-in-Err-clause-damaged g c = λ honest is.
    damaged_left (record { partial_cmp = g.K.Key.PartialOrd.partial_cmp; eq = g.K.Key.PartialEq.eq; cmp = g.K.Key.Ord.cmp; overlap = g.K.Key.Shape.overlap; inside = g.K.Key.Shape.inside }) g.K.ReadKeys.is_proper g.K.ReadKeys.said g.K.KeyClass g.D.SectorDisk.state (g.D.SectorDisk.state c.args.copy) (g.D.SectorDisk.state c.in-Err.refused.disk) c.requires.large honest
    c.in-Err.ensures.device c.in-Err.refused.why (sym c.told_of_copy.ensures ∙ is) (c.in-Err.ensures.order honest)

pub returns-in-Ok-clause-left : goal.returns-in-Ok-clause-left
returns-in-Ok-clause-left g c = λ honest.
    never_damaged (λ n. HoldsDamaged (record { partial_cmp = g.K.Key.PartialOrd.partial_cmp; eq = g.K.Key.PartialEq.eq; cmp = g.K.Key.Ord.cmp; overlap = g.K.Key.Shape.overlap; inside = g.K.Key.Shape.inside }) g.K.ReadKeys.is_proper g.K.ReadKeys.said (format_of g.K.KeyClass) g.K.KeyClass.CLASS (g.D.SectorDisk.state n.disk))
    c.report_of.result c.report_of.ensures.refused

pub returns-in-Err-clause-left : goal.returns-in-Err-clause-left
returns-in-Err-clause-left g c = λ honest is. c.in-Err.ensures.damaged honest (damaged_as c.in-Err.refused.why (sym c.told_of_copy.ensures ∙ is))
