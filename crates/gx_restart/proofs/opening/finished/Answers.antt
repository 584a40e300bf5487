use Rattle.std.proofs.Common.{arith}
use Rattle.gx_opening.specs.Standing.{limits_of}
use Rattle.gx_restart.proofs.Going.{goes_stays}
use Rattle.gx_restart.proofs.Opened.{goes_hold, goes_stop}
use Rattle.gx_restart.proofs.opening.finished.Goals as goal

pub returns-in-Ok-clause-device : goal.returns-in-Ok-clause-device
returns-in-Ok-clause-device g c = let stays = goes_stays (record { partial_cmp = g.K.Key.PartialOrd.partial_cmp; eq = g.K.Key.PartialEq.eq; cmp = g.K.Key.Ord.cmp; overlap = g.K.Key.Shape.overlap; inside = g.K.Key.Shape.inside }) g.K.ReadKeys.is_proper g.K.ReadKeys.said g.K.KeyClass g.D.SectorDisk.state c.args.engine c.finish.new.engine c.requires.undoes c.finish.ensures.goes in (stays.device.sectors, stays.device.honest)

pub returns-in-Ok-clause-keeps : goal.returns-in-Ok-clause-keeps
returns-in-Ok-clause-keeps g c = λ p seen most h.
    goes_hold (record { partial_cmp = g.K.Key.PartialOrd.partial_cmp; eq = g.K.Key.PartialEq.eq; cmp = g.K.Key.Ord.cmp; overlap = g.K.Key.Shape.overlap; inside = g.K.Key.Shape.inside }) g.K.ReadKeys.is_proper g.K.ReadKeys.said g.K.KeyClass g.D.SectorDisk.state p seen (c.a_class_is_lawful.ensures (limits_of p) most) c.args.engine c.finish.new.engine c.requires.undoes c.finish.ensures.goes h

pub returns-in-Err-clause-device : goal.returns-in-Err-clause-device
returns-in-Err-clause-device g c =
    let stays = goes_stays (record { partial_cmp = g.K.Key.PartialOrd.partial_cmp; eq = g.K.Key.PartialEq.eq; cmp = g.K.Key.Ord.cmp; overlap = g.K.Key.Shape.overlap; inside = g.K.Key.Shape.inside }) g.K.ReadKeys.is_proper g.K.ReadKeys.said g.K.KeyClass g.D.SectorDisk.state c.args.engine c.finish.new.engine c.requires.undoes c.finish.ensures.goes in
    rw c.into_disk.ensures (stays.device.sectors, stays.device.honest)

pub returns-in-Err-clause-keeps : goal.returns-in-Err-clause-keeps
returns-in-Err-clause-keeps g c = λ p seen most h.
    rw c.into_disk.ensures
    (goes_stop (record { partial_cmp = g.K.Key.PartialOrd.partial_cmp; eq = g.K.Key.PartialEq.eq; cmp = g.K.Key.Ord.cmp; overlap = g.K.Key.Shape.overlap; inside = g.K.Key.Shape.inside }) g.K.ReadKeys.is_proper g.K.ReadKeys.said g.K.KeyClass g.D.SectorDisk.state p seen (c.a_class_is_lawful.ensures (limits_of p) most) (let few = g.met.K.KeyClass.key_is_short in omega (arith, few)) c.what_a_call_has_left_is_bounded.ensures c.args.engine c.finish.new.engine c.in-Err.why c.requires.undoes c.finish.ensures.goes c.in-Err.ensures.why h)

pub returns-in-Err-clause-faults : goal.returns-in-Err-clause-faults
returns-in-Err-clause-faults g c = rw c.into_disk.ensures c.in-Err.ensures.told
