use Rattle.gx_restart.proofs.Going.{undo_goes, undo_so, undone_free, undone_told, undone_why, undone_works}
use Rattle.gx_restart.proofs.opening.undo.undo.Goals as goal

pub returns-clause-goes : goal.returns-clause-goes
returns-clause-goes g c = undo_goes (record { partial_cmp = g.K.Key.PartialOrd.partial_cmp; eq = g.K.Key.PartialEq.eq; cmp = g.K.Key.Ord.cmp; overlap = g.K.Key.Shape.overlap; inside = g.K.Key.Shape.inside }) g.K.ReadKeys.is_proper g.K.ReadKeys.said g.K.KeyClass g.D.SectorDisk.state c.args.session c.args.engine.now c.drive.new.engine c.drive.result c.drive.ensures.made

pub returns-clause-undone : goal.returns-clause-undone
returns-clause-undone g c =
    rw c.undone.ensures (undone_free (record { partial_cmp = g.K.Key.PartialOrd.partial_cmp; eq = g.K.Key.PartialEq.eq; cmp = g.K.Key.Ord.cmp; overlap = g.K.Key.Shape.overlap; inside = g.K.Key.Shape.inside }) g.K.ReadKeys.is_proper g.K.ReadKeys.said g.K.KeyClass g.D.SectorDisk.state c.args.session c.args.engine.now c.drive.new.engine _
    (undo_so (record { partial_cmp = g.K.Key.PartialOrd.partial_cmp; eq = g.K.Key.PartialEq.eq; cmp = g.K.Key.Ord.cmp; overlap = g.K.Key.Shape.overlap; inside = g.K.Key.Shape.inside }) g.K.ReadKeys.is_proper g.K.ReadKeys.said g.K.KeyClass g.D.SectorDisk.state c.args.session c.args.engine.now c.drive.new.engine c.drive.result c.requires.session c.requires.undoes c.requires.works c.drive.ensures.made))

pub returns-clause-works : goal.returns-clause-works
returns-clause-works g c =
    rw c.undone.ensures (undone_works (record { partial_cmp = g.K.Key.PartialOrd.partial_cmp; eq = g.K.Key.PartialEq.eq; cmp = g.K.Key.Ord.cmp; overlap = g.K.Key.Shape.overlap; inside = g.K.Key.Shape.inside }) g.K.ReadKeys.is_proper g.K.ReadKeys.said g.K.KeyClass g.D.SectorDisk.state c.args.session c.args.engine.now c.drive.new.engine _
    (undo_so (record { partial_cmp = g.K.Key.PartialOrd.partial_cmp; eq = g.K.Key.PartialEq.eq; cmp = g.K.Key.Ord.cmp; overlap = g.K.Key.Shape.overlap; inside = g.K.Key.Shape.inside }) g.K.ReadKeys.is_proper g.K.ReadKeys.said g.K.KeyClass g.D.SectorDisk.state c.args.session c.args.engine.now c.drive.new.engine c.drive.result c.requires.session c.requires.undoes c.requires.works c.drive.ensures.made))

pub returns-clause-why : goal.returns-clause-why
returns-clause-why g c =
    rw c.undone.ensures (undone_why (record { partial_cmp = g.K.Key.PartialOrd.partial_cmp; eq = g.K.Key.PartialEq.eq; cmp = g.K.Key.Ord.cmp; overlap = g.K.Key.Shape.overlap; inside = g.K.Key.Shape.inside }) g.K.ReadKeys.is_proper g.K.ReadKeys.said g.K.KeyClass g.D.SectorDisk.state c.args.session c.args.engine.now c.drive.new.engine _
    (undo_so (record { partial_cmp = g.K.Key.PartialOrd.partial_cmp; eq = g.K.Key.PartialEq.eq; cmp = g.K.Key.Ord.cmp; overlap = g.K.Key.Shape.overlap; inside = g.K.Key.Shape.inside }) g.K.ReadKeys.is_proper g.K.ReadKeys.said g.K.KeyClass g.D.SectorDisk.state c.args.session c.args.engine.now c.drive.new.engine c.drive.result c.requires.session c.requires.undoes c.requires.works c.drive.ensures.made))

pub returns-clause-told : goal.returns-clause-told
returns-clause-told g c = rw c.undone.ensures (undone_told g.D.SectorDisk.state c.args.engine.now c.drive.new.engine c.drive.result c.drive.ensures.told)
