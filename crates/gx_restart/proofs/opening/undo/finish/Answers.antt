use Rattle.gx_engine.specs.Made.{Makes}
use Rattle.gx_restart.proofs.Going.{goes_joined, goes_stays, stopped_later_if, told_then}
use Rattle.gx_restart.proofs.opening.undo.finish.Goals as goal
use Rattle.gx_class.specs.Traits.{traits_of}

pub undo_all-requires-clause-undoes : goal.undo_all-requires-clause-undoes
undo_all-requires-clause-undoes g c = (goes_stays (record { partial_cmp = g.K.Key.PartialOrd.partial_cmp; eq = g.K.Key.PartialEq.eq; cmp = g.K.Key.Ord.cmp; overlap = g.K.Key.Shape.overlap; inside = g.K.Key.Shape.inside }) g.K.ReadKeys.is_proper g.K.ReadKeys.said g.K.KeyClass g.D.SectorDisk.state c.args.engine.now c.end_checkpoint.new.engine c.requires.undoes c.end_checkpoint.ensures.goes).undoes

pub returns-clause-goes : goal.returns-clause-goes
returns-clause-goes g c = goes_joined (Makes (record { partial_cmp = g.K.Key.PartialOrd.partial_cmp; eq = g.K.Key.PartialEq.eq; cmp = g.K.Key.Ord.cmp; overlap = g.K.Key.Shape.overlap; inside = g.K.Key.Shape.inside }) (traits_of g.K.ReadKeys.is_proper g.K.ReadKeys.said g.K.KeyClass) g.D.SectorDisk.state) c.args.engine.now c.end_checkpoint.new.engine c.undo_all.new.engine c.end_checkpoint.ensures.goes c.undo_all.ensures.goes

pub returns-clause-why : goal.returns-clause-why
returns-clause-why g c =
    stopped_later_if (Makes (record { partial_cmp = g.K.Key.PartialOrd.partial_cmp; eq = g.K.Key.PartialEq.eq; cmp = g.K.Key.Ord.cmp; overlap = g.K.Key.Shape.overlap; inside = g.K.Key.Shape.inside }) (traits_of g.K.ReadKeys.is_proper g.K.ReadKeys.said g.K.KeyClass) g.D.SectorDisk.state) c.args.engine.now c.end_checkpoint.new.engine c.undo_all.new.engine c.undo_all.result c.end_checkpoint.ensures.goes c.undo_all.ensures.why

pub returns-clause-told : goal.returns-clause-told
returns-clause-told g c = told_then g.D.SectorDisk.state c.args.engine.now c.end_checkpoint.new.engine c.undo_all.new.engine c.undo_all.result c.in_ok-end_checkpoint.ensures.told c.undo_all.ensures.told
