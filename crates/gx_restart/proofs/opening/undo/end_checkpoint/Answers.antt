use Rattle.gx_restart.proofs.Going.{ended_goes, ended_told, ended_why, ended_works}
use Rattle.gx_restart.proofs.opening.undo.end_checkpoint.Goals as goal

pub returns-clause-goes : goal.returns-clause-goes
returns-clause-goes g c = ended_goes (record { partial_cmp = g.K.Key.PartialOrd.partial_cmp; eq = g.K.Key.PartialEq.eq; cmp = g.K.Key.Ord.cmp; overlap = g.K.Key.Shape.overlap; inside = g.K.Key.Shape.inside }) g.K.ReadKeys.is_proper g.K.ReadKeys.said g.K.KeyClass g.D.SectorDisk.state c.args.engine.now c.repeat.new.engine c.in-Some.ends c.in-Some.ensures.made

pub returns-clause-ended : goal.returns-clause-ended
returns-clause-ended g c = ended_works (record { partial_cmp = g.K.Key.PartialOrd.partial_cmp; eq = g.K.Key.PartialEq.eq; cmp = g.K.Key.Ord.cmp; overlap = g.K.Key.Shape.overlap; inside = g.K.Key.Shape.inside }) g.K.ReadKeys.is_proper g.K.ReadKeys.said g.K.KeyClass g.D.SectorDisk.state c.args.engine.now c.repeat.new.engine c.in-Some.ends c.in-Some.ensures.made

pub returns-clause-why : goal.returns-clause-why
returns-clause-why g c = ended_why (record { partial_cmp = g.K.Key.PartialOrd.partial_cmp; eq = g.K.Key.PartialEq.eq; cmp = g.K.Key.Ord.cmp; overlap = g.K.Key.Shape.overlap; inside = g.K.Key.Shape.inside }) g.K.ReadKeys.is_proper g.K.ReadKeys.said g.K.KeyClass g.D.SectorDisk.state c.args.engine.now c.repeat.new.engine c.in-Some.ends c.requires.works c.in-Some.ensures.made

pub unreachable-requires : goal.unreachable-requires
unreachable-requires g c = let clash = c.in-None.ensures.ends tt in let no : ⊥ = cc in no

pub returns-clause-told : goal.returns-clause-told
returns-clause-told g c = ended_told (record { partial_cmp = g.K.Key.PartialOrd.partial_cmp; eq = g.K.Key.PartialEq.eq; cmp = g.K.Key.Ord.cmp; overlap = g.K.Key.Shape.overlap; inside = g.K.Key.Shape.inside }) g.K.ReadKeys.is_proper g.K.ReadKeys.said g.K.KeyClass g.D.SectorDisk.state c.args.engine.now c.repeat.new.engine c.in-Some.ends c.in-Some.ensures.made
