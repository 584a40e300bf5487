use Rattle.gx_restart.proofs.Going.{exhausted_told}
use Rattle.gx_restart.proofs.index.Index.exhaust.Goals as goal

pub unreachable-requires : goal.unreachable-requires
unreachable-requires g c = let clash = c.in-None.ensures.ends c.requires in let no : ⊥ = cc in no

pub returns-clause-made : goal.returns-clause-made
returns-clause-made g c = rw (← c.self.view_is) c.in-Some.ensures.made

pub returns-clause-told : goal.returns-clause-told
returns-clause-told g c =
    rw (← c.self.view_is) (exhausted_told (record { partial_cmp = g.K.Key.PartialOrd.partial_cmp; eq = g.K.Key.PartialEq.eq; cmp = g.K.Key.Ord.cmp; overlap = g.K.Key.Shape.overlap; inside = g.K.Key.Shape.inside }) g.K.ReadKeys.is_proper g.K.ReadKeys.said g.K.KeyClass g.D.SectorDisk.state c.args.event _ c.repeat.new.engine c.in-Some.ends c.requires c.in-Some.ensures.made)
