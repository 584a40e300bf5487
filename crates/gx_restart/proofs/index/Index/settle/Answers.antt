use Rattle.std.proofs.Common.{refl, ◌∙◌, ap, sym, false}
use Rattle.gx_restart.specs.States.{State}
use Rattle.gx_restart.proofs.Alone.{runs_same, settled_by}
use Rattle.gx_restart.proofs.settle.Settling.{settles_keeps, settles_rests_on}
use Rattle.gx_restart.proofs.index.Index.settle.Goals as goal

pub returns-then-self-clause-settles : goal.returns-then-self-clause-settles
returns-then-self-clause-settles g c = rw (← c.self.view_is, c.if-self.true) (refl, refl)

pub returns-then-self-clause-runs : goal.returns-then-self-clause-runs
returns-then-self-clause-runs g c = λ l.
    runs_same (record { partial_cmp = g.K.Key.PartialOrd.partial_cmp; eq = g.K.Key.PartialEq.eq; cmp = g.K.Key.Ord.cmp; overlap = g.K.Key.Shape.overlap; inside = g.K.Key.Shape.inside }) g.K.ReadKeys.is_proper g.K.ReadKeys.said g.K.KeyClass g.D.SectorDisk.state l c.args.self.now.engine c.args.self.now.engine refl

pub returns-clause-runs : goal.returns-clause-runs
returns-clause-runs g c = λ l.
    settled_by (record { partial_cmp = g.K.Key.PartialOrd.partial_cmp; eq = g.K.Key.PartialEq.eq; cmp = g.K.Key.Ord.cmp; overlap = g.K.Key.Shape.overlap; inside = g.K.Key.Shape.inside }) g.K.ReadKeys.is_proper g.K.ReadKeys.said g.K.KeyClass g.D.SectorDisk.state l false c.args.self.now c.exhaust_both.result c.exhaust_both.new.self (c.exhaust_both.ensures.made, c.exhaust_both.ensures.same ∙ ap (λ (x : State g.row.K-Key.Denot g.row.D.Denot). x.ended) (sym c.self.view_is) ∙ c.if-self.false)

pub returns-clause-keeps : goal.returns-clause-keeps
returns-clause-keeps g c =
    settles_keeps (record { partial_cmp = g.K.Key.PartialOrd.partial_cmp; eq = g.K.Key.PartialEq.eq; cmp = g.K.Key.Ord.cmp; overlap = g.K.Key.Shape.overlap; inside = g.K.Key.Shape.inside }) g.K.ReadKeys.is_proper g.K.ReadKeys.said g.K.KeyClass g.D.SectorDisk.state false c.args.self.now c.exhaust_both.result c.exhaust_both.new.self (c.exhaust_both.ensures.made, c.exhaust_both.ensures.same ∙ ap (λ (x : State g.row.K-Key.Denot g.row.D.Denot). x.ended) (sym c.self.view_is) ∙ c.if-self.false)

pub returns-clause-rests : goal.returns-clause-rests
returns-clause-rests g c =
    settles_rests_on (record { partial_cmp = g.K.Key.PartialOrd.partial_cmp; eq = g.K.Key.PartialEq.eq; cmp = g.K.Key.Ord.cmp; overlap = g.K.Key.Shape.overlap; inside = g.K.Key.Shape.inside }) g.K.ReadKeys.is_proper g.K.ReadKeys.said g.K.KeyClass g.D.SectorDisk.state c.args.self.now.engine c.exhaust_both.result c.exhaust_both.new.self.engine c.exhaust_both.ensures.made
