use Rattle.std.proofs.Common.{false, refl}
use Rattle.gx_restart.proofs.Alone.{runs_same, steps_run}
use Rattle.gx_restart.proofs.index.Index.step.Goals as goal

pub returns-then-self-clause-steps : goal.returns-then-self-clause-steps
returns-then-self-clause-steps g c = rw (← c.self.view_is, c.if-self.true) (refl, refl)

pub returns-then-self-clause-runs : goal.returns-then-self-clause-runs
returns-then-self-clause-runs g c = λ l.
    runs_same (record { partial_cmp = g.K.Key.PartialOrd.partial_cmp; eq = g.K.Key.PartialEq.eq; cmp = g.K.Key.Ord.cmp; overlap = g.K.Key.Shape.overlap; inside = g.K.Key.Shape.inside }) g.K.ReadKeys.is_proper g.K.ReadKeys.said g.K.KeyClass g.D.SectorDisk.state l c.args.self.now.engine c.args.self.now.engine refl

pub returns-clause-steps : goal.returns-clause-steps
returns-clause-steps g c = rw (← c.self.view_is, c.if-self.false) (record { comes = c.step.ensures.comes; steps = c.step.ensures.steps; calls = c.step.ensures.calls; told = c.step.ensures.told; order = c.step.ensures.order }, refl)

pub returns-clause-told : goal.returns-clause-told
returns-clause-told g c = rw (← c.self.view_is) c.step.ensures.told

pub returns-clause-runs : goal.returns-clause-runs
returns-clause-runs g c = rw (← c.self.view_is) (λ l.
    steps_run (record { partial_cmp = g.K.Key.PartialOrd.partial_cmp; eq = g.K.Key.PartialEq.eq; cmp = g.K.Key.Ord.cmp; overlap = g.K.Key.Shape.overlap; inside = g.K.Key.Shape.inside }) g.K.ReadKeys.is_proper g.K.ReadKeys.said g.K.KeyClass g.D.SectorDisk.state l false (record { engine = _; ended = false }) c.args.event c.step.result (record { engine = c.step.new.self; ended = false })
    (record { comes = c.step.ensures.comes; steps = c.step.ensures.steps; calls = c.step.ensures.calls; told = c.step.ensures.told; order = c.step.ensures.order }, refl))
