use Rattle.std.proofs.Common.{refl, false}
use Rattle.gx_restart.proofs.Alone.{calls_run, runs_same}
use Rattle.gx_restart.proofs.index.Index.call.Goals as goal

pub returns-then-self-clause-runs : goal.returns-then-self-clause-runs
returns-then-self-clause-runs g c = λ l.
    runs_same (record { partial_cmp = g.K.Key.PartialOrd.partial_cmp; eq = g.K.Key.PartialEq.eq; cmp = g.K.Key.Ord.cmp; overlap = g.K.Key.Shape.overlap; inside = g.K.Key.Shape.inside }) g.K.ReadKeys.is_proper g.K.ReadKeys.said g.K.KeyClass g.D.SectorDisk.state l c.args.self.now.engine c.args.self.now.engine refl

pub returns-clause-runs : goal.returns-clause-runs
returns-clause-runs g c = λ l.
    calls_run (record { partial_cmp = g.K.Key.PartialOrd.partial_cmp; eq = g.K.Key.PartialEq.eq; cmp = g.K.Key.Ord.cmp; overlap = g.K.Key.Shape.overlap; inside = g.K.Key.Shape.inside }) g.K.ReadKeys.is_proper g.K.ReadKeys.said g.K.KeyClass g.D.SectorDisk.state l false c.args.self.now c.args.session c.args.call c.run.result c.run.new.self c.run.ensures.calls
