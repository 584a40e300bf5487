use Rattle.std.proofs.Common.{◌≤◌, arith}
use Rattle.gx_engine.proofs.start.Starting.{started_from}
use Rattle.gx_engine.proofs.engine.Engine.start.Goals as goal

pub returns-in-Ok-sessions-clause-holds : goal.returns-in-Ok-sessions-clause-holds
returns-in-Ok-sessions-clause-holds g c = λ l bodies stands.
    let four : 4 ≤ l.most = omega (arith, c.requires.fanout.0, stands.fanout) in
    started_from _ _ _ _ _ c.args.start c.args.disk c.over.result bodies stands c.over.ensures c.requires.bodies.0 (c.a_class_is_lawful.ensures l four) four
