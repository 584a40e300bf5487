use Rattle.std.proofs.Common.{arith}
use Rattle.gx_engine.specs.States.{Parts}
use Rattle.gx_engine.proofs.asks.Moves.{ask_leads, ask_told, numbers_stay, told_events}
use Rattle.gx_engine.proofs.engine.Engine.ask.Goals as goal

pub invariant_of-self : goal.invariant_of-self
invariant_of-self g c =
    let numbers = numbers_stay _ c.args.session c.args.call c.self.inside.sessions c.ask.result c.ask.new.self c.ask.ensures.asked in
    let was = c.self.invariant in
    record { stands = was.stands; durable = omega (arith, numbers.1, was.durable); sealed = omega (arith, numbers.0, was.sealed); some = was.some; space = was.space; frames = was.frames }

pub returns-clause-comes : goal.returns-clause-comes
returns-clause-comes g c =
    let old : Parts g.row.K-Key.Denot g.row.D.Denot = record { volume = c.self.inside.storage; sessions = c.self.inside.sessions; in_flight = c.self.inside.in_flight; checkpoint = c.self.inside.checkpoint } in
    rw (← c.self.view_is, c.outcome_of.ensures) (ask_told _ c.args.session c.args.call old c.ask.result c.ask.new.self c.ask.ensures.asked)

pub returns-clause-leads : goal.returns-clause-leads
returns-clause-leads g c = λ l.
    let old : Parts g.row.K-Key.Denot g.row.D.Denot = record { volume = c.self.inside.storage; sessions = c.self.inside.sessions; in_flight = c.self.inside.in_flight; checkpoint = c.self.inside.checkpoint } in
    rw (← c.self.view_is, c.outcome_of.ensures, told_events c.args.session c.args.call c.self.inside.sessions c.ask.result)
    (ask_leads _ _ _ _ (c.a_class_is_lawful.ensures l) (g.D.SectorDisk.state old.volume.shelf.disk) old
    c.stands.ensures c.args.session c.args.call c.ask.result c.ask.new.self c.ask.ensures.asked)
