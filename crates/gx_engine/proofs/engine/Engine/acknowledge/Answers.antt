use Rattle.std.proofs.Common.{◌∙◌, ap}
use Rattle.gx_engine.specs.States.{Parts}
use Rattle.gx_engine.proofs.commits.Moves.{acknowledge_leads}
use Rattle.gx_engine.proofs.engine.Engine.acknowledge.Goals as goal

pub returns-clause-leads : goal.returns-clause-leads
returns-clause-leads g c =
    let old : Parts g.row.K-Key.Denot g.row.D.Denot = record { volume = c.self.inside.storage; sessions = c.self.inside.sessions; in_flight = c.self.inside.in_flight; checkpoint = c.self.inside.checkpoint } in
    let works = ap (λ (x : Parts g.row.K-Key.Denot g.row.D.Denot). x.sessions.failed) c.self.view_is ∙ c.requires.works in
    rw (c.commit_outcome.ensures, c.is_checkpointing-running.ensures, ← c.self.view_is) (λ number waits l.
    (acknowledge_leads _ (c.a_class_is_lawful.ensures l) _ _ _ (g.D.SectorDisk.state old.volume.shelf.disk) old
    c.stands.ensures works c.args.session c.requires.session number waits c.acknowledge.result c.acknowledge.new.self c.acknowledge.ensures.number c.acknowledge.ensures.state).1)
