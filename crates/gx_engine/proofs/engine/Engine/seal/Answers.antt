use Rattle.std.proofs.Common.{◌≡◌, ◌∙◌, ap, sym, ◌+◌, ◌-◌}
use Rattle.gx_phases.specs.Moves.{asks_commit}
use Rattle.gx_phases.specs.States.{phase_at}
use Rattle.gx_storage.specs.State.{Volume}
use Rattle.gx_engine.specs.States.{Parts, is_due}
use Rattle.gx_engine.proofs.commits.Moves.{seal_leads}
use Rattle.gx_engine.proofs.Serving.{flies_on, is_calm, not_due}
use Rattle.gx_engine.proofs.engine.Engine.seal.Goals as goal

pub returns-in-Ok-clause-leads : goal.returns-in-Ok-clause-leads
returns-in-Ok-clause-leads g c =
    let old : Parts g.row.K-Key.Denot g.row.D.Denot = record { volume = c.self.inside.storage; sessions = c.self.inside.sessions; in_flight = c.self.inside.in_flight; checkpoint = c.self.inside.checkpoint } in
    let w = c.append_commit.new.self in
    let state = g.D.SectorDisk.state in
    let did = c.in-Ok.ensures in
    let same : state w.shelf.disk ≡ state old.volume.shelf.disk = ap (λ (v : Volume g.row.D.Denot). state v.shelf.disk) did.recorded.1 in
    let works = ap (λ (x : Parts g.row.K-Key.Denot g.row.D.Denot). x.sessions.failed) c.self.view_is ∙ c.requires.works in
    let asks = ap (λ (x : Parts g.row.K-Key.Denot g.row.D.Denot). asks_commit (phase_at (c.args.session - 1) x.sessions.phases)) c.self.view_is ∙ c.requires.commit in
    rw (← c.self.view_is, c.seal.ensures.state, same) (λ l. seal_leads _ (c.a_class_is_lawful.ensures l) _ _ _
    (state old.volume.shelf.disk) old c.stands.ensures works c.args.session c.requires.session asks
    (is_calm old.checkpoint (not_due old (ap (λ (x : Parts g.row.K-Key.Denot g.row.D.Denot). is_due x) c.self.view_is ∙ sym c.is_due.ensures ∙ c.if-is_due.false)).0) w
    (ap (λ (v : Volume g.row.D.Denot). v.most) did.recorded.1) (flies_on old.volume.log w.log did.recorded.0) c.transaction-transaction.result (c.latest-number.result + 1) c.transaction-transaction.ensures (ap (λ n. n + 1) c.latest-number.ensures) (did.keeps l))
