use Rattle.std.proofs.Common.{◌≡◌, ◌∙◌, ap, ◌-◌}
use Rattle.gx_phases.specs.States.{State, phase_at}
use Rattle.gx_storage.specs.Setting.{tree_at}
use Rattle.gx_engine.specs.declared.work.Work.{Work}
use Rattle.gx_engine.specs.States.{Parts}
use Rattle.gx_engine.proofs.looks.Steps.{reads_there, refuses_there}
use Rattle.gx_engine.proofs.Ordered.{order_read}
use Rattle.gx_engine.proofs.Reading.{err_map, ok_map}
use Rattle.gx_engine.proofs.engine.Engine.step_look.Goals as goal

pub read_in-requires-clause-looks : goal.read_in-requires-clause-looks
read_in-requires-clause-looks g c =
    let at = ap (λ (x : Parts g.row.K-Key.Denot g.row.D.Denot). phase_at (c.args.session - 1) x.sessions.phases) c.self.view_is ∙ c.requires.looks.2 in
    (c.requires.looks.0, c.requires.looks.1, at, c.requires.looks.3)

pub invariant_of-self : goal.invariant_of-self
invariant_of-self g c =
    let e : Parts g.row.K-Key.Denot g.row.D.Denot =
    record { volume = c.self.inside.storage; sessions = c.self.inside.sessions; in_flight = c.self.inside.in_flight; checkpoint = c.self.inside.checkpoint } in
    let did = c.read_in.ensures.unlogged in
    let only = c.read_in.ensures.only in
    order_read e c.self.inside.keys.items c.self.invariant c.read_in.new.storage did.log did.most (λ page. (did.since page).same.stamp) (did.since 0).goes_on.frames c.read_in.new.sessions
    (ap (λ (s : State g.row.K-Key.Denot (Work g.row.K-Key.Denot)). s.durable) only) (ap (λ (s : State g.row.K-Key.Denot (Work g.row.K-Key.Denot)). s.latest) only)

pub returns-clause-reads : goal.returns-clause-reads
returns-clause-reads g c =
    let e : Parts g.row.K-Key.Denot g.row.D.Denot =
    record { volume = c.self.inside.storage; sessions = c.self.inside.sessions; in_flight = c.self.inside.in_flight; checkpoint = c.self.inside.checkpoint } in
    let did = c.read_in.ensures.unlogged in
    rw (← c.self.view_is) (ok_map _ _ c.read_in.result (λ done reads call look at.
    reads_there (tree_at g.K.KeyClass g.D.SectorDisk.state c.read_in.new.storage.shelf) c.args.session call look e c.read_in.new.storage c.read_in.new.sessions did.log did.most did.imaged _ _ done (reads call look at)) c.read_in.ensures.reads)

pub returns-clause-refused : goal.returns-clause-refused
returns-clause-refused g c =
    let e : Parts g.row.K-Key.Denot g.row.D.Denot =
    record { volume = c.self.inside.storage; sessions = c.self.inside.sessions; in_flight = c.self.inside.in_flight; checkpoint = c.self.inside.checkpoint } in
    let did = c.read_in.ensures.unlogged in
    rw (← c.self.view_is) (err_map _ _ c.read_in.result (λ why refused call look at.
    refuses_there (tree_at g.K.KeyClass g.D.SectorDisk.state c.read_in.new.storage.shelf) c.args.session call look e c.read_in.new.storage c.read_in.new.sessions did.log did.most did.imaged why (refused call look at)) c.read_in.ensures.refused)
