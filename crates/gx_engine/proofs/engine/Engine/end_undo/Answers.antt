use Rattle.std.proofs.Common.{◌≡◌, ◌∙◌, ap, subst, ℕ, ◌-◌}
use Rattle.gx_phases.specs.Moves.{is_undoing, next_of}
use Rattle.gx_phases.specs.States.{phase_at}
use Rattle.gx_record.specs.Rec as rec
use Rattle.gx_storage.specs.Flushing.{HasNoRoom}
use Rattle.gx_storage.specs.State.{Volume}
use Rattle.gx_engine.specs.States.{Parts, is_due}
use Rattle.gx_engine.proofs.Serving.{flies_on}
use Rattle.gx_engine.proofs.UndoMoves.{end_moves}
use Rattle.gx_engine.proofs.engine.Engine.end_undo.Goals as goal

pub returns-in-Ok-clause-moves : goal.returns-in-Ok-clause-moves
returns-in-Ok-clause-moves g c =
    let old : Parts g.row.K-Key.Denot g.row.D.Denot = record { volume = c.self.inside.storage; sessions = c.self.inside.sessions; in_flight = c.self.inside.in_flight; checkpoint = c.self.inside.checkpoint } in
    let w = c.append_end.new.self in
    let state = g.D.SectorDisk.state in
    let did = c.in-Ok.ensures in
    let same : state w.shelf.disk ≡ state old.volume.shelf.disk = ap (λ (v : Volume g.row.D.Denot). state v.shelf.disk) did.recorded.1 in
    let works = ap (λ (x : Parts g.row.K-Key.Denot g.row.D.Denot). x.sessions.failed) c.self.view_is ∙ c.requires.works in
    let early = ap (λ (x : Parts g.row.K-Key.Denot g.row.D.Denot). is_due x) c.self.view_is ∙ c.requires.early in
    let undoes = ap (λ (x : Parts g.row.K-Key.Denot g.row.D.Denot). is_undoing (phase_at (c.args.session - 1) x.sessions.phases)) c.self.view_is ∙ c.requires.undoes in
    let none = ap (λ (x : Parts g.row.K-Key.Denot g.row.D.Denot). next_of c.args.session x.sessions) c.self.view_is ∙ c.requires.none in
    rw (← c.self.view_is, c.end_undo.ensures, same) (λ l. end_moves _ (c.a_class_is_lawful.ensures l) _ _ _
    (state old.volume.shelf.disk) (state old.volume.shelf.disk) old c.stands.ensures works c.args.session c.requires.session early w (ap (λ (v : Volume g.row.D.Denot). v.most) did.recorded.1)
    undoes none (flies_on old.volume.log w.log did.recorded.0) c.transaction-transaction.result c.transaction-transaction.ensures (did.keeps l))

pub returns-in-Err-clause-comes : goal.returns-in-Err-clause-comes
returns-in-Err-clause-comes g c =
    let old : Parts g.row.K-Key.Denot g.row.D.Denot = record { volume = c.self.inside.storage; sessions = c.self.inside.sessions; in_flight = c.self.inside.in_flight; checkpoint = c.self.inside.checkpoint } in
    let did = c.in-Err.ensures.recorded in
    rw (← c.self.view_is) (
      subst (λ (t : ℕ). HasNoRoom (rec.End t) old.volume.log) c.transaction-transaction.ensures did.1,
      ap (λ (v : Volume g.row.D.Denot). record old { volume = v }) did.2,
    )
