use Rattle.std.proofs.Common.{◌∙◌, ap, sym, ◌-◌}
use Rattle.gx_txn.specs.declared.note.Note.{Note}
use Rattle.gx_txn.specs.Tables.{held_by}
use Rattle.gx_phases.specs.declared.phase.Phase.{Phase}
use Rattle.gx_phases.specs.Moves.{next_of}
use Rattle.gx_phases.specs.States.{phase_at}
use Rattle.gx_engine.specs.States.{Parts}
use Rattle.gx_engine.specs.declared.work.Work.{Work}
use Rattle.gx_engine.specs.Undoing.{leaf_of, undo_work}
use Rattle.gx_engine.proofs.UndoMoves.{is_next, some_comes}
use Rattle.gx_engine.proofs.Failing.{end_told}
use Rattle.gx_engine.proofs.engine.Engine.undo.Goals as goal

pub restore-requires-clause-next : goal.restore-requires-clause-next
restore-requires-clause-next g c =
    let n : Note g.row.K-Key.Denot = c.index-notes-restored.result in
    let place = ap (λ (x : Parts g.row.K-Key.Denot g.row.D.Denot). next_of c.args.session x.sessions) (sym c.self.view_is) ∙ sym c.next_restored.ensures.next ∙ c.in-Some.is in
    let notes = c.notes.ensures.notes ∙ ap (λ (x : Parts g.row.K-Key.Denot g.row.D.Denot). (held_by c.args.session x.sessions.table).notes) c.self.view_is in
    is_next c.args.session c.args.self.now.sessions c.in-Some.restored place c.notes.result.now notes n c.index-notes-restored.is

pub restore-requires-clause-leaf : goal.restore-requires-clause-leaf
restore-requires-clause-leaf g c =
    let n : Note g.row.K-Key.Denot = c.index-notes-restored.result in
    c.leaf_of-leaf.ensures ∙ ap (λ (p : Phase g.row.K-Key.Denot (Work g.row.K-Key.Denot)). leaf_of n (undo_work p))
    (c.phase.ensures ∙ ap (λ (x : Parts g.row.K-Key.Denot g.row.D.Denot). phase_at (c.args.session - 1) x.sessions.phases) c.self.view_is)

pub returns-in-Some-clause-comes : goal.returns-in-Some-clause-comes
returns-in-Some-clause-comes g c =
    let old : Parts g.row.K-Key.Denot g.row.D.Denot = c.args.self.now in
    let n : Note g.row.K-Key.Denot = c.index-notes-restored.result in
    let place = ap (λ (x : Parts g.row.K-Key.Denot g.row.D.Denot). next_of c.args.session x.sessions) (sym c.self.view_is) ∙ sym c.next_restored.ensures.next ∙ c.in-Some.is in
    let notes = c.notes.ensures.notes ∙ ap (λ (x : Parts g.row.K-Key.Denot g.row.D.Denot). (held_by c.args.session x.sessions.table).notes) c.self.view_is in
    let leaf = c.leaf_of-leaf.ensures ∙ ap (λ (p : Phase g.row.K-Key.Denot (Work g.row.K-Key.Denot)). leaf_of n (undo_work p))
    (c.phase.ensures ∙ ap (λ (x : Parts g.row.K-Key.Denot g.row.D.Denot). phase_at (c.args.session - 1) x.sessions.phases) c.self.view_is) in
    some_comes _ _ _ _ _ _ _ _ _ _ c.args.session old c.restore.new.self c.restore.result (sym c.is_due.ensures ∙ c.if-is_due.false) c.in-Some.restored place
    c.notes.result.now notes n c.index-notes-restored.is c.leaf_of-leaf.result leaf c.restore.ensures.comes

pub returns-in-None-clause-told : goal.returns-in-None-clause-told
returns-in-None-clause-told g c = end_told g.D.SectorDisk.state c.end_undo.new.self c.args.self.now c.args.session c.end_undo.result c.end_undo.ensures.comes
