use Rattle.std.proofs.Common.{inl, inr}
use Rattle.std.proofs.lemmas.Result.{err_from_is_err_and}
use Rattle.gx_opening.proofs.log.Laying.{none_laid, redone_lays, redo_refused}
use Rattle.gx_opening.proofs.log.lay_found.Goals as goal
use Rattle.gx_opening.proofs.log.lay_found.Goals.{then-found-eq0-via-then-found-eq0, then-found-eq0-via-else-found-eq0+then-found-gt-PLACES}

pub returns-then-found-eq0-clause-lays : goal.returns-then-found-eq0-clause-lays
returns-then-found-eq0-clause-lays g c = λ l same lawful honest settled is.
    none_laid _ _ (g.D.SectorDisk.state c.args.disk.now) c.args.found is (elim c.then-found-eq0.branch [
      | then-found-eq0-via-then-found-eq0 w ↦ inl w.if-found-eq0.true
      | then-found-eq0-via-else-found-eq0+then-found-gt-PLACES w ↦ inr w.if-found-gt-PLACES.true
    ])

pub returns-clause-lays : goal.returns-clause-lays
returns-clause-lays g c = λ l same lawful honest settled is.
    redone_lays _ _ (g.D.SectorDisk.state c.args.disk.now) (g.D.SectorDisk.state c.redo_log.new.disk) c.args.found lawful honest settled is c.in_ok-redo_log.field-0 (c.in_ok-redo_log.ensures.redoes l same)

pub returns-in_err-redo_log-clause-lays : goal.returns-in_err-redo_log-clause-lays
returns-in_err-redo_log-clause-lays g c = λ l same lawful honest settled is.
    let p = err_from_is_err_and c.from_residual.result c.from_residual.ensures.1 in
    rw (p.1, p.2) (redo_refused _ _ (g.D.SectorDisk.state c.args.disk.now) (g.D.SectorDisk.state c.redo_log.new.disk) c.args.found lawful honest settled is c.in_err-redo_log.field-0.0 (c.in_err-redo_log.ensures.redoes l same))
