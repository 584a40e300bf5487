use Rattle.std.proofs.lemmas.Result.{err_from_is_err_and}
use Rattle.gx_opening.proofs.log.Laying.{read_laid, read_refused}
use Rattle.gx_opening.proofs.log.lay_log.Goals as goal

pub returns-clause-lays : goal.returns-clause-lays
returns-clause-lays g c = λ l same most lawful honest settled.
    read_laid _ _ (g.D.SectorDisk.state c.args.disk.now) (g.D.SectorDisk.state c.read_class_log.new.disk) (g.D.SectorDisk.state c.lay_found.new.disk) c.in_ok-found.found c.lay_found.result lawful honest
    c.in_ok-found.ensures.reads.honest settled (c.in_ok-found.ensures.looks honest) (c.in_ok-found.ensures.log honest l same most) (c.lay_found.ensures.lays l same)

pub returns-in_err-found-clause-lays : goal.returns-in_err-found-clause-lays
returns-in_err-found-clause-lays g c = λ l same most lawful honest settled.
    let p = err_from_is_err_and c.from_residual.result c.from_residual.ensures.1 in
    rw (p.1, p.2) (read_refused _ _ (g.D.SectorDisk.state c.args.disk.now) (g.D.SectorDisk.state c.read_class_log.new.disk) c.in_err-found.field-0.0 settled (c.in_err-found.ensures.looks honest) (c.in_err-found.ensures.log honest l same most))
