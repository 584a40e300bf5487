use Rattle.std.proofs.Common.{Ok, Err, ap, [], ◌∷◌, length}
use Rattle.std.proofs.lemmas.Result.{err_from_is_err_and}
use Rattle.gx_glog.specs.declared.extent.TheConstants.{BODIES_A, BODY_SECTORS}
use Rattle.gx_glog.specs.First.{first_body_bytes}
use Rattle.gx_format.specs.Calls.{Write, Sync}
use Rattle.gx_format.proofs.Running.{goes_on, ends_there, of_bytes}
use Rattle.gx_format.proofs.fresh.lay_body.Goals as goal

pub returns-in_err-write-clause-runs : goal.returns-in_err-write-clause-runs
returns-in_err-write-clause-runs g c =
    let p = err_from_is_err_and c.from_residual.result c.from_residual.ensures.1 in
    rw (p.1, p.2) (ends_there g.D.SectorDisk.state (Write BODIES_A BODY_SECTORS first_body_bytes ∷ []) (Sync ∷ []) _ _ _
    (of_bytes g.D.SectorDisk.state BODIES_A BODY_SECTORS c.first_body.result first_body_bytes [] c.args.disk.now c.write.new.disk (Err c.in_err-write.field-0.0) c.first_body.ensures (c.in_err-write.ensures.runs BODY_SECTORS (ap length c.first_body.ensures))))

pub returns-clause-runs : goal.returns-clause-runs
returns-clause-runs g c =
    goes_on g.D.SectorDisk.state (Write BODIES_A BODY_SECTORS first_body_bytes ∷ []) (Sync ∷ []) _ _ _ _
    (of_bytes g.D.SectorDisk.state BODIES_A BODY_SECTORS c.first_body.result first_body_bytes [] c.args.disk.now c.write.new.disk (Ok tt) c.first_body.ensures (c.in_ok-write.ensures.runs BODY_SECTORS (ap length c.first_body.ensures))) c.settle.ensures.runs
