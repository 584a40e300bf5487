use Rattle.std.proofs.Common.{[], ◌∷◌}
use Rattle.std.proofs.lemmas.Result.{err_from_is_err_and}
use Rattle.gx_glog.specs.declared.extent.TheConstants.{BODIES_A, BODY_SECTORS}
use Rattle.gx_format.specs.Calls.{Write, Sync}
use Rattle.gx_format.proofs.Running.{goes_on, ends_there}
use Rattle.gx_migrate.proofs.laying.lay_body.Goals as goal

pub returns-in_err-write-clause-runs : goal.returns-in_err-write-clause-runs
returns-in_err-write-clause-runs g c =
    let p = err_from_is_err_and c.from_residual.result c.from_residual.ensures.1 in
    rw (p.1, p.2) (ends_there g.D.SectorDisk.state (Write BODIES_A BODY_SECTORS c.args.body.now ∷ []) (Sync ∷ []) _ _ _ (c.in_err-write.ensures.runs 64 c.requires.whole))

pub returns-clause-runs : goal.returns-clause-runs
returns-clause-runs g c =
    goes_on g.D.SectorDisk.state (Write BODIES_A BODY_SECTORS c.args.body.now ∷ []) (Sync ∷ []) _ _ _ _ (c.in_ok-write.ensures.runs 64 c.requires.whole) c.settle.ensures.runs
