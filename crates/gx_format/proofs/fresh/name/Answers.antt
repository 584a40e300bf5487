use Rattle.std.proofs.Common.{Ok, Err, ap, [], ◌∷◌, ◌++◌, length, replicate}
use Rattle.std.proofs.lemmas.Result.{err_from_is_err_and}
use Rattle.gx_format.specs.Calls.{Write, Sync}
use Rattle.gx_format.specs.Fresh.{magic_bytes}
use Rattle.gx_format.proofs.Running.{goes_on, ends_there, of_bytes}
use Rattle.gx_format.proofs.fresh.name.Goals as goal

pub returns-in_err-write-clause-runs : goal.returns-in_err-write-clause-runs
returns-in_err-write-clause-runs g c =
    let p = err_from_is_err_and c.from_residual.result c.from_residual.ensures.1 in
    rw (p.1, p.2) (ends_there g.D.SectorDisk.state (Write 0 1 (magic_bytes ++ replicate 504 0) ∷ []) (Sync ∷ []) _ _ _
    (of_bytes g.D.SectorDisk.state 0 1 c.named.result (magic_bytes ++ replicate 504 0) [] c.args.disk.now c.write.new.disk (Err c.in_err-write.field-0.0) c.named.ensures (c.in_err-write.ensures.runs 1 (ap length c.named.ensures))))

pub returns-clause-runs : goal.returns-clause-runs
returns-clause-runs g c =
    goes_on g.D.SectorDisk.state (Write 0 1 (magic_bytes ++ replicate 504 0) ∷ []) (Sync ∷ []) _ _ _ _
    (of_bytes g.D.SectorDisk.state 0 1 c.named.result (magic_bytes ++ replicate 504 0) [] c.args.disk.now c.write.new.disk (Ok tt) c.named.ensures (c.in_ok-write.ensures.runs 1 (ap length c.named.ensures))) c.settle.ensures.runs
