use Rattle.std.proofs.Common.{Ok, Err, ap, [], ◌∷◌, ◌++◌, length, replicate}
use Rattle.std.proofs.lemmas.Result.{err_from_is_err_and}
use Rattle.gx_glog.specs.declared.extent.TheConstants.{SELECTOR}
use Rattle.gx_glog.specs.declared.parameters.TheConstants.{PARAMETERS}
use Rattle.gx_glog.specs.declared.extent.Extent.TheVariants.{A}
use Rattle.gx_glog.specs.First.{selector_bytes}
use Rattle.gx_glog.specs.Parameters.{parameters_bytes}
use Rattle.gx_format.specs.Calls.{Write}
use Rattle.gx_format.proofs.Running.{goes_on, ends_there, of_bytes}
use Rattle.gx_format.proofs.fresh.lay_parameters.Goals as goal

pub returns-in_err-write-clause-runs : goal.returns-in_err-write-clause-runs
returns-in_err-write-clause-runs g c =
    let p = err_from_is_err_and c.from_residual.result c.from_residual.ensures.1 in
    rw (p.1, p.2) (ends_there g.D.SectorDisk.state (Write PARAMETERS 1 (parameters_bytes c.args.parameters.now ++ replicate 504 0) ∷ []) (Write SELECTOR 1 (selector_bytes A) ∷ []) _ _ _
    (of_bytes g.D.SectorDisk.state 1 1 c.encode.result (parameters_bytes c.args.parameters.now ++ replicate 504 0) [] c.args.disk.now c.write.new.disk (Err c.in_err-write.field-0.0) c.encode.ensures (c.in_err-write.ensures.runs 1 (ap length c.encode.ensures))))

pub returns-clause-runs : goal.returns-clause-runs
returns-clause-runs g c =
    goes_on g.D.SectorDisk.state (Write PARAMETERS 1 (parameters_bytes c.args.parameters.now ++ replicate 504 0) ∷ []) (Write SELECTOR 1 (selector_bytes A) ∷ []) _ _ _ _
    (of_bytes g.D.SectorDisk.state 1 1 c.encode.result (parameters_bytes c.args.parameters.now ++ replicate 504 0) [] c.args.disk.now c.write.new.disk (Ok tt) c.encode.ensures (c.in_ok-write.ensures.runs 1 (ap length c.encode.ensures)))
    (of_bytes g.D.SectorDisk.state 2 1 c.selecting.result (selector_bytes A) [] c.write.new.disk c.write-2.new.disk c.write-2.result c.selecting.ensures.bytes (c.write-2.ensures.runs 1 (ap length c.selecting.ensures.bytes)))
