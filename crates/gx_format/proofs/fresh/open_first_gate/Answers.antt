use Rattle.std.proofs.Common.{Ok, Err, ap, [], ◌∷◌, length}
use Rattle.std.proofs.lemmas.Result.{err_from_is_err_and}
use Rattle.gx_glog.specs.declared.extent.TheConstants.{GATES_A}
use Rattle.gx_glog.specs.First.{open_gate_bytes}
use Rattle.gx_format.specs.Calls.{Write, Sync}
use Rattle.gx_format.proofs.Running.{goes_on, ends_there, of_bytes}
use Rattle.gx_format.proofs.fresh.open_first_gate.Goals as goal

pub returns-in_err-write-clause-runs : goal.returns-in_err-write-clause-runs
returns-in_err-write-clause-runs g c =
    let p = err_from_is_err_and c.from_residual.result c.from_residual.ensures.1 in
    rw (p.1, p.2) (ends_there g.D.SectorDisk.state (Write GATES_A 1 open_gate_bytes ∷ []) (Sync ∷ []) _ _ _
    (of_bytes g.D.SectorDisk.state 8 1 c.open_gate.result open_gate_bytes [] c.args.disk.now c.write.new.disk (Err c.in_err-write.field-0.0) c.open_gate.ensures.bytes (c.in_err-write.ensures.runs 1 (ap length c.open_gate.ensures.bytes))))

pub returns-clause-runs : goal.returns-clause-runs
returns-clause-runs g c =
    goes_on g.D.SectorDisk.state (Write GATES_A 1 open_gate_bytes ∷ []) (Sync ∷ []) _ _ _ _
    (of_bytes g.D.SectorDisk.state 8 1 c.open_gate.result open_gate_bytes [] c.args.disk.now c.write.new.disk (Ok tt) c.open_gate.ensures.bytes (c.in_ok-write.ensures.runs 1 (ap length c.open_gate.ensures.bytes))) c.settle.ensures.runs
