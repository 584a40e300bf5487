use Rattle.std.proofs.Common.{Ok, Err, [], ◌∷◌}
use Rattle.std.proofs.lemmas.Result.{err_from_is_err_and}
use Rattle.gx_glog.specs.declared.extent.TheConstants.{GATES_A, GATES_B, PLACES}
use Rattle.gx_glog.specs.First.{closed_gates_bytes}
use Rattle.gx_format.specs.Calls.{Write}
use Rattle.gx_format.proofs.Running.{goes_on, ends_there, of_bytes}
use Rattle.gx_format.proofs.fresh.close_gates.Goals as goal

pub returns-in_err-write-clause-runs : goal.returns-in_err-write-clause-runs
returns-in_err-write-clause-runs g c =
    let p = err_from_is_err_and c.from_residual.result c.from_residual.ensures.1 in
    let bytes = c.closed_gates-gates.ensures.bytes in
    rw (p.1, p.2) (ends_there g.D.SectorDisk.state (Write GATES_A PLACES closed_gates_bytes ∷ []) (Write GATES_B PLACES closed_gates_bytes ∷ []) _ _ _
    (of_bytes g.D.SectorDisk.state GATES_A PLACES c.closed_gates-gates.result closed_gates_bytes [] c.args.disk.now c.write.new.disk (Err c.in_err-write.field-0.0) bytes (c.in_err-write.ensures.runs PLACES c.closed_gates-gates.ensures.gates.whole)))

pub returns-clause-runs : goal.returns-clause-runs
returns-clause-runs g c =
    let bytes = c.closed_gates-gates.ensures.bytes in
    goes_on g.D.SectorDisk.state (Write GATES_A PLACES closed_gates_bytes ∷ []) (Write GATES_B PLACES closed_gates_bytes ∷ []) _ _ _ _
    (of_bytes g.D.SectorDisk.state GATES_A PLACES c.closed_gates-gates.result closed_gates_bytes [] c.args.disk.now c.write.new.disk (Ok tt) bytes (c.in_ok-write.ensures.runs PLACES c.closed_gates-gates.ensures.gates.whole))
    (of_bytes g.D.SectorDisk.state GATES_B PLACES c.closed_gates-gates.result closed_gates_bytes [] c.write.new.disk c.write-2.new.disk c.write-2.result bytes (c.write-2.ensures.runs PLACES c.closed_gates-gates.ensures.gates.whole))
