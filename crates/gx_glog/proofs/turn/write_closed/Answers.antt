use Rattle.std.proofs.lemmas.Result.{err_from_is_err_and}
use Rattle.gx_glog.proofs.turn.Closed.{gates_made, gates_failed}
use Rattle.gx_glog.proofs.turn.write_closed.Goals as goal

pub returns-clause-call : goal.returns-clause-call
returns-clause-call g c = λ honest.
    gates_made c.args.extent c.gates.result c.closed_gates-gates.result _ _ c.closed_gates-gates.ensures.gates c.gates.ensures _ (c.in_ok-write.ensures.writes honest)

pub returns-in_err-write-clause-call : goal.returns-in_err-write-clause-call
returns-in_err-write-clause-call g c = λ honest.
    let p = err_from_is_err_and c.from_residual.result c.from_residual.ensures.1 in
    rw (p.1, p.2) (gates_failed c.args.extent c.gates.result c.closed_gates-gates.result _ _ c.closed_gates-gates.ensures.gates c.gates.ensures _ _ (c.in_err-write.ensures.writes honest))
