use Rattle.std.proofs.Common.{◌+◌, ◌*◌, arith}
use Rattle.std.proofs.lemmas.Result.{err_from_is_err_and}
use Rattle.gx_glog.proofs.later.Closing.{closes_made, closes_failed}
use Rattle.gx_glog.proofs.later.close_from.Goals as goal

pub returns-clause-call : goal.returns-clause-call
returns-clause-call g c = λ honest.
    closes_made c.args.from c.args.extent (c.gates.result + c.from.result) (512 * c.from-size.result) c.closed_gates-gates.result _ _ _ _ c.closed_gates-gates.ensures.bytes
    (omega (arith, c.gates.ensures, c.from.ensures)) (omega (arith, c.from-size.ensures)) (c.in_ok-write.ensures.writes honest)

pub returns-in_err-write-clause-call : goal.returns-in_err-write-clause-call
returns-in_err-write-clause-call g c = λ honest.
    let p = err_from_is_err_and c.from_residual.result c.from_residual.ensures.1 in
    rw (p.1, p.2) (closes_failed c.args.from c.args.extent (c.gates.result + c.from.result) (512 * c.from-size.result) c.closed_gates-gates.result _ _ _ _ c.closed_gates-gates.ensures.bytes
    (omega (arith, c.gates.ensures, c.from.ensures)) (omega (arith, c.from-size.ensures)) (c.in_err-write.ensures.writes honest))
