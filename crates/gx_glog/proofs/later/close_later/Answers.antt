use Rattle.std.proofs.Common.{◌∙◌}
use Rattle.std.proofs.lemmas.Result.{err_from_is_err_and}
use Rattle.gx_glog.proofs.later.Closing.{write_fails, synced_closes}
use Rattle.gx_glog.proofs.later.close_later.Goals as goal

pub returns-in_err-close_from-clause-closes : goal.returns-in_err-close_from-clause-closes
returns-in_err-close_from-clause-closes g c = λ honest settled has selects.
    let p = err_from_is_err_and c.from_residual-in_err-close_from.result c.from_residual-in_err-close_from.ensures.1 in
    rw (p.1, p.2) (write_fails c.args.extent c.args.bodies _ c.requires.bodies settled has selects _ (c.has_open_gate.ensures.looks honest)
    (c.in_ok-has_open_gate.ensures.below c.if-not-branch.false) _ _ _ (c.in_err-close_from.ensures.call (c.has_open_gate.ensures.counts.honest ∙ honest)))

pub returns-clause-closes : goal.returns-clause-closes
returns-clause-closes g c = λ honest settled has selects.
    synced_closes c.args.extent c.args.bodies _ c.requires.bodies settled has selects _ (c.has_open_gate.ensures.looks honest)
    (c.in_ok-has_open_gate.ensures.below c.if-not-branch.false) _ _ (c.in_ok-close_from.ensures.call (c.has_open_gate.ensures.counts.honest ∙ honest)) _ _
    (c.settle.ensures.call (c.close_from.ensures.counts.honest ∙ c.has_open_gate.ensures.counts.honest ∙ honest))
