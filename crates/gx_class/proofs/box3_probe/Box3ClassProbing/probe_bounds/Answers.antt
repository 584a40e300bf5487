use Rattle.std.proofs.Common.{inl, inr, ap, sym, ◌∙◌}
use Rattle.gx_class.specs.SolidProbes.{lie_between, bound_limits}
use Rattle.gx_class.specs.SolidProbeLaws.{bound_limits_tell}
use Rattle.gx_class.proofs.box3_probe.Box3ClassProbing.probe_bounds.Goals as goal

pub returns-in-Overlap : goal.returns-in-Overlap
returns-in-Overlap c bound is = elim c.in-Overlap.is [
  | inl e ↦ ap (λ l. lie_between l bound) (c.meeting.ensures ∙ ap bound_limits (sym e)) ∙ bound_limits_tell c.args.query.now bound is
  | inr e ↦ ap (λ l. lie_between l bound) (c.meeting.ensures ∙ ap bound_limits (sym e)) ∙ bound_limits_tell c.args.query.now bound is
]

pub returns-in-Equal : goal.returns-in-Equal
returns-in-Equal c bound is = elim c.in-Equal.is [
  | inl e ↦ ap (λ l. lie_between l bound) (c.covering.ensures ∙ ap bound_limits (sym e)) ∙ bound_limits_tell c.args.query.now bound is
  | inr e ↦ ap (λ l. lie_between l bound) (c.covering.ensures ∙ ap bound_limits (sym e)) ∙ bound_limits_tell c.args.query.now bound is
]
