use Rattle.std.proofs.Common.{inl, inr, ap, sym, ◌∙◌}
use Rattle.gx_class.specs.Probes.{corners, bound_limits}
use Rattle.gx_class.specs.BoxProbeLaws.{by_limits, bound_limits_tell}
use Rattle.gx_class.proofs.box_probe.Box2ClassProbing.probe_bounds.Goals as goal

pub returns-in-Overlap : goal.returns-in-Overlap
returns-in-Overlap c bound is =
    let low = c.meeting.result.low in
    let high = c.meeting.result.high in
    let query = c.args.query.now in
    elim c.in-Overlap.is [
      | inl e ↦ by_limits low high (corners bound) (bound_limits query) (c.meeting.ensures ∙ ap bound_limits (sym e)) ∙ bound_limits_tell query bound is
      | inr e ↦ by_limits low high (corners bound) (bound_limits query) (c.meeting.ensures ∙ ap bound_limits (sym e)) ∙ bound_limits_tell query bound is
    ]

pub returns-in-Equal : goal.returns-in-Equal
returns-in-Equal c bound is =
    let low = c.covering.result.low in
    let high = c.covering.result.high in
    let query = c.args.query.now in
    elim c.in-Equal.is [
      | inl e ↦ by_limits low high (corners bound) (bound_limits query) (c.covering.ensures ∙ ap bound_limits (sym e)) ∙ bound_limits_tell query bound is
      | inr e ↦ by_limits low high (corners bound) (bound_limits query) (c.covering.ensures ∙ ap bound_limits (sym e)) ∙ bound_limits_tell query bound is
    ]
