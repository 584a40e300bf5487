use Rattle.std.proofs.Common.{ap, sym, ◌∙◌}
use Rattle.gx_class.specs.Probes.{corners, key_limits}
use Rattle.gx_class.specs.BoxProbeLaws.{by_limits, key_limits_tell}
use Rattle.gx_class.proofs.box_probe.Box2ClassProbing.probe_keys.Goals as goal

pub returns-in-Overlap : goal.returns-in-Overlap
returns-in-Overlap c key is =
    by_limits c.meeting.result.low c.meeting.result.high (corners key) (key_limits c.args.query.now) (c.meeting.ensures ∙ ap key_limits (sym c.in-Overlap.is))
    ∙ key_limits_tell c.args.query.now key is

pub returns-in-Within : goal.returns-in-Within
returns-in-Within c key is =
    by_limits c.lying_in.result.low c.lying_in.result.high (corners key) (key_limits c.args.query.now) (c.lying_in.ensures ∙ ap key_limits (sym c.in-Within.is))
    ∙ key_limits_tell c.args.query.now key is

pub returns-in-Equal : goal.returns-in-Equal
returns-in-Equal c key is =
    by_limits c.same.result.low c.same.result.high (corners key) (key_limits c.args.query.now) (c.same.ensures ∙ ap key_limits (sym c.in-Equal.is))
    ∙ key_limits_tell c.args.query.now key is

pub returns-in-Covers : goal.returns-in-Covers
returns-in-Covers c key is =
    by_limits c.covering.result.low c.covering.result.high (corners key) (key_limits c.args.query.now) (c.covering.ensures ∙ ap key_limits (sym c.in-Covers.is))
    ∙ key_limits_tell c.args.query.now key is
