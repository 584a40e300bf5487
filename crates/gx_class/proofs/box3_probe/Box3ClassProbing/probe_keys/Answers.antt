use Rattle.std.proofs.Common.{ap, sym, ◌∙◌}
use Rattle.gx_class.specs.SolidProbes.{lie_between, key_limits}
use Rattle.gx_class.specs.SolidProbeLaws.{key_limits_tell}
use Rattle.gx_class.proofs.box3_probe.Box3ClassProbing.probe_keys.Goals as goal

pub returns-in-Overlap : goal.returns-in-Overlap
returns-in-Overlap c key is =
    ap (λ l. lie_between l key) (c.meeting.ensures ∙ ap key_limits (sym c.in-Overlap.is)) ∙ key_limits_tell c.args.query.now key is

pub returns-in-Within : goal.returns-in-Within
returns-in-Within c key is =
    ap (λ l. lie_between l key) (c.lying_in.ensures ∙ ap key_limits (sym c.in-Within.is)) ∙ key_limits_tell c.args.query.now key is

pub returns-in-Equal : goal.returns-in-Equal
returns-in-Equal c key is =
    ap (λ l. lie_between l key) (c.same.ensures ∙ ap key_limits (sym c.in-Equal.is)) ∙ key_limits_tell c.args.query.now key is

pub returns-in-Covers : goal.returns-in-Covers
returns-in-Covers c key is =
    ap (λ l. lie_between l key) (c.covering.ensures ∙ ap key_limits (sym c.in-Covers.is)) ∙ key_limits_tell c.args.query.now key is
