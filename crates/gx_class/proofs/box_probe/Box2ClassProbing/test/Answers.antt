use Rattle.std.proofs.Common.{ap, ◌∙◌}
use Rattle.gx_class.specs.Boxes.{corners_of}
use Rattle.gx_class.specs.BoxReadings.{corners_back}
use Rattle.gx_class.specs.Probes.{corners, are_between}
use Rattle.gx_class.proofs.box_probe.Box2ClassProbing.test.Goals as goal

pub returns : goal.returns
returns c key is e =
    c.passes.ensures ∙ ap (λ b. are_between c.args.probe.now.low c.args.probe.now.high (corners b)) (ap corners_of e ∙ corners_back key is)
