use Rattle.std.proofs.Common.{ap, sym, subst, ◌∙◌}
use Rattle.gx_geom.specs.Rectangles.{IsBox}
use Rattle.gx_class.specs.Boxes.{corners_of, cost}
use Rattle.gx_class.specs.BoxReadings.{corners_back}
use Rattle.gx_class.proofs.box2_class.Box2ClassKeyClass.penalty_in.Goals as goal

pub returns : goal.returns
returns c bound is written =
    let read = ap corners_of written ∙ corners_back bound is in
    c.penalty.ensures (subst IsBox (sym read) is) ∙ ap (λ b. cost b c.args.key.now) read
