use Rattle.std.proofs.Common.{ap, sym, ◌∙◌}
use Rattle.gx_geom.specs.Rectangles.{overlaps, within, rectangle_cmp}
use Rattle.gx_machine.specs.Keys.{keys, key_matches}
use Rattle.gx_class.specs.BoxKeyLaws.{equal_tells}
use Rattle.gx_class.proofs.box2_class.Box2ClassKeyClass.matches.Goals as goal

pub returns-in-Equal : goal.returns-in-Equal
returns-in-Equal c = c.eq.ensures ∙ equal_tells c.args.key.now c.in-Equal.q ∙ ap (λ q. key_matches (keys rectangle_cmp overlaps within) q c.args.key.now) (sym c.in-Equal.is)
