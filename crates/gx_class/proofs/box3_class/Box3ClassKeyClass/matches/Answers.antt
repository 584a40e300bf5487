use Rattle.std.proofs.Common.{ap, sym, ◌∙◌}
use Rattle.gx_geom.specs.Solids.{overlaps, within, solid_cmp}
use Rattle.gx_machine.specs.Keys.{keys, key_matches}
use Rattle.gx_class.specs.SolidKeyLaws.{equal_tells}
use Rattle.gx_class.proofs.box3_class.Box3ClassKeyClass.matches.Goals as goal

pub returns-in-Equal : goal.returns-in-Equal
returns-in-Equal c = c.eq.ensures ∙ equal_tells c.args.key.now c.in-Equal.q ∙ ap (λ q. key_matches (keys solid_cmp overlaps within) q c.args.key.now) (sym c.in-Equal.is)
