use Rattle.std.proofs.Common.{inl, inr, ap, sym, ◌∙◌}
use Rattle.gx_class.specs.SolidKeys.{may_match}
use Rattle.gx_class.proofs.box3_class.Box3ClassKeyClass.consistent.Goals as goal

pub returns-in-Overlap : goal.returns-in-Overlap
returns-in-Overlap c = elim c.in-Overlap.is [
  | inl e ↦ c.overlaps.ensures.test ∙ ap (λ q. may_match q c.args.bound.now) (sym e)
  | inr e ↦ c.overlaps.ensures.test ∙ ap (λ q. may_match q c.args.bound.now) (sym e)
]

pub returns-in-Equal : goal.returns-in-Equal
returns-in-Equal c = elim c.in-Equal.is [
  | inl e ↦ c.covers.ensures.test ∙ ap (λ q. may_match q c.args.bound.now) (sym e)
  | inr e ↦ c.covers.ensures.test ∙ ap (λ q. may_match q c.args.bound.now) (sym e)
]
