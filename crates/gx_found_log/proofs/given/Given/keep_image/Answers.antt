use Rattle.std.proofs.Common.{List, ap, arith, length, subst, sym}
use Rattle.gx_found_log.specs.Given.{Imaged, AreOnce, HasImage}
use Rattle.std.specs.List.{AllByRecursion}
use Rattle.gx_page.proofs.Parts.{image_size}
use Rattle.gx_found_log.proofs.Keeping.{once_with, one_more, all_with}
use Rattle.gx_found_log.proofs.given.Given.keep_image.Goals as goal

pub new-requires : goal.new-requires
new-requires c = image_size c.args.image.now c.requires.image

pub invariant_of-self : goal.invariant_of-self
invariant_of-self c = (
  omega (arith, c.self.invariant.0, c.replace_or_push-place.ensures.capacity),
  subst (λ (xs : List Imaged). AreOnce xs) (sym c.replace_or_push-place.ensures.items) (once_with c.new.result c.self.inside.pages.items c.self.invariant.1),
  subst (λ (xs : List Imaged). AllByRecursion HasImage xs) (sym c.replace_or_push-place.ensures.items) (all_with c.new.result c.self.inside.pages.items (subst (λ (x : Imaged). HasImage x) (sym c.new.ensures) c.requires.image) c.self.invariant.2),
)

pub returns-clause-count : goal.returns-clause-count
returns-clause-count c = omega (arith, ap length c.replace_or_push-place.ensures.items, one_more c.new.result c.self.inside.pages.items, ap length c.self.view_is)
