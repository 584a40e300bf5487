use Rattle.std.proofs.Common.{◌≡◌, List, sym, subst}
use Rattle.std.specs.List.{AllByRecursion}
use Rattle.std.specs.Prelude.{slice_set}
use Rattle.gx_page.proofs.Parts.{image_size}
use Rattle.gx_found_log.specs.Given.{Imaged, AreOnce, HasImage, with_image}
use Rattle.gx_found_log.proofs.Keeping.{once_with, all_with}
use Rattle.gx_found_log.proofs.given.Given.change.Goals as goal

pub new-requires : goal.new-requires
new-requires g c = image_size c.image-2.result.now c.image-2.ensures.is_image

pub invariant_of-self : goal.invariant_of-self
invariant_of-self g c =
    let items = c.self.inside.pages.items in
    let new = c.new.result in
    let at : with_image c.new.result c.self.inside.pages.items ≡ slice_set c.self.inside.pages.items c.in-Some.i c.new.result =
    rw (c.new.ensures, ← c.deref-2.ensures.value) (c.in-Some.ensures.place.1 c.image-2.result.now)
    in (
      c.self.invariant.0,
      subst (λ (xs : List Imaged). AreOnce xs) at (once_with new items c.self.invariant.1),
      subst (λ (xs : List Imaged). AllByRecursion HasImage xs) at (all_with new items (subst (λ (x : Imaged). HasImage x) (sym c.new.ensures) c.image-2.ensures.is_image) c.self.invariant.2),
    )
