use Rattle.std.proofs.Common.{◌≡◌, ℤ, sym, subst, ◌∙◌, w32, to_z, of_z, FitsSigned}
use Rattle.std.proofs.lemmas.Int.{to_z-of_z}
use Rattle.gx_geom.specs.Rectangles.{Rectangle, IsBox, union}
use Rattle.gx_geom.specs.BoxLaws.{union_is_box}
use Rattle.gx_geom.proofs.box2.Box2.union.Goals as goal

-- a corner that fits is read back as it was stored
stored : (x y : ℤ) → x ≡ y → FitsSigned w32 y → y ≡ to_z w32 (of_z w32 x)
stored x y e fits = sym (to_z-of_z w32 x (subst (λ (z : ℤ). FitsSigned w32 z) (sym e) fits) ∙ e)

box_stored : (b : Rectangle) (x1 y1 x2 y2 : ℤ) → IsBox b → x1 ≡ b.x1 → y1 ≡ b.y1 → x2 ≡ b.x2 → y2 ≡ b.y2
    → IsBox (record { x1 = to_z w32 (of_z w32 x1); y1 = to_z w32 (of_z w32 y1); x2 = to_z w32 (of_z w32 x2); y2 = to_z w32 (of_z w32 y2) })
box_stored b x1 y1 x2 y2 in_order ex1 ey1 ex2 ey2 =
    let same : b ≡ record { x1 = to_z w32 (of_z w32 x1); y1 = to_z w32 (of_z w32 y1); x2 = to_z w32 (of_z w32 x2); y2 = to_z w32 (of_z w32 y2) } =
    λ i. record {
      x1 = stored x1 b.x1 ex1 in_order.x1_fits i;
      y1 = stored y1 b.y1 ey1 in_order.y1_fits i;
      x2 = stored x2 b.x2 ex2 in_order.x2_fits i;
      y2 = stored y2 b.y2 ey2 in_order.y2_fits i;
    } in
    subst (λ (c : Rectangle). IsBox c) same in_order

pub invariant_of-result : goal.invariant_of-result
invariant_of-result c =
    box_stored (union c.args.self.now c.args.other.now) c.lesser_x1.result c.lesser_y1.result c.greater_x2.result c.greater_y2.result
    (union_is_box _ _ c.lesser_x1.ensures.boxes.0 c.lesser_x1.ensures.boxes.1)
    c.lesser_x1.ensures.lesser c.lesser_y1.ensures c.greater_x2.ensures c.greater_y2.ensures
