use Rattle.std.proofs.Common.{◌≡◌, ℤ, sym, subst, ◌∙◌, w32, to_z, of_z, FitsSigned}
use Rattle.std.proofs.lemmas.Int.{to_z-of_z}
use Rattle.gx_geom.specs.Solids.{Solid, IsSolid, union, solid_of}
use Rattle.gx_geom.specs.SolidLaws.{union_is_solid}
use Rattle.gx_geom.proofs.box3.Box3.union.Goals as goal

-- a corner that fits is read back as it was stored
stored : (x y : ℤ) → x ≡ y → FitsSigned w32 y → y ≡ to_z w32 (of_z w32 x)
stored x y e fits = sym (to_z-of_z w32 x (subst (λ (z : ℤ). FitsSigned w32 z) (sym e) fits) ∙ e)

box_stored : (b : Solid) (x1 y1 z1 x2 y2 z2 : ℤ) → IsSolid b → x1 ≡ b.x1 → y1 ≡ b.y1 → z1 ≡ b.z1 → x2 ≡ b.x2 → y2 ≡ b.y2 → z2 ≡ b.z2
    → IsSolid (solid_of (to_z w32 (of_z w32 x1)) (to_z w32 (of_z w32 y1)) (to_z w32 (of_z w32 z1))
    (to_z w32 (of_z w32 x2)) (to_z w32 (of_z w32 y2)) (to_z w32 (of_z w32 z2)))
box_stored b x1 y1 z1 x2 y2 z2 is ex1 ey1 ez1 ex2 ey2 ez2 =
    let same : b ≡ solid_of (to_z w32 (of_z w32 x1)) (to_z w32 (of_z w32 y1)) (to_z w32 (of_z w32 z1))
    (to_z w32 (of_z w32 x2)) (to_z w32 (of_z w32 y2)) (to_z w32 (of_z w32 z2)) =
    λ i. record {
      x1 = stored x1 b.x1 ex1 is.x1_fits i;
      y1 = stored y1 b.y1 ey1 is.y1_fits i;
      z1 = stored z1 b.z1 ez1 is.z1_fits i;
      x2 = stored x2 b.x2 ex2 is.x2_fits i;
      y2 = stored y2 b.y2 ey2 is.y2_fits i;
      z2 = stored z2 b.z2 ez2 is.z2_fits i;
    } in
    subst (λ (c : Solid). IsSolid c) same is

pub invariant_of-result : goal.invariant_of-result
invariant_of-result c =
    box_stored (union c.args.self.now c.args.other.now) c.lesser_x1.result c.lesser_y1.result c.lesser_z1.result
    c.greater_x2.result c.greater_y2.result c.greater_z2.result
    (union_is_solid _ _ c.lesser_x1.ensures.boxes.0 c.lesser_x1.ensures.boxes.1)
    c.lesser_x1.ensures.lesser c.lesser_y1.ensures c.lesser_z1.ensures c.greater_x2.ensures c.greater_y2.ensures c.greater_z2.ensures
