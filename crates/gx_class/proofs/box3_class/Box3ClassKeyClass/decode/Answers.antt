use Rattle.std.proofs.Common.{◌≡◌, length, ◌≤ℤ◌, FitsSigned, Some, rules, subst, ap, sym, ◌∙◌}
use Rattle.std.specs.Int.{w32}
use Rattle.std.proofs.lemmas.Int.{to_z-of_z}
use Rattle.gx_geom.specs.Solids.{IsSolid, solid_of}
use Rattle.gx_class.specs.SolidKeys.{spelling}
use Rattle.gx_class.specs.BoxKeyLaws.{answer_is, holds_of_answer, halves_join}
use Rattle.gx_class.specs.SolidKeyLaws.{length-spelling, same_spelling}
use Rattle.gx_class.proofs.box3_class.Box3ClassKeyClass.decode.Goals as goal

pub returns-then-bytes-ne-KEY-clause-back : goal.returns-then-bytes-ne-KEY-clause-back
returns-then-bytes-ne-KEY-clause-back c key is e =
    let long = ap length e ∙ length-spelling key in
    absurd (c.if-bytes-ne-KEY.true long)

pub returns-clause-only : goal.returns-clause-only
returns-clause-only c =
    let x1 = c.three_numbers-x1.result.0 in
    let y1 = c.three_numbers-x1.result.1 in
    let z1 = c.three_numbers-x1.result.2 in
    let x2 = c.three_numbers-x2.result.0 in
    let y2 = c.three_numbers-x2.result.1 in
    let z2 = c.three_numbers-x2.result.2 in
    let x1_fits : FitsSigned w32 x1 = search rules in
    let y1_fits : FitsSigned w32 y1 = search rules in
    let z1_fits : FitsSigned w32 z1 = search rules in
    let x2_fits : FitsSigned w32 x2 = search rules in
    let y2_fits : FitsSigned w32 y2 = search rules in
    let z2_fits : FitsSigned w32 z2 = search rules in
    let a = solid_of x1 y1 z1 x2 y2 z2 in
    let read : c.args.bytes.now ≡ spelling a =
    halves_join c.args.bytes.now _ _ _ _ 12 c.split_at.ensures.front c.split_at.ensures.back c.three_numbers-x1.ensures c.three_numbers-x2.ensures in
    let ok = simp to_z-of_z at c.new.ensures.ok in
    let corners = simp to_z-of_z at c.new.ensures.corners in
    rw c.ok.ensures.value
    (holds_of_answer (λ key. IsSolid key × (c.args.bytes.now ≡ spelling key)) c.new.result a corners
    (λ is. (
      record {
        x_in_order = (ok.0 is).0;
        y_in_order = (ok.0 is).1;
        z_in_order = (ok.0 is).2;
        x1_fits = x1_fits;
        y1_fits = y1_fits;
        z1_fits = z1_fits;
        x2_fits = x2_fits;
        y2_fits = y2_fits;
        z2_fits = z2_fits;
      },
      read,
    )))

pub returns-clause-back : goal.returns-clause-back
returns-clause-back c key is e =
    let x1 = c.three_numbers-x1.result.0 in
    let y1 = c.three_numbers-x1.result.1 in
    let z1 = c.three_numbers-x1.result.2 in
    let x2 = c.three_numbers-x2.result.0 in
    let y2 = c.three_numbers-x2.result.1 in
    let z2 = c.three_numbers-x2.result.2 in
    let x1_fits : FitsSigned w32 x1 = search rules in
    let y1_fits : FitsSigned w32 y1 = search rules in
    let z1_fits : FitsSigned w32 z1 = search rules in
    let x2_fits : FitsSigned w32 x2 = search rules in
    let y2_fits : FitsSigned w32 y2 = search rules in
    let z2_fits : FitsSigned w32 z2 = search rules in
    let a = solid_of x1 y1 z1 x2 y2 z2 in
    let read : c.args.bytes.now ≡ spelling a =
    halves_join c.args.bytes.now _ _ _ _ 12 c.split_at.ensures.front c.split_at.ensures.back c.three_numbers-x1.ensures c.three_numbers-x2.ensures in
    let same : a ≡ key = same_spelling a key x1_fits y1_fits z1_fits x2_fits y2_fits z2_fits is (sym read ∙ e) in
    let x_in_order : x1 ≤ℤ x2 = subst (λ b. b.x1 ≤ℤ b.x2) (sym same) is.x_in_order in
    let y_in_order : y1 ≤ℤ y2 = subst (λ b. b.y1 ≤ℤ b.y2) (sym same) is.y_in_order in
    let z_in_order : z1 ≤ℤ z2 = subst (λ b. b.z1 ≤ℤ b.z2) (sym same) is.z_in_order in
    let ok = simp to_z-of_z at c.new.ensures.ok in
    let corners = simp to_z-of_z at c.new.ensures.corners in
    c.ok.ensures.value ∙ answer_is c.new.result a (ok.1 (x_in_order, y_in_order, z_in_order)) corners ∙ ap Some same
