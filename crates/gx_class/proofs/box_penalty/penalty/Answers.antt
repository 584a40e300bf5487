use Rattle.std.proofs.Common.{◌≡◌, ◌∙◌, ◌+◌, ◌-◌, ◌%◌, ap, get_or}
use Rattle.gx_geom.specs.Rectangles.{area, union}
use Rattle.gx_geom.specs.BoxLaws.{union_is_box}
use Rattle.gx_class.specs.Boxes.{corners_of}
use Rattle.gx_class.proofs.box_penalty.LaneAreas.{side_small, area_small, area_grows, difference_is}
use Rattle.gx_class.proofs.box_penalty.penalty.Goals as goal

pub returns : goal.returns
returns c is =
    let b = corners_of c.args.bytes.now in
    let k = c.args.key.now in
    let both = union_is_box b k is c.raised.ensures.in_order in
    let sides = c.sides.ensures b k is c.raised.ensures.in_order (c.lifted.ensures b c.bits_in.ensures) c.raised.ensures.lanes in
    let areas = c.areas.ensures _ _ _ _ (side_small (union b k).x1 (union b k).x2 both.x1_fits both.x2_fits) (side_small (union b k).y1 (union b k).y2 both.y1_fits both.y2_fits)
    (side_small b.x1 b.x2 is.x1_fits is.x2_fits) (side_small b.y1 b.y2 is.y1_fits is.y2_fits) sides
    in
    let first : get_or c.areas.result 0 0 ≡ area (union b k) = ap (λ l. get_or l 0 0) areas in
    let second : get_or c.areas.result 1 0 ≡ area b = ap (λ l. get_or l 1 0) areas in
    let grown : c.from.result ≡ area (union b k) - area b =
    c.from.ensures ∙ ap (λ n. (n + (18446744073709551616 - get_or c.areas.result 1 0)) % 18446744073709551616) first
    ∙ ap (λ n. (area (union b k) + (18446744073709551616 - n)) % 18446744073709551616) second
    ∙ difference_is (area (union b k)) (area b) (area_grows b k is) (area_small (union b k) both)
    in
    ap (λ n. (n, c.from-2.result)) grown ∙ ap (λ n. (area (union b k) - area b, n)) (c.from-2.ensures ∙ second)
