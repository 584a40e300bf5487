use Rattle.std.proofs.Common.{arith}
use Rattle.std.proofs.lemmas.Int.{ints}
use Rattle.gx_geom.specs.BoxLaws.{lesser_at_most, at_most_greater, at_most_through}
use Rattle.gx_split.proofs.boxes.framed.Goals as goal

pub returns-clause-this : goal.returns-clause-this
returns-clause-this c =
    let is = c.x1.ensures.in_order in
    let cover = c.args.frame.now.cover in
    let key = c.args.key.now in
    let x1 = c.x1.ensures.value in
    let x2 = c.x2.ensures.value in
    let y1 = c.y1.ensures.value in
    let y2 = c.y2.ensures.value in
    record {
      x_in_order = is.x_in_order;
      y_in_order = is.y_in_order;
      x_from = rw c.union.ensures (lesser_at_most cover.x1 key.x1).1;
      x_to = rw c.union.ensures (at_most_greater cover.x2 key.x2).1;
      y_from = rw c.union.ensures (lesser_at_most cover.y1 key.y1).1;
      y_to = rw c.union.ensures (at_most_greater cover.y2 key.y2).1;
      narrow = omega (arith, ints, x1, x2, c.abs_diff.ensures, c.max.ensures);
      low = omega (arith, ints, y1, y2, c.abs_diff-2.ensures, c.max-2.ensures);
    }

pub returns-clause-others : goal.returns-clause-others
returns-clause-others c other is =
    let cover = c.args.frame.now.cover in
    let key = c.args.key.now in
    record {
      x_in_order = is.x_in_order;
      y_in_order = is.y_in_order;
      x_from = rw c.union.ensures (at_most_through _ cover.x1 other.x1 (lesser_at_most cover.x1 key.x1).0 is.x_from);
      x_to = rw c.union.ensures (at_most_through other.x2 cover.x2 _ is.x_to (at_most_greater cover.x2 key.x2).0);
      y_from = rw c.union.ensures (at_most_through _ cover.y1 other.y1 (lesser_at_most cover.y1 key.y1).0 is.y_from);
      y_to = rw c.union.ensures (at_most_through other.y2 cover.y2 _ is.y_to (at_most_greater cover.y2 key.y2).0);
      narrow = omega (arith, is.narrow, c.max.ensures);
      low = omega (arith, is.low, c.max-2.ensures);
    }
