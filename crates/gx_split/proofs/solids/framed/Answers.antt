use Rattle.std.proofs.Common.{ℕ, ◌≤◌, ℤ, arith}
use Rattle.std.proofs.lemmas.Int.{ints}
use Rattle.std.specs.Int.{int_min, int_max}
use Rattle.gx_geom.specs.BoxLaws.{lesser_at_most, at_most_greater, at_most_through}
use Rattle.gx_geom.specs.Spans.{Span}
use Rattle.gx_split.specs.Frames.{IsShort}
use Rattle.gx_split.proofs.solids.framed.Goals as goal

-- what lies between two numbers lies between those of a wider stretch, if it may be longer
widened : (from to low high : ℤ) (longest more : ℕ) (a : Span) → longest ≤ more → IsShort from to longest a
    → IsShort (int_min from low) (int_max to high) more a
widened from to low high longest more a le is = record {
  in_order = is.in_order;
  after = at_most_through (int_min from low) from a.lo (lesser_at_most from low).0 is.after;
  before = at_most_through a.hi to (int_max to high) is.before (at_most_greater to high).0;
  short = omega (arith, is.short);
}

pub returns-clause-this : goal.returns-clause-this
returns-clause-this c =
    let is = c.x1.ensures.in_order in
    let cover = c.args.frame.now.cover in
    let key = c.args.key.now in
    let x1 = c.x1.ensures.value in
    let x2 = c.x2.ensures.value in
    let y1 = c.y1.ensures.value in
    let y2 = c.y2.ensures.value in
    let z1 = c.z1.ensures.value in
    let z2 = c.z2.ensures.value in
    record {
      in_x = record {
        in_order = is.x_in_order;
        after = rw c.union.ensures (lesser_at_most cover.x1 key.x1).1;
        before = rw c.union.ensures (at_most_greater cover.x2 key.x2).1;
        short = omega (arith, ints, x1, x2, c.abs_diff.ensures, c.max.ensures);
      };
      in_y = record {
        in_order = is.y_in_order;
        after = rw c.union.ensures (lesser_at_most cover.y1 key.y1).1;
        before = rw c.union.ensures (at_most_greater cover.y2 key.y2).1;
        short = omega (arith, ints, y1, y2, c.abs_diff-2.ensures, c.max-2.ensures);
      };
      in_z = record {
        in_order = is.z_in_order;
        after = rw c.union.ensures (lesser_at_most cover.z1 key.z1).1;
        before = rw c.union.ensures (at_most_greater cover.z2 key.z2).1;
        short = omega (arith, ints, z1, z2, c.abs_diff-3.ensures, c.max-3.ensures);
      };
    }

pub returns-clause-others : goal.returns-clause-others
returns-clause-others c other is =
    let cover = c.args.frame.now.cover in
    let key = c.args.key.now in
    record {
      in_x = rw c.union.ensures (widened cover.x1 cover.x2 key.x1 key.x2 _ _ _ (omega (arith, c.max.ensures)) is.in_x);
      in_y = rw c.union.ensures (widened cover.y1 cover.y2 key.y1 key.y2 _ _ _ (omega (arith, c.max-2.ensures)) is.in_y);
      in_z = rw c.union.ensures (widened cover.z1 cover.z2 key.z1 key.z2 _ _ _ (omega (arith, c.max-3.ensures)) is.in_z);
    }
