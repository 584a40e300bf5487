-- The corners that were sent are those of the key.
use Rattle.std.proofs.Common.{◌≡◌, ℤ, ◌∙◌, rules}
use Rattle.gx_geom.specs.Rectangles.{rectangle_of}
use Rattle.gx_bench.proofs.sent.key_of.Goals as goal

same_corners : (x1 y1 x2 y2 x1' y1' x2' y2' : ℤ) → x1 ≡ x1' → y1 ≡ y1' → x2 ≡ x2' → y2 ≡ y2' → rectangle_of x1 y1 x2 y2 ≡ rectangle_of x1' y1' x2' y2'
same_corners x1 y1 x2 y2 x1' y1' x2' y2' a b c d = cc

pub returns-in-Ok : goal.returns-in-Ok
returns-in-Ok c = c.in-Ok.ensures.corners ∙ same_corners _ _ _ _ c.args.sent.now.x1 c.args.sent.now.y1 c.args.sent.now.x2 c.args.sent.now.y2 (search rules) (search rules) (search rules) (search rules)
