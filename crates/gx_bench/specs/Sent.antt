-- Boxes and pages as C sends them.
use Rattle.std.specs.Prelude.{◌≤ℤ◌}
use Rattle.gx_geom.specs.Rectangles.{Rectangle, rectangle_of}
use Rattle.gx_page.specs.Contents.{Contents}
use Rattle.gx_page.specs.Reading.{read_of}
use Rattle.gx_bench.specs.declared.sent.SentBox.{SentBox}
use Rattle.gx_bench.specs.declared.sent.SentPage.{SentPage}

-- the corners that a box means
abbrev pub key_of : SentBox → Rectangle
key_of b = rectangle_of b.x1 b.y1 b.x2 b.y2

-- none of its sides is reversed
pub record InOrder (b : SentBox) : Type 0 where
  pub x : b.x1 ≤ℤ b.x2
  pub y : b.y1 ≤ℤ b.y2

-- what a page holds
abbrev pub page_of : SentPage → Contents
page_of p = read_of p.image
