-- How many live pairs of leaves overlap a box.
use Rattle.std.specs.Prelude.{◌≡◌, ℕ, pos, true, not, ◌&&◌, Bool, List}
use Rattle.std.specs.List.{All, count_by, sum_by}
use Rattle.gx_geom.specs.Rectangles.{Rectangle, rectangle_of, overlaps}
use Rattle.gx_class.specs.Boxes.{reading}
use Rattle.gx_page.specs.Contents.{Contents}
use Rattle.gx_node.specs.Trees.{Pair}
use Rattle.gx_node.specs.Reading.{Format, format, is_leaf, leaf_of}

-- how pages have boxes as keys
abbrev pub boxes : Format Rectangle
boxes = format 16 reading (rectangle_of (pos 0) (pos 0) (pos 0) (pos 0))

-- the pair is live, and its key passes
abbrev pub is_live_hit : (Rectangle → Bool) → Pair Rectangle → Bool
is_live_hit passes pair = not pair.marked && passes pair.key

-- how many of a leaf's pairs are live and overlap the box
abbrev pub hits_in : Rectangle → Contents → ℕ
hits_in q page = count_by (is_live_hit (λ key. overlaps key q)) (leaf_of boxes page).pairs

-- how many of all leaves
abbrev pub hits_in_all : List Contents → Rectangle → ℕ
hits_in_all pages q = sum_by (hits_in q) pages

-- each page is a leaf of boxes
abbrev pub AreLeaves : List Contents → Type 0
AreLeaves pages = All (λ page. is_leaf boxes page ≡ true) pages
