use Rattle.std.proofs.Common.{◌≡◌, ◌++◌, take, drop, ℕ, List}
use Rattle.gx_found_log.specs.Given.{image_in, with_image}
use Rattle.gx_found_log.proofs.given.place.Given as goal

-- the pages that the loop has passed stay in front, and are other pages
abbrev pub invariant-loop-i : goal.invariant-loop-i
invariant-loop-i l =
    ((image : List ℕ) → with_image (l.page, image) l.pages ≡ take l.i l.pages ++ with_image (l.page, image) (drop l.i l.pages))
    × (image_in l.page l.pages ≡ image_in l.page (drop l.i l.pages))
