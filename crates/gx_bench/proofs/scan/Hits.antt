-- Hits of pages one after another, and of queries.
use Rattle.std.proofs.Common.{◌≡◌, ◌∙◌, ℕ, pos, ◌+◌, ◌<◌, Bool, true, not, ◌&&◌, List, ◌++◌, ◌∷◌, [], length, map, take, get_or, set, sym, ap, arith}
use Rattle.std.specs.List.{count_by, sum_by}
use Rattle.std.proofs.lemmas.List.{map_more, take_more_set}
use Rattle.std.proofs.lemmas.List.Sums.{sum_by_more}
use Rattle.gx_geom.specs.Rectangles.{Rectangle, IsBox, rectangle_of, overlaps}
use Rattle.gx_class.specs.Boxes.{spelling}
use Rattle.gx_page.specs.Contents.{Contents}
use Rattle.gx_page.specs.Format.{IsWellFormed}
use Rattle.gx_node.specs.Trees.{Pair}
use Rattle.gx_node.specs.Laws.{LeavesHold}
use Rattle.gx_node.specs.Reading.{is_leaf, leaf_of}
use Rattle.gx_bench.specs.Scans.{boxes, is_live_hit, hits_in, AreLeaves}
use Rattle.gx_bench.proofs.scan.Counting.{same_count}

pub some_pair : Pair Rectangle
some_pair = record { row = 0; key = rectangle_of (pos 0) (pos 0) (pos 0) (pos 0); marked = true }

-- a test that agrees with the overlap on each box counts the same on a leaf
pub same_hits : (q : Rectangle) (passes : Rectangle → Bool) (page : Contents) → LeavesHold IsBox spelling boxes → IsWellFormed page → is_leaf boxes page ≡ true
    → ((key : Rectangle) → IsBox key → passes key ≡ overlaps key q) → count_by (is_live_hit passes) (leaf_of boxes page).pairs ≡ hits_in q page
same_hits q passes page holds formed leaf same =
    let held = holds page formed leaf in
    same_count (is_live_hit passes) (is_live_hit (λ key. overlaps key q)) (leaf_of boxes page).pairs some_pair
    (λ i d h. let pair = get_or (leaf_of boxes page).pairs i d in ap (λ b. not pair.marked && b) (same pair.key (held.each i d h).key))

-- a page among leaves is one
pub leaf_at : (pages : List Contents) (i : ℕ) (page : Contents) → i < length pages → page ≡ get_or pages i page → AreLeaves pages → is_leaf boxes page ≡ true
leaf_at pages i page here is leaves = ap (is_leaf boxes) is ∙ leaves i page here

-- what is tested for a box is tested for its equal
pub same_key : (passes : Rectangle → Bool) (q wanted : Rectangle) → wanted ≡ q → ((key : Rectangle) → IsBox key → passes key ≡ overlaps key wanted)
    → (key : Rectangle) → IsBox key → passes key ≡ overlaps key q
same_key passes q wanted e same = λ key is. same key is ∙ ap (overlaps key) e

pub one_more_page : (q : Rectangle) (pages : List Contents) (i : ℕ) (page : Contents) (hits more : ℕ) → i < length pages → page ≡ get_or pages i page
    → hits ≡ sum_by (hits_in q) (take i pages) → more ≡ hits_in q page → hits + more ≡ sum_by (hits_in q) (take (i + 1) pages)
one_more_page q pages i page hits more here is so_far this =
    ap (λ n. n + more) so_far ∙ ap (λ n. sum_by (hits_in q) (take i pages) + n) (this ∙ ap (hits_in q) is) ∙ sym (sum_by_more (hits_in q) pages i page here)

-- the next place is written
pub one_more_count : {X : Type 0} (f : X → ℕ) (counts : List ℕ) (queries : List X) (i : ℕ) (query : X) (count : ℕ) → length counts ≡ length queries
    → i < length queries → take i counts ≡ map f (take i queries) → count ≡ f (get_or queries i query)
    → take (i + 1) (set counts i count) ≡ map f (take (i + 1) queries)
one_more_count f counts queries i query count as_many here so_far this =
    take_more_set counts i count (omega (arith, as_many)) ∙ ap (λ l. l ++ count ∷ []) so_far ∙ ap (λ n. map f (take i queries) ++ n ∷ []) this
    ∙ sym (map_more f queries i query here)
