-- A descent begins again at a full node that can't be split.
use Rattle.std.proofs.Common.{◌≡◌, ◌≢◌, ◌∙◌, ◌==◌, ◌||◌, ◌&&◌, ℕ, Bool, true, false, not, inl, inr, refl, ap, arith}
use Rattle.std.proofs.lemmas.Bool.{ne_eqb}
use Rattle.gx_node.specs.Trees.{Tree, Rules, Used, times, child_pages}
use Rattle.gx_node.specs.Legal.{Legal}
use Rattle.gx_node.specs.Reach.{TraversalItem}
use Rattle.gx_node.specs.Writes.{has_place, must_restart}
use Rattle.gx_node.proofs.Sums.{total_one}
use Rattle.gx_tree.specs.Splitting.{HasNoPlace}

or_right : (a b : Bool) → b ≡ true → (a || b) ≡ true
or_right true b is = refl
or_right false b is = is

-- a page whose parent has no place for a split of it: the descent begins again
pub restarts : {K : Type 0} (r : Rules K) (t : Tree K) (parent : ℕ) (item : TraversalItem) → Legal r t → Used t item.page → item.page ≢ 1 → Used t parent
    → HasNoPlace r t item.page parent → must_restart r t parent item ≡ true
restarts r t parent item legal used below above (inl none) =
    or_right _ (not (item.page == 1) && not (has_place r t parent item.page))
    (ap (λ b. not b && not (has_place r t parent item.page)) (ne_eqb item.page 1 below) ∙ ap (λ b. not b) none)
restarts r t parent item legal used below above (inr twice) =
    let one = legal.parent item.page (omega (arith, used.0, below)) used.1 in
    let here = total_one (λ p. times item.page (child_pages (t.node p))) t.used parent above.0 above.1 in
    absurd (omega (arith, one, here, twice))
