-- A page that gets another node.
use Rattle.std.proofs.Common.{◌≡◌, ◌≢◌, ℕ, zero, suc, ◌-◌, ◌<◌, ◌≤◌, List, length, get_or, set, refl, ap, ◌∙◌, arith}
use Rattle.std.proofs.lemmas.List.{length-set, get_or-set_same, get_or-set_other}
use Rattle.gx_node.specs.Steps.{ChangesOnly, node_with}
use Rattle.gx_node.specs.Trees.{Pair, Child, Node, Used}
use Rattle.gx_node.specs.Store.{Store, node_at, blank, tree_of, with_node}

module _ {B : Type 0} where
  -- the node that was set is the page's
  pub set_here : (nodes : List (Node B)) (a : ℕ) (n : Node B) → 0 < a → a ≤ length nodes → node_at (set nodes (a - 1) n) a ≡ n
  set_here nodes zero n low high = absurd (omega arith)
  set_here nodes (suc p) n low high =
      let one : suc p - 1 ≡ p = omega arith in
      ap (λ k. get_or (set nodes k n) p blank) one ∙ get_or-set_same nodes p n blank (omega arith)

  -- each other page has its own
  pub set_elsewhere : (nodes : List (Node B)) (a q : ℕ) (n : Node B) → 0 < a → q ≢ a → node_at (set nodes (a - 1) n) q ≡ node_at nodes q
  set_elsewhere nodes a zero n low other = refl
  set_elsewhere nodes zero (suc q) n low other = absurd (omega arith)
  set_elsewhere nodes (suc p) (suc q) n low other =
      let one : suc p - 1 ≡ p = omega arith in
      ap (λ k. get_or (set nodes k n) q blank) one ∙ get_or-set_other nodes p q n blank (λ e. other (ap (λ k. suc k) e))

  -- with another node for a page in use, nothing but its entries has changed
  pub changed_only : (s : Store B) (a : ℕ) (n : Node B) (pairs : List (Pair B)) (children : List (Child B)) → Used (tree_of s) a
      → n ≡ node_with (node_at s.nodes a) (node_at s.nodes a).nsn (node_at s.nodes a).right pairs children
      → ChangesOnly (tree_of s) (tree_of (with_node s a n)) a pairs children
  changed_only s a n pairs children used is = record {
    there = used;
    used = length-set s.nodes (a - 1) n;
    counter = refl;
    changed = set_here s.nodes a n used.0 used.1 ∙ is;
    others = λ q other. set_elsewhere s.nodes a q n used.0 other;
  }
