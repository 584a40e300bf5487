-- A split of the root, from the changes that make it.
use Rattle.std.proofs.Common.{◌≡◌, ℕ, suc, ◌+◌, ◌-◌, ◌^◌, ◌<◌, ◌≤◌, ◌⊎◌, inl, inr, Bool, not, List, [], ◌∷◌, length, map, refl, sym, ap, ◌∙◌, subst, arith}
use Rattle.std.proofs.lemmas.List.{length-set, length-append}
use Rattle.gx_node.specs.Lists.{staying, going}
use Rattle.gx_node.specs.Trees.{Node, Rules, Used, size}
use Rattle.gx_node.specs.Legal.{Legal}
use Rattle.gx_node.specs.Steps.{IsUnion, IsRootSplit, node_with}
use Rattle.gx_node.specs.declared.items.TheConstants.{MAX_ENTRIES}
use Rattle.gx_node.specs.Store.{Store, node_at, tree_of, with_node, with_page}
use Rattle.gx_tree.specs.Splitting.{left_of, right_of, least_of, keys_in, CanSplitRoot, DidSplitRoot}
use Rattle.gx_tree.proofs.Splits.{other_half, at_changed, at_other, at_taken, at_untaken, union_alike}

module _ {B : Type 0} where
  -- a change of a node, if the store is known by an equation
  pub changed : (s t after : Store B) (p : ℕ) (f : Node B → Node B) (m : Node B) → s ≡ t → node_at t.nodes p ≡ m
      → after ≡ with_node s p (node_at after.nodes p) → node_at after.nodes p ≡ f (node_at s.nodes p) → after ≡ with_node t p (f m)
  changed s t after p f m same at others edited =
      others
      ∙ ap (λ n. with_node s p n) edited
      ∙ ap (λ (x : Store B). with_node x p (f (node_at x.nodes p))) same
      ∙ ap (λ n. with_node t p (f n)) at

  -- the root's two halves on separate pages
  abbrev pub both_taken : Store B → List Bool → Store B
  both_taken s sides = with_page (with_page s (left_of sides (node_at s.nodes 1))) (right_of sides (node_at s.nodes 1))

  -- a half with number 0 and this rightlink
  abbrev pub linked : ℕ → Node B → Node B
  linked right node = node_with node 0 right node.pairs node.children

  -- the root over two pages
  abbrev pub raised : B → ℕ → B → ℕ → Node B → Node B
  raised left first right second node = record {
    level = suc node.level;
    nsn = node.nsn;
    right = node.right;
    pairs = [];
    children = record { key = left; page = first } ∷ record { key = right; page = second } ∷ [];
  }

  -- the pages once the root is split by sides
  abbrev pub root_store : Store B → List Bool → B → B → Store B
  root_store s sides left right =
      with_node (with_node (with_node (both_taken s sides)
      (suc (length s.nodes)) (linked (suc (suc (length s.nodes))) (left_of sides (node_at s.nodes 1))))
      (suc (suc (length s.nodes))) (linked 0 (right_of sides (node_at s.nodes 1))))
      1 (raised left (suc (length s.nodes)) right (suc (suc (length s.nodes))) (node_at s.nodes 1))

  taken_both : (s one two : Store B) (sides others : List Bool) → Used (tree_of s) 1 → others ≡ map not sides → length sides ≡ size (node_at s.nodes 1)
      → one ≡ with_page s (left_of sides (node_at s.nodes 1)) → two ≡ with_page one (left_of others (node_at one.nodes 1)) → two ≡ both_taken s sides
  taken_both s one two sides others here turned as_many first second =
      let root = node_at s.nodes 1 in
      let half = left_of sides root in
      second
      ∙ ap (λ (t : Store B). with_page t (left_of others (node_at t.nodes 1))) first
      ∙ ap (λ (n : Node B). with_page (with_page s half) (left_of others n)) (at_untaken s 1 half (λ e. omega (arith, here.1, e)))
      ∙ ap (with_page (with_page s half)) (other_half sides others root turned as_many)

  pub made_root : (s one two three four five : Store B) (sides others : List Bool) (left right : B) (first second : ℕ)
      → Used (tree_of s) 1 → others ≡ map not sides → length sides ≡ size (node_at s.nodes 1)
      → first ≡ suc (length s.nodes) → second ≡ suc (length one.nodes)
      → one ≡ with_page s (left_of sides (node_at s.nodes 1)) → two ≡ with_page one (left_of others (node_at one.nodes 1))
      → three ≡ with_node two first (node_at three.nodes first) → node_at three.nodes first ≡ linked second (node_at two.nodes first)
      → four ≡ with_node three second (node_at four.nodes second) → node_at four.nodes second ≡ linked 0 (node_at three.nodes second)
      → five ≡ with_node four 1 (node_at five.nodes 1) → node_at five.nodes 1 ≡ raised left first right second (node_at four.nodes 1)
      → (second ≡ suc (suc (length s.nodes))) × (five ≡ root_store s sides left right)
  made_root s one two three four five sides others left right first second here turned as_many is_first is_second taken_one taken_two link_one linked_one link_two linked_two raise raised_one =
      let root = node_at s.nodes 1 in
      let a = suc (length s.nodes) in
      let b = suc (suc (length s.nodes)) in
      let stay = left_of sides root in
      let go = right_of sides root in
      let long : length (with_page s stay).nodes ≡ a = omega (arith, length-append s.nodes (stay ∷ [])) in
      let is_b : second ≡ b = is_second ∙ ap (λ (t : Store B). suc (length t.nodes)) taken_one ∙ ap suc long in
      let s_two = both_taken s sides in
      let eq_two : two ≡ s_two = taken_both s one two sides others here turned as_many taken_one taken_two in
      let at_a : node_at s_two.nodes a ≡ stay = at_untaken (with_page s stay) a go (λ e. omega (arith, long, e)) ∙ at_taken s stay in
      let at_b : node_at s_two.nodes b ≡ go = ap (λ n. node_at s_two.nodes (suc n)) (sym long) ∙ at_taken (with_page s stay) go in
      let at_one : node_at s_two.nodes 1 ≡ root =
      at_untaken (with_page s stay) 1 go (λ e. omega (arith, long, here.1, e)) ∙ at_untaken s 1 stay (λ e. omega (arith, here.1, e)) in
      let s_three = with_node s_two a (linked b stay) in
      let eq_three : three ≡ s_three =
      changed two s_two three first (linked second) stay eq_two (ap (node_at s_two.nodes) is_first ∙ at_a) link_one linked_one
      ∙ ap (λ n. with_node s_two n (linked second stay)) is_first
      ∙ ap (λ n. with_node s_two a (linked n stay)) is_b in
      let three_b : node_at s_three.nodes b ≡ go = at_other s_two a b (linked b stay) (omega arith) (λ e. omega (arith, e)) ∙ at_b in
      let three_one : node_at s_three.nodes 1 ≡ root = at_other s_two a 1 (linked b stay) (omega arith) (λ e. omega (arith, here.1, e)) ∙ at_one in
      let s_four = with_node s_three b (linked 0 go) in
      let eq_four : four ≡ s_four =
      changed three s_three four second (linked 0) go eq_three (ap (node_at s_three.nodes) is_b ∙ three_b) link_two linked_two
      ∙ ap (λ n. with_node s_three n (linked 0 go)) is_b in
      let four_one : node_at s_four.nodes 1 ≡ root = at_other s_three b 1 (linked 0 go) (omega arith) (λ e. omega (arith, here.1, e)) ∙ three_one in (
        is_b,
        changed four s_four five 1 (raised left first right second) root eq_four four_one raise raised_one
            ∙ ap (λ n. with_node s_four 1 (raised left n right second root)) is_first
            ∙ ap (λ n. with_node s_four 1 (raised left a right n root)) is_b,
      )

  pub is_root_split : (r : Rules B) (sides_of : List B → ℕ → List Bool) (s : Store B) (sides : List Bool) (left right : B)
      → Used (tree_of s) 1 → CanSplitRoot r sides_of s sides left right
      → IsRootSplit r (tree_of s) (tree_of (root_store s sides left right)) (sides_of (keys_in (node_at s.nodes 1)) (least_of r.most)) left right
  is_root_split r sides_of s sides left right here can =
      let root = node_at s.nodes 1 in
      let a = suc (length s.nodes) in
      let b = suc (suc (length s.nodes)) in
      let stay = left_of sides root in
      let go = right_of sides root in
      let over = raised left a right b root in
      let s_one = with_page s stay in
      let s_two = both_taken s sides in
      let s_three = with_node s_two a (linked b stay) in
      let s_four = with_node s_three b (linked 0 go) in
      let s_five = with_node s_four 1 over in
      let long_one : length s_one.nodes ≡ a = omega (arith, length-append s.nodes (stay ∷ [])) in
      let long_two : length s_two.nodes ≡ b = omega (arith, long_one, length-append s_one.nodes (go ∷ [])) in
      let long_three : length s_three.nodes ≡ b = omega (arith, long_two, length-set s_two.nodes (a - 1) (linked b stay)) in
      let long_four : length s_four.nodes ≡ b = omega (arith, long_three, length-set s_three.nodes (b - 1) (linked 0 go)) in
      let long_five : length s_five.nodes ≡ b = omega (arith, long_four, length-set s_four.nodes (1 - 1) over) in
      let at_a : node_at s_five.nodes a ≡ linked b stay =
      at_other s_four 1 a over (omega arith) (λ e. omega (arith, here.1, e))
      ∙ at_other s_three b a (linked 0 go) (omega arith) (λ e. omega (arith, e))
      ∙ at_changed s_two a (linked b stay) (omega arith) (omega (arith, long_two)) in
      let at_b : node_at s_five.nodes b ≡ linked 0 go =
      at_other s_four 1 b over (omega arith) (λ e. omega (arith, e))
      ∙ at_changed s_three b (linked 0 go) (omega arith) (omega (arith, long_three)) in
      let halves = can.halves in
      subst (λ (ss : List Bool). IsRootSplit r (tree_of s) (tree_of s_five) ss left right) halves.split
      (record {
        used = long_five;
        counter = refl;
        first = at_a ∙ ap (λ ps. node_with root 0 b (staying sides ps) (staying sides root.children)) can.no_pairs;
        second = at_b ∙ ap (λ ps. node_with root 0 0 (going sides ps) (going sides root.children)) can.no_pairs;
        root = at_changed s_four 1 over (omega arith) (omega (arith, long_four));
        others = λ q not_one not_a not_b.
            (at_other s_four 1 q over (omega arith) not_one
            ∙ at_other s_three b q (linked 0 go) (omega arith) not_b
            ∙ at_other s_two a q (linked b stay) (omega arith) not_a
            ∙ at_untaken s_one q go (λ e. not_b (e ∙ ap suc long_one))
            ∙ at_untaken s q stay not_a);
        left_some = subst (λ (n : Node B). 0 < size n) (sym at_a) halves.left_some;
        right_some = subst (λ (n : Node B). 0 < size n) (sym at_b) halves.right_some;
        left_union = subst (λ (n : Node B). IsUnion r left n) (sym at_a) (union_alike r left stay 0 b halves.left_union);
        right_union = subst (λ (n : Node B). IsUnion r right n) (sym at_b) (union_alike r right go 0 0 halves.right_union);
      })

  pub did_split_root : (r : Rules B) (sides_of : List B → ℕ → List Bool) (s new : Store B) (sides : List Bool) (left right : B)
      → Used (tree_of s) 1 → CanSplitRoot r sides_of s sides left right → new ≡ root_store s sides left right
      → DidSplitRoot r sides_of s new (record { first = suc (length s.nodes); second = suc (suc (length s.nodes)); left = left; right = right })
  did_split_root r sides_of s new sides left right here can is =
      subst (λ (t : Store B). DidSplitRoot r sides_of s t (record { first = suc (length s.nodes); second = suc (suc (length s.nodes)); left = left; right = right })) (sym is)
      (record {
        split = is_root_split r sides_of s sides left right here can;
        first = refl;
        second = refl;
        room = refl;
      })

-- a size that is at most the limit, and no less, is neither below nor above it
neither : (n most max : ℕ) → most ≤ n → n ≤ most → most ≤ max → (n < most) ⊎ (max < n) → ⊥
neither n most max full room few (inl less) = omega (arith, less, full)
neither n most max full room few (inr more) = omega (arith, more, room, few)

-- a full root of a legal tree can be split, but for its level
pub root_is_whole : {B : Type 0} (r : Rules B) (old now : Store B) → now ≡ old → r.most ≤ MAX_ENTRIES → Legal r (tree_of old)
    → r.most ≤ size (node_at old.nodes 1) → (node_at old.nodes 1).level + 1 < 2 ^ 16
    → (0 < (node_at now.nodes 1).level → (node_at now.nodes 1).level + 1 < 2 ^ 16
    → (size (node_at now.nodes 1) < r.most) ⊎ (MAX_ENTRIES < size (node_at now.nodes 1))) → ⊥
root_is_whole r old now same few legal full level fails =
    let used : Used (tree_of old) 1 = (omega arith, omega (arith, legal.counter)) in
    let is = subst (λ s. 0 < (node_at s.nodes 1).level → (node_at s.nodes 1).level + 1 < 2 ^ 16
    → (size (node_at s.nodes 1) < r.most) ⊎ (MAX_ENTRIES < size (node_at s.nodes 1))) same fails in
    neither (size (node_at old.nodes 1)) r.most MAX_ENTRIES full (legal.pages 1 used).room few (is legal.root level)
