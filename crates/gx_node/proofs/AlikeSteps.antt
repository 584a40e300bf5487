-- A step of a tree is one of another: the two agree on pages in use, before and after.
use Rattle.std.proofs.Common.{◌≡◌, ℕ, suc, ◌<◌, ◌≤◌, Bool, true, false, ◌⊎◌, inl, inr, List, [], ◌∷◌, ◌++◌, filter, refl, ap, sym, ◌∙◌, subst, arith}
use Rattle.std.specs.Prelude.{nat_lt, nat_le}
use Rattle.std.proofs.lemmas.Bool.{ltb-true, ltb-false, leb-true, leb-false}
use Rattle.gx_node.specs.Lists.{Each, staying, going}
use Rattle.gx_node.specs.Trees.{Pair, Child, Node, Tree, Rules, IsLawful, Used, size, times, child_pages, is_entry}
use Rattle.gx_node.specs.Legal.{Legal}
use Rattle.gx_node.specs.Steps.{IsUnion, with_key, EntriesCover, node_with, ChangesOnly, with_mark, spares, Step, Splits, SplitsRoot, Widens, Adds, Marks, Sweeps, IsStep}
use Rattle.gx_node.specs.Alike.{AgreeOnUsed}
use Rattle.gx_node.proofs.Splits.{split_used}
use Rattle.gx_node.proofs.AlikeTrees.{used_back, standing_too}

-- a page is in use, or it isn't
in_use_by : {K : Type 0} (t : Tree K) (q : ℕ) (a b : Bool) → nat_lt 0 q ≡ a → nat_le q t.used ≡ b → (Used t q) ⊎ (Used t q → ⊥)
in_use_by t q true true low high = inl (ltb-true 0 q low, leb-true q t.used high)
in_use_by t q false b low high = inr (λ u. (let none = ltb-false 0 q low in omega (arith, none, u.0)))
in_use_by t q true false low high = inr (λ u. (let beyond = leb-false q t.used high in omega (arith, beyond, u.1)))

in_use : {K : Type 0} (t : Tree K) (q : ℕ) → (Used t q) ⊎ (Used t q → ⊥)
in_use t q = in_use_by t q (nat_lt 0 q) (nat_le q t.used) refl refl

module _ {K : Type 0} (r : Rules K) (law : IsLawful r) (one one_then other other_then : Tree K) (before : AgreeOnUsed one other) (after : AgreeOnUsed one_then other_then)
    (beyond : (q : ℕ) → (Used one_then q → ⊥) → other_then.node q ≡ other.node q) (legal : Legal r one) where
  there : (q : ℕ) → Used one q → Used other q
  there q u = (u.0, subst (λ n. q ≤ n) (sym before.used) u.1)

  -- a page that the step doesn't change
  same_beside : (q : ℕ) → (Used one_then q → Used one q × (one_then.node q ≡ one.node q)) → other_then.node q ≡ other.node q
  same_beside q kept =
      elim (in_use one_then q) [
        | inl u ↦ after.nodes q u ∙ (kept u).1 ∙ sym (before.nodes q (kept u).0)
        | inr out ↦ beyond q out
      ]

  covers_too : (a : ℕ) (key : K) → EntriesCover r one a key → EntriesCover r other a key
  covers_too a key covers p u =
      subst (λ (n : Node K). Each (λ c. c.page ≡ a → r.covers c.key key ≡ true) n.children) (sym (before.nodes p (used_back one other before p u)))
      (covers p (used_back one other before p u))

  -- a step that changes one page
  changes_too : (a : ℕ) (pairs pairs_too : List (Pair K)) (children children_too : List (Child K)) → ChangesOnly one one_then a pairs children → pairs_too ≡ pairs → children_too ≡ children
      → ChangesOnly other other_then a pairs_too children_too
  changes_too a pairs pairs_too children children_too is same_pairs same_children =
      let now : Used one_then a = (is.there.0, subst (λ n. a ≤ n) (sym is.used) is.there.1) in
      let node : other.node a ≡ one.node a = before.nodes a is.there in
      record {
        there = there a is.there;
        used = after.used ∙ is.used ∙ sym before.used;
        counter = after.counter ∙ is.counter ∙ sym before.counter;
        changed = after.nodes a now ∙ is.changed ∙ (λ i. node_with (sym node i) (sym node i).nsn (sym node i).right (sym same_pairs i) (sym same_children i));
        others = λ q ne. same_beside q (λ u. ((u.0, subst (λ n. q ≤ n) is.used u.1), is.others q ne));
      }

  pub step_too : (step : Step K) → IsStep r one step one_then → IsStep r other step other_then
  step_too (Splits n p sides left right) is =
      let low : Used one n = split_used r law one one_then n p sides left right legal is in
      let node : other.node n ≡ one.node n = before.nodes n low in
      let parent : other.node p ≡ one.node p = before.nodes p is.parent in
      let new_n : Used one_then n = (low.0, (let m = is.used in let h = low.1 in omega (arith, m, h))) in
      let new_p : Used one_then p = (is.parent.0, (let m = is.used in let h = is.parent.1 in omega (arith, m, h))) in
      let new_s : Used one_then (suc one.used) = (omega arith, (let m = is.used in omega (arith, m))) in
      let sibling : suc other.used ≡ suc one.used = ap suc before.used in
      let at_sibling : other_then.node (suc other.used) ≡ one_then.node (suc one.used) = ap other_then.node sibling ∙ after.nodes (suc one.used) new_s in
      record {
        parent = there p is.parent;
        names = subst (λ (x : Node K). times n (child_pages x) ≡ 1) (sym parent) is.names;
        room = subst (λ (x : Node K). size x < r.most) (sym parent) is.room;
        used = after.used ∙ is.used ∙ sym sibling;
        counter = after.counter ∙ is.counter ∙ sym (ap suc before.counter);
        split = after.nodes n new_n ∙ is.split
            ∙ (λ i. node_with (sym node i) (suc (sym before.counter i)) (suc (sym before.used i)) (staying sides (sym node i).pairs) (staying sides (sym node i).children));
        sibling = at_sibling ∙ is.sibling
            ∙ (λ i. node_with (sym node i) (sym node i).nsn (sym node i).right (going sides (sym node i).pairs) (going sides (sym node i).children));
        named = after.nodes p new_p ∙ is.named
            ∙ (λ i. node_with (sym parent i) (sym parent i).nsn (sym parent i).right (sym parent i).pairs
            (with_key n left (sym parent i).children ++ record { key = right; page = suc (sym before.used i) } ∷ []));
        others = λ q ne_n ne_p ne_s. same_beside q (λ u.
            let inside : Used one q = (u.0, (let m = is.used in let h = u.1 in let s = before.used in omega (arith, m, h, ne_s, s))) in
            (inside, is.others q ne_n ne_p (λ e. ne_s (e ∙ sym sibling))));
        left_some = subst (λ (x : Node K). 0 < size x) (sym (after.nodes n new_n)) is.left_some;
        right_some = subst (λ (x : Node K). 0 < size x) (sym at_sibling) is.right_some;
        left_union = subst (IsUnion r left) (sym (after.nodes n new_n)) is.left_union;
        right_union = subst (IsUnion r right) (sym at_sibling) is.right_union;
      }
  step_too (SplitsRoot sides left right) is =
      let root : Used one 1 = (let c = legal.counter in (omega arith, omega (arith, c))) in
      let node : other.node 1 ≡ one.node 1 = before.nodes 1 root in
      let first : Used one_then (suc one.used) = (omega arith, (let m = is.used in omega (arith, m))) in
      let second : Used one_then (suc (suc one.used)) = (omega arith, (let m = is.used in omega (arith, m))) in
      let top : Used one_then 1 = (omega arith, (let m = is.used in omega (arith, m))) in
      let at_first : other_then.node (suc other.used) ≡ one_then.node (suc one.used) = ap (λ n. other_then.node (suc n)) before.used ∙ after.nodes (suc one.used) first in
      let at_second : other_then.node (suc (suc other.used)) ≡ one_then.node (suc (suc one.used)) = ap (λ n. other_then.node (suc (suc n))) before.used ∙ after.nodes (suc (suc one.used)) second in
      record {
        used = after.used ∙ is.used ∙ sym (ap (λ n. suc (suc n)) before.used);
        counter = after.counter ∙ is.counter ∙ sym before.counter;
        first = at_first ∙ is.first ∙ (λ i. node_with (sym node i) 0 (suc (suc (sym before.used i))) [] (staying sides (sym node i).children));
        second = at_second ∙ is.second ∙ (λ i. node_with (sym node i) 0 0 [] (going sides (sym node i).children));
        root = after.nodes 1 top ∙ is.root
            ∙ (λ i. record {
              level = suc (sym node i).level;
              nsn = (sym node i).nsn;
              right = (sym node i).right;
              pairs = [];
              children = record { key = left; page = suc (sym before.used i) } ∷ record { key = right; page = suc (suc (sym before.used i)) } ∷ [];
            });
        others = λ q ne_1 ne_a ne_b. same_beside q (λ u.
            let inside : Used one q = (u.0, (let m = is.used in let h = u.1 in let s = before.used in omega (arith, m, h, ne_a, ne_b, s))) in
            (inside, is.others q ne_1 (λ e. ne_a (e ∙ sym (ap suc before.used))) (λ e. ne_b (e ∙ sym (ap (λ n. suc (suc n)) before.used)))));
        left_some = subst (λ (x : Node K). 0 < size x) (sym at_first) is.left_some;
        right_some = subst (λ (x : Node K). 0 < size x) (sym at_second) is.right_some;
        left_union = subst (IsUnion r left) (sym at_first) is.left_union;
        right_union = subst (IsUnion r right) (sym at_second) is.right_union;
      }
  step_too (Widens a x coming key) is =
      let node : other.node a ≡ one.node a = before.nodes a is.changes.there in
      record {
        inner = subst (λ (n : Node K). 0 < n.level) (sym node) is.inner;
        changes = changes_too a (one.node a).pairs (other.node a).pairs (with_key x key (one.node a).children) (with_key x key (other.node a).children) is.changes
            (ap (λ (n : Node K). n.pairs) node) (ap (λ (n : Node K). with_key x key n.children) node);
        covers_old = subst (λ (n : Node K). Each (λ c. c.page ≡ x → r.covers key c.key ≡ true) n.children) (sym node) is.covers_old;
        covers_coming = is.covers_coming;
        least = λ b all coming_too. is.least b (subst (λ (n : Node K). Each (λ c. c.page ≡ x → r.covers b c.key ≡ true) n.children) node all) coming_too;
        covered = covers_too a coming is.covered;
      }
  step_too (Adds a x) is =
      let node : other.node a ≡ one.node a = before.nodes a is.changes.there in
      record {
        leaf = subst (λ (n : Node K). n.level ≡ 0) (sym node) is.leaf;
        room = subst (λ (n : Node K). size n < r.most) (sym node) is.room;
        changes = changes_too a ((one.node a).pairs ++ x ∷ []) ((other.node a).pairs ++ x ∷ []) (one.node a).children (other.node a).children is.changes
            (ap (λ (n : Node K). n.pairs ++ x ∷ []) node) (ap (λ (n : Node K). n.children) node);
        absent = standing_too r one other before legal (is_entry r x.row x.key) ∙ is.absent;
        covered = covers_too a x.key is.covered;
      }
  step_too (Marks a row key mark) is =
      let node : other.node a ≡ one.node a = before.nodes a is.changes.there in
      record {
        leaf = subst (λ (n : Node K). n.level ≡ 0) (sym node) is.leaf;
        changes = changes_too a (with_mark r row key mark (one.node a).pairs) (with_mark r row key mark (other.node a).pairs) (one.node a).children (other.node a).children is.changes
            (ap (λ (n : Node K). with_mark r row key mark n.pairs) node) (ap (λ (n : Node K). n.children) node);
      }
  step_too (Sweeps a claimed) is =
      let node : other.node a ≡ one.node a = before.nodes a is.changes.there in
      record {
        leaf = subst (λ (n : Node K). n.level ≡ 0) (sym node) is.leaf;
        changes = changes_too a (filter (spares claimed) (one.node a).pairs) (filter (spares claimed) (other.node a).pairs) (one.node a).children (other.node a).children is.changes
            (ap (λ (n : Node K). filter (spares claimed) n.pairs) node) (ap (λ (n : Node K). n.children) node);
      }
