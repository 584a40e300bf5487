-- A root split keeps a tree legal, and every pair.
use Rattle.std.proofs.Common.{◌≡◌, ◌≢◌, ℕ, suc, ◌+◌, ◌<◌, ◌≤◌, Bool, inl, inr, List, [], ◌∷◌, refl, ap, sym, ◌∙◌, subst, arith}
use Rattle.std.specs.Prelude.{◌==◌}
use Rattle.std.proofs.lemmas.Bool.{cases_eq}
use Rattle.gx_node.specs.Lists.{sum_over, one_if, how_many, Each, total}
use Rattle.gx_node.specs.Trees.{Pair, Child, Node, Tree, Rules, Used, size, child_pages, times, parents, walk, leaves, passing, standing, is_entry}
use Rattle.gx_node.specs.Legal.{Bounds, ChildFits, NodeFits, Linked, Legal}
use Rattle.gx_node.specs.Steps.{IsRootSplit}
use Rattle.gx_node.proofs.Sums.{sum_over_same, each_map, each_staying, each_going, each-map, length_parted, total_same, total_add, total_none, at_page, at_page_same, at_page_other, total_at_page}
use Rattle.gx_node.proofs.Chains.{one_at, one_off, times_none, pages_parted, walk_is, length_walk, each_linked}
use Rattle.gx_node.proofs.Splits.{is_split, is_parent, is_new, is_other, place_of}

module _ {K : Type 0} (r : Rules K) (old new : Tree K) (sides : List Bool) (left right : K)
    (legal : Legal r old) (step : IsRootSplit r old new sides left right) where
  abbrev pub a : ℕ
  a = suc old.used

  abbrev pub b : ℕ
  b = suc (suc old.used)

  first_two : 2 ≤ old.used
  first_two = let h = legal.counter in omega (arith, h)

  pub root_used : Used old 1
  root_used = let h = first_two in (omega arith, omega (arith, h))

  pub no_pairs : (old.node 1).pairs ≡ []
  no_pairs = ((legal.pages 1 root_used).inner legal.root).0

  pub used_more : (q : ℕ) → Used old q → Used new q
  used_more q u = let e = step.used in (u.0, (let h = u.1 in omega (arith, e, h)))

  pub used_before : (q : ℕ) → Used new q → q ≢ a → q ≢ b → Used old q
  used_before q u na nb = let e = step.used in let h = u.1 in (u.0, omega (arith, e, h, na, nb))

  -- a page that was taken, but for the root, is unchanged
  pub same_node : (q : ℕ) → Used old q → q ≢ 1 → new.node q ≡ old.node q
  same_node q u ne = let h = u.1 in step.others q ne (λ e. (omega (arith, e, h))) (λ e. (omega (arith, e, h)))

  pub sum_halves : (f : ℕ → ℕ) → sum_over f (child_pages (new.node a)) + sum_over f (child_pages (new.node b)) ≡ sum_over f (child_pages (old.node 1))
  sum_halves f =
      let x = ap (λ (z : Node K). sum_over f (child_pages z)) step.first in
      let y = ap (λ (z : Node K). sum_over f (child_pages z)) step.second in
      let e = pages_parted f sides (old.node 1).children in
      omega (arith, x, y, e)

  pub sum_root : (f : ℕ → ℕ) → sum_over f (child_pages (new.node 1)) ≡ f a + f b
  sum_root f = let x = ap (λ (z : Node K). sum_over f (child_pages z)) step.root in omega (arith, x)

  pub pairs_root : (test : Pair K → Bool) → how_many test (new.node 1).pairs ≡ 0
  pairs_root test = ap (λ (z : Node K). how_many test z.pairs) step.root

  names_new : (x q : ℕ) → old.used < x → Used old q → times x (child_pages (old.node q)) ≡ 0
  names_new x q far u =
      times_none x (child_pages (old.node q))
      (each-map (λ y. y ≢ x) (λ (c : Child K). c.page) (old.node q).children
      (each_map (ChildFits r old (old.node q).level) (λ c. c.page ≢ x) (λ c f e. (let high = f.used in absurd (omega (arith, e, high, far)))) (old.node q).children (legal.pages q u).children))

  parents_at : (x q : ℕ) → Used old q
      → times x (child_pages (new.node q)) + at_page 1 (times x (child_pages (new.node a)) + times x (child_pages (new.node b))) q
      ≡ times x (child_pages (old.node q)) + at_page 1 (one_if (a == x) + one_if (b == x)) q
  parents_at x q u = elim (cases_eq q 1) [
    | inl e ↦ subst
        (λ q. times x (child_pages (new.node q)) + at_page 1 (times x (child_pages (new.node a)) + times x (child_pages (new.node b))) q
        ≡ times x (child_pages (old.node q)) + at_page 1 (one_if (a == x) + one_if (b == x)) q)
        (sym e)
        (let h = sum_halves (λ y. one_if (y == x)) in
        let k = sum_root (λ y. one_if (y == x)) in
        let m = at_page_same 1 (times x (child_pages (new.node a)) + times x (child_pages (new.node b))) in
        let n = at_page_same 1 (one_if (a == x) + one_if (b == x)) in
        omega (arith, h, k, m, n))
    | inr ne ↦
        let e = ap (λ (z : Node K). times x (child_pages z)) (same_node q u ne) in
        let m = at_page_other 1 (times x (child_pages (new.node a)) + times x (child_pages (new.node b))) q ne in
        let n = at_page_other 1 (one_if (a == x) + one_if (b == x)) q ne in
        omega (arith, e, m, n)
  ]

  parents_more : (x : ℕ) → parents new x ≡ parents old x + (one_if (a == x) + one_if (b == x))
  parents_more x =
      let f : ℕ → ℕ = λ q. times x (child_pages (old.node q)) in
      let g : ℕ → ℕ = λ q. times x (child_pages (new.node q)) in
      let more : ℕ = one_if (a == x) + one_if (b == x) in
      let whole : total g new.used ≡ g b + (g a + total g old.used) = ap (λ k. total g k) step.used in
      let i : total (λ q. g q + at_page 1 (g a + g b) q) old.used ≡ total (λ q. f q + at_page 1 more q) old.used =
      total_same (λ q. g q + at_page 1 (g a + g b) q) (λ q. f q + at_page 1 more q) old.used (λ q low high. parents_at x q (low, high)) in
      let j : total (λ q. g q + at_page 1 (g a + g b) q) old.used ≡ total g old.used + total (at_page 1 (g a + g b)) old.used = total_add g (at_page 1 (g a + g b)) old.used in
      let k : total (λ q. f q + at_page 1 more q) old.used ≡ total f old.used + total (at_page 1 more) old.used = total_add f (at_page 1 more) old.used in
      let l : total (at_page 1 (g a + g b)) old.used ≡ g a + g b = total_at_page 1 (g a + g b) old.used (root_used).0 (root_used).1 in
      let m : total (at_page 1 more) old.used ≡ more = total_at_page 1 more old.used (root_used).0 (root_used).1 in
      omega (arith, whole, i, j, k, l, m)

  no_parent : (x : ℕ) → old.used < x → parents old x ≡ 0
  no_parent x far = total_none (λ y. times x (child_pages (old.node y))) old.used (λ y l h. names_new x y far (l, h))

  parent_root : (q : ℕ) → 2 ≤ q → q ≤ new.used → parents new q ≡ 1
  parent_root q low high = elim (place_of 1 a b q) [
    | is_split e ↦ absurd (omega (arith, e, low))
    | is_parent e ↦
        let more = parents_more q in let one = one_at a q (sym e) in
        let none = one_off b q (λ same. (omega (arith, same, e))) in
        let old_none = no_parent q (omega (arith, e)) in
        omega (arith, more, one, none, old_none)
    | is_new e ↦
        let more = parents_more q in let one = one_at b q (sym e) in
        let none = one_off a q (λ same. (omega (arith, same, e))) in
        let old_none = no_parent q (omega (arith, e)) in
        omega (arith, more, one, none, old_none)
    | is_other n1 na nb ↦
        let more = parents_more q in
        let no_a = one_off a q (λ same. na (sym same)) in
        let no_b = one_off b q (λ same. nb (sym same)) in
        let u = used_before q (omega (arith, low), high) na nb in
        let one = legal.parent q low u.1 in
        omega (arith, more, no_a, no_b, one)
  ]

  child_moved : (above : ℕ) (c : Child K) → ChildFits r old above c → ChildFits r new above c
  child_moved above c f =
      let low = f.low in
      let u : Used old c.page = (omega (arith, low), f.used) in
      let same : new.node c.page ≡ old.node c.page = same_node c.page u (λ e. (omega (arith, e, low))) in
      record {
        low = f.low;
        used = (used_more c.page u).1;
        level = ap (λ (z : Node K). suc z.level) same ∙ f.level;
        bounds = subst (λ (z : Node K). Bounds r c.key z) (sym same) f.bounds;
      }

  children_moved : (q : ℕ) → Used old q → Each (ChildFits r new (old.node q).level) (old.node q).children
  children_moved q u = each_map (ChildFits r old (old.node q).level) (ChildFits r new (old.node q).level)
      (λ c f. child_moved (old.node q).level c f) (old.node q).children (legal.pages q u).children

  fits_first : NodeFits r new (new.node a)
  fits_first =
      let fit = legal.pages 1 root_used in
      let some = step.left_some in
      let size_is = ap (λ (z : Node K). size z) step.first in
      let inner = legal.root in
      subst (λ (z : Node K). NodeFits r new z) (sym step.first) (record {
        room = (let h = fit.room in let d = length_parted sides (old.node 1).children in omega (arith, h, d));
        leaf = λ z. absurd (omega (arith, inner, z));
        inner = λ z. (refl, omega (arith, some, size_is));
        nsn = omega arith;
        children = each_staying (ChildFits r new (old.node 1).level) sides (old.node 1).children (children_moved 1 root_used);
      })

  fits_second : NodeFits r new (new.node b)
  fits_second =
      let fit = legal.pages 1 root_used in
      let some = step.right_some in
      let size_is = ap (λ (z : Node K). size z) step.second in
      let inner = legal.root in
      subst (λ (z : Node K). NodeFits r new z) (sym step.second) (record {
        room = (let h = fit.room in let d = length_parted sides (old.node 1).children in omega (arith, h, d));
        leaf = λ z. absurd (omega (arith, inner, z));
        inner = λ z. (refl, omega (arith, some, size_is));
        nsn = omega arith;
        children = each_going (ChildFits r new (old.node 1).level) sides (old.node 1).children (children_moved 1 root_used);
      })

  fits_root : 2 ≤ r.most → NodeFits r new (new.node 1)
  fits_root two =
      let fit = legal.pages 1 root_used in
      let far = first_two in
      let e = step.used in
      subst (λ (z : Node K). NodeFits r new z) (sym step.root) (record {
        room = omega (arith, two);
        leaf = λ z. absurd (omega (arith, z));
        inner = λ z. (refl, omega arith);
        nsn = (let h = fit.nsn in let k = step.counter in omega (arith, h, k));
        children = (
          record {
            low = omega (arith, far);
            used = omega (arith, e);
            level = ap (λ (z : Node K). suc z.level) step.first;
            bounds = (step.left_union).covers;
          },
          (
            record {
              low = omega (arith, far);
              used = omega (arith, e);
              level = ap (λ (z : Node K). suc z.level) step.second;
              bounds = (step.right_union).covers;
            },
            tt,
          ),
        );
      })

  fits_other : (q : ℕ) → Used old q → q ≢ 1 → NodeFits r new (new.node q)
  fits_other q u ne =
      let fit = legal.pages q u in
      subst (λ (z : Node K). NodeFits r new z) (sym (same_node q u ne)) (record {
        room = fit.room;
        leaf = fit.leaf;
        inner = fit.inner;
        nsn = (let e = step.counter in let h = fit.nsn in omega (arith, e, h));
        children = children_moved q u;
      })

  pages_root : 2 ≤ r.most → (q : ℕ) → Used new q → NodeFits r new (new.node q)
  pages_root two q u = elim (place_of 1 a b q) [
    | is_split e ↦ subst (λ q. NodeFits r new (new.node q)) (sym e) (fits_root two)
    | is_parent e ↦ subst (λ q. NodeFits r new (new.node q)) (sym e) fits_first
    | is_new e ↦ subst (λ q. NodeFits r new (new.node q)) (sym e) fits_second
    | is_other n1 na nb ↦ fits_other q (used_before q u na nb) n1
  ]

  not_root : (q : ℕ) → (old.node q).level ≡ 0 → q ≢ 1
  not_root q leaf e = let h = legal.root in let l = ap (λ x. (old.node x).level) e in absurd (omega (arith, h, l, leaf))

  linked_root : (xs : List ℕ) (x : ℕ) → Linked old x xs → Linked new x xs
  linked_root [] x l = l
  linked_root (y ∷ ys) x l =
      let same : new.node y ≡ old.node y = same_node y l.1 (not_root y l.2) in (
        l.0,
        used_more y l.1,
        ap (λ (z : Node K). z.level) same ∙ l.2,
        subst (λ q. Linked new q ys) (sym (ap (λ (z : Node K). z.right) same)) (linked_root ys (old.node y).right l.3),
      )

  pub walk_root : (x : ℕ) → Linked old x (walk old old.used x) → walk new new.used x ≡ walk old old.used x
  walk_root x l =
      let most = length_walk old old.used x in
      let e = step.used in
      walk_is new (walk old old.used x) x new.used (linked_root (walk old old.used x) x l) (omega (arith, most, e))

  pub chain_root : (x : ℕ) → Linked old x (walk old old.used x) → Linked new x (walk new new.used x)
  chain_root x l = subst (λ (ys : List ℕ). Linked new x ys) (sym (walk_root x l)) (linked_root (walk old old.used x) x l)

  pub passing_root : (test : Pair K → Bool) (x : ℕ) → Linked old x (walk old old.used x)
      → passing test new (walk new new.used x) ≡ passing test old (walk old old.used x)
  passing_root test x l =
      ap (λ (ys : List ℕ). passing test new ys) (walk_root x l)
      ∙ sum_over_same (λ q. how_many test (new.node q).pairs) (λ q. how_many test (old.node q).pairs) (walk old old.used x)
      (each_linked (λ q. how_many test (new.node q).pairs ≡ how_many test (old.node q).pairs) old x (walk old old.used x)
      (λ q u leaf. ap (λ (z : Node K). how_many test z.pairs) (same_node q u (not_root q leaf))) l)

  pub standing_root : (test : Pair K → Bool) → standing test new ≡ standing test old
  standing_root test = passing_root test 2 legal.chain

  once_root : (q : ℕ) → Used new q → (new.node q).level ≡ 0 → times q (leaves new) ≡ 1
  once_root q u leaf =
      let inner = legal.root in
      elim (place_of 1 a b q) [
        | is_split e ↦ let l = ap (λ (z : Node K). z.level) step.root in let m = ap (λ x. (new.node x).level) e in absurd (omega (arith, l, m, leaf))
        | is_parent e ↦ let l = ap (λ (z : Node K). z.level) step.first in let m = ap (λ x. (new.node x).level) e in absurd (omega (arith, l, m, leaf, inner))
        | is_new e ↦ let l = ap (λ (z : Node K). z.level) step.second in let m = ap (λ x. (new.node x).level) e in absurd (omega (arith, l, m, leaf, inner))
        | is_other n1 na nb ↦
            let before = used_before q u na nb in
            ap (λ (ys : List ℕ). times q ys) (walk_root 2 legal.chain)
            ∙ legal.once q before (sym (ap (λ (z : Node K). z.level) (same_node q before n1)) ∙ leaf)
      ]

  pub legal_root : 2 ≤ r.most → Legal r new
  legal_root two = record {
    pages = pages_root two;
    root = (let l = ap (λ (z : Node K). z.level) step.root in omega (arith, l));
    parent = parent_root;
    chain = chain_root 2 legal.chain;
    once = once_root;
    single = λ row key. (let e = standing_root (is_entry r row key) in let h = legal.single row key in omega (arith, e, h));
    counter = (let h = legal.counter in let e = step.used in let d = step.counter in omega (arith, h, e, d));
  }
