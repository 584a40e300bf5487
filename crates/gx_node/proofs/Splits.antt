-- A split keeps a tree legal, and every pair.
use Rattle.std.proofs.Common.{◌≡◌, ◌≢◌, ℕ, suc, ◌+◌, ◌≤◌, Bool, true, inl, inr, List, [], ◌∷◌, ◌++◌, map, length, refl, ap, sym, ◌∙◌, subst, arith, length-append}
use Rattle.std.specs.Prelude.{◌==◌}
use Rattle.std.proofs.lemmas.Bool.{cases_eq}
use Rattle.std.proofs.lemmas.List.{map-append}
use Rattle.gx_node.specs.Lists.{sum_over, one_if, how_many, Each, total, staying, going}
use Rattle.gx_node.specs.Trees.{Pair, Child, Node, Tree, Rules, IsLawful, Used, size, child_pages, times, parents, walk, leaves, passing, standing, is_entry}
use Rattle.gx_node.specs.Legal.{Bounds, ChildFits, NodeFits, Linked, Legal}
use Rattle.gx_node.specs.Steps.{with_key, IsSplit}
use Rattle.gx_node.proofs.Sums.{sum_over-append, sum_over_parted, each_map, each_both, each-append, each_staying, each_going, each_always, each-map, length_parted, total_same, total_add, total_none, at_page, at_page_same, at_page_other, total_at_page, total_two}
use Rattle.gx_node.proofs.Chains.{one_at, one_off, times_none, some_child, pages_with_key, length_with_key, each_with_key, pages_parted, after, sum_after, length_after, after_at, after_off, walk_is, length_walk, linked_once, each_linked}

-- a page is the one that is split, its parent, the new one, or another
pub data Place (n p s q : ℕ) : Type 0 where
  is_split : q ≡ n → Place n p s q
  is_parent : q ≡ p → Place n p s q
  is_new : q ≡ s → Place n p s q
  is_other : q ≢ n → q ≢ p → q ≢ s → Place n p s q

pub place_of : (n p s q : ℕ) → Place n p s q
place_of n p s q = elim (cases_eq q n) [
  | inl e ↦ is_split e
  | inr ne ↦ elim (cases_eq q p) [
    | inl e ↦ is_parent e
    | inr np ↦ elim (cases_eq q s) [ inl e ↦ is_new e | inr ns ↦ is_other ne np ns ]
  ]
]

-- what covers a bound bounds what it bounds
pub bounds_through : {K : Type 0} (r : Rules K) → IsLawful r → (a b : K) (node : Node K) → r.covers a b ≡ true → Bounds r b node → Bounds r a node
bounds_through r law a b node covers h = record {
  pairs = each_map (λ x. r.covers b x.key ≡ true) (λ x. r.covers a x.key ≡ true) (λ x c. law.goes_on a b x.key covers c) node.pairs h.pairs;
  children = each_map (λ x. r.covers b x.key ≡ true) (λ x. r.covers a x.key ≡ true) (λ x c. law.goes_on a b x.key covers c) node.children h.children;
}

-- who has which number and rightlink
pub numbers_split : {K : Type 0} (r : Rules K) (old new : Tree K) (n p : ℕ) (sides : List Bool) (left right : K) → IsSplit r old new n p sides left right
    → (new.counter ≡ suc old.counter) × ((new.node n).nsn ≡ new.counter)
    × ((new.node n).right ≡ new.used) × ((new.node new.used).nsn ≡ (old.node n).nsn)
    × ((new.node new.used).right ≡ (old.node n).right)
numbers_split {K} r old new n p sides left right step = (
  step.counter,
  ap (λ (z : Node K). z.nsn) step.split ∙ sym step.counter,
  ap (λ (z : Node K). z.right) step.split ∙ sym step.used,
  ap (λ q. (new.node q).nsn) step.used ∙ ap (λ (z : Node K). z.nsn) step.sibling,
  ap (λ q. (new.node q).right) step.used ∙ ap (λ (z : Node K). z.right) step.sibling,
)

module _ {K : Type 0} (r : Rules K) (law : IsLawful r) (old new : Tree K) (n p : ℕ) (sides : List Bool) (left right : K)
    (legal : Legal r old) (step : IsSplit r old new n p sides left right) where
  abbrev s : ℕ
  s = suc old.used

  fits_parent : NodeFits r old (old.node p)
  fits_parent = legal.pages p step.parent

  named : (c : Child K) × ChildFits r old (old.node p).level c × (c.page ≡ n)
  named = let one = step.names in some_child (ChildFits r old (old.node p).level) n (old.node p).children (omega (arith, one)) fits_parent.children

  pub split_low : 2 ≤ n
  split_low = let f = named.1 in let e = named.2 in let low = f.low in omega (arith, e, low)

  pub split_used : Used old n
  split_used = let f = named.1 in let e = named.2 in let low = f.low in let high = f.used in (omega (arith, e, low), omega (arith, e, high))

  pub split_level : suc (old.node n).level ≡ (old.node p).level
  split_level = let f = named.1 in ap (λ q. suc (old.node q).level) (sym named.2) ∙ f.level

  pub split_apart : n ≢ p
  split_apart e = let l = split_level in let same = ap (λ q. (old.node q).level) e in omega (arith, l, same)

  pub used_more : (q : ℕ) → Used old q → Used new q
  used_more q u = let e = step.used in (u.0, (let h = u.1 in omega (arith, e, h)))

  old_page : (q : ℕ) → Used old q → q ≢ s
  old_page q u e = let h = u.1 in omega (arith, e, h)

  -- what the new pages' entries name, in sum

  pub sum_split : (f : ℕ → ℕ) → sum_over f (child_pages (new.node n)) + sum_over f (child_pages (new.node s)) ≡ sum_over f (child_pages (old.node n))
  sum_split f =
      let a = ap (λ (x : Node K). sum_over f (child_pages x)) step.split in
      let b = ap (λ (x : Node K). sum_over f (child_pages x)) step.sibling in
      let e = pages_parted f sides (old.node n).children in
      omega (arith, a, b, e)

  pub sum_parent : (f : ℕ → ℕ) → sum_over f (child_pages (new.node p)) ≡ sum_over f (child_pages (old.node p)) + f s
  sum_parent f =
      let a = ap (λ (x : Node K). sum_over f (child_pages x)) step.named in
      let b = ap (λ (qs : List ℕ). sum_over f qs) (map-append (λ (c : Child K). c.page) (with_key n left (old.node p).children) (record { key = right; page = s } ∷ [])) in
      let d = sum_over-append f (map (λ (c : Child K). c.page) (with_key n left (old.node p).children)) (s ∷ []) in
      let e = ap (λ (qs : List ℕ). sum_over f qs) (pages_with_key n left (old.node p).children) in
      omega (arith, a, b, d, e)

  pub pairs_split : (test : Pair K → Bool) → how_many test (new.node n).pairs + how_many test (new.node s).pairs ≡ how_many test (old.node n).pairs
  pairs_split test =
      let a = ap (λ (x : Node K). how_many test x.pairs) step.split in
      let b = ap (λ (x : Node K). how_many test x.pairs) step.sibling in
      let e = sum_over_parted (λ x. one_if (test x)) sides (old.node n).pairs in
      omega (arith, a, b, e)

  pub pairs_same : (q : ℕ) → Used old q → q ≢ n → (new.node q).pairs ≡ (old.node q).pairs
  pairs_same q u ne = elim (place_of n p s q) [
    | is_split e ↦ absurd (ne e)
    | is_parent e ↦ subst (λ q. (new.node q).pairs ≡ (old.node q).pairs) (sym e) (ap (λ (x : Node K). x.pairs) step.named)
    | is_new e ↦ absurd (old_page q u e)
    | is_other nn np ns ↦ ap (λ (x : Node K). x.pairs) (step.others q nn np ns)
  ]

  pub level_same : (q : ℕ) → Used old q → (new.node q).level ≡ (old.node q).level
  level_same q u = elim (place_of n p s q) [
    | is_split e ↦ subst (λ q. (new.node q).level ≡ (old.node q).level) (sym e) (ap (λ (x : Node K). x.level) step.split)
    | is_parent e ↦ subst (λ q. (new.node q).level ≡ (old.node q).level) (sym e) (ap (λ (x : Node K). x.level) step.named)
    | is_new e ↦ absurd (old_page q u e)
    | is_other nn np ns ↦ ap (λ (x : Node K). x.level) (step.others q nn np ns)
  ]

  -- who names whom

  -- only its parent names the page that is split
  only_parent : (q : ℕ) → Used old q → q ≢ p → times n (child_pages (old.node q)) ≡ 0
  only_parent q u ne =
      let two = total_two (λ x. times n (child_pages (old.node x))) old.used q p u.0 u.1 (step.parent).0 (step.parent).1 ne in
      let all = legal.parent n split_low (split_used).1 in
      let one = step.names in
      omega (arith, two, all, one)

  unnamed_by : (cs : List (Child K)) → times n (map (λ c. c.page) cs) ≡ 0 → Each (λ (c : Child K). c.page ≢ n) cs
  unnamed_by [] e = tt
  unnamed_by (c ∷ cs) e = (λ same. (let one = one_at c.page n same in absurd (omega (arith, one, e))), unnamed_by cs (omega (arith, e)))

  pub unnamed : (q : ℕ) → Used old q → q ≢ p → Each (λ (c : Child K). c.page ≢ n) (old.node q).children
  unnamed q u ne = unnamed_by (old.node q).children (only_parent q u ne)

  names_new : (q : ℕ) → Used old q → times s (child_pages (old.node q)) ≡ 0
  names_new q u =
      times_none s (child_pages (old.node q))
      (each-map (λ x. x ≢ s) (λ (c : Child K). c.page) (old.node q).children
      (each_map (ChildFits r old (old.node q).level) (λ c. c.page ≢ s) (λ c f e. (let high = f.used in absurd (omega (arith, e, high)))) (old.node q).children (legal.pages q u).children))

  parents_at : (x q : ℕ) → Used old q
      → times x (child_pages (new.node q)) + at_page n (times x (child_pages (new.node s))) q
      ≡ times x (child_pages (old.node q)) + at_page p (one_if (s == x)) q
  parents_at x q u = elim (place_of n p s q) [
    | is_split e ↦ subst
        (λ q. times x (child_pages (new.node q)) + at_page n (times x (child_pages (new.node s))) q ≡ times x (child_pages (old.node q)) + at_page p (one_if (s == x)) q)
        (sym e)
        (let a = sum_split (λ y. one_if (y == x)) in
        let b = at_page_same n (times x (child_pages (new.node s))) in
        let d = at_page_other p (one_if (s == x)) n split_apart in
        omega (arith, a, b, d))
    | is_parent e ↦ subst
        (λ q. times x (child_pages (new.node q)) + at_page n (times x (child_pages (new.node s))) q ≡ times x (child_pages (old.node q)) + at_page p (one_if (s == x)) q)
        (sym e)
        (let a = sum_parent (λ y. one_if (y == x)) in
        let b = at_page_other n (times x (child_pages (new.node s))) p (λ same. split_apart (sym same)) in
        let d = at_page_same p (one_if (s == x)) in
        omega (arith, a, b, d))
    | is_new e ↦ absurd (old_page q u e)
    | is_other nn np ns ↦
        let a = ap (λ (z : Node K). times x (child_pages z)) (step.others q nn np ns) in
        let b = at_page_other n (times x (child_pages (new.node s))) q nn in
        let d = at_page_other p (one_if (s == x)) q np in
        omega (arith, a, b, d)
  ]

  parents_more : (x : ℕ) → parents new x ≡ parents old x + one_if (s == x)
  parents_more x =
      let f : ℕ → ℕ = λ q. times x (child_pages (old.node q)) in
      let g : ℕ → ℕ = λ q. times x (child_pages (new.node q)) in
      let whole : total g new.used ≡ g s + total g old.used = ap (λ k. total g k) step.used in
      let a : total (λ q. g q + at_page n (g s) q) old.used ≡ total (λ q. f q + at_page p (one_if (s == x)) q) old.used =
      total_same (λ q. g q + at_page n (g s) q) (λ q. f q + at_page p (one_if (s == x)) q) old.used (λ q low high. parents_at x q (low, high)) in
      let b : total (λ q. g q + at_page n (g s) q) old.used ≡ total g old.used + total (at_page n (g s)) old.used = total_add g (at_page n (g s)) old.used in
      let d : total (λ q. f q + at_page p (one_if (s == x)) q) old.used ≡ total f old.used + total (at_page p (one_if (s == x))) old.used = total_add f (at_page p (one_if (s == x))) old.used in
      let e : total (at_page n (g s)) old.used ≡ g s = total_at_page n (g s) old.used (split_used).0 (split_used).1 in
      let h : total (at_page p (one_if (s == x))) old.used ≡ one_if (s == x) = total_at_page p (one_if (s == x)) old.used (step.parent).0 (step.parent).1 in
      omega (arith, whole, a, b, d, e, h)

  parent_split : (q : ℕ) → 2 ≤ q → q ≤ new.used → parents new q ≡ 1
  parent_split q low high = elim (cases_eq s q) [
    | inl e ↦
        let more = parents_more q in
        let one = one_at s q e in
        let none : parents old q ≡ 0 = subst (λ x. parents old x ≡ 0) e (total_none (λ y. times s (child_pages (old.node y))) old.used (λ y l h. names_new y (l, h))) in
        omega (arith, more, one, none)
    | inr ne ↦
        let more = parents_more q in
        let none = one_off s q ne in
        let u = step.used in
        let one = legal.parent q low (omega (arith, u, high, ne)) in
        omega (arith, more, none, one)
  ]

  -- bounds

  bounds_left : (b : K) → Bounds r b (old.node n) → Bounds r b (new.node n)
  bounds_left b h = subst (λ (x : Node K). Bounds r b x) (sym step.split) (record {
    pairs = each_staying (λ x. r.covers b x.key ≡ true) sides (old.node n).pairs h.pairs;
    children = each_staying (λ x. r.covers b x.key ≡ true) sides (old.node n).children h.children;
  })

  bounds_right : (b : K) → Bounds r b (old.node n) → Bounds r b (new.node s)
  bounds_right b h = subst (λ (x : Node K). Bounds r b x) (sym step.sibling) (record {
    pairs = each_going (λ x. r.covers b x.key ≡ true) sides (old.node n).pairs h.pairs;
    children = each_going (λ x. r.covers b x.key ≡ true) sides (old.node n).children h.children;
  })

  bounds_below : (b : K) → Bounds r b (old.node p) → Bounds r b (old.node n)
  bounds_below b h =
      let both : Each (λ c. ChildFits r old (old.node p).level c × (r.covers b c.key ≡ true)) (old.node p).children =
      each_both (ChildFits r old (old.node p).level) (λ c. r.covers b c.key ≡ true) (λ c. ChildFits r old (old.node p).level c × (r.covers b c.key ≡ true))
      (λ c f g. (f, g)) (old.node p).children fits_parent.children h.children in
      let one = step.names in
      let pick = some_child (λ c. ChildFits r old (old.node p).level c × (r.covers b c.key ≡ true)) n (old.node p).children (omega (arith, one)) both in
      let f = pick.1.0 in
      bounds_through r law b (pick.0).key (old.node n) pick.1.1 (subst (λ q. Bounds r (pick.0).key (old.node q)) pick.2 f.bounds)

  bounds_parent : (b : K) → Bounds r b (old.node p) → Bounds r b (new.node p)
  bounds_parent b h =
      let below = bounds_below b h in
      let to_left = (step.left_union).least b (bounds_left b below) in
      let to_right = (step.right_union).least b (bounds_right b below) in
      subst (λ (x : Node K). Bounds r b x) (sym step.named) (record {
        pairs = h.pairs;
        children = each-append (λ (c : Child K). r.covers b c.key ≡ true) (with_key n left (old.node p).children) (record { key = right; page = s } ∷ [])
            (each_with_key (λ c. r.covers b c.key ≡ true) n left (old.node p).children
            (each_map (λ c. r.covers b c.key ≡ true) (λ c. (c.page ≡ n → r.covers b left ≡ true) × (c.page ≢ n → r.covers b c.key ≡ true)) (λ c g. ((λ e. to_left), (λ e. g))) (old.node p).children h.children))
            (to_right, tt);
      })

  -- an entry that doesn't name the page that is split fits as before
  child_moved : (above : ℕ) (c : Child K) → ChildFits r old above c → c.page ≢ n → ChildFits r new above c
  child_moved above c f ne =
      let low = f.low in
      let u : Used old c.page = (omega (arith, low), f.used) in
      elim (cases_eq c.page p) [
        | inl e ↦ record {
          low = f.low;
          used = (used_more c.page u).1;
          level = ap (λ k. suc k) (level_same c.page u) ∙ f.level;
          bounds = subst (λ q. Bounds r c.key (new.node q)) (sym e) (bounds_parent c.key (subst (λ q. Bounds r c.key (old.node q)) e f.bounds));
        }
        | inr np ↦ record {
          low = f.low;
          used = (used_more c.page u).1;
          level = ap (λ k. suc k) (level_same c.page u) ∙ f.level;
          bounds = subst (λ (x : Node K). Bounds r c.key x) (sym (step.others c.page ne np (old_page c.page u))) f.bounds;
        }
      ]

  children_moved : (q : ℕ) → Used old q → q ≢ p → Each (ChildFits r new (old.node q).level) (old.node q).children
  children_moved q u ne =
      each_both (ChildFits r old (old.node q).level) (λ c. c.page ≢ n) (ChildFits r new (old.node q).level)
      (λ c f g. child_moved (old.node q).level c f g) (old.node q).children (legal.pages q u).children (unnamed q u ne)

  -- each page fits

  fits_left : NodeFits r new (new.node n)
  fits_left =
      let fit = legal.pages n split_used in
      let some = step.left_some in
      let size_is = ap (λ (x : Node K). size x) step.split in
      subst (λ (x : Node K). NodeFits r new x) (sym step.split) (record {
        room = (let a = fit.room in let b = length_parted sides (old.node n).pairs in let d = length_parted sides (old.node n).children in omega (arith, a, b, d));
        leaf = λ z. ap (λ (cs : List (Child K)). staying sides cs) (fit.leaf z);
        inner = λ z. (
          ap (λ (xs : List (Pair K)). staying sides xs) (fit.inner z).0,
          (let none = ap (λ (xs : List (Pair K)). length (staying sides xs)) (fit.inner z).0 in omega (arith, some, size_is, none)),
        );
        nsn = (let e = step.counter in omega (arith, e));
        children = each_staying (ChildFits r new (old.node n).level) sides (old.node n).children (children_moved n split_used split_apart);
      })

  fits_right : NodeFits r new (new.node s)
  fits_right =
      let fit = legal.pages n split_used in
      let some = step.right_some in
      let size_is = ap (λ (x : Node K). size x) step.sibling in
      subst (λ (x : Node K). NodeFits r new x) (sym step.sibling) (record {
        room = (let a = fit.room in let b = length_parted sides (old.node n).pairs in let d = length_parted sides (old.node n).children in omega (arith, a, b, d));
        leaf = λ z. ap (λ (cs : List (Child K)). going sides cs) (fit.leaf z);
        inner = λ z. (
          ap (λ (xs : List (Pair K)). going sides xs) (fit.inner z).0,
          (let none = ap (λ (xs : List (Pair K)). length (going sides xs)) (fit.inner z).0 in omega (arith, some, size_is, none)),
        );
        nsn = (let e = step.counter in let h = fit.nsn in omega (arith, e, h));
        children = each_going (ChildFits r new (old.node n).level) sides (old.node n).children (children_moved n split_used split_apart);
      })

  first_two : 2 ≤ old.used
  first_two = let h = legal.counter in omega (arith, h)

  fits_named : NodeFits r new (new.node p)
  fits_named =
      let fit = fits_parent in
      let level_is = split_level in
      let cs : List (Child K) = (old.node p).children in
      let long : length (with_key n left cs ++ record { key = right; page = s } ∷ []) ≡ length cs + 1 =
      length-append (with_key n left cs) (record { key = right; page = s } ∷ []) ∙ ap (λ k. k + 1) (length_with_key n left cs) in
      subst (λ (x : Node K). NodeFits r new x) (sym step.named) (record {
        room = (let a = step.room in omega (arith, a, long));
        leaf = λ z. absurd (omega (arith, z, level_is));
        inner = λ z. ((fit.inner z).0, omega (arith, long));
        nsn = (let e = step.counter in let h = fit.nsn in omega (arith, e, h));
        children = each-append (ChildFits r new (old.node p).level) (with_key n left cs) (record { key = right; page = s } ∷ [])
            (each_with_key (ChildFits r new (old.node p).level) n left cs
            (each_map (ChildFits r old (old.node p).level)
            (λ c. (c.page ≡ n → ChildFits r new (old.node p).level (record { key = left; page = c.page })) × (c.page ≢ n → ChildFits r new (old.node p).level c))
            (λ c f. (
              (λ e. record {
                low = f.low;
                used = (let h = f.used in let k = step.used in omega (arith, h, k));
                level = ap (λ q. suc (new.node q).level) e ∙ ap (λ k. suc k) (level_same n split_used) ∙ level_is;
                bounds = subst (λ q. Bounds r left (new.node q)) (sym e) (step.left_union).covers;
              }),
              (λ ne. child_moved (old.node p).level c f ne),
            )) cs fit.children)) (
              record {
                low = (let h = first_two in omega (arith, h));
                used = (let k = step.used in omega (arith, k));
                level = ap (λ (x : Node K). suc x.level) step.sibling ∙ level_is;
                bounds = (step.right_union).covers;
              },
              tt,
            );
      })

  fits_other : (q : ℕ) → Used old q → q ≢ n → q ≢ p → NodeFits r new (new.node q)
  fits_other q u nn np =
      let fit = legal.pages q u in
      subst (λ (x : Node K). NodeFits r new x) (sym (step.others q nn np (old_page q u))) (record {
        room = fit.room;
        leaf = fit.leaf;
        inner = fit.inner;
        nsn = (let e = step.counter in let h = fit.nsn in omega (arith, e, h));
        children = children_moved q u np;
      })

  pages_split : (q : ℕ) → Used new q → NodeFits r new (new.node q)
  pages_split q u = elim (place_of n p s q) [
    | is_split e ↦ subst (λ q. NodeFits r new (new.node q)) (sym e) fits_left
    | is_parent e ↦ subst (λ q. NodeFits r new (new.node q)) (sym e) fits_named
    | is_new e ↦ subst (λ q. NodeFits r new (new.node q)) (sym e) fits_right
    | is_other nn np ns ↦ fits_other q (u.0, (let h = u.1 in let e = step.used in omega (arith, h, e, ns))) nn np
  ]

  -- the chain

  pub right_same : (q : ℕ) → Used old q → q ≢ n → (new.node q).right ≡ (old.node q).right
  right_same q u ne = elim (place_of n p s q) [
    | is_split e ↦ absurd (ne e)
    | is_parent e ↦ subst (λ q. (new.node q).right ≡ (old.node q).right) (sym e) (ap (λ (x : Node K). x.right) step.named)
    | is_new e ↦ absurd (old_page q u e)
    | is_other nn np ns ↦ ap (λ (x : Node K). x.right) (step.others q nn np ns)
  ]

  pub used_new : Used new s
  used_new = (omega arith, (let e = step.used in omega (arith, e)))

  linked_split : (xs : List ℕ) (a : ℕ) → Linked old a xs → Linked new a (after n s xs)
  linked_split [] a l = l
  linked_split (x ∷ xs) a l =
      let rest = linked_split xs (old.node x).right l.3 in
      elim (cases_eq x n) [
        | inl same ↦ subst (λ (ys : List ℕ). Linked new a ys) (sym (after_at n s x xs same)) (
          l.0,
          used_more x l.1,
          level_same x l.1 ∙ l.2,
          (
            ap (λ q. (new.node q).right) same ∙ ap (λ (z : Node K). z.right) step.split,
            used_new,
            ap (λ (z : Node K). z.level) step.sibling ∙ ap (λ q. (old.node q).level) (sym same) ∙ l.2,
            subst (λ b. Linked new b (after n s xs)) (sym (ap (λ (z : Node K). z.right) step.sibling ∙ ap (λ q. (old.node q).right) (sym same))) rest,
          ),
        )
        | inr ne ↦ subst (λ (ys : List ℕ). Linked new a ys) (sym (after_off n s x xs ne)) (
          l.0,
          used_more x l.1,
          level_same x l.1 ∙ l.2,
          subst (λ b. Linked new b (after n s xs)) (sym (right_same x l.1 ne)) rest,
        )
      ]

  -- a walk along the chain goes on over the new page when it comes to the page that is split
  pub walk_split : (a : ℕ) → Linked old a (walk old old.used a) → walk new new.used a ≡ after n s (walk old old.used a)
  walk_split a l =
      let long = length_after n s (walk old old.used a) in
      let once = linked_once old n a (walk old old.used a) l in
      let most = length_walk old old.used a in
      let e = step.used in
      walk_is new (after n s (walk old old.used a)) a new.used (linked_split (walk old old.used a) a l) (omega (arith, long, once, most, e))

  pub chain_split : (a : ℕ) → Linked old a (walk old old.used a) → Linked new a (walk new new.used a)
  chain_split a l = subst (λ (ys : List ℕ). Linked new a ys) (sym (walk_split a l)) (linked_split (walk old old.used a) a l)

  pub passing_split : (test : Pair K → Bool) (a : ℕ) → Linked old a (walk old old.used a)
      → passing test new (walk new new.used a) ≡ passing test old (walk old old.used a)
  passing_split test a l =
      ap (λ (ys : List ℕ). passing test new ys) (walk_split a l)
      ∙ sum_after (λ q. how_many test (new.node q).pairs) (λ q. how_many test (old.node q).pairs) n s (walk old old.used a)
      (pairs_split test)
      (each_linked (λ x. x ≢ n → how_many test (new.node x).pairs ≡ how_many test (old.node x).pairs) old a (walk old old.used a)
      (λ q u leaf ne. ap (λ (xs : List (Pair K)). how_many test xs) (pairs_same q u ne)) l)

  pub standing_split : (test : Pair K → Bool) → standing test new ≡ standing test old
  standing_split test = passing_split test 2 legal.chain

  once_split : (q : ℕ) → Used new q → (new.node q).level ≡ 0 → times q (leaves new) ≡ 1
  once_split q u leaf = elim (cases_eq q s) [
    | inl e ↦
        let is_leaf : (old.node n).level ≡ 0 = sym (ap (λ (z : Node K). z.level) step.sibling) ∙ ap (λ x. (new.node x).level) (sym e) ∙ leaf in
        ap (λ (ys : List ℕ). times q ys) (walk_split 2 legal.chain)
        ∙ sum_after (λ x. one_if (x == q)) (λ x. one_if (x == n)) n s (leaves old)
        (let a = one_off n q (λ same. (let m = split_used in let h = m.1 in omega (arith, same, e, h))) in let b = one_at s q (sym e) in let d = one_at n n refl in omega (arith, a, b, d))
        (each_linked (λ x. x ≢ n → one_if (x == q) ≡ one_if (x == n)) old 2 (leaves old)
        (λ x ux lx ne. one_off x q (λ same. old_page x ux (same ∙ e)) ∙ sym (one_off x n ne)) legal.chain)
        ∙ legal.once n split_used is_leaf
    | inr ns ↦
        let before : Used old q = (u.0, (let h = u.1 in let k = step.used in omega (arith, h, k, ns))) in
        ap (λ (ys : List ℕ). times q ys) (walk_split 2 legal.chain)
        ∙ sum_after (λ x. one_if (x == q)) (λ x. one_if (x == q)) n s (leaves old)
        (let b = one_off s q (λ same. ns (sym same)) in omega (arith, b))
        (each_always (λ x. x ≢ n → one_if (x == q) ≡ one_if (x == q)) (λ x ne. refl) (leaves old))
        ∙ legal.once q before (sym (level_same q before) ∙ leaf)
  ]

  pub legal_split : Legal r new
  legal_split = record {
    pages = pages_split;
    root = (let h = legal.root in let e = level_same 1 (omega arith, (let two = first_two in omega (arith, two))) in omega (arith, h, e));
    parent = parent_split;
    chain = chain_split 2 legal.chain;
    once = once_split;
    single = λ row key. (let e = standing_split (is_entry r row key) in let h = legal.single row key in omega (arith, e, h));
    counter = (let a = legal.counter in let b = step.used in let d = step.counter in omega (arith, a, b, d));
  }
