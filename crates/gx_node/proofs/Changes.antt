-- What keeps a tree legal if one page changes alone: a widening, an adding, a mark that is set, a sweep.
use Rattle.std.proofs.Common.{◌≡◌, ◌≢◌, ℕ, suc, ◌+◌, ◌<◌, ◌≤◌, Bool, inl, inr, List, [], ◌∷◌, map, length, refl, ap, sym, ◌∙◌, subst, arith}
use Rattle.std.proofs.lemmas.Bool.{cases_eq}
use Rattle.gx_node.specs.Lists.{sum_over, how_many, Each, total}
use Rattle.gx_node.specs.Trees.{Pair, Child, Node, Tree, Rules, Used, child_pages, times, walk, passing, standing, is_entry}
use Rattle.gx_node.specs.Legal.{Bounds, ChildFits, NodeFits, Linked, Legal}
use Rattle.gx_node.specs.Steps.{ChangesOnly}
use Rattle.gx_node.proofs.Sums.{sum_over_same, each_map, each_both, each_always, total_same}
use Rattle.gx_node.proofs.Chains.{one_at, one_off, walk_is, length_walk}

-- a sum over pages of which one is another
sum_off : (f g : ℕ → ℕ) (a : ℕ) (xs : List ℕ) → times a xs ≡ 0 → ((x : ℕ) → x ≢ a → f x ≡ g x) → sum_over f xs ≡ sum_over g xs
sum_off f g a [] none same = refl
sum_off f g a (x ∷ xs) none same =
    let ne : x ≢ a = (λ e. (let one = one_at x a e in absurd (omega (arith, one, none)))) in
    let here = same x ne in
    let rest = sum_off f g a xs (omega (arith, none)) same in
    omega (arith, here, rest)

pub sum_on : (f g : ℕ → ℕ) (a : ℕ) (xs : List ℕ) → times a xs ≡ 1 → ((x : ℕ) → x ≢ a → f x ≡ g x) → sum_over f xs + g a ≡ sum_over g xs + f a
sum_on f g a [] one same = absurd (omega arith)
sum_on f g a (x ∷ xs) one same = elim (cases_eq x a) [
  | inl e ↦
      let here = one_at x a e in
      let rest = sum_off f g a xs (omega (arith, here, one)) same in
      let at_f = ap f e in let at_g = ap g e in
      omega (arith, rest, at_f, at_g)
  | inr ne ↦
      let here = one_off x a ne in
      let rest = sum_on f g a xs (omega (arith, here, one)) same in
      let at_x = same x ne in
      omega (arith, rest, at_x)
]

module _ {K : Type 0} (old new : Tree K) (a : ℕ) (pairs : List (Pair K)) (entries : List (Child K))
    (step : ChangesOnly old new a pairs entries) where
  pub level_kept : (q : ℕ) → (new.node q).level ≡ (old.node q).level
  level_kept q = elim (cases_eq q a) [
    | inl e ↦ subst (λ q. (new.node q).level ≡ (old.node q).level) (sym e) (ap (λ (z : Node K). z.level) step.changed)
    | inr ne ↦ ap (λ (z : Node K). z.level) (step.others q ne)
  ]

  pub nsn_kept : (q : ℕ) → (new.node q).nsn ≡ (old.node q).nsn
  nsn_kept q = elim (cases_eq q a) [
    | inl e ↦ subst (λ q. (new.node q).nsn ≡ (old.node q).nsn) (sym e) (ap (λ (z : Node K). z.nsn) step.changed)
    | inr ne ↦ ap (λ (z : Node K). z.nsn) (step.others q ne)
  ]

  pub right_kept : (q : ℕ) → (new.node q).right ≡ (old.node q).right
  right_kept q = elim (cases_eq q a) [
    | inl e ↦ subst (λ q. (new.node q).right ≡ (old.node q).right) (sym e) (ap (λ (z : Node K). z.right) step.changed)
    | inr ne ↦ ap (λ (z : Node K). z.right) (step.others q ne)
  ]

  pub pages_kept : map (λ c. c.page) entries ≡ child_pages (old.node a) → (q : ℕ) → child_pages (new.node q) ≡ child_pages (old.node q)
  pages_kept same q = elim (cases_eq q a) [
    | inl e ↦ subst (λ q. child_pages (new.node q) ≡ child_pages (old.node q)) (sym e) (ap (λ (z : Node K). child_pages z) step.changed ∙ same)
    | inr ne ↦ ap (λ (z : Node K). child_pages z) (step.others q ne)
  ]

  pub used_kept : (q : ℕ) → Used old q → Used new q
  used_kept q u = let e = step.used in (u.0, (let h = u.1 in omega (arith, e, h)))

  pub used_before : (q : ℕ) → Used new q → Used old q
  used_before q u = let e = step.used in (u.0, (let h = u.1 in omega (arith, e, h)))

  linked_kept : (xs : List ℕ) (x : ℕ) → Linked old x xs → Linked new x xs
  linked_kept [] x l = l
  linked_kept (y ∷ ys) x l = (
    l.0,
    used_kept y l.1,
    level_kept y ∙ l.2,
    subst (λ q. Linked new q ys) (sym (right_kept y)) (linked_kept ys (old.node y).right l.3),
  )

  pub walk_kept : (x : ℕ) → Linked old x (walk old old.used x) → walk new new.used x ≡ walk old old.used x
  walk_kept x l =
      let most = length_walk old old.used x in
      let e = step.used in
      walk_is new (walk old old.used x) x new.used (linked_kept (walk old old.used x) x l) (omega (arith, most, e))

  pub chain_kept : (x : ℕ) → Linked old x (walk old old.used x) → Linked new x (walk new new.used x)
  chain_kept x l = subst (λ (ys : List ℕ). Linked new x ys) (sym (walk_kept x l)) (linked_kept (walk old old.used x) x l)

  how_many_at : (test : Pair K → Bool) → how_many test (new.node a).pairs ≡ how_many test pairs
  how_many_at test = ap (λ (z : Node K). how_many test z.pairs) step.changed

  how_many_other : (test : Pair K → Bool) (q : ℕ) → q ≢ a → how_many test (new.node q).pairs ≡ how_many test (old.node q).pairs
  how_many_other test q ne = ap (λ (z : Node K). how_many test z.pairs) (step.others q ne)

  -- if as many pairs of the page pass a test, as many do on every page
  pub pairs_kept : (test : Pair K → Bool) → how_many test pairs ≡ how_many test (old.node a).pairs → (q : ℕ)
      → how_many test (new.node q).pairs ≡ how_many test (old.node q).pairs
  pairs_kept test same q = elim (cases_eq q a) [
    | inl e ↦ subst (λ q. how_many test (new.node q).pairs ≡ how_many test (old.node q).pairs) (sym e) (how_many_at test ∙ same)
    | inr ne ↦ how_many_other test q ne
  ]

  pub passing_kept : (test : Pair K → Bool) → how_many test pairs ≡ how_many test (old.node a).pairs
      → (x : ℕ) → Linked old x (walk old old.used x) → passing test new (walk new new.used x) ≡ passing test old (walk old old.used x)
  passing_kept test same x l =
      ap (λ (ys : List ℕ). passing test new ys) (walk_kept x l)
      ∙ sum_over_same (λ q. how_many test (new.node q).pairs) (λ q. how_many test (old.node q).pairs) (walk old old.used x)
      (each_always (λ q. how_many test (new.node q).pairs ≡ how_many test (old.node q).pairs) (pairs_kept test same) (walk old old.used x))

  -- what a leaf's pairs count for changes by them
  pub passing_changed : (test : Pair K → Bool) (x : ℕ) → Linked old x (walk old old.used x) → times a (walk old old.used x) ≡ 1
      → passing test new (walk new new.used x) + how_many test (old.node a).pairs ≡ passing test old (walk old old.used x) + how_many test pairs
  passing_changed test x l one =
      let shape = ap (λ (ys : List ℕ). passing test new ys) (walk_kept x l) in
      let changed = sum_on (λ q. how_many test (new.node q).pairs) (λ q. how_many test (old.node q).pairs) a (walk old old.used x) one (how_many_other test) in
      let here = how_many_at test in
      omega (arith, shape, changed, here)

  module _ (r : Rules K) (legal : Legal r old)
      (same : map (λ c. c.page) entries ≡ child_pages (old.node a))
      (room : length pairs + length entries ≤ r.most)
      (leaf : (old.node a).level ≡ 0 → entries ≡ [])
      (inner : 0 < (old.node a).level → (pairs ≡ []) × (0 < length entries))
      (fits : Each (ChildFits r old (old.node a).level) entries)
      (above : (q : ℕ) → Used old q → Each (λ c. c.page ≡ a → Bounds r c.key (new.node a)) (old.node q).children)
      (single : (row : ℕ) (key : K) → standing (is_entry r row key) new ≤ 1) where
    child_kept : (level : ℕ) (c : Child K) → ChildFits r old level c → (c.page ≡ a → Bounds r c.key (new.node a)) → ChildFits r new level c
    child_kept level c f up = record {
      low = f.low;
      used = (let e = step.used in let h = f.used in omega (arith, e, h));
      level = ap (λ k. suc k) (level_kept c.page) ∙ f.level;
      bounds = elim (cases_eq c.page a) [
        | inl e ↦ subst (λ q. Bounds r c.key (new.node q)) (sym e) (up e)
        | inr ne ↦ subst (λ (z : Node K). Bounds r c.key z) (sym (step.others c.page ne)) f.bounds
      ];
    }

    -- an entry of the page itself names a page of another level
    fits_below : (c : Child K) → ChildFits r old (old.node a).level c → ChildFits r new (old.node a).level c
    fits_below c f = child_kept (old.node a).level c f (λ e. (let l = f.level in let k = ap (λ q. (old.node q).level) e in absurd (omega (arith, l, k))))

    pages_changed : (q : ℕ) → Used new q → NodeFits r new (new.node q)
    pages_changed q u =
        let before = used_before q u in
        let fit = legal.pages q before in
        elim (cases_eq q a) [
          | inl e ↦ subst (λ q. NodeFits r new (new.node q)) (sym e) (subst (λ (z : Node K). NodeFits r new z) (sym step.changed) (record {
            room = room;
            leaf = leaf;
            inner = inner;
            nsn = (let n = (legal.pages a step.there).nsn in let d = step.counter in omega (arith, n, d));
            children = each_map (ChildFits r old (old.node a).level) (ChildFits r new (old.node a).level) fits_below entries fits;
          }))
          | inr ne ↦ subst (λ (z : Node K). NodeFits r new z) (sym (step.others q ne)) (record {
            room = fit.room;
            leaf = fit.leaf;
            inner = fit.inner;
            nsn = (let n = fit.nsn in let d = step.counter in omega (arith, n, d));
            children = each_both (ChildFits r old (old.node q).level) (λ c. c.page ≡ a → Bounds r c.key (new.node a)) (ChildFits r new (old.node q).level)
                (child_kept (old.node q).level) (old.node q).children fit.children (above q before);
          })
        ]

    pub legal_changed : Legal r new
    legal_changed = record {
      pages = pages_changed;
      root = (let h = legal.root in let l = level_kept 1 in omega (arith, h, l));
      parent = λ q low high.
          (ap (λ k. total (λ x. times q (child_pages (new.node x))) k) step.used
          ∙ total_same (λ x. times q (child_pages (new.node x))) (λ x. times q (child_pages (old.node x))) old.used
          (λ x l h. ap (λ (ys : List ℕ). times q ys) (pages_kept same x))
          ∙ legal.parent q low (let e = step.used in omega (arith, e, high)));
      chain = chain_kept 2 legal.chain;
      once = λ q u l. (ap (λ (ys : List ℕ). times q ys) (walk_kept 2 legal.chain) ∙ legal.once q (used_before q u) (sym (level_kept q) ∙ l));
      single = single;
      counter = (let h = legal.counter in let e = step.used in let d = step.counter in omega (arith, h, e, d));
    }
