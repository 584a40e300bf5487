-- A test for legal trees: if it computes to true, the tree is legal.
use Rattle.std.proofs.Common.{◌≡◌, ◌≢◌, ℕ, zero, suc, ◌+◌, ◌<◌, ◌≤◌, Bool, true, false, ◌&&◌, inl, inr, List, [], ◌∷◌, map, flat_map, length, refl, ap, sym, ◌∙◌, arith}
use Rattle.std.specs.Prelude.{◌==◌, nat_le, nat_lt, if◌then◌else◌}
use Rattle.std.proofs.lemmas.Bool.{and_parts, leb-true, ltb-true, eqb-true, cases_eq}
use Rattle.gx_node.specs.Lists.{one_if, Each}
use Rattle.gx_node.specs.Trees.{Pair, Child, Node, Tree, Rules, size, times, parents, leaves, standing, is_entry}
use Rattle.gx_node.specs.Legal.{Bounds, ChildFits, NodeFits, Linked, Legal}
use Rattle.gx_node.proofs.Sums.{sum_over_le, sum_over-map, each_always, how_many-flat_map}
use Rattle.gx_node.proofs.Chains.{one_at, one_off}

abbrev all_pages : (ℕ → Bool) → ℕ → Bool
all_pages f zero = true
all_pages f (suc n) = f (suc n) && all_pages f n

all_pages_at : (f : ℕ → Bool) (n q : ℕ) → all_pages f n ≡ true → 0 < q → q ≤ n → f q ≡ true
all_pages_at f zero q all low high = absurd (omega arith)
all_pages_at f (suc n) q all low high = elim (cases_eq q (suc n)) [
  | inl e ↦ ap f e ∙ (and_parts (f (suc n)) (all_pages f n) all).0
  | inr ne ↦ all_pages_at f n q (and_parts (f (suc n)) (all_pages f n) all).1 low (omega (arith, high, ne))
]

abbrev all_of : {X : Type 0} → (X → Bool) → List X → Bool
all_of f [] = true
all_of f (x ∷ xs) = f x && all_of f xs

each_of : {X : Type 0} (f : X → Bool) (P : X → Type 0) → ((x : X) → f x ≡ true → P x) → (xs : List X) → all_of f xs ≡ true → Each P xs
each_of f P sound [] all = tt
each_of f P sound (x ∷ xs) all = let parts = and_parts (f x) (all_of f xs) all in (sound x parts.0, each_of f P sound xs parts.1)

abbrev is_empty : {X : Type 0} → List X → Bool
is_empty [] = true
is_empty (x ∷ xs) = false

empty_is : {X : Type 0} (xs : List X) → is_empty xs ≡ true → xs ≡ []
empty_is [] e = refl
empty_is (x ∷ xs) e = cc

abbrev distinct : List ℕ → Bool
distinct [] = true
distinct (x ∷ xs) = (times x xs == 0) && distinct xs

distinct_once : (xs : List ℕ) (q : ℕ) → distinct xs ≡ true → times q xs ≤ 1
distinct_once [] q d = omega arith
distinct_once (x ∷ xs) q d =
    let parts = and_parts (times x xs == 0) (distinct xs) d in
    let none : times x xs ≡ 0 = eqb-true (times x xs) 0 parts.0 in
    elim (cases_eq x q) [
      | inl e ↦ let one = one_at x q e in let same = ap (λ z. times z xs) e in omega (arith, one, none, same)
      | inr ne ↦ let off = one_off x q ne in let rest = distinct_once xs q parts.1 in omega (arith, off, rest)
    ]

module _ {K : Type 0} (r : Rules K) (t : Tree K) where
  abbrev bounds_test : K → Node K → Bool
  bounds_test key node = all_of (λ x. r.covers key x.key) node.pairs && all_of (λ c. r.covers key c.key) node.children

  abbrev child_test : ℕ → Child K → Bool
  child_test level c =
      nat_le 2 c.page && (nat_le c.page t.used && ((suc (t.node c.page).level == level) && bounds_test c.key (t.node c.page)))

  abbrev shape_test : Node K → Bool
  shape_test node = if node.level == 0 then is_empty node.children else is_empty node.pairs && nat_lt 0 (length node.children)

  abbrev node_test : Node K → Bool
  node_test node = nat_le (size node) r.most && (shape_test node && (nat_le node.nsn t.counter && all_of (child_test node.level) node.children))

  abbrev linked_test : ℕ → List ℕ → Bool
  linked_test p [] = p == 0
  linked_test p (q ∷ qs) =
      (p == q) && ((nat_lt 0 q && nat_le q t.used) && (((t.node q).level == 0) && linked_test (t.node q).right qs))

  abbrev rows_of : List ℕ
  rows_of = map (λ x. x.row) (flat_map (λ q. (t.node q).pairs) (leaves t))

  abbrev once_test : ℕ → Bool
  once_test q = if (t.node q).level == 0 then times q (leaves t) == 1 else true

  abbrev parent_test : ℕ → Bool
  parent_test q = if q == 1 then true else parents t q == 1

  abbrev pub legal_test : Bool
  legal_test =
      all_pages (λ p. node_test (t.node p)) t.used && (nat_lt 0 (t.node 1).level && (all_pages parent_test t.used
      && (linked_test 2 (leaves t) && (all_pages once_test t.used && (distinct rows_of && nat_le (t.counter + 2) t.used)))))

  bounds_are : (key : K) (node : Node K) → bounds_test key node ≡ true → Bounds r key node
  bounds_are key node e =
      let parts = and_parts (all_of (λ x. r.covers key x.key) node.pairs) (all_of (λ c. r.covers key c.key) node.children) e in
      record {
        pairs = each_of (λ x. r.covers key x.key) (λ x. r.covers key x.key ≡ true) (λ x h. h) node.pairs parts.0;
        children = each_of (λ c. r.covers key c.key) (λ c. r.covers key c.key ≡ true) (λ c h. h) node.children parts.1;
      }

  child_fits : (level : ℕ) (c : Child K) → child_test level c ≡ true → ChildFits r t level c
  child_fits level c e =
      let a = and_parts (nat_le 2 c.page) (nat_le c.page t.used && ((suc (t.node c.page).level == level) && bounds_test c.key (t.node c.page))) e in
      let b = and_parts (nat_le c.page t.used) ((suc (t.node c.page).level == level) && bounds_test c.key (t.node c.page)) a.1 in
      let d = and_parts (suc (t.node c.page).level == level) (bounds_test c.key (t.node c.page)) b.1 in
      record {
        low = leb-true 2 c.page a.0;
        used = leb-true c.page t.used b.0;
        level = eqb-true (suc (t.node c.page).level) level d.0;
        bounds = bounds_are c.key (t.node c.page) d.1;
      }

  shape_is : (node : Node K) (z : Bool) → (node.level == 0) ≡ z → (if z then is_empty node.children else is_empty node.pairs && nat_lt 0 (length node.children)) ≡ true
      → (node.level ≡ 0 → node.children ≡ []) × (0 < node.level → (node.pairs ≡ []) × (0 < length node.children))
  shape_is node true is e = (
    λ leaf. empty_is node.children e,
    λ up. (let zero_is = eqb-true node.level 0 is in absurd (omega (arith, up, zero_is))),
  )
  shape_is node false is e =
      let parts = and_parts (is_empty node.pairs) (nat_lt 0 (length node.children)) e in (
        λ leaf. (let yes_it = ap (λ k. k == 0) leaf in let no_it : ⊥ = (let both : false ≡ true = sym is ∙ yes_it in cc) in absurd no_it),
        λ up. (empty_is node.pairs parts.0, ltb-true 0 (length node.children) parts.1),
      )

  node_fits : (node : Node K) → node_test node ≡ true → NodeFits r t node
  node_fits node e =
      let a = and_parts (nat_le (size node) r.most) (shape_test node && (nat_le node.nsn t.counter && all_of (child_test node.level) node.children)) e in
      let b = and_parts (shape_test node) (nat_le node.nsn t.counter && all_of (child_test node.level) node.children) a.1 in
      let d = and_parts (nat_le node.nsn t.counter) (all_of (child_test node.level) node.children) b.1 in
      let shape = shape_is node (node.level == 0) refl b.0 in
      record {
        room = leb-true (size node) r.most a.0;
        leaf = shape.0;
        inner = shape.1;
        nsn = leb-true node.nsn t.counter d.0;
        children = each_of (child_test node.level) (ChildFits r t node.level) (child_fits node.level) node.children d.1;
      }

  linked_are : (p : ℕ) (qs : List ℕ) → linked_test p qs ≡ true → Linked t p qs
  linked_are p [] e = eqb-true p 0 e
  linked_are p (q ∷ qs) e =
      let a = and_parts (p == q) ((nat_lt 0 q && nat_le q t.used) && (((t.node q).level == 0) && linked_test (t.node q).right qs)) e in
      let b = and_parts (nat_lt 0 q && nat_le q t.used) (((t.node q).level == 0) && linked_test (t.node q).right qs) a.1 in
      let d = and_parts (nat_lt 0 q) (nat_le q t.used) b.0 in
      let f = and_parts ((t.node q).level == 0) (linked_test (t.node q).right qs) b.1 in
      (eqb-true p q a.0, (ltb-true 0 q d.0, leb-true q t.used d.1), eqb-true (t.node q).level 0 f.0, linked_are (t.node q).right qs f.1)

  under_if : (P : ℕ → Type 0) (q k : ℕ) (f : Bool) (z : Bool) → (q == k) ≡ z → (if z then true else f) ≡ true → q ≢ k → f ≡ true
  under_if P q k f true is e ne = absurd (ne (eqb-true q k is))
  under_if P q k f false is e ne = e

  at_zero : (l : ℕ) (f : Bool) → (if l == 0 then f else true) ≡ true → l ≡ 0 → f ≡ true
  at_zero zero f e is = e
  at_zero (suc l) f e is = absurd (omega (arith, is))

  few_rows : (row : ℕ) (key : K) → standing (is_entry r row key) t ≤ times row rows_of
  few_rows row key =
      let all = how_many-flat_map (is_entry r row key) t in
      let rows = sum_over-map (λ x. one_if (x == row)) (λ (x : Pair K). x.row) (flat_map (λ q. (t.node q).pairs) (leaves t)) in
      let le = sum_over_le (λ x. one_if (is_entry r row key x)) (λ x. one_if (x.row == row)) (flat_map (λ q. (t.node q).pairs) (leaves t))
      (each_always (λ x. one_if (is_entry r row key x) ≤ one_if (x.row == row)) (λ x. both (x.row == row) (r.same x.key key)) (flat_map (λ q. (t.node q).pairs) (leaves t))) in
      omega (arith, all, rows, le)
    where
      both : (a b : Bool) → one_if (a && b) ≤ one_if a
      both true true = omega arith
      both true false = omega arith
      both false b = omega arith

  pub legal_by_test : legal_test ≡ true → Legal r t
  legal_by_test e =
      let a = and_parts (all_pages (λ p. node_test (t.node p)) t.used) (nat_lt 0 (t.node 1).level && (all_pages parent_test t.used
      && (linked_test 2 (leaves t) && (all_pages once_test t.used && (distinct rows_of && nat_le (t.counter + 2) t.used))))) e in
      let b = and_parts (nat_lt 0 (t.node 1).level) (all_pages parent_test t.used
      && (linked_test 2 (leaves t) && (all_pages once_test t.used && (distinct rows_of && nat_le (t.counter + 2) t.used)))) a.1 in
      let c = and_parts (all_pages parent_test t.used) (linked_test 2 (leaves t) && (all_pages once_test t.used && (distinct rows_of && nat_le (t.counter + 2) t.used))) b.1 in
      let d = and_parts (linked_test 2 (leaves t)) (all_pages once_test t.used && (distinct rows_of && nat_le (t.counter + 2) t.used)) c.1 in
      let f = and_parts (all_pages once_test t.used) (distinct rows_of && nat_le (t.counter + 2) t.used) d.1 in
      let g = and_parts (distinct rows_of) (nat_le (t.counter + 2) t.used) f.1 in
      record {
        pages = λ p u. node_fits (t.node p) (all_pages_at (λ p. node_test (t.node p)) t.used p a.0 u.0 u.1);
        root = ltb-true 0 (t.node 1).level b.0;
        parent = λ q low high. eqb-true (parents t q) 1
            (under_if (λ q. ℕ) q 1 (parents t q == 1) (q == 1) refl (all_pages_at parent_test t.used q c.0 (omega (arith, low)) high) (λ is. (omega (arith, is, low))));
        chain = linked_are 2 (leaves t) d.0;
        once = λ q u leaf. eqb-true (times q (leaves t)) 1
            (at_zero (t.node q).level (times q (leaves t) == 1) (all_pages_at once_test t.used q f.0 u.0 u.1) leaf);
        single = λ row key. (let few = few_rows row key in let one = distinct_once rows_of row g.0 in omega (arith, few, one));
        counter = leb-true (t.counter + 2) t.used g.1;
      }
