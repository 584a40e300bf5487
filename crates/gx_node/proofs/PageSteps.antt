-- Widening, adding, setting a mark and sweeping keep a tree legal; what each does to the pairs.
use Rattle.std.proofs.Common.{◌≡◌, ◌≢◌, ℕ, suc, ◌+◌, ◌<◌, ◌≤◌, Bool, true, false, not, cond, ◌&&◌, ◌||◌, inl, inr, List, [], ◌∷◌, ◌++◌, length, filter, refl, ap, sym, ◌∙◌, subst, arith, length-append}
use Rattle.std.specs.Prelude.{◌==◌, if◌then◌else◌}
use Rattle.std.proofs.lemmas.Bool.{cases_eq, and_parts, eqb-true}
use Rattle.gx_node.specs.Lists.{sum_over, one_if, how_many, Each}
use Rattle.gx_node.specs.Trees.{Pair, Node, Tree, Rules, IsLawful, Used, times, leaves, standing, is_entry}
use Rattle.gx_node.specs.Legal.{Bounds, ChildFits, Legal}
use Rattle.gx_node.specs.Steps.{with_key, with_mark, spares, IsWidening, IsAdding, IsMarking, IsSweep}
use Rattle.gx_node.proofs.Sums.{sum_over_same, sum_over-append, each_map, each_both, each-append, each_always}
use Rattle.gx_node.proofs.Chains.{one_off, pages_with_key, length_with_key, each_with_key}
use Rattle.gx_node.proofs.Splits.{bounds_through}
use Rattle.gx_node.proofs.Changes.{legal_changed, passing_kept, passing_changed}

module _ {X : Type 0} where
  pub each_filter : (P : X → Type 0) (p : X → Bool) (xs : List X) → Each P xs → Each P (filter p xs)
  each_filter P p [] e = tt
  each_filter P p (x ∷ xs) e = kept_by (p x) (each_filter P p xs e.1)
    where
      kept_by : (b : Bool) → Each P (filter p xs) → Each P (cond b (x ∷ filter p xs) (filter p xs))
      kept_by true rest = (e.0, rest)
      kept_by false rest = rest

  -- what passes a test, of what a filter keeps and of what it drops
  pub how_many_filter : (test p : X → Bool) (xs : List X)
      → how_many test (filter p xs) + how_many (λ x. test x && not (p x)) xs ≡ how_many test xs
  how_many_filter test p [] = refl
  how_many_filter test p (x ∷ xs) = split_by (test x) (p x) (how_many_filter test p xs) (one_if (test x)) refl
    where
      split_by : (u v : Bool) → how_many test (filter p xs) + how_many (λ x. test x && not (p x)) xs ≡ how_many test xs → (k : ℕ) → one_if (test x) ≡ k
          → how_many test (cond v (x ∷ filter p xs) (filter p xs)) + (one_if (test x && not v) + how_many (λ x. test x && not (p x)) xs) ≡ one_if (test x) + how_many test xs
      split_by u v rest k is = by (test x) v rest
        where
          by : (t v : Bool) → how_many test (filter p xs) + how_many (λ x. test x && not (p x)) xs ≡ how_many test xs
              → how_many test (cond v (x ∷ filter p xs) (filter p xs)) + (one_if (test x && not v) + how_many (λ x. test x && not (p x)) xs) ≡ one_if (test x) + how_many test xs
          by t true rest = and_false (test x)
            where
              and_false : (z : Bool) → (one_if z + how_many test (filter p xs)) + (one_if (z && false) + how_many (λ x. test x && not (p x)) xs) ≡ one_if z + how_many test xs
              and_false true = omega (arith, rest)
              and_false false = omega (arith, rest)
          by t false rest = and_true (test x)
            where
              and_true : (z : Bool) → how_many test (filter p xs) + (one_if (z && true) + how_many (λ x. test x && not (p x)) xs) ≡ one_if z + how_many test xs
              and_true true = omega (arith, rest)
              and_true false = omega (arith, rest)

module _ {K : Type 0} (r : Rules K) (row : ℕ) (key : K) (mark : Bool) where
  entry_marked : (row' : ℕ) (key' : K) (b : Bool) (y : Pair K)
      → is_entry r row' key' (if b then record { row = y.row; key = y.key; marked = mark } else y) ≡ is_entry r row' key' y
  entry_marked row' key' true y = refl
  entry_marked row' key' false y = refl

  -- a mark makes no other entry of a pair
  pub entries_marked : (row' : ℕ) (key' : K) (xs : List (Pair K)) → how_many (is_entry r row' key') (with_mark r row key mark xs) ≡ how_many (is_entry r row' key') xs
  entries_marked row' key' [] = refl
  entries_marked row' key' (y ∷ ys) =
      let here = ap (λ b. one_if b) (entry_marked row' key' (is_entry r row key y) y) in
      let rest = entries_marked row' key' ys in
      omega (arith, here, rest)

module _ {K : Type 0} (r : Rules K) (old new : Tree K) (a : ℕ) (legal : Legal r old) where
  -- an entry that names the page bounds what is on it
  pub named_bounds : (q : ℕ) → Used old q → Each (λ c. c.page ≡ a → Bounds r c.key (old.node a)) (old.node q).children
  named_bounds q u =
      each_map (ChildFits r old (old.node q).level) (λ c. c.page ≡ a → Bounds r c.key (old.node a))
      (λ c f e. subst (λ x. Bounds r c.key (old.node x)) e f.bounds) (old.node q).children (legal.pages q u).children

  module _ (law : IsLawful r) (x : ℕ) (coming key : K) (step : IsWidening r old new a x coming key) where
    widened_above : (q : ℕ) → Used old q → Each (λ c. c.page ≡ a → Bounds r c.key (new.node a)) (old.node q).children
    widened_above q u =
        each_both (λ c. c.page ≡ a → Bounds r c.key (old.node a)) (λ c. c.page ≡ a → r.covers c.key coming ≡ true) (λ c. c.page ≡ a → Bounds r c.key (new.node a))
        (λ c bound covers e.
        (let h = bound e in
        let whole : r.covers c.key key ≡ true = step.least c.key
        (each_map (λ d. r.covers c.key d.key ≡ true) (λ d. d.page ≡ x → r.covers c.key d.key ≡ true) (λ d g same. g) (old.node a).children h.children) (covers e) in
        subst (λ (z : Node K). Bounds r c.key z) (sym (step.changes).changed) (record {
          pairs = h.pairs;
          children = each_with_key (λ d. r.covers c.key d.key ≡ true) x key (old.node a).children
              (each_map (λ d. r.covers c.key d.key ≡ true) (λ d. (d.page ≡ x → r.covers c.key key ≡ true) × (d.page ≢ x → r.covers c.key d.key ≡ true))
              (λ d g. ((λ same. whole), (λ ne. g))) (old.node a).children h.children);
        })))
        (old.node q).children (named_bounds q u) (step.covered q u)

    pub standing_widened : (test : Pair K → Bool) → standing test new ≡ standing test old
    standing_widened test = passing_kept old new a (old.node a).pairs (with_key x key (old.node a).children) step.changes test refl 2 legal.chain

    pub legal_widened : Legal r new
    legal_widened =
        let fit = legal.pages a (step.changes).there in
        let long = length_with_key x key (old.node a).children in
        legal_changed old new a (old.node a).pairs (with_key x key (old.node a).children) step.changes r legal
        (pages_with_key x key (old.node a).children)
        (let h = fit.room in omega (arith, h, long))
        (λ leaf. (let h = step.inner in absurd (omega (arith, h, leaf))))
        (λ up. ((fit.inner up).0, (let h = (fit.inner up).1 in omega (arith, h, long))))
        (each_with_key (ChildFits r old (old.node a).level) x key (old.node a).children
        (each_both (ChildFits r old (old.node a).level) (λ c. c.page ≡ x → r.covers key c.key ≡ true)
        (λ c. (c.page ≡ x → ChildFits r old (old.node a).level (record { key = key; page = c.page })) × (c.page ≢ x → ChildFits r old (old.node a).level c))
        (λ c f g. ((λ e. record { low = f.low; used = f.used; level = f.level; bounds = bounds_through r law key c.key (old.node c.page) (g e) f.bounds }), (λ ne. f)))
        (old.node a).children fit.children step.covers_old))
        widened_above
        (λ row k. (let e = standing_widened (is_entry r row k) in let h = legal.single row k in omega (arith, e, h)))

  module _ (law : IsLawful r) (x : Pair K) (step : IsAdding r old new a x) where
    pub standing_added : (test : Pair K → Bool) → standing test new ≡ standing test old + one_if (test x)
    standing_added test =
        let there = (step.changes).there in
        let changed = passing_changed old new a ((old.node a).pairs ++ x ∷ []) (old.node a).children step.changes test 2 legal.chain (legal.once a there step.leaf) in
        let more = sum_over-append (λ y. one_if (test y)) (old.node a).pairs (x ∷ []) in
        omega (arith, changed, more)

    single_added : (row : ℕ) (key : K) → standing (is_entry r row key) new ≤ 1
    single_added row key = by (is_entry r row key x) refl
      where
        by : (b : Bool) → is_entry r row key x ≡ b → standing (is_entry r row key) new ≤ 1
        by false is =
            let more = standing_added (is_entry r row key) in
            let none = ap (λ b. one_if b) is in
            let h = legal.single row key in
            omega (arith, more, none, h)
        by true is =
            let more = standing_added (is_entry r row key) in
            let parts = and_parts (x.row == row) (r.same x.key key) is in
            let row_is : x.row ≡ row = eqb-true x.row row parts.0 in
            let key_is : x.key ≡ key = law.exact x.key key parts.1 in
            let none : standing (is_entry r row key) old ≡ 0 =
            subst (λ k. standing (is_entry r row k) old ≡ 0) key_is (subst (λ w. standing (is_entry r w x.key) old ≡ 0) row_is step.absent) in
            let one = ap (λ b. one_if b) is in
            omega (arith, more, none, one)

    pub legal_added : Legal r new
    legal_added =
        let fit = legal.pages a (step.changes).there in
        let long = length-append (old.node a).pairs (x ∷ []) in
        legal_changed old new a ((old.node a).pairs ++ x ∷ []) (old.node a).children step.changes r legal refl
        (let h = step.room in omega (arith, h, long))
        fit.leaf
        (λ up. (let h = step.leaf in absurd (omega (arith, h, up))))
        fit.children
        (λ q u. each_both (λ c. c.page ≡ a → Bounds r c.key (old.node a)) (λ c. c.page ≡ a → r.covers c.key x.key ≡ true) (λ c. c.page ≡ a → Bounds r c.key (new.node a))
        (λ c bound covers e. subst (λ (z : Node K). Bounds r c.key z) (sym (step.changes).changed) (record {
          pairs = each-append (λ (y : Pair K). r.covers c.key y.key ≡ true) (old.node a).pairs (x ∷ []) (bound e).pairs (covers e, tt);
          children = (bound e).children;
        }))
        (old.node q).children (named_bounds q u) (step.covered q u))
        single_added

  module _ (row : ℕ) (key : K) (mark : Bool) where
    marked_key : (b : Bool) (y : Pair K) → (if b then record { row = y.row; key = y.key; marked = mark } else y).key ≡ y.key
    marked_key true y = refl
    marked_key false y = refl

    each_marked : (k : K) (xs : List (Pair K)) → Each (λ y. r.covers k y.key ≡ true) xs → Each (λ y. r.covers k y.key ≡ true) (with_mark r row key mark xs)
    each_marked k [] e = tt
    each_marked k (y ∷ ys) e =
        (subst (λ z. r.covers k z ≡ true) (sym (marked_key (is_entry r row key y) y)) e.0, each_marked k ys e.1)

    length_marked : (xs : List (Pair K)) → length (with_mark r row key mark xs) ≡ length xs
    length_marked [] = refl
    length_marked (y ∷ ys) = ap (λ k. suc k) (length_marked ys)

    module _ (step : IsMarking r old new a row key mark) where
      pub legal_marked : Legal r new
      legal_marked =
          let fit = legal.pages a (step.changes).there in
          let long = length_marked (old.node a).pairs in
          legal_changed old new a (with_mark r row key mark (old.node a).pairs) (old.node a).children step.changes r legal refl
          (let h = fit.room in omega (arith, h, long))
          fit.leaf
          (λ up. (let h = step.leaf in absurd (omega (arith, h, up))))
          fit.children
          (λ q u. each_map (λ c. c.page ≡ a → Bounds r c.key (old.node a)) (λ c. c.page ≡ a → Bounds r c.key (new.node a))
          (λ c bound e. subst (λ (z : Node K). Bounds r c.key z) (sym (step.changes).changed) (record {
            pairs = each_marked c.key (old.node a).pairs (bound e).pairs;
            children = (bound e).children;
          }))
          (old.node q).children (named_bounds q u))
          (λ row' key'. (let e = passing_kept old new a (with_mark r row key mark (old.node a).pairs) (old.node a).children step.changes (is_entry r row' key')
          (entries_marked r row key mark row' key' (old.node a).pairs) 2 legal.chain in let h = legal.single row' key' in omega (arith, e, h)))

      standing_marked : (test : Pair K → Bool)
          → standing test new + how_many test (old.node a).pairs ≡ standing test old + how_many test (with_mark r row key mark (old.node a).pairs)
      standing_marked test =
          passing_changed old new a (with_mark r row key mark (old.node a).pairs) (old.node a).children step.changes test 2 legal.chain
          (legal.once a (step.changes).there step.leaf)

  module _ (claimed : Pair K → Bool) (step : IsSweep old new a claimed) where
    -- what goes is what is marked and not claimed
    swept : Pair K → Bool
    swept x = not (spares claimed x)

    pub standing_swept : (test : Pair K → Bool)
        → standing test new + how_many (λ x. test x && not (spares claimed x)) (old.node a).pairs ≡ standing test old
    standing_swept test =
        let changed = passing_changed old new a (filter (spares claimed) (old.node a).pairs) (old.node a).children step.changes test 2 legal.chain
        (legal.once a (step.changes).there step.leaf) in
        let parts = how_many_filter test (spares claimed) (old.node a).pairs in
        omega (arith, changed, parts)

    gone_by : (t m c : Bool) → one_if (t && (m && not c)) ≡ one_if (t && not (not m || c))
    gone_by t true true = refl
    gone_by t true false = refl
    gone_by t false c = refl

    pub standing_swept_plain : (test : Pair K → Bool)
        → standing test new + how_many (λ x. test x && (x.marked && not (claimed x))) (old.node a).pairs ≡ standing test old
    standing_swept_plain test =
        let same = sum_over_same (λ x. one_if (test x && (x.marked && not (claimed x)))) (λ x. one_if (test x && not (spares claimed x))) (old.node a).pairs
        (each_always (λ x. one_if (test x && (x.marked && not (claimed x))) ≡ one_if (test x && not (spares claimed x)))
        (λ x. gone_by (test x) x.marked (claimed x)) (old.node a).pairs) in
        let swept_is = standing_swept test in
        omega (arith, same, swept_is)

    length_filter : (p : Pair K → Bool) (xs : List (Pair K)) → length (filter p xs) ≤ length xs
    length_filter p [] = omega arith
    length_filter p (y ∷ ys) = by (p y) (length_filter p ys)
      where
        by : (b : Bool) → length (filter p ys) ≤ length ys → length (cond b (y ∷ filter p ys) (filter p ys)) ≤ suc (length ys)
        by true le = omega (arith, le)
        by false le = omega (arith, le)

    pub legal_swept : Legal r new
    legal_swept =
        let fit = legal.pages a (step.changes).there in
        let long = length_filter (spares claimed) (old.node a).pairs in
        legal_changed old new a (filter (spares claimed) (old.node a).pairs) (old.node a).children step.changes r legal refl
        (let h = fit.room in omega (arith, h, long))
        fit.leaf
        (λ up. (let h = step.leaf in absurd (omega (arith, h, up))))
        fit.children
        (λ q u. each_map (λ c. c.page ≡ a → Bounds r c.key (old.node a)) (λ c. c.page ≡ a → Bounds r c.key (new.node a))
        (λ c bound e. subst (λ (z : Node K). Bounds r c.key z) (sym (step.changes).changed) (record {
          pairs = each_filter (λ y. r.covers c.key y.key ≡ true) (spares claimed) (old.node a).pairs (bound e).pairs;
          children = (bound e).children;
        }))
        (old.node q).children (named_bounds q u))
        (λ row key. (let e = standing_swept (is_entry r row key) in let h = legal.single row key in omega (arith, e, h)))

-- One mark.
module _ {K : Type 0} (r : Rules K) (row : ℕ) (key : K) (mark : Bool) where
  none_marked : (xs : List (Pair K)) → how_many (is_entry r row key) xs ≡ 0 → with_mark r row key mark xs ≡ xs
  none_marked [] e = refl
  none_marked (y ∷ ys) e = by (is_entry r row key y) refl (none_marked ys)
    where
      by : (b : Bool) → is_entry r row key y ≡ b → (how_many (is_entry r row key) ys ≡ 0 → with_mark r row key mark ys ≡ ys)
          → with_mark r row key mark (y ∷ ys) ≡ y ∷ ys
      by true is rest = let one = ap (λ b. one_if b) is in absurd (omega (arith, one, e))
      by false is rest =
          ap (λ b. (if b then record { row = y.row; key = y.key; marked = mark } else y) ∷ with_mark r row key mark ys) is
          ∙ ap (λ (zs : List (Pair K)). y ∷ zs) (rest (let none = ap (λ b. one_if b) is in omega (arith, e, none)))

  pub one_marked : (test : Pair K → Bool) (before after : List (Pair K)) (y : Pair K) → is_entry r row key y ≡ true
      → how_many (is_entry r row key) (before ++ y ∷ after) ≤ 1
      → how_many test (with_mark r row key mark (before ++ y ∷ after)) + one_if (test y)
      ≡ how_many test (before ++ y ∷ after) + one_if (test (record { row = y.row; key = y.key; marked = mark }))
  one_marked test [] after y is le =
      let one = ap (λ b. one_if b) is in
      let rest = ap (λ (zs : List (Pair K)). how_many test zs) (none_marked after (omega (arith, one, le))) in
      let here = ap (λ b. one_if (test (if b then record { row = y.row; key = y.key; marked = mark } else y))) is in
      omega (arith, rest, here)
  one_marked test (x ∷ before) after y is le = by (is_entry r row key x) refl (one_marked test before after y is)
    where
      more : how_many (is_entry r row key) (before ++ y ∷ after) ≡ how_many (is_entry r row key) before + how_many (is_entry r row key) (y ∷ after)
      more = sum_over-append (λ z. one_if (is_entry r row key z)) before (y ∷ after)

      by : (b : Bool) → is_entry r row key x ≡ b
          → (how_many (is_entry r row key) (before ++ y ∷ after) ≤ 1
          → how_many test (with_mark r row key mark (before ++ y ∷ after)) + one_if (test y)
          ≡ how_many test (before ++ y ∷ after) + one_if (test (record { row = y.row; key = y.key; marked = mark })))
          → how_many test (with_mark r row key mark (x ∷ (before ++ y ∷ after))) + one_if (test y)
          ≡ how_many test (x ∷ (before ++ y ∷ after)) + one_if (test (record { row = y.row; key = y.key; marked = mark }))
      by true same rest =
          let one = ap (λ b. one_if b) same in
          let another = ap (λ b. one_if b) is in
          absurd (omega (arith, one, another, more, le))
      by false other more_of =
          let none = ap (λ b. one_if b) other in
          let rest = more_of (omega (arith, none, le)) in
          let here = ap (λ b. one_if (test (if b then record { row = x.row; key = x.key; marked = mark } else x))) other in
          omega (arith, rest, here)

  -- a leaf's pairs are among the tree's
  leaf_pairs : (t : Tree K) → Legal r t → (a : ℕ) → Used t a → (t.node a).level ≡ 0 → how_many (is_entry r row key) (t.node a).pairs ≤ 1
  leaf_pairs t legal a u leaf =
      let one = legal.single row key in
      let among = member_le (λ q. how_many (is_entry r row key) (t.node q).pairs) a (leaves t) (let h = legal.once a u leaf in omega (arith, h)) in
      omega (arith, one, among)
    where
      member_le : (f : ℕ → ℕ) (a : ℕ) (xs : List ℕ) → 0 < times a xs → f a ≤ sum_over f xs
      member_le f a [] some = absurd (omega arith)
      member_le f a (x ∷ xs) some = elim (cases_eq x a) [
        | inl e ↦ let same = ap f e in omega (arith, same)
        | inr ne ↦ let none = one_off x a ne in let rest = member_le f a xs (omega (arith, none, some)) in omega (arith, rest)
      ]

  pub standing_one_marked : (old new : Tree K) (a : ℕ) → Legal r old → IsMarking r old new a row key mark
      → (test : Pair K → Bool) (before after : List (Pair K)) (y : Pair K) → (old.node a).pairs ≡ before ++ y ∷ after → is_entry r row key y ≡ true
      → standing test new + one_if (test y) ≡ standing test old + one_if (test (record { row = y.row; key = y.key; marked = mark }))
  standing_one_marked old new a legal step test before after y pairs is =
      let most : how_many (is_entry r row key) (before ++ y ∷ after) ≤ 1 =
      subst (λ zs. how_many (is_entry r row key) zs ≤ 1) pairs (leaf_pairs old legal a (step.changes).there step.leaf) in
      let one = one_marked test before after y is most in
      let whole = standing_marked r old new a legal row key mark step test in
      let was = ap (λ (zs : List (Pair K)). how_many test zs) pairs in
      let becomes = ap (λ (zs : List (Pair K)). how_many test (with_mark r row key mark zs)) pairs in
      omega (arith, one, whole, was, becomes)
