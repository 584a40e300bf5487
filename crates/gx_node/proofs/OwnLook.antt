-- A look's own steps: it begins with the root, reads a page a step, and ends.
use Rattle.std.proofs.Common.{◌≡◌, ℕ, zero, suc, ◌+◌, ◌<◌, ◌≤◌, Bool, true, false, cond, ◌&&◌, inl, inr, List, [], ◌∷◌, ◌++◌, filter, length, refl, ap, sym, ◌∙◌, subst, arith}
use Rattle.std.specs.Prelude.{◌==◌, if◌then◌else◌, nat_lt}
use Rattle.std.proofs.lemmas.Bool.{cases_eq, ltb-true, ltb-false}
use Rattle.gx_node.specs.Lists.{sum_over, one_if, how_many, Each, total}
use Rattle.gx_node.specs.Trees.{Pair, Child, Tree, Rules, IsLawful, Used, leaves, standing, is_entry}
use Rattle.gx_node.specs.Legal.{Bounds, ChildFits, Legal}
use Rattle.gx_node.specs.Reach.{TraversalItem, Run, ends, goes, run, down, under, ahead_of, ahead, pages_ahead, pairs_ahead}
use Rattle.gx_node.specs.Looks.{ItemFits, IsLook, from_root, beyond_of, below_of, stacked, found_with, LeadsTo}
use Rattle.gx_node.proofs.Sums.{sum_over-append, sum_over_same, sum_over_le, sum_over-map, each_map, each_both, each-append, each-map, each_always, total_none}
use Rattle.gx_node.proofs.Chains.{one_at, one_off}
use Rattle.gx_node.proofs.Splits.{bounds_through}
use Rattle.gx_node.proofs.PageSteps.{each_filter}
use Rattle.gx_node.proofs.Runs.{run_is, length_run}
use Rattle.gx_node.proofs.Whole.{under_is, under_root, standing_under_root}

-- the pages near an item: its own, and what is near its rightlink if it was split since
data Parts {K : Type 0} (t : Tree K) (seen p : ℕ) (xs : List ℕ) : Type 0 where
  last : (t.node p).nsn ≤ seen → xs ≡ p ∷ [] → Parts t seen p xs
  more : (qs : List ℕ) → seen < (t.node p).nsn → xs ≡ p ∷ qs → Run t seen (t.node p).right qs → Parts t seen p xs

parts_of : {K : Type 0} (t : Tree K) (seen : ℕ) {p : ℕ} {xs : List ℕ} → Run t seen p xs → Used t p × Parts t seen p xs
parts_of t seen (ends u le) = (u, last le refl)
parts_of t seen (goes {qs = qs} u lt rest) = (u, more qs lt refl rest)

module _ {K : Type 0} (t : Tree K) where
  -- an item made now has its own page near it alone
  pub item_now : (c : ℕ) → Used t c → (t.node c).nsn ≤ t.counter → Run t t.counter c (c ∷ []) × (run t t.used t.counter c ≡ c ∷ [])
  item_now c u le = (ends u le, run_is t t.counter (ends u le) t.used (let low = u.0 in let high = u.1 in omega (arith, low, high)))

  item_now_fits : (c : ℕ) → Used t c → (t.node c).nsn ≤ t.counter → ItemFits t (record { page = c; seen = t.counter })
  item_now_fits c u le =
      let now = item_now c u le in
      record { seen = omega arith; run = subst (λ (ys : List ℕ). Run t t.counter c ys) (sym now.1) now.0 }

  ahead_now : (f : ℕ → ℕ) (c : ℕ) → Used t c → (t.node c).nsn ≤ t.counter → ahead_of t f (record { page = c; seen = t.counter }) ≡ under t f c
  ahead_now f c u le =
      let shape = ap (λ (ys : List ℕ). sum_over (under t f) ys) (item_now c u le).1 in
      omega (arith, shape)

  module _ (f : ℕ → ℕ) (seen p : ℕ) where
    beyond : Bool → List TraversalItem
    beyond b = if b then record { page = (t.node p).right; seen = seen } ∷ [] else []

    -- what lies ahead of an item is what lies at or under its page, and what lies ahead beyond it
    ahead_parts_by : (xs : List ℕ) → run t t.used seen p ≡ xs → Parts t seen p xs → (b : Bool) → nat_lt seen (t.node p).nsn ≡ b
        → sum_over (under t f) xs ≡ under t f p + ahead t f (if b then record { page = (t.node p).right; seen = seen } ∷ [] else [])
    ahead_parts_by xs shape (last le e) true is = let lt = ltb-true seen (t.node p).nsn is in absurd (omega (arith, le, lt))
    ahead_parts_by xs shape (last le e) false is =
        let s = ap (λ (ys : List ℕ). sum_over (under t f) ys) e in omega (arith, s)
    ahead_parts_by xs shape (more qs lt e rest) false is = let ge = ltb-false seen (t.node p).nsn is in absurd (omega (arith, lt, ge))
    ahead_parts_by xs shape (more qs lt e rest) true is =
        let s = ap (λ (ys : List ℕ). sum_over (under t f) ys) e in
        let long = length_run t seen t.used p in
        let same_long = ap (λ (ys : List ℕ). length ys) (shape ∙ e) in
        let next = ap (λ (ys : List ℕ). sum_over (under t f) ys) (run_is t seen rest t.used (omega (arith, long, same_long))) in
        omega (arith, s, next)

  pub ahead_parts : (f : ℕ → ℕ) (item : TraversalItem) → ItemFits t item → ahead_of t f item ≡ under t f item.page + ahead t f (beyond_of t item)
  ahead_parts f item fit =
      ahead_parts_by f item.seen item.page (run t t.used item.seen item.page) refl (parts_of t item.seen fit.run).1
      (nat_lt item.seen (t.node item.page).nsn) refl

  beyond_fits_by : (item : TraversalItem) → ItemFits t item → Parts t item.seen item.page (run t t.used item.seen item.page) → (b : Bool) → nat_lt item.seen (t.node item.page).nsn ≡ b
      → Each (ItemFits t) (if b then record { page = (t.node item.page).right; seen = item.seen } ∷ [] else [])
  beyond_fits_by item fit parts false is = tt
  beyond_fits_by item fit (last le e) true is = let lt = ltb-true item.seen (t.node item.page).nsn is in absurd (omega (arith, le, lt))
  beyond_fits_by item fit (more qs lt e rest) true is =
      let long = length_run t item.seen t.used item.page in
      let same_long = ap (λ (ys : List ℕ). length ys) e in
      let next = run_is t item.seen rest t.used (omega (arith, long, same_long)) in
      (record { seen = fit.seen; run = subst (λ (ys : List ℕ). Run t item.seen (t.node item.page).right ys) (sym next) rest }, tt)

  beyond_fits : (item : TraversalItem) → ItemFits t item → Each (ItemFits t) (beyond_of t item)
  beyond_fits item fit = beyond_fits_by item fit (parts_of t item.seen fit.run).1 (nat_lt item.seen (t.node item.page).nsn) refl

  pub item_used : (item : TraversalItem) → ItemFits t item → Used t item.page
  item_used item fit = (parts_of t item.seen fit.run).0

module _ {K : Type 0} (r : Rules K) (t : Tree K) (legal : Legal r t) where
  root_taken : Used t 1
  root_taken = let h = legal.counter in (omega arith, omega (arith, h))

  nsn_early : (q : ℕ) → Used t q → (t.node q).nsn ≤ t.counter
  nsn_early q u = (legal.pages q u).nsn

  -- Where it begins.

  is_most_once : (l n : ℕ) → total (λ q. one_if (q == l)) n ≤ 1
  is_most_once l zero = omega arith
  is_most_once l (suc n) = elim (cases_eq (suc n) l) [
    | inl e ↦
        let one = one_at (suc n) l e in
        let none = total_none (λ q. one_if (q == l)) n (λ q low high. one_off q l (λ z. (omega (arith, z, e, high)))) in
        omega (arith, one, none)
    | inr ne ↦ let none = one_off (suc n) l ne in let rest = is_most_once l n in omega (arith, none, rest)
  ]

  pub look_begins : (wants : Pair K → Bool) → IsLook t wants (from_root t ∷ []) []
  look_begins wants = record {
    items = (item_now_fits t 1 root_taken (nsn_early 1 root_taken), tt);
    complete = λ test.
        (let now = ahead_now t (λ q. how_many (λ x. wants x && test x) (t.node q).pairs) 1 root_taken (nsn_early 1 root_taken) in
        let whole = standing_under_root r t legal (λ x. wants x && test x) in
        omega (arith, now, whole));
    once = λ l.
        (let now = ahead_now t (λ q. one_if (q == l)) 1 root_taken (nsn_early 1 root_taken) in
        let whole = under_root r t legal (λ q. one_if (q == l)) in
        let most = is_most_once l t.used in
        omega (arith, now, whole, most));
  }

  ones : (n : ℕ) → total (λ q. 1) n ≡ n
  ones zero = refl
  ones (suc n) = let rest = ones n in omega (arith, rest)

  pub pages_begin : pages_ahead t (from_root t ∷ []) ≡ t.used
  pages_begin =
      let now = ahead_now t (λ q. 1) 1 root_taken (nsn_early 1 root_taken) in
      let whole = under_root r t legal (λ q. 1) in
      let count = ones t.used in
      omega (arith, now, whole, count)

  -- A step.

  module _ (leads : K → Bool) where
    -- what lies ahead of the entries that are stacked
    below_ahead : (f : ℕ → ℕ) (cs : List (Child K)) → Each (λ c. Used t c.page) cs
        → ahead t f (below_of t leads cs) ≡ sum_over (λ c. under t f c.page) (filter (λ c. leads c.key) cs)
    below_ahead f cs taken =
        sum_over-map (ahead_of t f) (λ (c : Child K). record { page = c.page; seen = t.counter }) (filter (λ c. leads c.key) cs)
        ∙ sum_over_same (λ c. ahead_of t f (record { page = c.page; seen = t.counter })) (λ c. under t f c.page) (filter (λ c. leads c.key) cs)
        (each_map (λ c. Used t c.page) (λ c. ahead_of t f (record { page = c.page; seen = t.counter }) ≡ under t f c.page)
        (λ c u. ahead_now t f c.page u (nsn_early c.page u)) (filter (λ c. leads c.key) cs) (each_filter (λ c. Used t c.page) (λ c. leads c.key) cs taken))

    filter_less : (f : Child K → ℕ) (cs : List (Child K)) → sum_over f (filter (λ c. leads c.key) cs) ≤ sum_over f cs
    filter_less f [] = omega arith
    filter_less f (c ∷ cs) = by (leads c.key) (filter_less f cs)
      where
        by : (b : Bool) → sum_over f (filter (λ c. leads c.key) cs) ≤ sum_over f cs
            → sum_over f (cond b (c ∷ filter (λ c. leads c.key) cs) (filter (λ c. leads c.key) cs)) ≤ f c + sum_over f cs
        by true le = omega (arith, le)
        by false le = omega (arith, le)

    filter_same : (f : Child K → ℕ) (cs : List (Child K)) → Each (λ c. leads c.key ≡ false → f c ≡ 0) cs → sum_over f (filter (λ c. leads c.key) cs) ≡ sum_over f cs
    filter_same f [] e = refl
    filter_same f (c ∷ cs) e = by (leads c.key) refl (filter_same f cs e.1)
      where
        by : (b : Bool) → leads c.key ≡ b → sum_over f (filter (λ c. leads c.key) cs) ≡ sum_over f cs
            → sum_over f (cond b (c ∷ filter (λ c. leads c.key) cs) (filter (λ c. leads c.key) cs)) ≡ f c + sum_over f cs
        by true is rest = omega (arith, rest)
        by false is rest = let none = e.0 is in omega (arith, rest, none)

    children_taken : (q : ℕ) → Used t q → Each (λ c. Used t c.page) (t.node q).children
    children_taken q u = each_map (ChildFits r t (t.node q).level) (λ c. Used t c.page) (λ c fit. (let low = fit.low in (omega (arith, low), fit.used))) (t.node q).children (legal.pages q u).children

    under_children : (f : ℕ → ℕ) (q : ℕ) → Used t q → under t f q ≡ f q + sum_over (λ c. under t f c.page) (t.node q).children
    under_children f q u =
        let whole = under_is r t legal f q u in
        let shape = sum_over-map (under t f) (λ (c : Child K). c.page) (t.node q).children in
        omega (arith, whole, shape)

    -- whatever is counted, a step leaves at most what lay ahead, without the page that it reads
    pub ahead_less : (f : ℕ → ℕ) (item : TraversalItem) (stack : List TraversalItem) → ItemFits t item
        → ahead t f (stacked t leads item stack) + f item.page ≤ ahead t f (item ∷ stack)
    ahead_less f item stack fit =
        let u = item_used t item fit in
        let parts = ahead_parts t f item fit in
        let whole = under_children f item.page u in
        let below = below_ahead f (t.node item.page).children (children_taken item.page u) in
        let less = filter_less (λ c. under t f c.page) (t.node item.page).children in
        let first = sum_over-append (ahead_of t f) (beyond_of t item) (below_of t leads (t.node item.page).children ++ stack) in
        let second = sum_over-append (ahead_of t f) (below_of t leads (t.node item.page).children) stack in
        omega (arith, parts, whole, below, less, first, second)

    pub pages_fall : (item : TraversalItem) (stack : List TraversalItem) → ItemFits t item → pages_ahead t (stacked t leads item stack) < pages_ahead t (item ∷ stack)
    pages_fall item stack fit = let less = ahead_less (λ q. 1) item stack fit in omega (arith, less)

    stacked_fits : (item : TraversalItem) (stack : List TraversalItem) → ItemFits t item → Each (ItemFits t) stack → Each (ItemFits t) (stacked t leads item stack)
    stacked_fits item stack fit rest =
        let u = item_used t item fit in
        each-append (ItemFits t) (beyond_of t item) (below_of t leads (t.node item.page).children ++ stack) (beyond_fits t item fit)
        (each-append (ItemFits t) (below_of t leads (t.node item.page).children) stack
        (each-map (ItemFits t) (λ (c : Child K). record { page = c.page; seen = t.counter }) (filter (λ c. leads c.key) (t.node item.page).children)
        (each_filter (λ c. ItemFits t (record { page = c.page; seen = t.counter })) (λ c. leads c.key) (t.node item.page).children
        (each_map (λ c. Used t c.page) (λ c. ItemFits t (record { page = c.page; seen = t.counter })) (λ c taken. item_now_fits t c.page taken (nsn_early c.page taken))
        (t.node item.page).children (children_taken item.page u)))) rest)

    module _ (law : IsLawful r) (wants : Pair K → Bool) (consistent : LeadsTo r t wants leads) where
      none_here : (b : K) → leads b ≡ false → (test : Pair K → Bool) (xs : List (Pair K)) → Each (λ x. r.covers b x.key ≡ true) xs
          → Each (λ x. wants x ≡ true → r.covers b x.key ≡ true → leads b ≡ true) xs → how_many (λ x. wants x && test x) xs ≡ 0
      none_here b off test [] covers lead = refl
      none_here b off test (x ∷ xs) covers lead =
          let rest = none_here b off test xs covers.1 lead.1 in
          let here = by (wants x) refl in
          omega (arith, rest, here)
        where
          by : (w : Bool) → wants x ≡ w → one_if (w && test x) ≡ 0
          by true is = let on = lead.0 is covers.0 in let no : ⊥ = cc in absurd no
          by false is = refl

      -- below a bound that leads to nothing wanted there is nothing wanted
      none_down : (test : Pair K → Bool) (b : K) → leads b ≡ false
          → ((q : ℕ) → Used t q → Each (λ x. wants x ≡ true → r.covers b x.key ≡ true → leads b ≡ true) (t.node q).pairs)
          → (k q : ℕ) → Used t q → Bounds r b (t.node q)
          → down t (λ p. how_many (λ x. wants x && test x) (t.node p).pairs) k q ≡ 0
      none_down test b off lead zero q u bound = none_here b off test (t.node q).pairs bound.pairs (lead q u)
      none_down test b off lead (suc k) q u bound =
          let here = none_here b off test (t.node q).pairs bound.pairs (lead q u) in
          let each : Each (λ c. down t (λ p. how_many (λ x. wants x && test x) (t.node p).pairs) k c.page ≡ 0) (t.node q).children =
          each_both (ChildFits r t (t.node q).level) (λ c. r.covers b c.key ≡ true) (λ c. down t (λ p. how_many (λ x. wants x && test x) (t.node p).pairs) k c.page ≡ 0)
          (λ c fit covers. none_down test b off lead k c.page (let low = fit.low in (omega (arith, low), fit.used)) (bounds_through r law b c.key (t.node c.page) covers fit.bounds))
          (t.node q).children (legal.pages q u).children bound.children in
          let shape = sum_over-map (down t (λ p. how_many (λ x. wants x && test x) (t.node p).pairs) k) (λ (c : Child K). c.page) (t.node q).children in
          let none = sum_none (λ c. down t (λ p. how_many (λ x. wants x && test x) (t.node p).pairs) k c.page) (t.node q).children each in
          omega (arith, here, shape, none)
        where
          sum_none : (f : Child K → ℕ) (cs : List (Child K)) → Each (λ c. f c ≡ 0) cs → sum_over f cs ≡ 0
          sum_none f [] e = refl
          sum_none f (c ∷ cs) e = let h = e.0 in let rest = sum_none f cs e.1 in omega (arith, h, rest)

      found_more : (test : Pair K → Bool) (xs : List (Pair K)) → how_many test (filter wants xs) ≡ how_many (λ x. wants x && test x) xs
      found_more test [] = refl
      found_more test (x ∷ xs) = by (wants x) (found_more test xs)
        where
          by : (w : Bool) → how_many test (filter wants xs) ≡ how_many (λ x. wants x && test x) xs
              → how_many test (cond w (x ∷ filter wants xs) (filter wants xs)) ≡ one_if (w && test x) + how_many (λ x. wants x && test x) xs
          by true rest = omega (arith, rest)
          by false rest = omega (arith, rest)

      pub pairs_same : (test : Pair K → Bool) (item : TraversalItem) (stack : List TraversalItem) → ItemFits t item
          → pairs_ahead t (λ x. wants x && test x) (stacked t leads item stack) + how_many (λ x. wants x && test x) (t.node item.page).pairs
          ≡ pairs_ahead t (λ x. wants x && test x) (item ∷ stack)
      pairs_same test item stack fit =
          let f : ℕ → ℕ = λ q. how_many (λ x. wants x && test x) (t.node q).pairs in
          let u = item_used t item fit in
          let parts = ahead_parts t f item fit in
          let whole = under_children f item.page u in
          let below = below_ahead f (t.node item.page).children (children_taken item.page u) in
          let same = filter_same (λ c. under t f c.page) (t.node item.page).children
          (each_both (ChildFits r t (t.node item.page).level)
          (λ c. (q : ℕ) → Used t q → Each (λ x. wants x ≡ true → r.covers c.key x.key ≡ true → leads c.key ≡ true) (t.node q).pairs)
          (λ c. leads c.key ≡ false → under t f c.page ≡ 0)
          (λ c fits lead off. none_down test c.key off lead (t.node c.page).level c.page (let low = fits.low in (omega (arith, low), fits.used)) fits.bounds)
          (t.node item.page).children (legal.pages item.page u).children (consistent item.page u)) in
          let first = sum_over-append (ahead_of t f) (beyond_of t item) (below_of t leads (t.node item.page).children ++ stack) in
          let second = sum_over-append (ahead_of t f) (below_of t leads (t.node item.page).children) stack in
          omega (arith, parts, whole, below, same, first, second)

      pub look_goes_on : (item : TraversalItem) (stack : List TraversalItem) (found : List (Pair K)) → IsLook t wants (item ∷ stack) found
          → IsLook t wants (stacked t leads item stack) (found_with t wants item found)
      look_goes_on item stack found look = record {
        items = stacked_fits item stack (look.items).0 (look.items).1;
        complete = λ test.
            (let before = look.complete test in
            let same = pairs_same test item stack (look.items).0 in
            let got = sum_over-append (λ x. one_if (test x)) found (filter wants (t.node item.page).pairs) in
            let new = found_more test (t.node item.page).pairs in
            omega (arith, before, same, got, new));
        once = λ l.
            (let before = look.once l in
            let less = ahead_less (λ q. one_if (q == l)) item stack (look.items).0 in
            omega (arith, before, less));
      }

-- Where it ends.

pub look_ends : {K : Type 0} (t : Tree K) (wants : Pair K → Bool) (found : List (Pair K)) → IsLook t wants [] found
    → (test : Pair K → Bool) → how_many test found ≡ standing (λ x. wants x && test x) t
look_ends t wants found look test = let whole = look.complete test in omega (arith, whole)

less_wanted : {K : Type 0} (t : Tree K) (wants test : Pair K → Bool) → standing (λ x. wants x && test x) t ≤ standing test t
less_wanted {K} t wants test =
    sum_over_le (λ q. how_many (λ x. wants x && test x) (t.node q).pairs) (λ q. how_many test (t.node q).pairs) (leaves t)
    (each_always (λ q. how_many (λ x. wants x && test x) (t.node q).pairs ≤ how_many test (t.node q).pairs) (λ q. here (t.node q).pairs) (leaves t))
  where
    at : (w b : Bool) → one_if (w && b) ≤ one_if b
    at true b = omega arith
    at false b = omega arith

    here : (xs : List (Pair K)) → how_many (λ x. wants x && test x) xs ≤ how_many test xs
    here xs = sum_over_le (λ x. one_if (wants x && test x)) (λ x. one_if (test x)) xs
        (each_always (λ x. one_if (wants x && test x) ≤ one_if (test x)) (λ x. at (wants x) (test x)) xs)

-- nothing is found twice
pub found_once : {K : Type 0} (r : Rules K) (t : Tree K) → Legal r t → (wants : Pair K → Bool) (stack : List TraversalItem) (found : List (Pair K))
    → IsLook t wants stack found → (row : ℕ) (key : K) → how_many (is_entry r row key) found ≤ 1
found_once r t legal wants stack found look row key =
    let whole = look.complete (is_entry r row key) in
    let less = less_wanted t wants (is_entry r row key) in
    let one = legal.single row key in
    omega (arith, whole, less, one)
