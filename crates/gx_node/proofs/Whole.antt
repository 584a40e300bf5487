-- Each page lies below the root once, and each leaf on the chain once.
use Rattle.std.proofs.Common.{◌≡◌, ◌≢◌, ℕ, zero, suc, ◌+◌, ◌*◌, ◌<◌, ◌≤◌, Bool, inl, inr, List, [], ◌∷◌, map, refl, ap, sym, ◌∙◌, arith}
use Rattle.std.specs.Prelude.{◌==◌}
use Rattle.std.proofs.lemmas.Bool.{cases_eq}
use Rattle.gx_node.specs.Lists.{sum_over, one_if, how_many, Each, total}
use Rattle.gx_node.specs.Trees.{Pair, Child, Tree, Rules, Used, child_pages, times, parents, leaves, standing}
use Rattle.gx_node.specs.Legal.{ChildFits, Legal}
use Rattle.gx_node.specs.Reach.{down, under}
use Rattle.gx_node.proofs.Sums.{sum_over_same, each_map, each-map, total_same, total_add, total_none, at_page, at_page_same, at_page_other, total_at_page}
use Rattle.gx_node.proofs.Chains.{one_at, one_off, times_none, each_linked}
use Rattle.gx_node.proofs.Runs.{each_child_used}

share : (F : ℕ → ℕ) (y x : ℕ) → one_if (y == x) * F x ≡ at_page y (F y) x
share F y x = elim (cases_eq y x) [
  | inl e ↦
      let one = one_at y x e in
      let here = ap (λ z. at_page y (F y) z) (sym e) ∙ at_page_same y (F y) in
      let value = ap F e in
      let product = ap (λ k. k * F x) one in
      omega (arith, product, here, value)
  | inr ne ↦
      let none = one_off y x ne in
      let away = at_page_other y (F y) x (λ e. ne (sym e)) in
      let product = ap (λ k. k * F x) none in
      omega (arith, product, away)
]

-- a sum over a list of pages, page by page
pub by_page : (F : ℕ → ℕ) (n : ℕ) (xs : List ℕ) → Each (λ x. (0 < x) × (x ≤ n)) xs → sum_over F xs ≡ total (λ x. times x xs * F x) n
by_page F n [] e = sym (total_none (λ x. 0 * F x) n (λ q low high. omega arith))
by_page F n (y ∷ ys) e =
    let rest : sum_over F ys ≡ total (λ x. times x ys * F x) n = by_page F n ys e.1 in
    let each : total (λ x. (one_if (y == x) + times x ys) * F x) n ≡ total (λ x. at_page y (F y) x + times x ys * F x) n =
    total_same (λ x. (one_if (y == x) + times x ys) * F x) (λ x. at_page y (F y) x + times x ys * F x) n
    (λ q low high. (let s = share F y q in omega (arith, s))) in
    let add : total (λ x. at_page y (F y) x + times x ys * F x) n ≡ total (at_page y (F y)) n + total (λ x. times x ys * F x) n =
    total_add (at_page y (F y)) (λ x. times x ys * F x) n in
    let here : total (at_page y (F y)) n ≡ F y = total_at_page y (F y) n (e.0).0 (e.0).1 in
    omega (arith, rest, each, add, here)

total_scale : (A : ℕ → ℕ) (c n : ℕ) → total (λ q. A q * c) n ≡ total A n * c
total_scale A c zero = omega arith
total_scale A c (suc n) = let rest = total_scale A c n in omega (arith, rest)

pub total_swap : (A : ℕ → ℕ → ℕ) (m n : ℕ) → total (λ q. total (λ x. A q x) n) m ≡ total (λ x. total (λ q. A q x) m) n
total_swap A zero n = sym (total_none (λ x. 0) n (λ q low high. refl))
total_swap A (suc m) n =
    let rest = total_swap A m n in
    let add = total_add (λ x. A (suc m) x) (λ x. total (λ q. A q x) m) n in
    omega (arith, rest, add)

module _ {K : Type 0} (r : Rules K) (t : Tree K) (legal : Legal r t) (f : ℕ → ℕ) where
  under_by : (q k : ℕ) → Used t q → (t.node q).level ≡ k → down t f k q ≡ f q + sum_over (under t f) (child_pages (t.node q))
  under_by q zero u is =
      let none = ap (λ (cs : List (Child K)). sum_over (under t f) (map (λ c. c.page) cs)) ((legal.pages q u).leaf is) in
      omega (arith, none)
  under_by q (suc k) u is =
      let same : sum_over (down t f k) (child_pages (t.node q)) ≡ sum_over (under t f) (child_pages (t.node q)) =
      sum_over_same (down t f k) (under t f) (child_pages (t.node q))
      (each-map (λ x. down t f k x ≡ under t f x) (λ c. c.page) (t.node q).children
      (each_map (ChildFits r t (t.node q).level) (λ c. down t f k c.page ≡ under t f c.page)
      (λ c fit. ap (λ l. down t f l c.page) (let l = fit.level in omega (arith, l, is))) (t.node q).children (legal.pages q u).children)) in
      omega (arith, same)

  -- what lies at or under a page is the page, and what lies at or under those that it names
  pub under_is : (q : ℕ) → Used t q → under t f q ≡ f q + sum_over (under t f) (child_pages (t.node q))
  under_is q u = under_by q (t.node q).level u refl

  root_unnamed : parents t 1 ≡ 0
  root_unnamed = total_none (λ q. times 1 (child_pages (t.node q))) t.used
      (λ q low high. times_none 1 (child_pages (t.node q))
      (each_map (λ x. Used t x × (2 ≤ x)) (λ x. x ≢ 1) (λ x taken e. (let h = taken.1 in absurd (omega (arith, e, h)))) (child_pages (t.node q))
      (each_child_used r t legal q (low, high))))

  named_once : (x : ℕ) → 0 < x → x ≤ t.used → parents t x * under t f x + at_page 1 (under t f 1) x ≡ under t f x
  named_once x low high = elim (cases_eq x 1) [
    | inl e ↦
        let none = ap (λ z. parents t z) e ∙ root_unnamed in
        let here = ap (λ z. at_page 1 (under t f 1) z) e ∙ at_page_same 1 (under t f 1) in
        let value = ap (λ z. under t f z) e in
        let product = ap (λ k. k * under t f x) none in
        omega (arith, product, here, value)
    | inr ne ↦
        let one = legal.parent x (omega (arith, low, ne)) high in
        let away = at_page_other 1 (under t f 1) x ne in
        let product = ap (λ k. k * under t f x) one in
        omega (arith, product, away)
  ]

  -- below the root lies each page in use, once
  pub under_root : under t f 1 ≡ total f t.used
  under_root =
      let G : ℕ → ℕ = under t f in
      let far = legal.counter in
      let parts : total G t.used ≡ total (λ q. f q + sum_over G (child_pages (t.node q))) t.used =
      total_same G (λ q. f q + sum_over G (child_pages (t.node q))) t.used (λ q low high. under_is q (low, high)) in
      let add : total (λ q. f q + sum_over G (child_pages (t.node q))) t.used ≡ total f t.used + total (λ q. sum_over G (child_pages (t.node q))) t.used =
      total_add f (λ q. sum_over G (child_pages (t.node q))) t.used in
      let pages : total (λ q. sum_over G (child_pages (t.node q))) t.used ≡ total (λ q. total (λ x. times x (child_pages (t.node q)) * G x) t.used) t.used =
      total_same (λ q. sum_over G (child_pages (t.node q))) (λ q. total (λ x. times x (child_pages (t.node q)) * G x) t.used) t.used
      (λ q low high. by_page G t.used (child_pages (t.node q))
      (each_map (λ x. Used t x × (2 ≤ x)) (λ x. (0 < x) × (x ≤ t.used)) (λ x taken. taken.0) (child_pages (t.node q)) (each_child_used r t legal q (low, high)))) in
      let swap : total (λ q. total (λ x. times x (child_pages (t.node q)) * G x) t.used) t.used ≡ total (λ x. total (λ q. times x (child_pages (t.node q)) * G x) t.used) t.used =
      total_swap (λ q x. times x (child_pages (t.node q)) * G x) t.used t.used in
      let scale : total (λ x. total (λ q. times x (child_pages (t.node q)) * G x) t.used) t.used ≡ total (λ x. parents t x * G x) t.used =
      total_same (λ x. total (λ q. times x (child_pages (t.node q)) * G x) t.used) (λ x. parents t x * G x) t.used
      (λ x low high. total_scale (λ q. times x (child_pages (t.node q))) (G x) t.used) in
      let once : total (λ x. parents t x * G x + at_page 1 (G 1) x) t.used ≡ total G t.used =
      total_same (λ x. parents t x * G x + at_page 1 (G 1) x) G t.used named_once in
      let root : total (λ x. parents t x * G x + at_page 1 (G 1) x) t.used ≡ total (λ x. parents t x * G x) t.used + total (at_page 1 (G 1)) t.used =
      total_add (λ x. parents t x * G x) (at_page 1 (G 1)) t.used in
      let one : total (at_page 1 (G 1)) t.used ≡ G 1 = total_at_page 1 (G 1) t.used (omega arith) (omega (arith, far)) in
      omega (arith, parts, add, pages, swap, scale, once, root, one)

  -- what leaves alone have, the chain has as all pages do
  pub chain_is : ((q : ℕ) → Used t q → 0 < (t.node q).level → f q ≡ 0) → sum_over f (leaves t) ≡ total f t.used
  chain_is none =
      by_page f t.used (leaves t) (each_linked (λ x. (0 < x) × (x ≤ t.used)) t 2 (leaves t) (λ q u leaf. u) legal.chain)
      ∙ total_same (λ x. times x (leaves t) * f x) f t.used (λ x low high. by_level x (t.node x).level (low, high) refl)
    where
      by_level : (x k : ℕ) → Used t x → (t.node x).level ≡ k → times x (leaves t) * f x ≡ f x
      by_level x zero u is = let product = ap (λ k. k * f x) (legal.once x u is) in omega (arith, product)
      by_level x (suc k) u is =
          let no : f x ≡ 0 = none x u (omega (arith, is)) in
          let product = ap (λ z. times x (leaves t) * z) no in
          omega (arith, product, no)

-- the tree's pairs lie below the root
pub standing_under_root : {K : Type 0} (r : Rules K) (t : Tree K) → Legal r t → (test : Pair K → Bool)
    → under t (λ q. how_many test (t.node q).pairs) 1 ≡ standing test t
standing_under_root {K} r t legal test =
    under_root r t legal (λ q. how_many test (t.node q).pairs)
    ∙ sym (chain_is r t legal (λ q. how_many test (t.node q).pairs)
    (λ q u up. ap (λ (xs : List (Pair K)). how_many test xs) ((legal.pages q u).inner up).0))
