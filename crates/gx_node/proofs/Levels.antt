-- There are fewer levels than pages, and few pairs.
use Rattle.std.proofs.Common.{subst, sym, map, ◌≢◌, ◌≡◌, ℕ, zero, suc, ◌+◌, ◌-◌, ◌*◌, ◌<◌, ◌≤◌, Bool, true, false, inl, inr, List, [], ◌∷◌, length, refl, ap, arith}
use Rattle.std.specs.Prelude.{◌==◌}
use Rattle.std.proofs.lemmas.Bool.{cases_eq, cases_lt}
use Rattle.gx_node.specs.Lists.{one_if, how_many, Each, total}
use Rattle.gx_node.specs.Trees.{Pair, Child, Tree, Rules, Used, child_pages, times, standing}
use Rattle.gx_node.specs.Legal.{ChildFits, Legal}
use Rattle.gx_node.proofs.Sums.{total_add, total_le, total_one, total_two, total_none}
use Rattle.gx_node.proofs.Chains.{one_at, one_off, some_child}
use Rattle.gx_node.proofs.Whole.{total_swap, chain_is}

ones : (n : ℕ) → total (λ q. 1) n ≡ n
ones zero = refl
ones (suc n) = let rest = ones n in omega (arith, rest)

constant : (c n : ℕ) → total (λ q. c) n ≡ n * c
constant c zero = omega arith
constant c (suc n) = let rest = constant c n in omega (arith, rest)

at_most_one : (l n : ℕ) → total (λ k. one_if (l == k)) n ≤ 1
at_most_one l zero = omega arith
at_most_one l (suc n) = elim (cases_eq l (suc n)) [
  | inl e ↦
      let one = one_at l (suc n) e in
      let none = total_none (λ k. one_if (l == k)) n (λ k low high. one_off l k (λ z. (omega (arith, z, e, high)))) in
      omega (arith, one, none)
  | inr ne ↦ let none = one_off l (suc n) ne in let rest = at_most_one l n in omega (arith, none, rest)
]

some_total : (f : ℕ → ℕ) (n : ℕ) → 0 < total f n → (p : ℕ) × (0 < p) × (p ≤ n) × (0 < f p)
some_total f zero some = absurd (omega arith)
some_total f (suc n) some = elim (cases_lt 0 (f (suc n))) [
  | inl on ↦ (suc n, omega arith, omega arith, on)
  | inr off ↦ let rest = some_total f n (omega (arith, some, off)) in (rest.0, rest.1, (let h = rest.2 in omega (arith, h)), rest.3)
]

first_child : {K : Type 0} (P : Child K → Type 0) (cs : List (Child K)) → 0 < length cs → Each P cs → (c : Child K) × P c
first_child P [] some e = absurd (omega arith)
first_child P (c ∷ cs) some e = (c, e.0)

module _ {K : Type 0} (r : Rules K) (t : Tree K) (legal : Legal r t) where
  -- a page of each level up to that of a page in use
  page_of_level : (top : ℕ) → Used t top → (d k : ℕ) → k + d ≡ (t.node top).level → (q : ℕ) × Used t q × ((t.node q).level ≡ k)
  page_of_level top taken zero k e = (top, taken, omega (arith, e))
  page_of_level top taken (suc d) k e =
      let above = page_of_level top taken d (suc k) (omega (arith, e)) in
      let u = above.1 in
      let fit = legal.pages above.0 u in
      let level = above.2 in
      let child = first_child (ChildFits r t (t.node above.0).level) (t.node above.0).children (fit.inner (omega (arith, level))).1 fit.children in
      let f = child.1 in
      let low = f.low in
      ((child.0).page, (omega (arith, low), f.used), (let l = f.level in omega (arith, l, level)))

  -- so many pages have a child of this level, or would
  abbrev pages_below : ℕ → ℕ
  pages_below k = total (λ q. one_if (suc (t.node q).level == k)) t.used

  -- what is at most the pages of each level is in all at most the pages
  counted : (many : ℕ → ℕ) (above : ℕ) → ((k : ℕ) → 0 < k → k ≤ above → many k ≤ pages_below k) → total many above ≤ t.used
  counted many above each =
      let low : total many above ≤ total pages_below above = total_le many pages_below above each in
      let swap : total pages_below above ≡ total (λ q. total (λ k. one_if (suc (t.node q).level == k)) above) t.used =
      total_swap (λ k q. one_if (suc (t.node q).level == k)) above t.used in
      let most : total (λ q. total (λ k. one_if (suc (t.node q).level == k)) above) t.used ≤ total (λ q. 1) t.used =
      total_le (λ q. total (λ k. one_if (suc (t.node q).level == k)) above) (λ q. 1) t.used (λ q low high. at_most_one (suc (t.node q).level) above) in
      let pages : total (λ q. 1) t.used ≡ t.used = ones t.used in
      omega (arith, low, swap, most, pages)

  some_page : (top : ℕ) → Used t top → (k : ℕ) → 0 < k → k ≤ suc (t.node top).level → 1 ≤ pages_below k
  some_page top taken zero low high = absurd (omega arith)
  some_page top taken (suc k) low high = gap_by k ((t.node top).level - k) (omega (arith, high))
    where
      gap_by : (k d : ℕ) → k + d ≡ (t.node top).level → 1 ≤ pages_below (suc k)
      gap_by k d e =
          let page = page_of_level top taken d k e in
          let u = page.1 in
          let one = one_at (suc (t.node page.0).level) (suc k) (ap (λ l. suc l) page.2) in
          let le = total_one (λ q. one_if (suc (t.node q).level == suc k)) t.used page.0 u.0 u.1 in
          omega (arith, one, le)

  pub level_below_used : (top : ℕ) → Used t top → (t.node top).level < t.used
  level_below_used top taken =
      let above : ℕ = suc (t.node top).level in
      let all = counted (λ k. 1) above (λ k low high. some_page top taken k low high) in
      let count : total (λ k. 1) above ≡ above = ones above in
      omega (arith, all, count)

  -- If the root has two children, two pages are one level below it, and at least one is on each other level.
  pub root_below_used : Used t 1 → 2 ≤ length (t.node 1).children → (t.node 1).level + 2 ≤ t.used
  root_below_used taken two = by (t.node 1).children refl
    where
      top : ℕ
      top = (t.node 1).level

      twice : (a b : Child K) (cs : List (Child K)) → b.page ≡ a.page → 2 ≤ times a.page (map (λ (c : Child K). c.page) (a ∷ b ∷ cs))
      twice a b cs same = let one = one_at a.page a.page refl in let other = one_at b.page a.page same in omega (arith, one, other)

      by : (children : List (Child K)) → (t.node 1).children ≡ children → top + 2 ≤ t.used
      by [] is = let none = ap (λ (cs : List (Child K)). length cs) is in absurd (omega (arith, two, none))
      by (a ∷ []) is = let one = ap (λ (cs : List (Child K)). length cs) is in absurd (omega (arith, two, one))
      by (a ∷ b ∷ cs) is =
          let fits : Each (ChildFits r t top) (a ∷ b ∷ cs) = subst (λ (xs : List (Child K)). Each (ChildFits r t top) xs) is (legal.pages 1 taken).children in
          let fa : ChildFits r t top a = fits.0 in
          let fb : ChildFits r t top b = fits.1.0 in
          let low_a = fa.low in
          let low_b = fb.low in
          let level_a = fa.level in
          let apart : a.page ≢ b.page = λ same.
          (let parents = legal.parent a.page low_a fa.used in
          let here = total_one (λ p. times a.page (child_pages (t.node p))) t.used 1 taken.0 taken.1 in
          let names = ap (λ (xs : List (Child K)). times a.page (map (λ (c : Child K). c.page) xs)) is in
          let more = twice a b cs (sym same) in
          omega (arith, parents, here, names, more)) in
          let at_a = one_at (suc (t.node a.page).level) top fa.level in
          let at_b = one_at (suc (t.node b.page).level) top fb.level in
          let both = total_two (λ q. one_if (suc (t.node q).level == top)) t.used a.page b.page (omega (arith, low_a)) fa.used (omega (arith, low_b)) fb.used apart in
          let many : ℕ → ℕ = λ k. 1 + one_if (top == k) in
          let each : (k : ℕ) → 0 < k → k ≤ suc top → many k ≤ pages_below k = λ k low high. elim (cases_eq top k) [
            | inl e ↦
                let one = one_at top k e in
                let same = ap pages_below (sym e) in
                omega (arith, one, same, at_a, at_b, both)
            | inr ne ↦ let none = one_off top k ne in let some = some_page 1 taken k low high in omega (arith, none, some)
          ] in
          let all = counted many (suc top) each in
          let sum = total_add (λ k. 1) (λ k. one_if (top == k)) (suc top) in
          let count = ones (suc top) in
          let one = one_at top top refl in
          let share = total_one (λ k. one_if (top == k)) (suc top) top (omega (arith, level_a)) (omega arith) in
          omega (arith, all, sum, count, one, share)

  -- each page but the root has a parent, one level above it
  pub parent_of : (q : ℕ) → Used t q → q ≢ 1 → (p : ℕ) × Used t p × (suc (t.node q).level ≡ (t.node p).level)
  parent_of q u ne =
      let low = u.0 in
      let one = legal.parent q (omega (arith, low, ne)) u.1 in
      let up = some_total (λ p. times q (child_pages (t.node p))) t.used (omega (arith, one)) in
      (up.0, (up.1, up.2), level_above q up.0 (up.1, up.2) up.3)
    where
      level_above : (q p : ℕ) → Used t p → 0 < times q (child_pages (t.node p)) → suc (t.node q).level ≡ (t.node p).level
      level_above q p taken named =
          let pick = some_child (ChildFits r t (t.node p).level) q (t.node p).children named (legal.pages p taken).children in
          subst (λ x. suc (t.node x).level ≡ (t.node p).level) pick.2 (pick.1).level

  -- no page is above the root
  below_root : (d q : ℕ) → Used t q → t.used ≤ (t.node q).level + d → (t.node q).level ≤ (t.node 1).level
  below_root zero q u far = let below = level_below_used q u in absurd (omega (arith, below, far))
  below_root (suc d) q u far = elim (cases_eq q 1) [
    | inl e ↦ let same = ap (λ x. (t.node x).level) e in omega (arith, same)
    | inr ne ↦
        let up = parent_of q u ne in
        let above = up.2 in
        let rest = below_root d up.0 up.1 (omega (arith, above, far)) in
        omega (arith, rest, above)
  ]

  pub level_most : (q : ℕ) → Used t q → (t.node q).level ≤ (t.node 1).level
  level_most q u = below_root t.used q u (omega arith)

  few : (test : Pair K → Bool) (xs : List (Pair K)) → how_many test xs ≤ length xs
  few test [] = omega arith
  few test (x ∷ xs) = let rest = few test xs in let one = at_most (test x) in omega (arith, rest, one)
    where
      at_most : (b : Bool) → one_if b ≤ 1
      at_most true = omega arith
      at_most false = omega arith

  pub standing_most : (test : Pair K → Bool) → standing test t ≤ t.used * r.most
  standing_most test =
      let all = chain_is r t legal (λ q. how_many test (t.node q).pairs) (λ q u up. ap (λ (xs : List (Pair K)). how_many test xs) ((legal.pages q u).inner up).0) in
      let each : total (λ q. how_many test (t.node q).pairs) t.used ≤ total (λ q. r.most) t.used =
      total_le (λ q. how_many test (t.node q).pairs) (λ q. r.most) t.used
      (λ q low high. (let le = few test (t.node q).pairs in let room = (legal.pages q (low, high)).room in omega (arith, le, room))) in
      let count = constant r.most t.used in
      omega (arith, all, each, count)
