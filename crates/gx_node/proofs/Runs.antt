-- The pages near an item.
use Rattle.std.proofs.Common.{◌≡◌, ℕ, zero, suc, ◌+◌, ◌<◌, ◌≤◌, Bool, true, false, inl, inr, List, [], ◌∷◌, length, refl, ap, ◌∙◌, subst, arith}
use Rattle.std.specs.Prelude.{◌==◌, if◌then◌else◌, nat_lt}
use Rattle.std.proofs.lemmas.Bool.{cases_eq, lt-ltb, le-ltb}
use Rattle.gx_node.specs.Lists.{one_if, Each}
use Rattle.gx_node.specs.Trees.{Tree, Rules, Used, times, child_pages}
use Rattle.gx_node.specs.Legal.{ChildFits, Legal}
use Rattle.gx_node.specs.Reach.{Run, ends, goes, run}
use Rattle.gx_node.proofs.Sums.{each_map, each-map}
use Rattle.gx_node.proofs.Chains.{one_at, one_off}

module _ {K : Type 0} (t : Tree K) (seen : ℕ) where
  pub run_is : {p : ℕ} {xs : List ℕ} → Run t seen p xs → (most : ℕ) → length xs ≤ most → run t most seen p ≡ xs
  run_is (ends u le) zero short = absurd (omega arith)
  run_is {p = p} (ends u le) (suc most) short =
      ap (λ b. p ∷ (if b then run t most seen (t.node p).right else [])) (le-ltb seen (t.node p).nsn le)
  run_is (goes u lt rest) zero short = absurd (omega arith)
  run_is {p = p} (goes u lt rest) (suc most) short =
      ap (λ b. p ∷ (if b then run t most seen (t.node p).right else [])) (lt-ltb seen (t.node p).nsn lt)
      ∙ ap (λ (ys : List ℕ). p ∷ ys) (run_is rest most (omega arith))

  pub length_run : (most p : ℕ) → length (run t most seen p) ≤ most
  length_run zero p = omega arith
  length_run (suc most) p = by (nat_lt seen (t.node p).nsn) (length_run most (t.node p).right)
    where
      by : (b : Bool) → length (run t most seen (t.node p).right) ≤ most → length (p ∷ (if b then run t most seen (t.node p).right else [])) ≤ suc most
      by true le = omega (arith, le)
      by false le = omega arith

  run_unique : {p : ℕ} {xs ys : List ℕ} → Run t seen p xs → Run t seen p ys → xs ≡ ys
  run_unique (ends u le) (ends v m) = refl
  run_unique (ends u le) (goes v m b) = absurd (omega (arith, le, m))
  run_unique (goes u lt a) (ends v m) = absurd (omega (arith, lt, m))
  run_unique {p = p} (goes u lt a) (goes v m b) = ap (λ (zs : List ℕ). p ∷ zs) (run_unique a b)

  run_from : (n : ℕ) {p : ℕ} {xs : List ℕ} → Run t seen p xs → 0 < times n xs → (ys : List ℕ) × Run t seen n ys × (length ys ≤ length xs)
  run_from n {p = p} (ends u le) some = elim (cases_eq p n) [
    | inl same ↦ (p ∷ [], subst (λ q. Run t seen q (p ∷ [])) same (ends u le), omega arith)
    | inr ne ↦ let none = one_off p n ne in absurd (omega (arith, none, some))
  ]
  run_from n {p = p} (goes {qs = qs} u lt rest) some = elim (cases_eq p n) [
    | inl same ↦ (p ∷ qs, subst (λ q. Run t seen q (p ∷ qs)) same (goes u lt rest), omega arith)
    | inr ne ↦
        let none = one_off p n ne in
        let found = run_from n rest (omega (arith, none, some)) in
        (found.0, found.1, (let le = found.2 in omega (arith, le)))
  ]

  once_by : (n p : ℕ) (qs : List ℕ) → Run t seen p (p ∷ qs) → p ≡ n → (0 < times n qs → (ys : List ℕ) × Run t seen n ys × (length ys ≤ length qs))
      → (k : ℕ) → times n qs ≡ k → one_if (p == n) + times n qs ≤ 1
  once_by n p qs whole same found zero is = let one = one_at p n same in omega (arith, one, is)
  once_by n p qs whole same found (suc k) is =
      let again = found (omega (arith, is)) in
      let here : Run t seen n (p ∷ qs) = subst (λ q. Run t seen q (p ∷ qs)) same whole in
      let equal = ap (λ (zs : List ℕ). length zs) (run_unique again.1 here) in
      let le = again.2 in
      absurd (omega (arith, equal, le))

  -- no page is near an item twice
  pub run_once : (n : ℕ) {p : ℕ} {xs : List ℕ} → Run t seen p xs → times n xs ≤ 1
  run_once n {p = p} (ends u le) = elim (cases_eq p n) [
    | inl same ↦ let one = one_at p n same in omega (arith, one)
    | inr ne ↦ let none = one_off p n ne in omega (arith, none)
  ]
  run_once n {p = p} (goes {qs = qs} u lt rest) = elim (cases_eq p n) [
    | inl same ↦ once_by n p qs (goes u lt rest) same (run_from n rest) (times n qs) refl
    | inr ne ↦ let none = one_off p n ne in let more = run_once n rest in omega (arith, none, more)
  ]

  pub each_run : (P : ℕ → Type 0) → ((q : ℕ) → Used t q → P q) → {p : ℕ} {xs : List ℕ} → Run t seen p xs → Each P xs
  each_run P always {p = p} (ends u le) = (always p u, tt)
  each_run P always {p = p} (goes u lt rest) = (always p u, each_run P always rest)

-- the entries of a page name pages in use
pub each_child_used : {K : Type 0} (r : Rules K) (t : Tree K) → Legal r t → (q : ℕ) → Used t q → Each (λ x. Used t x × (2 ≤ x)) (child_pages (t.node q))
each_child_used r t legal q u =
    each-map (λ x. Used t x × (2 ≤ x)) (λ c. c.page) (t.node q).children
    (each_map (ChildFits r t (t.node q).level) (λ c. Used t c.page × (2 ≤ c.page))
    (λ c f. (let low = f.low in ((omega (arith, low), f.used), f.low))) (t.node q).children (legal.pages q u).children)
