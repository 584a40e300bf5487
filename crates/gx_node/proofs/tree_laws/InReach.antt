-- What lies ahead lies in the reach of an item.
use Rattle.std.proofs.Common.{ℕ, zero, suc, ◌<◌, Bool, ◌&&◌, inl, inr, List, [], ◌∷◌, refl, arith}
use Rattle.std.proofs.lemmas.Bool.{cases_lt}
use Rattle.gx_node.specs.Lists.{sum_over, how_many, Each, SomeOf}
use Rattle.gx_node.specs.Trees.{Pair, Tree, child_pages, times, standing}
use Rattle.gx_node.specs.Reach.{TraversalItem, Near, here, beyond, Under, itself, below, InReach, Run, ends, goes, down, under, ahead_of, ahead}
use Rattle.gx_node.specs.Looks.{ItemFits, IsLook}
use Rattle.gx_node.proofs.Chains.{one_at}

module _ {K : Type 0} (t : Tree K) where
  some_page : (F : ℕ → ℕ) (xs : List ℕ) → 0 < sum_over F xs → (x : ℕ) × (0 < times x xs) × (0 < F x)
  some_page F [] some = absurd (omega arith)
  some_page F (x ∷ xs) some = elim (cases_lt 0 (F x)) [
    | inl on ↦ (x, (let one = one_at x x refl in omega (arith, one)), on)
    | inr off ↦ let rest = some_page F xs (omega (arith, off, some)) in (rest.0, (let h = rest.1 in omega (arith, h)), rest.2)
  ]

  some_under : (f : ℕ → ℕ) (k q : ℕ) → 0 < down t f k q → (l : ℕ) × Under t l q × (0 < f l)
  some_under f zero q some = (q, itself, some)
  some_under f (suc k) q some = elim (cases_lt 0 (f q)) [
    | inl on ↦ (q, itself, on)
    | inr off ↦
        let child = some_page (down t f k) (child_pages (t.node q)) (omega (arith, off, some)) in
        let rest = some_under f k child.0 child.2 in
        (rest.0, below child.1 rest.1, rest.2)
  ]

  some_near : (F : ℕ → ℕ) (seen : ℕ) {p : ℕ} {xs : List ℕ} → Run t seen p xs → 0 < sum_over F xs → (q : ℕ) × Near t seen q p × (0 < F q)
  some_near F seen {p = p} (ends u le) some = (p, here, omega (arith, some))
  some_near F seen {p = p} (goes u lt rest) some = elim (cases_lt 0 (F p)) [
    | inl on ↦ (p, here, on)
    | inr off ↦ let further = some_near F seen rest (omega (arith, off, some)) in (further.0, beyond lt further.1, further.2)
  ]

  reached : (f : ℕ → ℕ) (item : TraversalItem) → ItemFits t item → 0 < ahead_of t f item → (l : ℕ) × InReach t item l × (0 < f l)
  reached f item fit some =
      let near = some_near (under t f) item.seen fit.run some in
      let under_it = some_under f (t.node near.0).level near.0 near.2 in
      (under_it.0, record { near = near.0; is_near = near.1; is_under = under_it.1 }, under_it.2)

  pub ahead_in_reach : (f : ℕ → ℕ) (stack : List TraversalItem) → Each (ItemFits t) stack → 0 < ahead t f stack
      → SomeOf (λ item. (l : ℕ) × InReach t item l × (0 < f l)) stack
  ahead_in_reach f [] fits some = omega arith
  ahead_in_reach f (item ∷ stack) fits some = elim (cases_lt 0 (ahead_of t f item)) [
    | inl on ↦ inl (reached f item fits.0 on)
    | inr off ↦ inr (ahead_in_reach f stack fits.1 (omega (arith, off, some)))
  ]

  pub wanted_in_reach : (wants test : Pair K → Bool) (stack : List TraversalItem) (found : List (Pair K)) → IsLook t wants stack found
      → how_many test found < standing (λ x. wants x && test x) t
      → SomeOf (λ item. (l : ℕ) × InReach t item l × (0 < how_many (λ x. wants x && test x) (t.node l).pairs)) stack
  wanted_in_reach wants test stack found look more =
      let whole = look.complete test in
      ahead_in_reach (λ q. how_many (λ x. wants x && test x) (t.node q).pairs) stack look.items (omega (arith, whole, more))
