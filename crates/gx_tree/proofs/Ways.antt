-- The entry by which a descent goes down is the only one that names its page.
use Rattle.std.proofs.Common.{◌≡◌, ◌≢◌, ℕ, zero, suc, ◌<◌, ◌≤◌, ◌==◌, true, List, [], ◌∷◌, map, ap, sym, subst, arith, Some}
use Rattle.std.specs.Prelude.{slice_get}
use Rattle.gx_node.specs.Lists.{Each, one_if}
use Rattle.gx_node.specs.Trees.{Child, Tree, Rules, Used, child_pages, times, parents}
use Rattle.gx_node.specs.Legal.{ChildFits, Legal}
use Rattle.gx_node.specs.Writes.{IsDescent}
use Rattle.gx_node.proofs.Chains.{one_at, none_times}
use Rattle.gx_node.proofs.DescentSteps.{descent_goes_down}
use Rattle.gx_node.proofs.Sums.{each_map, each_unmap, total_one}

module _ {K : Type 0} where
  -- what holds of each entry holds of a slot's
  pub each_slot : (P : Child K → Type 0) (cs : List (Child K)) (slot : ℕ) (c : Child K) → slice_get cs slot ≡ Some c → Each P cs → P c
  each_slot P [] slot c at e = cc
  each_slot P (d ∷ ds) zero c at e = let same : d ≡ c = cc in subst P same e.0
  each_slot P (d ∷ ds) (suc slot) c at e = each_slot P ds slot c at e.1

  -- a slot's entry is named
  pub named : (cs : List (Child K)) (slot : ℕ) (c : Child K) → slice_get cs slot ≡ Some c → 0 < times c.page (map (λ d. d.page) cs)
  named [] slot c at = cc
  named (d ∷ ds) zero c at =
      let same : d ≡ c = cc in
      let one : one_if (d.page == c.page) ≡ 1 = one_at d.page c.page (ap (λ (x : Child K). x.page) same) in
      omega (arith, one)
  named (d ∷ ds) (suc slot) c at =
      let more : 0 < times c.page (map (λ d. d.page) ds) = named ds slot c at in
      omega (arith, more)

  -- if one entry names a page, what holds of it holds of each that does
  pub alone : (P : Child K → Type 0) (cs : List (Child K)) (slot : ℕ) (c : Child K) → slice_get cs slot ≡ Some c → P c
      → times c.page (map (λ d. d.page) cs) ≤ 1 → Each (λ d. d.page ≡ c.page → P d) cs
  alone P [] slot c at p once = tt
  alone P (d ∷ ds) zero c at p once =
      let same : d ≡ c = cc in
      let one : one_if (d.page == c.page) ≡ 1 = one_at d.page c.page (ap (λ (x : Child K). x.page) same) in
      let none : times c.page (map (λ d. d.page) ds) ≡ 0 = omega (arith, one, once) in (
        (λ e. subst P (sym same) p),
        each_map (λ x. x.page ≢ c.page) (λ x. x.page ≡ c.page → P x) (λ x ne e. absurd (ne e)) ds
            (each_unmap (λ q. q ≢ c.page) (λ x. x.page) ds (none_times c.page (map (λ d. d.page) ds) none)),
      )
  alone P (d ∷ ds) (suc slot) c at p once =
      let more : 0 < times c.page (map (λ d. d.page) ds) = named ds slot c at in (
        (λ e. (let one : one_if (d.page == c.page) ≡ 1 = one_at d.page c.page e in absurd (omega (arith, one, more, once)))),
        alone P ds slot c at p (omega (arith, once)),
      )

  -- a slot's entry is the only one of its node that names its page
  pub named_once : (r : Rules K) (t : Tree K) → Legal r t → (a slot : ℕ) → Used t a → (c : Child K)
      → slice_get (t.node a).children slot ≡ Some c → times c.page (child_pages (t.node a)) ≤ 1
  named_once r t legal a slot used c at =
      let fits : ChildFits r t (t.node a).level c = each_slot (ChildFits r t (t.node a).level) (t.node a).children slot c at (legal.pages a used).children in
      let one : parents t c.page ≡ 1 = legal.parent c.page fits.low fits.used in
      let here : times c.page (child_pages (t.node a)) ≤ parents t c.page = total_one (λ p. times c.page (child_pages (t.node p))) t.used a used.0 used.1 in
      omega (arith, one, here)

  pub way_down : (r : Rules K) (coming : K) (t : Tree K) → Legal r t → (a slot : ℕ) → Used t a → (c : Child K)
      → slice_get (t.node a).children slot ≡ Some c → r.covers c.key coming ≡ true → IsDescent r t (record { page = c.page; seen = t.counter }) coming
  way_down r coming t legal a slot used c at covers =
      descent_goes_down r coming t legal a c.page used (named (t.node a).children slot c at)
      (alone (λ d. r.covers d.key coming ≡ true) (t.node a).children slot c at covers (named_once r t legal a slot used c at))
