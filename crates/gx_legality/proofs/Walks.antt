-- The chain of rightlinks, followed by marks.
use Rattle.std.proofs.Common.{◌≡◌, ◌≢◌, ℕ, zero, suc, ◌+◌, ◌<◌, ◌≤◌, Bool, true, false, ◌⊎◌, inl, inr, List, [], ◌∷◌, ◌++◌, length, length-append, get_or, Option, Some, None, refl, ap, sym, ◌∙◌, subst, arith}
use Rattle.std.specs.Prelude.{◌==◌, if◌then◌else◌}
use Rattle.std.proofs.lemmas.Bool.{cases_eq, cases_lt, eqb-true, ne_eqb, eq-eqb}
use Rattle.gx_node.specs.Lists.{Each, one_if, total}
use Rattle.gx_node.specs.Trees.{Node, Tree, Used, times, walk, leaves}
use Rattle.gx_node.specs.Legal.{Linked}
use Rattle.gx_node.proofs.Chains.{one_at, one_off, walk_is}
use Rattle.gx_node.proofs.Sums.{at_page, at_page_same, at_page_other, sum_over-append, total_add, total_at_page, total_none, total_same}
use Rattle.gx_legality.specs.Breaks.{Leads}
use Rattle.gx_legality.specs.Marks.{AreLinks, link_of, marked}

some_past : (links : List (Option ℕ)) (p right : ℕ) → get_or links p None ≡ Some right → p < length links
some_past [] p right e = absurd (cc)
some_past (x ∷ xs) zero right e = omega arith
some_past (x ∷ xs) (suc p) right e = let rest = some_past xs p right e in omega (arith, rest)

marked_most : (passed : List Bool) (q : ℕ) → marked passed q ≤ 1
marked_most passed q = by_bool (get_or passed q false)
  where
    by_bool : (b : Bool) → one_if b ≤ 1
    by_bool true = omega arith
    by_bool false = omega arith

-- if each page counts once at most, and one doesn't, they are fewer than the pages
total_most : (f : ℕ → ℕ) (n : ℕ) → ((q : ℕ) → f q ≤ 1) → total f n ≤ n
total_most f zero most = omega arith
total_most f (suc n) most = let here = most (suc n) in let rest = total_most f n most in omega (arith, here, rest)

total_short : (f : ℕ → ℕ) (n a : ℕ) → ((q : ℕ) → f q ≤ 1) → f a ≡ 0 → 0 < a → a ≤ n → total f n < n
total_short f zero a most none low high = absurd (omega arith)
total_short f (suc n) a most none low high = elim (cases_eq a (suc n)) [
  | inl same ↦
      let here : f (suc n) ≡ 0 = ap f (sym same) ∙ none in
      let rest = total_most f n most in
      omega (arith, here, rest)
  | inr ne ↦
      let here = most (suc n) in
      let rest = total_short f n a most none low (omega (arith, ne, high)) in
      omega (arith, here, rest)
]

module _ {K : Type 0} where
  -- of a walk that goes on: the pages that it passed, which lead to the one that it has come to, and how many steps are left
  pub record Walks (t : Tree K) (passed : List Bool) (left page : ℕ) : Type 0 where
    pub pages : List ℕ
    pub led : Leads t 2 pages page
    pub long : length pages + left ≡ t.used
    pub each : (q : ℕ) → times q pages ≡ marked passed q

  pub walk_on : (t : Tree K) (left page : ℕ) → page ≢ 0 → walk t (suc left) page ≡ page ∷ walk t left (t.node page).right
  walk_on t left page some = ap (λ b. if b then [] else (page ∷ walk t left (t.node page).right)) (ne_eqb page 0 some)

  pub walk_none : (t : Tree K) (left : ℕ) → walk t left 0 ≡ []
  walk_none t zero = refl
  walk_none t (suc left) = refl

  pub walk_begins : (t : Tree K) (passed : List Bool) (left : ℕ) → left ≡ t.used → ((q : ℕ) → marked passed q ≡ 0) → Walks t passed left 2
  walk_begins t passed left all none = record {
    pages = [];
    led = refl;
    long = omega (arith, all);
    each = λ q. sym (none q);
  }

  led_more : (t : Tree K) (a p : ℕ) (qs : List ℕ) → Leads t a qs p → Used t p → (t.node p).level ≡ 0 → Leads t a (qs ++ p ∷ []) (t.node p).right
  led_more t a p [] led used leaf = (led, used, leaf, refl)
  led_more t a p (q ∷ qs) led used leaf = (led.0, led.1, led.2, led_more t (t.node q).right p qs led.3 used leaf)

  pub walk_goes : (t : Tree K) (passed more : List Bool) (long left page : ℕ) → long ≡ suc left → Walks t passed long page
      → Used t page → (t.node page).level ≡ 0
      → ((q : ℕ) → marked more q ≡ marked passed q + one_if (page == q)) → Walks t more left (t.node page).right
  walk_goes t passed more long left page is walks used leaf marks = record {
    pages = walks.pages ++ page ∷ [];
    led = led_more t 2 page walks.pages walks.led used leaf;
    long = let all = length-append walks.pages (page ∷ []) in let was = walks.long in omega (arith, all, was, is);
    each = λ q. (
        let all = sum_over-append (λ x. one_if (x == q)) walks.pages (page ∷ []) in
        let was = walks.each q in
        let mark = marks q in
        omega (arith, all, was, mark)
        );
  }

  led_end : (t : Tree K) (a : ℕ) (qs : List ℕ) → Leads t a qs 0 → Linked t a qs
  led_end t a [] led = led
  led_end t a (q ∷ qs) led = (led.0, led.1, led.2, led_end t (t.node q).right qs led.3)

  pub walk_ends : (t : Tree K) (passed : List Bool) (left page : ℕ) → page ≡ 0 → Walks t passed left page
      → Linked t 2 (leaves t) × ((q : ℕ) → times q (leaves t) ≡ marked passed q)
  walk_ends t passed left page end walks =
      let linked = led_end t 2 walks.pages (subst (λ p. Leads t 2 walks.pages p) end walks.led) in
      let long = walks.long in
      let same : leaves t ≡ walks.pages = walk_is t walks.pages 2 t.used linked (omega (arith, long)) in (
        subst (λ qs. Linked t 2 qs) (sym same) linked,
        λ q. ap (times q) same ∙ walks.each q,
      )

  led_within : (t : Tree K) (a p : ℕ) (qs : List ℕ) → Leads t a qs p → Each (Used t) qs
  led_within t a p [] led = tt
  led_within t a p (q ∷ qs) led = (led.1, led_within t (t.node q).right p qs led.3)

  -- pages in use are counted page by page
  total_times : (t : Tree K) (qs : List ℕ) → Each (Used t) qs → total (λ q. times q qs) t.used ≡ length qs
  total_times t [] within = total_none (λ q. 0) t.used (λ q low high. refl)
  total_times t (x ∷ xs) within =
      let both = total_add (λ q. one_if (x == q)) (λ q. times q xs) t.used in
      let one = total_at_page x 1 t.used within.0.0 within.0.1 in
      let here = total_same (λ q. one_if (x == q)) (at_page x 1) t.used (λ q low high. one_sided x q (cases_eq x q)) in
      let rest = total_times t xs within.1 in
      omega (arith, both, one, here, rest)
    where
      one_sided : (x q : ℕ) → (x ≡ q) ⊎ (x ≢ q) → one_if (x == q) ≡ at_page x 1 q
      one_sided x q (inl same) = one_at x q same ∙ sym (ap (λ k. at_page x 1 k) (sym same) ∙ at_page_same x 1)
      one_sided x q (inr ne) = one_off x q ne ∙ sym (at_page_other x 1 q (λ same. ne (sym same)))

  -- it has made all its steps, so it has passed each page in use
  pub walk_is_long : (t : Tree K) (passed : List Bool) (left page : ℕ) → left ≡ 0 → Walks t passed left page → page ≢ 0
      → (0 < page) × (pages : List ℕ) × Leads t 2 pages page × ((Used t page → (t.node page).level ≡ 0 → ⊥) ⊎ (0 < times page pages))
  walk_is_long t passed left page is walks some = (omega (arith, some), walks.pages, walks.led, by_times (cases_lt 0 (times page walks.pages)))
    where
      by_times : (0 < times page walks.pages) ⊎ (times page walks.pages ≤ 0) → (Used t page → (t.node page).level ≡ 0 → ⊥) ⊎ (0 < times page walks.pages)
      by_times (inl again) = inr again
      by_times (inr none) = inl (λ used leaf. (
          let all = total_times t walks.pages (led_within t 2 page walks.pages walks.led) in
          let long = walks.long in
          let short = total_short (λ q. times q walks.pages) t.used page
          (λ q. (let each = walks.each q in let most = marked_most passed q in omega (arith, each, most))) (omega (arith, none)) used.0 used.1 in
          omega (arith, all, long, is, short)
          ))

  link_at : (node : Node K) (right : ℕ) (b : Bool) → (node.level == 0) ≡ b → (if b then Some node.right else None) ≡ Some right
      → (node.level ≡ 0) × (right ≡ node.right)
  link_at node right true is e = (eqb-true node.level 0 is, cc)
  link_at node right false is e = absurd (cc)

  -- if a rightlink is kept there is a leaf
  pub linked_leaf : (t : Tree K) (links : List (Option ℕ)) (p right : ℕ) → AreLinks t links → get_or links p None ≡ Some right
      → Used t p × ((t.node p).level ≡ 0) × (right ≡ (t.node p).right)
  linked_leaf t links zero right are e = absurd (let none = are.none in cc)
  linked_leaf t links (suc p) right are e =
      let low = some_past links (suc p) right e in
      let long = are.length in
      let used : Used t (suc p) = (omega arith, omega (arith, low, long)) in
      let leaf = link_at (t.node (suc p)) right ((t.node (suc p)).level == 0) refl (sym (are.each (suc p) used) ∙ e) in
      (used, leaf.0, leaf.1)

  leaf_link : (node : Node K) → node.level ≡ 0 → link_of node ≡ Some node.right
  leaf_link node leaf = ap (λ b. if b then Some node.right else None) (eq-eqb node.level 0 leaf)

  -- if there is a leaf its rightlink is kept
  pub leaf_linked : (t : Tree K) (links : List (Option ℕ)) (p : ℕ) → AreLinks t links → Used t p → (t.node p).level ≡ 0
      → get_or links p None ≡ Some (t.node p).right
  leaf_linked t links p are used leaf = are.each p used ∙ leaf_link (t.node p) leaf

  pub no_leaf_linked : (t : Tree K) (links : List (Option ℕ)) (p : ℕ) → AreLinks t links → get_or links p None ≡ None
      → Used t p → (t.node p).level ≡ 0 → ⊥
  no_leaf_linked t links p are none used leaf = let some = leaf_linked t links p are used leaf in cc

  -- the walk can't go on: it has come to a page that is no leaf, or to one a second time
  pub walk_stops : (t : Tree K) (links : List (Option ℕ)) (passed : List Bool) (left page : ℕ) → AreLinks t links
      → Walks t passed left page → page ≢ 0 → (get_or links page None ≡ None) ⊎ (1 ≤ marked passed page)
      → (0 < page) × (pages : List ℕ) × Leads t 2 pages page × ((Used t page → (t.node page).level ≡ 0 → ⊥) ⊎ (0 < times page pages))
  walk_stops t links passed left page are walks some (inl none) =
      (omega (arith, some), walks.pages, walks.led, inl (no_leaf_linked t links page are none))
  walk_stops t links passed left page are walks some (inr again) =
      let each = walks.each page in
      (omega (arith, some), walks.pages, walks.led, inr (omega (arith, each, again)))
