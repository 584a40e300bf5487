-- The order of a look's stack doesn't matter.
use Rattle.std.proofs.Common.{◌≡◌, ℕ, ◌+◌, ◌<◌, ◌≤◌, ◌&&◌, ◌==◌, Bool, List, [], ◌∷◌, ◌++◌, map, filter, length, refl, ap, sym, ◌∙◌, subst, arith}
use Rattle.std.proofs.lemmas.List.{append_assoc}
use Rattle.gx_node.specs.Lists.{one_if, how_many}
use Rattle.gx_node.specs.Trees.{Pair, Tree, Rules, IsLawful, Used}
use Rattle.gx_node.specs.Legal.{Legal}
use Rattle.gx_node.specs.Reach.{TraversalItem, ahead_of, ahead, pages_ahead}
use Rattle.gx_node.specs.Looks.{ItemFits, IsLook, LeadsTo, stacked, found_with}
use Rattle.gx_node.proofs.Sums.{sum_over-append, each_parts, each-append}
use Rattle.gx_node.proofs.OwnLook.{look_goes_on, pages_fall, item_used, ahead_less}
use Rattle.gx_tree.specs.declared.found.Found.{Found}
use Rattle.gx_tree.specs.Found.{pair_found, pairs_found, found_at}
use Rattle.gx_tree.specs.Looking.{beyond, below, LookStep}

module _ {K : Type 0} (t : Tree K) where
  ahead_turned : (f : ℕ → ℕ) (xs ys : List TraversalItem) → ahead t f (xs ++ ys) ≡ ahead t f (ys ++ xs)
  ahead_turned f xs ys =
      let one = sum_over-append (ahead_of t f) xs ys in
      let two = sum_over-append (ahead_of t f) ys xs in
      omega (arith, one, two)

  turned : (wants : Pair K → Bool) (xs ys : List TraversalItem) (found : List (Pair K)) → IsLook t wants (xs ++ ys) found → IsLook t wants (ys ++ xs) found
  turned wants xs ys found look = record {
    items = (let two = each_parts (ItemFits t) xs ys look.items in each-append (ItemFits t) ys xs two.1 two.0);
    complete = λ test. (
        let same = ahead_turned (λ q. how_many (λ x. wants x && test x) (t.node q).pairs) xs ys in
        let was = look.complete test in
        omega (arith, same, was));
    once = λ l. (
        let same = ahead_turned (λ q. one_if (q == l)) xs ys in
        let was = look.once l in
        omega (arith, same, was));
  }

-- what is found in a leaf is seen as those pairs
module _ {K : Type 0} where
  seen_at : (leaf : ℕ) (xs : List (Pair K)) → pairs_found (map (found_at leaf) xs) ≡ xs
  seen_at leaf [] = refl
  seen_at leaf (x ∷ xs) = ap (λ ys. x ∷ ys) (seen_at leaf xs)

  seen_after : (old : List (Found K)) (leaf : ℕ) (xs : List (Pair K)) → pairs_found (old ++ map (found_at leaf) xs) ≡ pairs_found old ++ xs
  seen_after [] leaf xs = seen_at leaf xs
  seen_after (f ∷ fs) leaf xs = ap (λ ys. pair_found f ∷ ys) (seen_after fs leaf xs)

-- the last of some items
pub last_of : (items : List TraversalItem) → 0 < length items → (rest : List TraversalItem) × (item : TraversalItem) × (items ≡ rest ++ item ∷ [])
last_of [] some = absurd (omega arith)
last_of (x ∷ []) some = ([], x, refl)
last_of (x ∷ (y ∷ items)) some =
    let more = last_of (y ∷ items) (omega arith) in
    (x ∷ more.0, more.1, ap (λ is. x ∷ is) more.2)

module _ {K : Type 0} (r : Rules K) (t : Tree K) (legal : Legal r t) (wants : Pair K → Bool) (leads : K → Bool) where
  -- the items in another order
  in_order : (rest : List TraversalItem) (item : TraversalItem) → beyond (t.node item.page) item ++ below t.counter leads (t.node item.page).children ++ rest ≡ stacked t leads item rest
  in_order rest item = append_assoc (beyond (t.node item.page) item) (below t.counter leads (t.node item.page).children) rest

  pub goes_on : IsLawful r → LeadsTo r t wants leads → (before after : List TraversalItem) (old new : List (Found K)) → 0 < length before
      → IsLook t wants before (pairs_found old) → LookStep t wants leads before after old new → IsLook t wants after (pairs_found new)
  goes_on law lead before after old new some look step =
      let last = last_of before some in
      let rest = last.0 in
      let item = last.1 in
      let read = step rest item last.2 in
      let both = beyond (t.node item.page) item ++ below t.counter leads (t.node item.page).children in
      let begun : IsLook t wants (item ∷ rest) (pairs_found old) = turned t wants rest (item ∷ []) (pairs_found old) (subst (λ (is : List TraversalItem). IsLook t wants is (pairs_found old)) last.2 look) in
      let next : IsLook t wants (stacked t leads item rest) (found_with t wants item (pairs_found old)) = look_goes_on r t legal leads law wants lead item rest (pairs_found old) begun in
      let back : IsLook t wants (rest ++ both) (found_with t wants item (pairs_found old)) =
      turned t wants both rest (found_with t wants item (pairs_found old))
      (subst (λ (is : List TraversalItem). IsLook t wants is (found_with t wants item (pairs_found old))) (sym (in_order rest item)) next) in
      subst (λ (is : List TraversalItem). IsLook t wants is (pairs_found new)) (sym read.stack)
      (subst (λ (fs : List (Pair K)). IsLook t wants (rest ++ both) fs) (sym (ap pairs_found read.found ∙ seen_after old item.page (filter wants (t.node item.page).pairs))) back)

  pub falls : (before after : List TraversalItem) (old new : List (Found K)) → 0 < length before
      → IsLook t wants before (pairs_found old) → LookStep t wants leads before after old new → pages_ahead t after < pages_ahead t before
  falls before after old new some look step =
      let last = last_of before some in
      let rest = last.0 in
      let item = last.1 in
      let read = step rest item last.2 in
      let both = beyond (t.node item.page) item ++ below t.counter leads (t.node item.page).children in
      let begun : IsLook t wants (item ∷ rest) (pairs_found old) = turned t wants rest (item ∷ []) (pairs_found old) (subst (λ (is : List TraversalItem). IsLook t wants is (pairs_found old)) last.2 look) in
      let less : pages_ahead t (stacked t leads item rest) < pages_ahead t (item ∷ rest) = pages_fall r t legal leads item rest (begun.items).0 in
      let was : pages_ahead t before ≡ pages_ahead t (item ∷ rest) = ap (pages_ahead t) last.2 ∙ ahead_turned t (λ q. 1) rest (item ∷ []) in
      let now : pages_ahead t after ≡ pages_ahead t (stacked t leads item rest) =
      ap (pages_ahead t) read.stack ∙ ahead_turned t (λ q. 1) rest both ∙ ap (pages_ahead t) (in_order rest item) in
      omega (arith, less, was, now)

  -- whatever is counted, a step leaves at most what lay ahead, without the page that it reads
  pub reads_less : (f : ℕ → ℕ) (before after : List TraversalItem) (old new : List (Found K)) → IsLook t wants before (pairs_found old)
      → LookStep t wants leads before after old new → (rest : List TraversalItem) (item : TraversalItem) → before ≡ rest ++ item ∷ [] → ahead t f after + f item.page ≤ ahead t f before
  reads_less f before after old new look step rest item is =
      let read = step rest item is in
      let both = beyond (t.node item.page) item ++ below t.counter leads (t.node item.page).children in
      let begun : IsLook t wants (item ∷ rest) (pairs_found old) = turned t wants rest (item ∷ []) (pairs_found old) (subst (λ (is : List TraversalItem). IsLook t wants is (pairs_found old)) is look) in
      let less : ahead t f (stacked t leads item rest) + f item.page ≤ ahead t f (item ∷ rest) = ahead_less r t legal leads f item rest (begun.items).0 in
      let was : ahead t f before ≡ ahead t f (item ∷ rest) = ap (ahead t f) is ∙ ahead_turned t f rest (item ∷ []) in
      let now : ahead t f after ≡ ahead t f (stacked t leads item rest) =
      ap (ahead t f) read.stack ∙ ahead_turned t f rest both ∙ ap (ahead t f) (in_order rest item) in
      omega (arith, less, was, now)

  -- and the page that it reads lies ahead
  pub lies_ahead : (f : ℕ → ℕ) (before : List TraversalItem) (found : List (Pair K)) → IsLook t wants before found
      → (rest : List TraversalItem) (item : TraversalItem) → before ≡ rest ++ item ∷ [] → f item.page ≤ ahead t f before
  lies_ahead f before found look rest item is =
      let begun : IsLook t wants (item ∷ rest) found = turned t wants rest (item ∷ []) found (subst (λ (is : List TraversalItem). IsLook t wants is found) is look) in
      let less : ahead t f (stacked t leads item rest) + f item.page ≤ ahead t f (item ∷ rest) = ahead_less r t legal leads f item rest (begun.items).0 in
      let was : ahead t f before ≡ ahead t f (item ∷ rest) = ap (ahead t f) is ∙ ahead_turned t f rest (item ∷ []) in
      omega (arith, less, was)

-- the page that a look reads next is taken
pub next_is_used : {K : Type 0} (t : Tree K) (wants : Pair K → Bool) (items : List TraversalItem) (found : List (Pair K)) → IsLook t wants items found
    → 0 < length items → ((rest : List TraversalItem) (item : TraversalItem) → items ≡ rest ++ item ∷ [] → Used t item.page → ⊥) → ⊥
next_is_used t wants items found look some none =
    let last = last_of items some in
    let begun : IsLook t wants (last.1 ∷ last.0) found = turned t wants last.0 (last.1 ∷ []) found (subst (λ (is : List TraversalItem). IsLook t wants is found) last.2 look) in
    none last.0 last.1 last.2 (item_used t last.1 (begun.items).0)
