-- Each own step of a descent but the last lowers what it has left.
use Rattle.std.proofs.Common.{◌≡◌, ◌≢◌, ℕ, suc, ◌+◌, ◌-◌, ◌*◌, ◌^◌, ◌<◌, ◌≤◌, Bool, true, false, not, ◌&&◌, ◌||◌, List, [], ◌∷◌, filter, refl, ap, sym, ◌∙◌, subst, arith}
use Rattle.std.proofs.Math.Nat.{mul-le-mul_left, mul-le-mul_right}
use Rattle.std.specs.Prelude.{nat_lt, ◌==◌, if◌then◌else◌}
use Rattle.std.proofs.lemmas.Bool.{lt-ltb, le-ltb, or_from, and_from, and_right, not_from_true}
use Rattle.gx_node.specs.Lists.{one_if, how_many}
use Rattle.gx_node.specs.Trees.{Pair, Node, Tree, Rules, IsLawful, Used, size, child_pages, times}
use Rattle.gx_node.specs.Legal.{ChildFits, Legal}
use Rattle.gx_node.specs.Steps.{spares, IsSplit, IsRootSplit, IsWidening, IsSweep}
use Rattle.gx_node.specs.Reach.{TraversalItem}
use Rattle.gx_node.specs.Looks.{from_root}
use Rattle.gx_node.specs.Writes.{is_sweepable, has_place, must_restart, levels_left, descent_left}
use Rattle.gx_node.proofs.Chains.{some_child, pages_with_key, length_with_key}
use Rattle.gx_node.proofs.Splits.{standing_split, legal_split}
use Rattle.gx_node.proofs.Roots.{standing_root, legal_root}
use Rattle.gx_node.proofs.Changes.{level_kept}
use Rattle.gx_node.proofs.PageSteps.{standing_swept_plain, standing_widened, legal_widened}
use Rattle.gx_node.proofs.Levels.{level_below_used, level_most, standing_most}

product : (a b c d : ℕ) → a ≤ c → b ≤ d → a * b ≤ c * d
product a b c d le me = let p = mul-le-mul_left a me in let q = mul-le-mul_right d le in omega (arith, p, q)

module _ {K : Type 0} (r : Rules K) (room : ℕ) (claimed : Pair K → Bool) where
  module _ (t : Tree K) (legal : Legal r t) where
    restart_levels : (parent : ℕ) (item : TraversalItem) → must_restart r t parent item ≡ true → levels_left r t parent item ≡ suc (t.node 1).level
    restart_levels parent item is = ap (λ b. if b then suc (t.node 1).level else (t.node item.page).level) is

    page_levels : (parent : ℕ) (item : TraversalItem) → must_restart r t parent item ≡ false → levels_left r t parent item ≡ (t.node item.page).level
    page_levels parent item is = ap (λ b. if b then suc (t.node 1).level else (t.node item.page).level) is

    root_taken : Used t 1
    root_taken = let h = legal.counter in (omega arith, omega (arith, h))

    root_levels : (parent : ℕ) → levels_left r t parent (from_root t) ≡ (t.node 1).level
    root_levels parent =
        page_levels parent (from_root t) (or_from (nat_lt t.counter (t.node 1).nsn) false (le-ltb t.counter (t.node 1).nsn (legal.pages 1 root_taken).nsn) refl)

    -- a descent that needn't begin again has its page's level left, and one that must more
    levels_least : (parent : ℕ) (item : TraversalItem) → Used t item.page → (t.node item.page).level ≤ levels_left r t parent item
    levels_least parent item u = by (must_restart r t parent item) refl
      where
        by : (b : Bool) → must_restart r t parent item ≡ b → (t.node item.page).level ≤ levels_left r t parent item
        by true is = let a = restart_levels parent item is in let h = level_most r t legal item.page u in omega (arith, a, h)
        by false is = let a = page_levels parent item is in omega (arith, a)

    -- a new beginning, if it has to begin again
    pub restart_falls : (parent : ℕ) (item : TraversalItem) → must_restart r t parent item ≡ true
        → descent_left r t room claimed 0 (from_root t) < descent_left r t room claimed parent item
    restart_falls parent item is = let a = restart_levels parent item is in let b = root_levels 0 in omega (arith, a, b)

    -- a child of a page with room
    child_levels : (a x : ℕ) → Used t a → size (t.node a) < r.most → 0 < times x (child_pages (t.node a))
        → suc (levels_left r t a (record { page = x; seen = t.counter })) ≡ (t.node a).level
    child_levels a x u space named =
        let pick = some_child (ChildFits r t (t.node a).level) x (t.node a).children named (legal.pages a u).children in
        let f = pick.1 in let e = pick.2 in let low = f.low in let high = f.used in
        let ux : Used t x = (omega (arith, e, low), omega (arith, e, high)) in
        let level = f.level in
        let same = ap (λ q. (t.node q).level) e in
        let place : has_place r t a x ≡ true = and_from (nat_lt 0 (times x (child_pages (t.node a)))) (nat_lt (size (t.node a)) r.most)
        (lt-ltb 0 (times x (child_pages (t.node a))) named) (lt-ltb (size (t.node a)) r.most space) in
        let b = page_levels a (record { page = x; seen = t.counter })
        (or_from (nat_lt t.counter (t.node x).nsn) (not (x == 1) && not (has_place r t a x)) (le-ltb t.counter (t.node x).nsn (legal.pages x ux).nsn)
        (and_right (not (x == 1)) (not (has_place r t a x)) (not_from_true (has_place r t a x) place))) in
        omega (arith, level, same, b)

    -- on to a child
    pub down_falls : (parent : ℕ) (item : TraversalItem) (x : ℕ) → Used t item.page → size (t.node item.page) < r.most → 0 < times x (child_pages (t.node item.page))
        → descent_left r t room claimed item.page (record { page = x; seen = t.counter }) < descent_left r t room claimed parent item
    down_falls parent item x u space named =
        let a = child_levels item.page x u space named in
        let b = levels_least parent item u in
        omega (arith, a, b)

    levels_most : (parent : ℕ) (item : TraversalItem) → Used t item.page → levels_left r t parent item ≤ t.used
    levels_most parent item u = by (must_restart r t parent item) refl
      where
        by : (b : Bool) → must_restart r t parent item ≡ b → levels_left r t parent item ≤ t.used
        by true is = let a = restart_levels parent item is in let b = level_below_used r t legal 1 root_taken in omega (arith, a, b)
        by false is = let a = page_levels parent item is in let b = level_below_used r t legal item.page u in omega (arith, a, b)

    -- below 2^40, on a device of at most 65,536 pages, with at most 100 entries a node
    pub left_most : (parent : ℕ) (item : TraversalItem) → Used t item.page → t.used ≤ room → room ≤ 65536 → r.most ≤ 100
        → descent_left r t room claimed parent item < 2 ^ 40
    left_most parent item u fits small few =
        let levels = levels_most parent item u in
        let pairs = standing_most r t legal (is_sweepable claimed) in
        let free = product (room - t.used) (room + 1) 65536 65537 (omega (arith, small)) (omega (arith, small)) in
        let marked = product t.used r.most 65536 100 (omega (arith, fits, small)) few in
        omega (arith, levels, pairs, free, marked, fits, small)

  -- on to a child whose entry was widened
  pub widened_falls : IsLawful r → (old new : Tree K) → Legal r old → (parent : ℕ) (item : TraversalItem) (x : ℕ) (coming key : K)
      → IsWidening r old new item.page x coming key → size (old.node item.page) < r.most → 0 < times x (child_pages (old.node item.page))
      → descent_left r new room claimed item.page (record { page = x; seen = new.counter }) < descent_left r old room claimed parent item
  widened_falls law old new legal parent item x coming key step space named =
      let changes = step.changes in
      let level = ap (λ (z : Node K). z.level) changes.changed in
      let long = ap (λ (z : Node K). size z) changes.changed in
      let as_long = length_with_key x key (old.node item.page).children in
      let stands = standing_widened r old new item.page legal law x coming key step (is_sweepable claimed) in
      let now = legal_widened r old new item.page legal law x coming key step in
      let pages : child_pages (new.node item.page) ≡ child_pages (old.node item.page) =
      ap (λ (z : Node K). child_pages z) changes.changed ∙ pages_with_key x key (old.node item.page).children in
      let named_now : 0 < times x (child_pages (new.node item.page)) = subst (λ (qs : List ℕ). 0 < times x qs) (sym pages) named in
      let used = changes.used in
      let there = changes.there in
      let u : Used new item.page = (there.0, (let h = there.1 in omega (arith, h, used))) in
      let a = child_levels new now item.page x u (omega (arith, long, as_long, space)) named_now in
      let b = levels_least old legal parent item there in
      let free : (room - new.used) * (room + 1) ≡ (room - old.used) * (room + 1) = ap (λ k. (room - k) * (room + 1)) used in
      omega (arith, a, b, level, stands, free)

  -- a sweep that takes something
  pub swept_falls : (old new : Tree K) → Legal r old → (parent : ℕ) (item : TraversalItem) → IsSweep old new item.page claimed → parent ≢ item.page
      → 0 < how_many (is_sweepable claimed) (old.node item.page).pairs
      → descent_left r new room claimed parent item < descent_left r old room claimed parent item
  swept_falls old new legal parent item step apart some =
      let changes = step.changes in
      let stands = standing_swept_plain r old new item.page legal claimed step (is_sweepable claimed) in
      let level = ap (λ (z : Node K). z.level) changes.changed in
      let nsn = ap (λ (z : Node K). z.nsn) changes.changed in
      let top = level_kept old new item.page (filter (spares claimed) (old.node item.page).pairs) (old.node item.page).children changes 1 in
      let up = changes.others parent apart in
      let same : levels_left r new parent item ≡ levels_left r old parent item =
      ap (λ (z : Node K). if nat_lt item.seen (new.node item.page).nsn || (not (item.page == 1) && not (nat_lt 0 (times item.page (child_pages z)) && nat_lt (size z) r.most)) then suc (new.node 1).level else (new.node item.page).level) up
      ∙ ap (λ n. if nat_lt item.seen n || (not (item.page == 1) && not (has_place r old parent item.page)) then suc (new.node 1).level else (new.node item.page).level) nsn
      ∙ ap (λ l. if must_restart r old parent item then suc l else (new.node item.page).level) top
      ∙ ap (λ l. if must_restart r old parent item then suc (old.node 1).level else l) level in
      let free : (room - new.used) * (room + 1) ≡ (room - old.used) * (room + 1) = ap (λ k. (room - k) * (room + 1)) changes.used in
      let twice = both_ways (old.node item.page).pairs in
      omega (arith, stands, same, free, twice, some)
    where
      again : (m c : Bool) → one_if ((m && not c) && (m && not c)) ≡ one_if (m && not c)
      again true true = refl
      again true false = refl
      again false c = refl

      both_ways : (xs : List (Pair K)) → how_many (λ x. is_sweepable claimed x && (x.marked && not (claimed x))) xs ≡ how_many (is_sweepable claimed) xs
      both_ways [] = refl
      both_ways (x ∷ xs) = let rest = both_ways xs in let here = again x.marked (claimed x) in omega (arith, rest, here)

  one_page : (a b : ℕ) → suc b ≤ a → (a - suc b) * (a + 1) + (a + 1) ≡ (a - b) * (a + 1)
  one_page a b le = let e : a - b ≡ suc (a - suc b) = omega (arith, le) in let p = ap (λ k. k * (a + 1)) e in omega (arith, p)

  -- a split, and a new beginning
  pub split_falls : IsLawful r → (old new : Tree K) → Legal r old → (parent : ℕ) (item : TraversalItem) (n p : ℕ) (sides : List Bool) (left right : K)
      → IsSplit r old new n p sides left right → new.used ≤ room
      → descent_left r new room claimed 0 (from_root new) < descent_left r old room claimed parent item
  split_falls law old new legal parent item n p sides left right step fits =
      let used = step.used in
      let now = legal_split r law old new n p sides left right legal step in
      let stands = standing_split r law old new n p sides left right legal step (is_sweepable claimed) in
      let top = root_levels new now 0 in
      let few = level_below_used r new now 1 (root_taken new now) in
      let free : (room - new.used) * (room + 1) ≡ (room - suc old.used) * (room + 1) = ap (λ k. (room - k) * (room + 1)) used in
      let one = one_page room old.used (omega (arith, used, fits)) in
      omega (arith, stands, top, few, free, one, used, fits)

  -- a root split, and a new beginning
  pub root_split_falls : IsLawful r → (old new : Tree K) → Legal r old → (parent : ℕ) (item : TraversalItem) (sides : List Bool) (left right : K)
      → IsRootSplit r old new sides left right → new.used ≤ room
      → descent_left r new room claimed 0 (from_root new) < descent_left r old room claimed parent item
  root_split_falls law old new legal parent item sides left right step fits =
      let used = step.used in
      let now = legal_root r old new sides left right legal step law.two in
      let stands = standing_root r old new sides left right legal step (is_sweepable claimed) in
      let top = root_levels new now 0 in
      let few = level_below_used r new now 1 (root_taken new now) in
      let free : (room - new.used) * (room + 1) ≡ (room - suc (suc old.used)) * (room + 1) = ap (λ k. (room - k) * (room + 1)) used in
      let one = one_page room old.used (omega (arith, used, fits)) in
      let two = one_page room (suc old.used) (omega (arith, used, fits)) in
      omega (arith, stands, top, few, free, one, two, used, fits)

  -- a split by others takes a page, which counts for more than all levels
  pub others_split_falls : IsLawful r → (old new : Tree K) → Legal r old → (parent : ℕ) (item : TraversalItem) → Used old item.page → (n p : ℕ) (sides : List Bool) (left right : K)
      → IsSplit r old new n p sides left right → new.used ≤ room
      → descent_left r new room claimed parent item < descent_left r old room claimed parent item
  others_split_falls law old new legal parent item u n p sides left right step fits =
      let used = step.used in
      let now = legal_split r law old new n p sides left right legal step in
      let stands = standing_split r law old new n p sides left right legal step (is_sweepable claimed) in
      let taken : Used new item.page = (u.0, (let h = u.1 in omega (arith, h, used))) in
      let levels = levels_most new now parent item taken in
      let free : (room - new.used) * (room + 1) ≡ (room - suc old.used) * (room + 1) = ap (λ k. (room - k) * (room + 1)) used in
      let one = one_page room old.used (omega (arith, used, fits)) in
      omega (arith, stands, levels, free, one, fits)

  pub others_root_split_falls : IsLawful r → (old new : Tree K) → Legal r old → (parent : ℕ) (item : TraversalItem) → Used old item.page → (sides : List Bool) (left right : K)
      → IsRootSplit r old new sides left right → new.used ≤ room
      → descent_left r new room claimed parent item < descent_left r old room claimed parent item
  others_root_split_falls law old new legal parent item u sides left right step fits =
      let used = step.used in
      let now = legal_root r old new sides left right legal step law.two in
      let stands = standing_root r old new sides left right legal step (is_sweepable claimed) in
      let taken : Used new item.page = (u.0, (let h = u.1 in omega (arith, h, used))) in
      let levels = levels_most new now parent item taken in
      let free : (room - new.used) * (room + 1) ≡ (room - suc (suc old.used)) * (room + 1) = ap (λ k. (room - k) * (room + 1)) used in
      let one = one_page room old.used (omega (arith, used, fits)) in
      let two = one_page room (suc old.used) (omega (arith, used, fits)) in
      omega (arith, stands, levels, free, one, two, fits)
