-- The slot of the one child on a page.
use Rattle.std.proofs.Common.{◌≡◌, ◌≢◌, ℕ, zero, suc, ◌+◌, ◌<◌, ◌≤◌, ◌==◌, Bool, true, false, cond, List, [], ◌∷◌, ◌++◌, length, map, filter, drop, get_or, refl, sym, ap, ◌∙◌, arith, Some, None}
use Rattle.std.specs.Prelude.{slice_get}
use Rattle.std.proofs.lemmas.Bool.{eqb-true}
use Rattle.std.proofs.lemmas.List.{length-map}
use Rattle.gx_node.specs.Hits.{IsNextHit}
use Rattle.gx_node.proofs.Slots.{made_at}
use Rattle.gx_node.specs.Lists.{one_if, how_many}
use Rattle.gx_node.specs.Trees.{Child, times}
use Rattle.gx_tree.specs.Splitting.{NamesOnce}
use Rattle.gx_tree.proofs.Hits.{next_taken, none_left, none_behind, hit_alone, hit_passes}

there : {X : Type 0} (xs : List X) (k : ℕ) → k < length xs → (x : X) × (slice_get xs k ≡ Some x)
there [] k h = absurd (omega arith)
there (x ∷ xs) zero h = (x, refl)
there (x ∷ xs) (suc k) h = there xs k (omega arith)

pub named_at : {B : Type 0} (children : List (Child B)) (page slot n : ℕ) → slot < length children
    → ((child : Child B) → slice_get children slot ≡ Some child → n ≡ child.page) → get_or (map (λ c. c.page == page) children) slot false ≡ (n == page)
named_at children page slot n low is =
    let at = there children slot low in
    made_at (λ c. c.page == page) children slot at.0 false at.1 ∙ ap (λ m. m == page) (sym (is at.0 at.1))

module _ {X : Type 0} (w : X → Bool) where
  counted : (xs : List X) → length (filter w xs) ≡ how_many w xs
  counted [] = refl
  counted (x ∷ xs) = by_test (w x) (counted xs)
    where
      by_test : (b : Bool) → length (filter w xs) ≡ how_many w xs → length (cond b (x ∷ filter w xs) (filter w xs)) ≡ one_if b + how_many w xs
      by_test true e = omega (arith, e)
      by_test false e = omega (arith, e)

  -- a hit counts one, and what is after it
  one_more : (xs : List X) (from hit : ℕ) → IsNextHit (map w xs) from (Some hit)
      → length (filter w (drop from xs)) ≡ suc (length (filter w (drop (hit + 1) xs)))
  one_more xs from hit next =
      let at = there xs hit (omega (arith, next.1, length-map xs w)) in
      let rest = filter w (drop (hit + 1) xs) in
      ap length (next_taken w w (λ x e. e) xs from hit next at.0 at.1
      ∙ ap (λ ys. ys ++ rest) (hit_alone w at.0 (hit_passes w xs from hit next at.0 at.1)))

module _ {B : Type 0} where
  by_child : (n : ℕ) (children : List (Child B)) → times n (map (λ c. c.page) children) ≡ how_many (λ c. c.page == n) children
  by_child n [] = refl
  by_child n (c ∷ children) = ap (λ m. one_if (c.page == n) + m) (by_child n children)

  times_counted : (n : ℕ) (children : List (Child B)) → times n (map (λ c. c.page) children) ≡ length (filter (λ c. c.page == n) children)
  times_counted n children = by_child n children ∙ sym (counted (λ c. c.page == n) children)

  pub none_named : (children : List (Child B)) (n : ℕ) → IsNextHit (map (λ c. c.page == n) children) 0 None → times n (map (λ c. c.page) children) ≢ 1
  none_named children n next one =
      let none : length (filter (λ (c : Child B). c.page == n) children) ≡ 0 = ap length (none_left (λ c. c.page == n) (λ c. c.page == n) (λ c e. e) children 0 next) in
      omega (arith, none, one, times_counted n children)

  pub two_named : (children : List (Child B)) (n slot more : ℕ) → IsNextHit (map (λ c. c.page == n) children) 0 (Some slot)
      → IsNextHit (map (λ c. c.page == n) children) (slot + 1) (Some more) → times n (map (λ c. c.page) children) ≢ 1
  two_named children n slot more next then one =
      let first = one_more (λ (c : Child B). c.page == n) children 0 slot next in
      let second = one_more (λ (c : Child B). c.page == n) children (slot + 1) more then in
      omega (arith, first, second, one, times_counted n children)

  named_once : (children : List (Child B)) (n slot : ℕ) → IsNextHit (map (λ c. c.page == n) children) 0 (Some slot)
      → length (filter (λ c. c.page == n) (drop (slot + 1) children)) ≡ 0 → NamesOnce children n slot
  named_once children n slot next none =
      let at = there children slot (omega (arith, next.1, length-map children (λ (c : Child B). c.page == n))) in
      let first = one_more (λ (c : Child B). c.page == n) children 0 slot next in
      record {
        child = at.0;
        at = at.1;
        page = eqb-true at.0.page n (hit_passes (λ c. c.page == n) children 0 slot next at.0 at.1);
        once = omega (arith, first, none, times_counted n children);
      }

  pub once_to_the_end : (children : List (Child B)) (n slot : ℕ) → IsNextHit (map (λ c. c.page == n) children) 0 (Some slot)
      → length children ≤ slot + 1 → NamesOnce children n slot
  once_to_the_end children n slot next end = named_once children n slot next (ap length (none_behind (λ c. c.page == n) children (slot + 1) end))

  pub once_before : (children : List (Child B)) (n slot : ℕ) → IsNextHit (map (λ c. c.page == n) children) 0 (Some slot)
      → IsNextHit (map (λ c. c.page == n) children) (slot + 1) None → NamesOnce children n slot
  once_before children n slot next then =
      named_once children n slot next (ap length (none_left (λ c. c.page == n) (λ c. c.page == n) (λ c e. e) children (slot + 1) then))
