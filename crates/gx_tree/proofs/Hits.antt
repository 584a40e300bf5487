-- Hits gathered one after another are those that pass.
use Rattle.std.proofs.Common.{◌≡◌, ℕ, zero, suc, ◌+◌, ◌<◌, ◌≤◌, Bool, true, false, cond, List, [], ◌∷◌, ◌++◌, length, map, filter, drop, get_or, refl, sym, ap, ◌∙◌, arith, Some, None}
use Rattle.std.specs.Prelude.{slice_get}
use Rattle.gx_node.specs.Lists.{how_many, one_if}
use Rattle.gx_node.specs.Hits.{IsNextHit}
use Rattle.std.proofs.lemmas.List.{length-map}
use Rattle.gx_node.proofs.Slots.{made_at}

-- p is the test of hits, and w takes some of them
module _ {X : Type 0} (p w : X → Bool) (only : (x : X) → p x ≡ false → w x ≡ false) where
  misses : (x : X) (xs : List X) → p x ≡ false → filter w (x ∷ xs) ≡ filter w xs
  misses x xs e = ap (λ b. cond b (x ∷ filter w xs) (filter w xs)) (only x e)

  taken : (x : X) (xs : List X) (b : Bool) → cond b (x ∷ xs) xs ≡ cond b (x ∷ []) [] ++ xs
  taken x xs true = refl
  taken x xs false = refl

  drop_at : (xs : List X) (k : ℕ) (x : X) → slice_get xs k ≡ Some x → drop k xs ≡ x ∷ drop (suc k) xs
  drop_at [] k x e = cc
  drop_at (y ∷ xs) zero x e = let same : y ≡ x = cc in ap (λ z. z ∷ xs) same
  drop_at (y ∷ xs) (suc k) x e = drop_at xs k x e

  -- what is passed over isn't taken
  passed : (xs : List X) (from hit : ℕ) → from ≤ hit → hit ≤ length xs
      → ((k : ℕ) → from ≤ k → k < hit → get_or (map p xs) k false ≡ false) → filter w (drop from xs) ≡ filter w (drop hit xs)
  passed [] zero zero a b m = refl
  passed [] zero (suc hit) a b m = absurd (omega arith)
  passed [] (suc from) zero a b m = absurd (omega arith)
  passed [] (suc from) (suc hit) a b m = refl
  passed (x ∷ xs) zero zero a b m = refl
  passed (x ∷ xs) zero (suc hit) a b m =
      misses x xs (m 0 (omega arith) (omega arith)) ∙ passed xs zero hit (omega arith) (omega arith) (λ k h i. m (suc k) (omega arith) (omega arith))
  passed (x ∷ xs) (suc from) zero a b m = absurd (omega arith)
  passed (x ∷ xs) (suc from) (suc hit) a b m = passed xs from hit (omega arith) (omega arith) (λ k h i. m (suc k) (omega arith) (omega arith))

  -- the next hit, if it is taken, and what comes after it
  pub next_taken : (xs : List X) (from hit : ℕ) → IsNextHit (map p xs) from (Some hit) → (x : X) → slice_get xs hit ≡ Some x
      → filter w (drop from xs) ≡ filter w (x ∷ []) ++ filter w (drop (hit + 1) xs)
  next_taken xs from hit next x at =
      let within : hit < length xs = omega (arith, next.1, length-map xs p) in
      let one : suc hit ≡ hit + 1 = omega arith in
      passed xs from hit next.0 (omega arith) next.3
      ∙ ap (filter w) (drop_at xs hit x at)
      ∙ taken x (filter w (drop (suc hit) xs)) (w x)
      ∙ ap (λ n. filter w (x ∷ []) ++ filter w (drop n xs)) one

  -- if there is no further hit nothing is left
  pub none_left : (xs : List X) (from : ℕ) → IsNextHit (map p xs) from None → filter w (drop from xs) ≡ []
  none_left [] zero next = refl
  none_left [] (suc from) next = refl
  none_left (x ∷ xs) zero next =
      misses x xs (next 0 (omega arith) (omega (arith, length-map xs p))) ∙ none_left xs zero (λ k h i. next (suc k) (omega arith) (omega (arith, length-map xs p)))
  none_left (x ∷ xs) (suc from) next = none_left xs from (λ k h i. next (suc k) (omega arith) (omega (arith, length-map xs p)))

-- nothing is after the last slot
pub none_behind : {X : Type 0} (w : X → Bool) (xs : List X) (from : ℕ) → length xs ≤ from → filter w (drop from xs) ≡ []
none_behind w [] zero h = refl
none_behind w [] (suc from) h = refl
none_behind w (x ∷ xs) zero h = absurd (omega arith)
none_behind w (x ∷ xs) (suc from) h = none_behind w xs from (omega arith)

pub hit_alone : {X : Type 0} (p : X → Bool) (x : X) → p x ≡ true → filter p (x ∷ []) ≡ x ∷ []
hit_alone p x e = ap (λ b. cond b (x ∷ []) []) e

-- a slot with a hit passes
pub hit_passes : {X : Type 0} (p : X → Bool) (xs : List X) (from hit : ℕ) → IsNextHit (map p xs) from (Some hit) → (x : X) → slice_get xs hit ≡ Some x → p x ≡ true
hit_passes p xs from hit next x at = sym (made_at p xs hit x false at) ∙ next.2

pub map-append : {X Y : Type 0} (f : X → Y) (xs ys : List X) → map f (xs ++ ys) ≡ map f xs ++ map f ys
map-append f [] ys = refl
map-append f (x ∷ xs) ys = ap (λ zs. f x ∷ zs) (map-append f xs ys)

-- ---- a whole list without a hit

pub none_at_all : {X : Type 0} (w : X → Bool) (xs : List X) → IsNextHit (map w xs) 0 None → how_many w xs ≡ 0
none_at_all w [] next = refl
none_at_all w (x ∷ xs) next =
    let here : w x ≡ false = next 0 (omega arith) (omega (arith, length-map xs w)) in
    let rest : how_many w xs ≡ 0 = none_at_all w xs (λ k h i. next (suc k) (omega arith) (omega (arith, length-map xs w))) in
    let one : one_if (w x) ≡ 0 = ap one_if here in
    omega arith
