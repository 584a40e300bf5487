-- Pairs that aren't marked, counted slot by slot and page by page.
use Rattle.std.proofs.Common.{◌≡◌, ℕ, zero, suc, ◌+◌, ◌<◌, ◌≤◌, Bool, true, false, List, [], ◌∷◌, ◌++◌, length, take, add-one, refl, ap, sym, ◌∙◌, subst, arith, Some}
use Rattle.std.specs.Prelude.{slice_get}
use Rattle.std.proofs.lemmas.List.{take_more}
use Rattle.std.proofs.lemmas.Option.{get_or_from_slice_get}
use Rattle.gx_node.specs.Lists.{how_many, one_if}
use Rattle.gx_node.specs.Trees.{Node}
use Rattle.gx_node.proofs.Sums.{sum_over-append}
use Rattle.gx_restart.specs.Sizes.{live_on, live_up_to}

pub at_most_one : (b : Bool) → one_if b ≤ 1
at_most_one true = omega arith
at_most_one false = omega arith

module _ {X : Type 0} (test : X → Bool) where
  there : (xs : List X) (i : ℕ) → i < length xs → (x : X) × (slice_get xs i ≡ Some x)
  there [] i less = absurd (omega (arith, less))
  there (x ∷ xs) zero less = (x, refl)
  there (x ∷ xs) (suc i) less = there xs i (omega (arith, less))

  -- one slot more
  pub one_slot_more : (xs : List X) (i n : ℕ) (b : Bool) → i < length xs → n ≡ how_many test (take i xs) → ((x : X) → slice_get xs i ≡ Some x → b ≡ test x)
      → n + one_if b ≡ how_many test (take (i + 1) xs)
  one_slot_more xs i n b less so_far here =
      let s = there xs i less in
      let x = s.0 in
      let more : take (i + 1) xs ≡ take i xs ++ x ∷ [] = take_more xs i x less ∙ ap (λ y. take i xs ++ y ∷ []) (get_or_from_slice_get xs i x x s.1) in
      let all : how_many test (take (i + 1) xs) ≡ how_many test (take i xs ++ x ∷ []) = ap (λ (ys : List X). how_many test ys) more in
      let parts = sum_over-append (λ y. one_if (test y)) (take i xs) (x ∷ []) in
      let same : one_if b ≡ one_if (test x) = ap (λ c. one_if c) (here x s.1) in
      omega (arith, so_far, all, parts, same)

  -- no more pass than there are
  pub few_pass : (xs : List X) → how_many test xs ≤ length xs
  few_pass [] = omega arith
  few_pass (x ∷ xs) = let one = at_most_one (test x) in let rest = few_pass xs in omega (arith, one, rest)

-- one page more
pub one_page_more : {B : Type 0} (node : ℕ → Node B) (n entries live : ℕ) → entries ≡ live_up_to node n → live ≡ live_on (node (n + 1)) → entries + live ≡ live_up_to node (n + 1)
one_page_more node n entries live so_far here =
    let more : live_up_to node (n + 1) ≡ live_on (node (n + 1)) + live_up_to node n =
    subst (λ m. live_up_to node m ≡ live_on (node m) + live_up_to node n) (sym (add-one n)) refl in
    omega (arith, so_far, here, more)
