-- How much may lie ahead at most.
use Rattle.std.proofs.Common.{◌≡◌, ℕ, zero, suc, ◌+◌, ◌<◌, ◌≤◌, inl, inr, Bool, List, [], ◌∷◌, refl, ap, sym, ◌∙◌, arith}
use Rattle.std.specs.Prelude.{◌==◌}
use Rattle.std.proofs.lemmas.Bool.{cases_eq}
use Rattle.gx_node.specs.Lists.{sum_over, one_if, total}
use Rattle.gx_node.specs.Trees.{Pair, Tree, Rules, child_pages}
use Rattle.gx_node.specs.Legal.{Legal}
use Rattle.gx_node.specs.Reach.{TraversalItem, run, down, under, ahead_of, ahead, pages_ahead, times_ahead}
use Rattle.gx_node.specs.Looks.{IsLook}
use Rattle.gx_node.specs.Alike.{AgreeOnUsed}
use Rattle.gx_node.proofs.Sums.{sum_over_same, sum_over_add, each_always, total_same, at_page, at_page_same, at_page_other, total_at_page}
use Rattle.gx_node.proofs.Chains.{one_at, one_off}
use Rattle.gx_node.proofs.AlikeLooks.{ahead_too}

module _ {K : Type 0} (t : Tree K) where
  pub down_add : (f g : ℕ → ℕ) (k q : ℕ) → down t (λ x. f x + g x) k q ≡ down t f k q + down t g k q
  down_add f g zero q = refl
  down_add f g (suc k) q =
      let each = sum_over_same (down t (λ x. f x + g x) k) (λ x. down t f k x + down t g k x) (child_pages (t.node q))
      (each_always (λ x. down t (λ x. f x + g x) k x ≡ down t f k x + down t g k x) (down_add f g k) (child_pages (t.node q))) in
      let add = sum_over_add (down t f k) (down t g k) (child_pages (t.node q)) in
      omega (arith, each, add)

  pub ahead_of_add : (f g : ℕ → ℕ) (item : TraversalItem) → ahead_of t (λ x. f x + g x) item ≡ ahead_of t f item + ahead_of t g item
  ahead_of_add f g item =
      sum_over_same (under t (λ x. f x + g x)) (λ x. under t f x + under t g x) (run t t.used item.seen item.page)
      (each_always (λ x. under t (λ x. f x + g x) x ≡ under t f x + under t g x) (λ q. down_add f g (t.node q).level q) (run t t.used item.seen item.page))
      ∙ sum_over_add (under t f) (under t g) (run t t.used item.seen item.page)

  pub ahead_add : (f g : ℕ → ℕ) (stack : List TraversalItem) → ahead t (λ x. f x + g x) stack ≡ ahead t f stack + ahead t g stack
  ahead_add f g stack =
      sum_over_same (ahead_of t (λ x. f x + g x)) (λ i. ahead_of t f i + ahead_of t g i) stack
      (each_always (λ i. ahead_of t (λ x. f x + g x) i ≡ ahead_of t f i + ahead_of t g i) (ahead_of_add f g) stack)
      ∙ sum_over_add (ahead_of t f) (ahead_of t g) stack

  none_over : {X : Type 0} (f : X → ℕ) (xs : List X) → ((x : X) → f x ≡ 0) → sum_over f xs ≡ 0
  none_over f [] none = refl
  none_over f (x ∷ xs) none = let h = none x in let rest = none_over f xs none in omega (arith, h, rest)

  down_none : (k q : ℕ) → down t (λ x. 0) k q ≡ 0
  down_none zero q = refl
  down_none (suc k) q = let rest = none_over (down t (λ x. 0) k) (child_pages (t.node q)) (down_none k) in omega (arith, rest)

  -- pages up to m lie ahead m times at most, if none does twice
  most_ahead : (stack : List TraversalItem) → ((l : ℕ) → times_ahead t l stack ≤ 1) → (m : ℕ) → ahead t (λ q. total (λ l. one_if (q == l)) m) stack ≤ m
  most_ahead stack once zero =
      let none = none_over (ahead_of t (λ q. 0)) stack (λ item. none_over (under t (λ q. 0)) (run t t.used item.seen item.page) (λ q. down_none (t.node q).level q)) in
      omega (arith, none)
  most_ahead stack once (suc m) =
      let add = ahead_add (λ q. one_if (q == suc m)) (λ q. total (λ l. one_if (q == l)) m) stack in
      let one = once (suc m) in
      let rest = most_ahead stack once m in
      omega (arith, add, one, rest)

  one_of_all : (q n : ℕ) → 0 < q → q ≤ n → total (λ l. one_if (q == l)) n ≡ 1
  one_of_all q n low high =
      total_same (λ l. one_if (q == l)) (at_page q 1) n (λ l a b. (elim (cases_eq q l) [
        | inl e ↦ one_at q l e ∙ sym (ap (λ z. at_page q 1 z) (sym e) ∙ at_page_same q 1)
        | inr ne ↦ one_off q l ne ∙ sym (at_page_other q 1 l (λ z. ne (sym z)))
      ]))
      ∙ total_at_page q 1 n low high

  -- so no more pages lie ahead of a look than are taken
  pub pages_most : (r : Rules K) → Legal r t → (wants : Pair K → Bool) (stack : List TraversalItem) (found : List (Pair K)) → IsLook t wants stack found
      → pages_ahead t stack ≤ t.used
  pages_most r legal wants stack found look =
      let itself : AgreeOnUsed t t = record { used = refl; counter = refl; nodes = λ q u. refl } in
      let same = ahead_too r t t itself legal (λ q. 1) (λ q. total (λ l. one_if (q == l)) t.used) (λ q u. sym (one_of_all q t.used u.0 u.1)) stack look.items in
      let most = most_ahead stack look.once t.used in
      omega (arith, same, most)
