-- The nodes of pages in a list, and what holds of each page of a list.
use Rattle.std.proofs.Common.{◌≡◌, ◌≢◌, ℕ, zero, suc, ◌+◌, ◌-◌, ◌<◌, ◌≤◌, ◌==◌, List, [], ◌∷◌, ◌++◌, length, get_or, set, refl, sym, ap, ◌∙◌, true, false, Some, arith, length-append}
use Rattle.std.proofs.Math.Decide.{ℕ_discrete}
use Rattle.std.proofs.Math.Seq.{get_or-append_seam}
use Rattle.std.proofs.lemmas.Bool.Decides.{nat_tests}
use Rattle.std.proofs.lemmas.List.{get_or_append_left, get_or-set_other, get_or-set_same, length-set, same_lists}
use Rattle.std.proofs.lemmas.List.Folds.{list_any_at}
use Rattle.gx_node.specs.Lists.{Each}
use Rattle.gx_node.specs.Trees.{Node, Used}
use Rattle.gx_node.specs.Reading.{Format}
use Rattle.gx_node.specs.Store.{node_at, blank, tree_of}
use Rattle.gx_pool.specs.Marks.{is_held}
use Rattle.gx_store.specs.Standing.{nodes_to, standing_node, store_of}
use Rattle.gx_store.specs.State.{Shelf}

pub nodes_long : {B : Type 0} (f : ℕ → Node B) (n : ℕ) → length (nodes_to f n) ≡ n
unfolding nodes_to
nodes_long f zero = refl
nodes_long f (suc n) = length-append (nodes_to f n) (f (suc n) ∷ []) ∙ omega (arith, nodes_long f n)

-- the place k has the node of page k + 1
pub nodes_get : {B : Type 0} (f : ℕ → Node B) (n k : ℕ) (d : Node B) → k < n → get_or (nodes_to f n) k d ≡ f (suc k)
unfolding nodes_to
nodes_get f zero k d below = absurd (omega (arith, below))
nodes_get f (suc n) k d below =
    let long : length (nodes_to f n) ≡ n = nodes_long f n in
    elim (ℕ_discrete k n) [
      | yes here ↦
          ap (λ i. get_or (nodes_to f n ++ f (suc n) ∷ []) i d) (here ∙ sym long) ∙ get_or-append_seam (nodes_to f n) (f (suc n)) [] d ∙ ap (λ i. f (suc i)) (sym here)
      | no other ↦
          let less : k < n = omega (arith, other, below) in
          get_or_append_left (nodes_to f n) (f (suc n) ∷ []) d k (omega (arith, long, less)) ∙ nodes_get f n k d less
    ]

-- each taken page has its node
pub node_there : {B : Type 0} (f : ℕ → Node B) (n p : ℕ) → 1 ≤ p → p ≤ n → node_at (nodes_to f n) p ≡ f p
node_there f n zero low high = absurd (omega (arith, low))
node_there f n (suc q) low high = nodes_get f n q blank (omega (arith, high))

-- where each page's node is the same, so are they all
pub same_nodes : {B : Type 0} (f g : ℕ → Node B) (n : ℕ) → ((p : ℕ) → 1 ≤ p → p ≤ n → f p ≡ g p) → nodes_to f n ≡ nodes_to g n
same_nodes f g n same = same_lists (nodes_to f n) (nodes_to g n) (nodes_long f n ∙ sym (nodes_long g n))
    (λ k d below. let less : k < n = omega (arith, nodes_long f n, below) in nodes_get f n k d less ∙ same (suc k) (omega arith) (omega (arith, less)) ∙ sym (nodes_get g n k d less))

-- ---- the pages of a list

pub each_from : (P : ℕ → Type 0) (pages : List ℕ) → ((k : ℕ) → k < length pages → P (get_or pages k 0)) → Each P pages
each_from P [] at = tt
each_from P (x ∷ xs) at = (at 0 (omega arith), each_from P xs (λ k below. at (suc k) (omega (arith, below))))

pub each_at : (P : ℕ → Type 0) (pages : List ℕ) (k : ℕ) → Each P pages → k < length pages → P (get_or pages k 0)
each_at P [] k is below = absurd (omega (arith, below))
each_at P (x ∷ xs) zero is below = is.0
each_at P (x ∷ xs) (suc k) is below = each_at P xs k is.1 (omega (arith, below))

-- each page of a list is among those that are held
pub among_held : (pages : List ℕ) (k : ℕ) → k < length pages → is_held pages (Some (get_or pages k 0)) ≡ true
among_held pages k below = list_any_at (λ other. other == get_or pages k 0) pages k 0 below (grind (arith, nat_tests))

-- one that is beyond all of them isn't
pub beyond_held : (pages : List ℕ) (used q : ℕ) → Each (λ p. p ≤ used) pages → used < q → is_held pages (Some q) ≡ false
beyond_held [] used q each above = refl
beyond_held (x ∷ xs) used q each above =
    let here : (x == q) ≡ false = grind (arith, nat_tests, each.0, above) in
    rw here (beyond_held xs used q each.1 above)

-- ---- nodes that change

-- another node for one page alone
pub set_nodes : {B : Type 0} (f g : ℕ → Node B) (n p : ℕ) → 1 ≤ p → p ≤ n → ((q : ℕ) → q ≢ p → g q ≡ f q) → nodes_to g n ≡ set (nodes_to f n) (p - 1) (g p)
set_nodes f g n p low high others = same_lists (nodes_to g n) (set (nodes_to f n) (p - 1) (g p)) (nodes_long g n ∙ sym (nodes_long f n) ∙ sym (length-set (nodes_to f n) (p - 1) (g p)))
    (λ k d below.
    let less : k < n = omega (arith, nodes_long g n, below) in
    nodes_get g n k d less ∙ elim (ℕ_discrete k (p - 1)) [
      | yes e ↦
          let here : suc k ≡ p = omega (arith, e, low) in
          ap g here ∙ sym (get_or-set_same (nodes_to f n) (p - 1) (g p) d (omega (arith, nodes_long f n, low, high))) ∙ ap (λ i. get_or (set (nodes_to f n) (p - 1) (g p)) i d) (sym e)
      | no ne ↦
          others (suc k) (omega (arith, ne)) ∙ sym (nodes_get f n k d less) ∙ sym (get_or-set_other (nodes_to f n) (p - 1) k (g p) d ne)
    ])

-- one page more
pub more_nodes : {B : Type 0} (f g : ℕ → Node B) (n : ℕ) → ((q : ℕ) → q ≤ n → g q ≡ f q) → nodes_to g (n + 1) ≡ nodes_to f n ++ g (n + 1) ∷ []
unfolding nodes_to
more_nodes f g n same =
    let more : n + 1 ≡ suc n = omega arith in
    ap (nodes_to g) more ∙ ap (λ ns. ns ++ g (suc n) ∷ []) (same_nodes g f n (λ p low high. same p high)) ∙ ap (λ i. nodes_to f n ++ g i ∷ []) (sym more)

-- pages that a tree uses are taken
pub taken_pages : {B D : Type 0} (f : Format B) (seen : List ℕ) (s : Shelf D) (pages : List ℕ) → Each (Used (tree_of (store_of f seen s))) pages → Each (λ p. (1 ≤ p) × (p ≤ s.used)) pages
taken_pages f seen s [] used = tt
taken_pages f seen s (x ∷ xs) used =
    let long : length (nodes_to (standing_node f s.frames seen) s.used) ≡ s.used = nodes_long (standing_node f s.frames seen) s.used in
    ((omega (arith, used.0.0), omega (arith, long, used.0.1)), taken_pages f seen s xs used.1)
