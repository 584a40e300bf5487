-- A look from the root asks for each page once.
use Rattle.std.proofs.Common.{◌≤◌, ◌+◌, ℕ, ◌==◌, Bool, List, [], ◌∷◌, ◌++◌, inl, inr, arith}
use Rattle.gx_node.specs.Lists.{one_if}
use Rattle.gx_node.specs.Trees.{Pair, Tree, times}
use Rattle.gx_node.specs.Reach.{TraversalItem, times_ahead}
use Rattle.gx_node.specs.Looks.{IsLook}
use Rattle.gx_node.specs.Owner.{Asking, Brings, Asks, AsksAtMost, AsksEachOnce, brings}

module _ {P K : Type 0} (asked : P → P → List Asking → Type 0) (t : Tree K) where
  -- what was read and what lies ahead of these items is no page twice
  pub record ReadsOn (old new : P) (stack : List TraversalItem) : Type 0 where
    pub pages : List ℕ
    pub asks : Asks asked (brings pages) old new
    pub once : (q : ℕ) → times q pages + times_ahead t q stack ≤ 1

  pub reads_begin : (wants : Pair K → Bool) (owner : P) (stack : List TraversalItem) (found : List (Pair K)) → IsLook t wants stack found → ReadsOn owner owner stack
  reads_begin wants owner stack found look = record { pages = []; asks = λ was before h. h; once = λ q. (let one = look.once q in omega (arith, one)) }

  pub reads_end : (old new : P) (stack : List TraversalItem) → ReadsOn old new stack → AsksEachOnce asked old new
  reads_end old new stack reads = record { pages = reads.pages; asks = reads.asks; once = λ q. (let one = reads.once q in omega (arith, one)) }

  module _ (old middle new : P) (before : List TraversalItem) (page : ℕ) (reads : ReadsOn old middle before) where
    pub reads_more : (after : List TraversalItem) → Asks asked (Brings (page ∷ []) ∷ []) middle new
        → ((q : ℕ) → times_ahead t q after + one_if (page == q) ≤ times_ahead t q before) → ReadsOn old new after
    reads_more after asks less = record {
      pages = page ∷ reads.pages;
      asks = λ was past h. asks was (brings reads.pages ++ past) (reads.asks was past h);
      once = λ q. (let one = reads.once q in let fewer = less q in omega (arith, one, fewer));
    }

    pub reads_fail : AsksAtMost asked (page ∷ []) middle new → ((q : ℕ) → one_if (page == q) ≤ times_ahead t q before) → AsksEachOnce asked old new
    reads_fail tried less = elim tried [
      | inl none ↦ record {
        pages = reads.pages;
        asks = λ was past h. none was (brings reads.pages ++ past) (reads.asks was past h);
        once = λ q. (let one = reads.once q in omega (arith, one));
      }
      | inr asks ↦ record {
        pages = page ∷ reads.pages;
        asks = λ was past h. asks was (brings reads.pages ++ past) (reads.asks was past h);
        once = λ q. (let one = reads.once q in let fewer = less q in omega (arith, one, fewer));
      }
    ]
