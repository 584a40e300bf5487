-- Pages, marked as entries name them.
use Rattle.std.proofs.Common.{◌≡◌, ℕ, zero, suc, ◌+◌, ◌<◌, ◌≤◌, Bool, ◌⊎◌, inl, inr, List, [], ◌∷◌, length, map, take, Some, ap, sym, subst, arith}
use Rattle.std.specs.Prelude.{◌==◌, slice_get}
use Rattle.gx_node.specs.Lists.{one_if, sum_over}
use Rattle.gx_node.specs.Trees.{Child, times}
use Rattle.gx_node.proofs.Chains.{one_at}
use Rattle.gx_legality.specs.Marks.{marked}
use Rattle.gx_legality.proofs.Slots.{sum_more}

pub page_at : {K : Type 0} (cs : List (Child K)) (k : ℕ) (c : Child K) → slice_get cs k ≡ Some c → slice_get (map (λ (c : Child K). c.page) cs) k ≡ Some c.page
page_at [] k c at = absurd (cc)
page_at (d ∷ cs) zero c at = let same : d ≡ c = cc in ap (λ (c : Child _). Some c.page) same
page_at (d ∷ cs) (suc k) c at = page_at cs k c at

take_le : {X : Type 0} (f : X → ℕ) (n : ℕ) (xs : List X) → sum_over f (take n xs) ≤ sum_over f xs
take_le f zero xs = omega arith
take_le f (suc n) [] = omega arith
take_le f (suc n) (x ∷ xs) = let rest = take_le f n xs in omega (arith, rest)

times_more : (ps : List ℕ) (k p q : ℕ) → slice_get ps k ≡ Some p → times q (take (suc k) ps) ≡ times q (take k ps) + one_if (p == q)
times_more ps k p q at = sum_more (λ x. one_if (x == q)) ps k p at

marked_low : (marks : List Bool) (q : ℕ) → 1 ≤ marked marks q → q < length marks
marked_low [] q some = absurd (omega arith)
marked_low (b ∷ marks) zero some = omega arith
marked_low (b ∷ marks) (suc q) some = let rest = marked_low marks q some in omega (arith, rest)

pub marks_go : (ps : List ℕ) (k p : ℕ) (start now more : List Bool) → slice_get ps k ≡ Some p
    → ((q : ℕ) → q < length start → marked now q ≡ marked start q + times q (take k ps))
    → ((q : ℕ) → marked more q ≡ marked now q + one_if (p == q))
    → (q : ℕ) → q < length start → marked more q ≡ marked start q + times q (take (k + 1) ps)
marks_go ps k p start now more at was marks q low =
    let next : suc k ≡ k + 1 = omega arith in
    let before = was q low in
    let mark = marks q in
    let here = times_more ps k p q at in
    let all : marked more q ≡ marked start q + times q (take (suc k) ps) = omega (arith, before, mark, here) in
    subst (λ n. marked more q ≡ marked start q + times q (take n ps)) next all

pub marks_twice : (ps : List ℕ) (k p q : ℕ) (start now : List Bool) → slice_get ps k ≡ Some p → length now ≡ length start
    → ((q : ℕ) → q < length start → marked now q ≡ marked start q + times q (take k ps))
    → q ≡ p → (length now ≤ q) ⊎ (1 ≤ marked now q) → (length start ≤ q) ⊎ (2 ≤ marked start q + times q ps)
marks_twice ps k p q start now at long was same (inl past) = inl (omega (arith, long, past))
marks_twice ps k p q start now at long was same (inr some) =
    let low = marked_low now q some in
    let before = was q (omega (arith, low, long)) in
    let here = times_more ps k p q at in
    let one = one_at p q (sym same) in
    let all = take_le (λ x. one_if (x == q)) (suc k) ps in
    inr (omega (arith, some, before, here, one, all))

pub is_named : (ps : List ℕ) (k p q : ℕ) → slice_get ps k ≡ Some p → q ≡ p → 0 < times q ps
is_named ps k p q at same =
    let here = times_more ps k p q at in
    let one = one_at p q (sym same) in
    let all = take_le (λ x. one_if (x == q)) (suc k) ps in
    omega (arith, here, one, all)
