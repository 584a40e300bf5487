-- The seeds are the first of the pairs that waste most.
use Rattle.std.proofs.Common.{◌≡◌, ℕ, zero, suc, ◌+◌, ◌-◌, ◌<◌, ◌≤◌, ◌⊎◌, inl, inr, ℤ, ◌≤ℤ◌, ◌<ℤ◌, Bool, true, false, cond, refl, ap, sym, ◌∙◌, subst, arith, add-one, List, length, [], ◌∷◌, Some, slice_get, ◌*◌}
use Rattle.std.specs.Prelude.{int_lt}
use Rattle.std.proofs.lemmas.Int.{ints}
use Rattle.gx_split.specs.Split.{Measure, Pair, pair, begun, placed, seeds, split_sides, waste_at, worst_in_row, worst_in_rows, worst_pair}
use Rattle.gx_split.specs.Fair.{Precedes, IsFirstWorst, IsFairSplit}
use Rattle.gx_split.proofs.Steps.{worst_in_row-none, worst_in_row-more, worst_in_rows-none, worst_in_rows-more, worst_pair-is}
use Rattle.gx_split.proofs.Begun.{length-others}
use Rattle.gx_split.proofs.Fairness.{IsFair, below_or_not, fair_begun, fair_placed, fair_end}

-- the pairs of the rows below m, and the first k of row m
abbrev Seen : ℕ → ℕ → ℕ → ℕ → Type 0
Seen m k i j = (i < m) ⊎ ((i ≡ m) × (j < m + 1 + k))

-- the first worst of the pairs that are seen
record IsWorstOf (w : ℕ → ℕ → ℤ) (n m k : ℕ) (p : Pair) : Type 0 where
  in_order : p.lower < p.higher
  within : p.higher < n
  worst : (i j : ℕ) → i < j → j < n → Seen m k i j → w i j ≤ℤ w p.lower p.higher
  first : (i j : ℕ) → i < j → j < n → Precedes i j p → w i j <ℤ w p.lower p.higher

at_most_less : (a b c : ℤ) → a ≤ℤ b → b <ℤ c → a <ℤ c
at_most_less a b c p q = omega (arith, ints)

less_at_most : (a b : ℤ) → a <ℤ b → a ≤ℤ b
less_at_most a b p = omega (arith, ints)

at_most_itself : (a b : ℤ) → a ≡ b → a ≤ℤ b
at_most_itself a b e = omega (arith, ints)

lt_true : (a b : ℤ) → int_lt a b ≡ true → a <ℤ b
lt_true a b h = grind (arith, ints)

lt_false : (a b : ℤ) → int_lt a b ≡ false → b ≤ℤ a
lt_false a b h = grind (arith, ints)

-- one pair more of a row
seen_more : (m k i j : ℕ) → i < j → Seen m (k + 1) i j → Seen m k i j ⊎ ((i ≡ m) × (j ≡ m + 1 + k))
seen_more m k i j less (inl above) = inl (inl above)
seen_more m k i j less (inr row) =
    elim (below_or_not j (m + 1 + k)) [ inl before ↦ inl (inr (row.0, before)) | inr last ↦ inr (row.0, let below = row.1 in omega arith) ]

one_more : (w : ℕ → ℕ → ℤ) (n m k : ℕ) (p : Pair) → IsWorstOf w n m k p → m + 1 + k < n
    → (t : Bool) → int_lt (w p.lower p.higher) (w m (m + 1 + k)) ≡ t → IsWorstOf w n m (k + 1) (cond t (pair m (m + 1 + k)) p)
one_more w n m k p is inside true h =
    let more = lt_true (w p.lower p.higher) (w m (m + 1 + k)) h in
    record {
      in_order = omega arith;
      within = inside;
      worst = λ i j less in_n seen. elim (seen_more m k i j less seen) [
        | inl before ↦ less_at_most _ _ (at_most_less _ _ _ (is.worst i j less in_n before) more)
        | inr here ↦ at_most_itself (w i j) (w m (m + 1 + k)) (ap (λ z. w z j) here.0 ∙ ap (w m) here.1)
      ];
      first = λ i j less in_n before. at_most_less _ _ _ (is.worst i j less in_n before) more;
    }
one_more w n m k p is inside false h =
    let no_more = lt_false (w p.lower p.higher) (w m (m + 1 + k)) h in
    record {
      in_order = is.in_order;
      within = is.within;
      worst = λ i j less in_n seen. elim (seen_more m k i j less seen) [
        | inl before ↦ is.worst i j less in_n before
        | inr here ↦ subst (λ z. z ≤ℤ w p.lower p.higher) (sym (ap (λ z. w z j) here.0 ∙ ap (w m) here.1)) no_more
      ];
      first = is.first;
    }

row_is : (w : ℕ → ℕ → ℤ) (n m k : ℕ) (p : Pair) → IsWorstOf w n m 0 p → m + 1 + k ≤ n → IsWorstOf w n m k (worst_in_row w p m k)
row_is w n m zero p is inside = rw (worst_in_row-none w p m) is
row_is w n m (suc k) p is inside =
    let before = row_is w n m k p is (omega arith) in
    rw (← add-one k, worst_in_row-more w p m k) (one_more w n m k (worst_in_row w p m k) before (omega arith) _ refl)

rows_is : (w : ℕ → ℕ → ℤ) (n m : ℕ) → 2 ≤ n → m + 1 ≤ n → IsWorstOf w n m 0 (worst_in_rows w n m)
rows_is w n zero two inside =
    rw (worst_in_rows-none w n)
    (record {
      in_order = omega arith;
      within = omega arith;
      worst = λ i j less in_n seen. elim seen [ inl above ↦ absurd (omega arith) | inr row ↦ let a = row.0 in let b = row.1 in absurd (omega arith) ];
      first = λ i j less in_n before. elim before [ inl above ↦ absurd (omega arith) | inr row ↦ let a = row.0 in let b = row.1 in absurd (omega arith) ];
    })
rows_is w n (suc m) two inside =
    let whole = row_is w n m (n - 1 - m) (worst_in_rows w n m) (rows_is w n m two (omega arith)) (omega arith) in
    rw (← add-one m, worst_in_rows-more w n m)
    (record {
      in_order = whole.in_order;
      within = whole.within;
      worst = λ i j less in_n seen. whole.worst i j less in_n
          (elim seen [
            | inl above ↦ elim (below_or_not i m) [ inl below ↦ inl below | inr at ↦ inr (omega arith, omega arith) ]
            | inr row ↦ let a = row.0 in let b = row.1 in absurd (omega arith)
          ]);
      first = whole.first;
    })

pub first_worst : (w : ℕ → ℕ → ℤ) (n : ℕ) → 2 ≤ n → IsFirstWorst w n (worst_pair w n)
first_worst w n two =
    let all = rows_is w n (n - 1) two (omega arith) in
    rw (worst_pair-is w n)
    (record {
      in_order = all.in_order;
      within = all.within;
      worst = λ i j less in_n. all.worst i j less in_n (inl (omega arith));
      first = all.first;
    })

pub found : {K : Type 0} (keys : List K) (i : ℕ) → i < length keys → (key : K) × (slice_get keys i ≡ Some key)
found [] i h = absurd (omega arith)
found (k ∷ ks) zero h = (k, refl)
found (k ∷ ks) (suc i) h = let less : i < length ks = omega arith in found ks i less

-- the groups as they begin and end, and the two keys that they begin with
pub record IsBegun {K : Type 0} (m : Measure K) (keys : List K) (least : ℕ) (a b : K) : Type 0 where
  pub lower : slice_get keys (seeds m keys).lower ≡ Some a
  pub higher : slice_get keys (seeds m keys).higher ≡ Some b
  pub lower_in : (seeds m keys).lower < length keys
  pub higher_in : (seeds m keys).higher < length keys
  pub start : IsFair (length keys) least (seeds m keys) (begun keys (seeds m keys) a b)
  pub waiting : length (begun keys (seeds m keys) a b).rest + 2 ≡ length keys
  pub end : IsFair (length keys) least (seeds m keys) (placed m keys least (begun keys (seeds m keys) a b) (length keys - 2))
  pub none_waits : length (placed m keys least (begun keys (seeds m keys) a b) (length keys - 2)).rest ≡ 0
  pub sides_are : split_sides m keys least ≡ (placed m keys least (begun keys (seeds m keys) a b) (length keys - 2)).sides

pub begins : {K : Type 0} (m : Measure K) (keys : List K) (least : ℕ) → 1 ≤ least → 2 * least ≤ length keys → (a : K) × (b : K) × IsBegun m keys least a b
unfolding split_sides
begins m keys least one enough =
    let worst = first_worst (waste_at m keys) (length keys) (omega arith) in
    let p = seeds m keys in
    let lower_in : p.lower < length keys = let a = worst.in_order in let b = worst.within in omega arith in
    let lower = found keys p.lower lower_in in
    let higher = found keys p.higher worst.within in
    let start = fair_begun keys least p lower.0 higher.0 one enough worst.in_order worst.within in
    let count = length-others p (length keys) worst.in_order worst.within in
    let after = fair_placed m keys (length keys) least p (begun keys p lower.0 higher.0) (length keys - 2) start (omega arith) enough in
    let left = after.1 in (
      lower.0,
      higher.0,
      record {
        lower = lower.1;
        higher = higher.1;
        lower_in = lower_in;
        higher_in = worst.within;
        start = start;
        waiting = count;
        end = after.0;
        none_waits = omega arith;
        sides_are = rw (lower.1, higher.1) refl;
      },
    )

-- the whole split is fair
pub fair_split : {K : Type 0} (m : Measure K) (keys : List K) (least : ℕ) → 1 ≤ least → 2 * least ≤ length keys
    → IsFairSplit (length keys) least (seeds m keys) (split_sides m keys least)
fair_split m keys least one enough =
    let two = begins m keys least one enough in let b = two.2 in
    rw b.sides_are (fair_end (length keys) least (seeds m keys) (placed m keys least (begun keys (seeds m keys) two.0 two.1) (length keys - 2)) b.end b.none_waits b.lower_in b.higher_in)
