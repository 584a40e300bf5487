-- Sets of numbers in words, a bit each.
use Rattle.std.proofs.Common.{◌≡◌, ◌≢◌, ◌∙◌, sym, ap, ◌⊎◌, inl, inr, ℕ, ◌+◌, ◌-◌, ◌*◌, ◌/◌, ◌%◌, ◌^◌, ◌<◌, ◌≤◌, min, bit_and, List, length, get_or, set, arith, get_or-set_same, get_or-set_other, w64}
use Rattle.std.specs.Int.{bit_at, trailing_zeros}
use Rattle.std.proofs.Math.Decide.{ℕ_discrete}
use Rattle.std.proofs.Math.ListN.{get_or-eq_default}
use Rattle.std.proofs.lemmas.Bool.{cases_lt}
use Rattle.std.proofs.lemmas.Nat.Bits.{bit_at-zero, bit_at-lt, bit_at_and, bit_at_mask_inside, bit_at_mask_below, bit_at-trailing_zeros}
use Rattle.gx_pool.specs.Words.{has, IsFirstBit, IsFirst, NoneFrom, OthersStay}

-- ---- one word

with_one : (x : ℕ) → x < 2 → min x 1 ≡ x
with_one x less = grind arith

with_none : (x : ℕ) → min x 0 ≡ 0
with_none x = grind arith

zero_one : (n : ℕ) → n ≡ 0 → n ≡ 1 → ⊥
zero_one n none one = omega (arith, none, one)

below_both : (i bit : ℕ) → i < bit → bit < 64 → i < 64
below_both i bit less small = omega (arith, less, small)

-- the bits of a word from one on, and none before
pub masked : (word from i : ℕ) → from ≤ i → i < 64 → bit_at (bit_and word (2 ^ 64 - 2 ^ from)) i ≡ bit_at word i
masked word from i start below = bit_at_and word (2 ^ 64 - 2 ^ from) i ∙ ap (min (bit_at word i)) (bit_at_mask_inside from 64 i start below) ∙ with_one (bit_at word i) (bit_at-lt word i)

pub masked_away : (word from i : ℕ) → i < from → bit_at (bit_and word (2 ^ 64 - 2 ^ from)) i ≡ 0
masked_away word from i before = bit_at_and word (2 ^ 64 - 2 ^ from) i ∙ ap (min (bit_at word i)) (bit_at_mask_below from 64 i before) ∙ with_none (bit_at word i)

-- if none is left, none is set from there on
pub none_left : (word from : ℕ) → bit_and word (2 ^ 64 - 2 ^ from) ≡ 0 → (i : ℕ) → from ≤ i → i < 64 → bit_at word i ≡ 0
none_left word from none i start below = sym (masked word from i start below) ∙ ap (λ n. bit_at n i) none ∙ bit_at-zero i

-- the least that is left is the least from there on
pub least_left : (word from rest : ℕ) → rest ≡ bit_and word (2 ^ 64 - 2 ^ from) → 0 < rest → rest < 2 ^ 64 → IsFirstBit word from (trailing_zeros w64 rest)
least_left word from rest is some fits =
    let least = bit_at-trailing_zeros w64 rest some fits in
    let bit = trailing_zeros w64 rest in
    elim (cases_lt bit from) [
      | inl less ↦ absurd (zero_one (bit_at rest bit) (ap (λ n. bit_at n bit) is ∙ masked_away word from bit less) least.1)
      | inr start ↦ record {
        start = start;
        inside = least.0;
        set = sym (masked word from bit start least.0) ∙ ap (λ n. bit_at n bit) (sym is) ∙ least.1;
        none_before = λ i past less.
            let small : i < 64 = below_both i bit less least.0 in
            sym (masked word from i past small) ∙ ap (λ n. bit_at n i) (sym is) ∙ least.2 i less;
      }
    ]

-- ---- a number in its word

pub written_there : (words : List ℕ) (n w : ℕ) → n < 64 * length words → has (set words (n / 64) w) n ≡ bit_at w (n % 64)
written_there words n w inside = ap (λ v. bit_at v (n % 64)) (get_or-set_same words (n / 64) w 0 (omega (arith, inside)))

pub written_elsewhere : (words : List ℕ) (n w : ℕ) → n < 64 * length words → ((i : ℕ) → i < 64 → i ≢ n % 64 → bit_at w i ≡ bit_at (get_or words (n / 64) 0) i) → OthersStay n words (set words (n / 64) w)
written_elsewhere words n w inside same = λ k ne. elim (ℕ_discrete (k / 64) (n / 64)) [
  | yes e ↦
      ap (λ j. bit_at (get_or (set words (n / 64) w) j 0) (k % 64)) e ∙ ap (λ v. bit_at v (k % 64)) (get_or-set_same words (n / 64) w 0 (omega (arith, inside)))
      ∙ same (k % 64) (omega arith) (λ r. ne (omega (arith, e, r))) ∙ ap (λ j. bit_at (get_or words j 0) (k % 64)) (sym e)
  | no other ↦ ap (λ v. bit_at v (k % 64)) (get_or-set_other words (n / 64) (k / 64) w 0 other)
]

pub first_there : (words : List ℕ) (from bit : ℕ) → IsFirstBit (get_or words (from / 64) 0) (from % 64) bit → IsFirst words from (64 * (from / 64) + bit)
first_there words from bit is =
    let at : (64 * (from / 64) + bit) / 64 ≡ from / 64 = omega (arith, is.inside) in
    let rest : (64 * (from / 64) + bit) % 64 ≡ bit = omega (arith, is.inside) in
    record {
      start = omega (arith, is.start);
      there = ap (λ j. bit_at (get_or words j 0) ((64 * (from / 64) + bit) % 64)) at ∙ ap (bit_at (get_or words (from / 64) 0)) rest ∙ is.set;
      none_before = λ k start before.
          let same : k / 64 ≡ from / 64 = omega (arith, start, before, is.inside) in
          ap (λ j. bit_at (get_or words j 0) (k % 64)) same ∙ is.none_before (k % 64) (omega (arith, start, same)) (omega (arith, before, same));
    }

pub none_there : (words : List ℕ) (from : ℕ) → ((i : ℕ) → from % 64 ≤ i → i < 64 → bit_at (get_or words (from / 64) 0) i ≡ 0) → (n : ℕ) → from ≤ n → n / 64 ≡ from / 64 → has words n ≡ 0
none_there words from none n start same = ap (λ j. bit_at (get_or words j 0) (n % 64)) same ∙ none (n % 64) (omega (arith, start, same)) (omega arith)

-- no number is beyond the words
pub beyond : (words : List ℕ) (n : ℕ) → 64 * length words ≤ n → has words n ≡ 0
beyond words n past = ap (λ v. bit_at v (n % 64)) (get_or-eq_default words 0 (omega (arith, past))) ∙ bit_at-zero (n % 64)

-- ---- word by word

-- none in the first word, from a number on
pub first_word : (words : List ℕ) (from : ℕ) → ((n : ℕ) → from ≤ n → n / 64 ≡ from / 64 → has words n ≡ 0) → (n : ℕ) → from ≤ n → n < 64 * (from / 64 + 1) → has words n ≡ 0
first_word words from none n start before = none n start (omega (arith, start, before))

-- nor in one more
pub next_word : (words : List ℕ) (from word : ℕ) → ((n : ℕ) → from ≤ n → n < 64 * word → has words n ≡ 0) → ((n : ℕ) → 64 * word ≤ n → n / 64 ≡ (64 * word) / 64 → has words n ≡ 0)
    → (n : ℕ) → from ≤ n → n < 64 * (word + 1) → has words n ≡ 0
next_word words from word none more n start before = elim (cases_lt n (64 * word)) [
  | inl less ↦ none n start less
  | inr past ↦ more n past (omega (arith, past, before))
]

-- the first from a place on, if there is none before
pub first_from : (words : List ℕ) (from place n : ℕ) → from ≤ place → ((k : ℕ) → from ≤ k → k < place → has words k ≡ 0) → IsFirst words place n → IsFirst words from n
first_from words from place n order none is = record {
  start = omega (arith, order, is.start);
  there = is.there;
  none_before = λ k start before. elim (cases_lt k place) [
    | inl less ↦ none k start less
    | inr past ↦ is.none_before k past before
  ];
}

-- none up to the end is none at all
pub none_at_all : (words : List ℕ) (from end : ℕ) → length words ≤ end → ((n : ℕ) → from ≤ n → n < 64 * end → has words n ≡ 0) → NoneFrom words from
none_at_all words from end all none = λ n start. elim (cases_lt n (64 * end)) [
  | inl less ↦ none n start less
  | inr past ↦ beyond words n (omega (arith, all, past))
]
