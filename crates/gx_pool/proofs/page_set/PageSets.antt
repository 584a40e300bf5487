-- Sets of pages by their numbers, and the words that have some.
use Rattle.std.proofs.Common.{◌≡◌, ◌≢◌, ◌∙◌, sym, ap, ◌⊎◌, inl, inr, ℕ, ◌+◌, ◌*◌, ◌/◌, ◌%◌, ◌^◌, ◌<◌, ◌≤◌, List, length, get_or, Option, Some, None, IfSome, IfNone, arith, w64}
use Rattle.std.specs.Int.{bit_at, trailing_zeros}
use Rattle.std.proofs.Math.Decide.{ℕ_discrete}
use Rattle.std.proofs.lemmas.Bool.{cases_lt}
use Rattle.std.proofs.lemmas.Nat.Bits.{bit_at-zero, bit_at-trailing_zeros}
use Rattle.gx_disk.specs.declared.layout.TheConstants.{MAX_PAGES}
use Rattle.gx_pool.specs.Words.{has, IsFirst, NoneFrom, OthersStay}
use Rattle.gx_pool.specs.PageSets.{AreGrouped, ArePages}
use Rattle.gx_pool.proofs.Bits.{first_from}

not_both : (n : ℕ) → n ≡ 0 → n ≡ 1 → ⊥
not_both n none one = omega (arith, none, one)

-- ---- no page

-- one more word of which no bit is set
pub no_bit : (words : List ℕ) → ((k : ℕ) → get_or words k 0 ≡ 0) → (n : ℕ) → has words n ≡ 0
no_bit words all n = ap (λ v. bit_at v (n % 64)) (all (n / 64)) ∙ bit_at-zero (n % 64)

pub none_grouped : (words groups : List ℕ) → ((k : ℕ) → get_or words k 0 ≡ 0) → ((k : ℕ) → get_or groups k 0 ≡ 0) → AreGrouped words groups
none_grouped words groups none_here none_there = record {
  some = λ j is. absurd (not_both (has groups j) (no_bit groups none_there j) is);
  none = λ n is. no_bit words none_here n;
}

pub none_pages : (words : List ℕ) → ((k : ℕ) → get_or words k 0 ≡ 0) → ArePages words
none_pages words none = λ n is. absurd (not_both (has words n) (no_bit words none n) is)

-- ---- one page more

pub put_grouped : (words groups new marked : List ℕ) (n : ℕ) → AreGrouped words groups → has new n ≡ 1 → OthersStay n words new → has marked (n / 64) ≡ 1 → OthersStay (n / 64) groups marked → AreGrouped new marked
put_grouped words groups new marked n grouped put others mark others_marked = record {
  some = λ j is. elim (ℕ_discrete j (n / 64)) [
    | yes e ↦ (n, sym e, put)
    | no ne ↦
        let old = grouped.some j (sym (others_marked j ne) ∙ is) in
        (old.0, old.1, others old.0 (λ e. ne (sym old.1 ∙ ap (λ m. m / 64) e)) ∙ old.2)
  ];
  none = λ m is. elim (ℕ_discrete (m / 64) (n / 64)) [
    | yes e ↦ absurd (not_both (has marked (m / 64)) is (ap (has marked) e ∙ mark))
    | no ne ↦ others m (λ e. ne (ap (λ k. k / 64) e)) ∙ grouped.none m (sym (others_marked (m / 64) ne) ∙ is)
  ];
}

pub put_pages : (words new : List ℕ) (n : ℕ) → ArePages words → n ≤ MAX_PAGES → OthersStay n words new → ArePages new
put_pages words new n pages small others = λ m is. elim (ℕ_discrete m n) [
  | yes e ↦ omega (arith, e, small)
  | no ne ↦ pages m (sym (others m ne) ∙ is)
]

-- ---- one page less

pub taken_pages : (words new : List ℕ) (n : ℕ) → ArePages words → has new n ≡ 0 → OthersStay n words new → ArePages new
taken_pages words new n pages gone others = λ m is. elim (ℕ_discrete m n) [
  | yes e ↦ absurd (not_both (has new m) (ap (has new) e ∙ gone) is)
  | no ne ↦ pages m (sym (others m ne) ∙ is)
]

-- a word that is read as 0 is 0
pub read_zero : (words : List ℕ) (j w : ℕ) → w ≡ get_or words j w → w ≡ 0 → get_or words j 0 ≡ 0
read_zero words j w at zero = sym (ap (get_or words j) zero) ∙ sym at ∙ zero

-- its word has none then, so its group has no bit for it
pub taken_grouped : (words groups new marked : List ℕ) (n : ℕ) → AreGrouped words groups → OthersStay n words new → get_or new (n / 64) 0 ≡ 0 → has marked (n / 64) ≡ 0 → OthersStay (n / 64) groups marked
    → AreGrouped new marked
taken_grouped words groups new marked n grouped others empty mark others_marked = record {
  some = λ j is. elim (ℕ_discrete j (n / 64)) [
    | yes e ↦ absurd (not_both (has marked j) (ap (has marked) e ∙ mark) is)
    | no ne ↦
        let old = grouped.some j (sym (others_marked j ne) ∙ is) in
        (old.0, old.1, others old.0 (λ e. ne (sym old.1 ∙ ap (λ m. m / 64) e)) ∙ old.2)
  ];
  none = λ m is. elim (ℕ_discrete (m / 64) (n / 64)) [
    | yes e ↦ ap (λ j. bit_at (get_or new j 0) (m % 64)) e ∙ ap (λ v. bit_at v (m % 64)) empty ∙ bit_at-zero (m % 64)
    | no ne ↦ others m (λ e. ne (ap (λ k. k / 64) e)) ∙ grouped.none m (sym (others_marked (m / 64) ne) ∙ is)
  ];
}

-- a word that isn't 0 has a number
some_bit : (words : List ℕ) (j : ℕ) → 0 < get_or words j 0 → get_or words j 0 < 2 ^ 64 → (n : ℕ) × (n / 64 ≡ j) × (has words n ≡ 1)
some_bit words j some fits =
    let w = get_or words j 0 in
    let least = bit_at-trailing_zeros w64 w some fits in
    let bit = trailing_zeros w64 w in
    let at : (64 * j + bit) / 64 ≡ j = omega (arith, least.0) in
    let rest : (64 * j + bit) % 64 ≡ bit = omega (arith, least.0) in
    (64 * j + bit, at, ap (λ k. bit_at (get_or words k 0) ((64 * j + bit) % 64)) at ∙ ap (bit_at w) rest ∙ least.1)

-- its word has others, so its group keeps the bit
pub kept_grouped : (words groups new : List ℕ) (n : ℕ) → AreGrouped words groups → has new n ≡ 0 → OthersStay n words new → 0 < get_or new (n / 64) 0 → get_or new (n / 64) 0 < 2 ^ 64 → AreGrouped new groups
kept_grouped words groups new n grouped gone others some fits = record {
  some = λ j is. elim (ℕ_discrete j (n / 64)) [
    | yes e ↦ let there = some_bit new (n / 64) some fits in (there.0, there.1 ∙ sym e, there.2)
    | no ne ↦
        let old = grouped.some j is in
        (old.0, old.1, others old.0 (λ e. ne (sym old.1 ∙ ap (λ m. m / 64) e)) ∙ old.2)
  ];
  none = λ m is. elim (ℕ_discrete m n) [
    | yes e ↦ ap (has new) e ∙ gone
    | no ne ↦ others m ne ∙ grouped.none m is
  ];
}

-- ---- the least page

pub few : (words : List ℕ) (from n : ℕ) → ArePages words → IsFirst words from n → n ≤ MAX_PAGES
few words from n pages is = pages n is.there

-- a word that has numbers is one of the pages'
pub word_inside : (words groups : List ℕ) (from word : ℕ) → AreGrouped words groups → ArePages words → IsFirst groups from word → 64 * word ≤ MAX_PAGES
word_inside words groups from word grouped pages is =
    let there = grouped.some word is.there in
    let small = pages there.0 there.2 in
    omega (arith, small, there.1)

-- no number is in the words up to the first that has some
none_between : (words groups : List ℕ) (from word : ℕ) → AreGrouped words groups → ((n : ℕ) → from ≤ n → n / 64 ≡ from / 64 → has words n ≡ 0)
    → ((j : ℕ) → from / 64 + 1 ≤ j → j < word → has groups j ≡ 0) → (n : ℕ) → from ≤ n → n / 64 < word → has words n ≡ 0
none_between words groups from word grouped first rest n start before = elim (ℕ_discrete (n / 64) (from / 64)) [
  | yes e ↦ first n start e
  | no ne ↦ grouped.none n (rest (n / 64) (elim (cases_lt (n / 64) (from / 64 + 1)) [
    | inl less ↦ absurd (ne (omega (arith, less, start)))
    | inr past ↦ past
  ]) before)
]

-- the least of that word is the least
pub least_later : (words groups : List ℕ) (from word size : ℕ) (found : Option ℕ) → AreGrouped words groups → ArePages words → ((n : ℕ) → from ≤ n → n / 64 ≡ from / 64 → has words n ≡ 0)
    → IsFirst groups (from / 64 + 1) word → IfSome found (λ n. IsFirst words (64 * word) n × (n < size)) → IfSome found (λ n. IsFirst words from n × (n ≤ MAX_PAGES))
least_later words groups from word size None grouped pages first is found = tt
least_later words groups from word size (Some n) grouped pages first is found = (
  first_from words from (64 * word) n (omega (arith, is.start)) (λ k start before. none_between words groups from word grouped first is.none_before k start (omega (arith, before))) found.0,
  pages n found.0.there,
)

-- and there is one
pub some_later : (words groups : List ℕ) (from start word : ℕ) (found : Option ℕ) → AreGrouped words groups → IsFirst groups start word → IfNone found ((n : ℕ) → 64 * word ≤ n → n / 64 ≡ (64 * word) / 64 → has words n ≡ 0)
    → IfNone found (NoneFrom words from)
some_later words groups from start word None grouped is none =
    let there = grouped.some word is.there in
    absurd (not_both (has words there.0) (none there.0 (omega (arith, there.1)) (omega (arith, there.1))) there.2)
some_later words groups from start word (Some n) grouped is none = tt

-- no word after the first has any
pub none_later : (words groups : List ℕ) (from : ℕ) → AreGrouped words groups → ((n : ℕ) → from ≤ n → n / 64 ≡ from / 64 → has words n ≡ 0) → NoneFrom groups (from / 64 + 1) → NoneFrom words from
none_later words groups from grouped first rest = λ n start. none_between words groups from (n / 64 + 1) grouped first (λ j past before. rest j past) n start (omega arith)
