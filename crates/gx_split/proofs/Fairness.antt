-- The split is fair: each slot has a side, each side its least number, and the seeds are apart.
use Rattle.std.proofs.Common.{◌≡◌, ◌≢◌, ℕ, zero, suc, ◌+◌, ◌-◌, ◌*◌, ◌<◌, ◌≤◌, ◌⊎◌, inl, inr, Bool, true, false, cond, refl, ap, sym, ◌∙◌, subst, arith, add-one, List, length, [], ◌∷◌, ◌++◌, map, get_or, set, remove, All, Some, slice_index, replicate, count_by, sum_by, not}
use Rattle.std.specs.Prelude.{nat_le, nat_lt}
use Rattle.std.proofs.lemmas.Bool.Decides.{nat_tests, leb_tells, eqb_tells}
use Rattle.std.proofs.lemmas.List.{length-map, length-append, length-set, length-replicate, get_or-replicate, get_or-set_same, get_or-set_other}
use Rattle.std.proofs.lemmas.List.Sums.{sum_by-set, sum_by-cons}
use Rattle.std.proofs.lemmas.List.Edits.{length-remove, get_or-remove_below, get_or-remove_above}
use Rattle.std.proofs.lemmas.List.Elements.{All-get_or, All-from_get_or}
use Rattle.std.proofs.lemmas.Option.{slice_get-get_or}
use lib.ListN.{get_or-append}
use lib.Seq.{get_or-append_seam}
use Rattle.gx_split.specs.Split.{Measure, Groups, Pair, begun, difference, growth_at, first_greatest, greatest_upto, goes_second, next_place, others, placed, place_one, put}
use Rattle.gx_split.specs.Fair.{IsFairSplit, IsFirstGreatest}
use Rattle.gx_split.proofs.Begun.{is_seed, All-others, length-others, others-none, others_skips, others_takes}
use Rattle.gx_split.proofs.Placing.{All-remove, placed-none, placed-more}
use Rattle.gx_split.proofs.Steps.{first_greatest-is}

pub below_or_not : (i p : ℕ) → (i < p) ⊎ (p ≤ i)
below_or_not i p = elim (leb_tells p i) [ inl w ↦ inr w.1 | inr w ↦ inl w.1 ]

same_or_not : (a b : ℕ) → (a ≡ b) ⊎ (a ≢ b)
same_or_not a b = elim (eqb_tells a b) [ inl w ↦ inl w.1 | inr w ↦ inr w.1 ]

-- a place that reads false, while one outside would read true, is in the list
pub in_range : (xs : List Bool) (i : ℕ) → get_or xs i true ≡ false → i < length xs
in_range [] i h = cc
in_range (x ∷ xs) zero h = omega arith
in_range (x ∷ xs) (suc i) h = let less = in_range xs i h in omega arith

-- one more side is true
count-set : (xs : List Bool) (i : ℕ) → get_or xs i true ≡ false → count_by (λ s. s) (set xs i true) ≡ count_by (λ s. s) xs + 1
count-set xs i h =
    let more = sum_by-set (λ s. cond s 1 0) xs i true true (in_range xs i h) in
    let none : (let n : ℕ = cond (get_or xs i true) 1 0 in n) ≡ 0 = ap (λ t. cond t 1 0) h in
    omega (arith, more, none)

-- numbers that rise along a list
pub record IsRising (xs : List ℕ) : Type 0 where
  pub rises : (i j : ℕ) → i < j → j < length xs → get_or xs i 0 < get_or xs j 0

-- where the element at i comes from, once the one at p is taken out
abbrev pub source : ℕ → ℕ → ℕ
source p i = cond (nat_lt i p) i (i + 1)

get_or-remove : (xs : List ℕ) (p i : ℕ) → p < length xs → get_or (remove xs p) i 0 ≡ get_or xs (source p i) 0
get_or-remove xs p i h =
    elim (below_or_not i p) [
      | inl below ↦ let t : nat_lt i p ≡ true = grind (arith, nat_tests) in rw t (get_or-remove_below xs p 0 i below h)
      | inr above ↦ let t : nat_lt i p ≡ false = grind (arith, nat_tests) in rw t (get_or-remove_above xs p 0 i above h)
    ]

removed-rises : (xs : List ℕ) (p : ℕ) → p < length xs → IsRising xs → IsRising (remove xs p)
removed-rises xs p h rising = record {
  rises = λ i j less within.
      let n = length-remove xs p h in
      let order : source p i < source p j = grind (arith, nat_tests) in
      let inside : source p j < length xs = grind (arith, nat_tests) in
      rw (get_or-remove xs p i h, get_or-remove xs p j h) (rising.rises (source p i) (source p j) order inside);
}

-- what is taken out is not left
removed-others : (xs : List ℕ) (p : ℕ) → p < length xs → IsRising xs → All (λ t. t ≢ get_or xs p 0) (remove xs p)
removed-others xs p h rising =
    All-from_get_or (λ t. t ≢ get_or xs p 0) (remove xs p) 0
    (λ i within same.
    let n = length-remove xs p h in
    let at : get_or xs (source p i) 0 ≡ get_or xs p 0 = sym (get_or-remove xs p i h) ∙ same in
    elim (below_or_not i p) [
      | inl below ↦
          let t : source p i ≡ i = grind (arith, nat_tests) in
          let less = rising.rises i p below h in
          let again : get_or xs i 0 ≡ get_or xs p 0 = ap (λ k. get_or xs k 0) (sym t) ∙ at in
          omega arith
      | inr above ↦
          let t : source p i ≡ i + 1 = grind (arith, nat_tests) in
          let less = rising.rises p (i + 1) (omega arith) (omega arith) in
          let again : get_or xs (i + 1) 0 ≡ get_or xs p 0 = ap (λ k. get_or xs k 0) (sym t) ∙ at in
          omega arith
    ])

-- the search finds the first greatest
greatest_upto-more : (xs : List ℕ) (k : ℕ) → greatest_upto xs (suc k) ≡ cond (nat_lt (slice_index xs (greatest_upto xs k)) (slice_index xs k)) k (greatest_upto xs k)
unfolding greatest_upto
greatest_upto-more xs k = refl

first_step : (xs : List ℕ) (k b : ℕ) → IsFirstGreatest xs k b → (t : Bool) → nat_lt (slice_index xs b) (slice_index xs k) ≡ t → IsFirstGreatest xs (suc k) (cond t k b)
first_step xs k b is true h =
    let more : slice_index xs b < slice_index xs k = grind (arith, nat_tests) in
    record {
      within = omega arith;
      greatest = λ i less. elim (below_or_not i k) [
        | inl below ↦ let before = is.greatest i below in omega arith
        | inr above ↦ let same : i ≡ k = omega arith in let e : slice_index xs i ≡ slice_index xs k = ap (slice_index xs) same in omega arith
      ];
      first = λ i less. let before = is.greatest i less in omega arith;
    }
first_step xs k b is false h =
    let no_more : slice_index xs k ≤ slice_index xs b = grind (arith, nat_tests) in
    let inside = is.within in
    record {
      within = omega arith;
      greatest = λ i less. elim (below_or_not i k) [
        | inl below ↦ is.greatest i below
        | inr above ↦ let same : i ≡ k = omega arith in let e : slice_index xs i ≡ slice_index xs k = ap (slice_index xs) same in omega arith
      ];
      first = is.first;
    }

greatest_upto-one : (xs : List ℕ) → greatest_upto xs 1 ≡ 0
unfolding greatest_upto
greatest_upto-one xs = grind (arith, nat_tests)

greatest_upto_is : (xs : List ℕ) (k : ℕ) → IsFirstGreatest xs (suc k) (greatest_upto xs (suc k))
greatest_upto_is xs zero =
    rw (greatest_upto-one xs)
    (record {
      within = omega arith;
      greatest = λ i less. let same : i ≡ 0 = omega arith in let e : slice_index xs i ≡ slice_index xs 0 = ap (slice_index xs) same in omega arith;
      first = λ i less. absurd (omega arith);
    })
greatest_upto_is xs (suc k) =
    rw (greatest_upto-more xs (suc k)) (first_step xs (suc k) (greatest_upto xs (suc k)) (greatest_upto_is xs k) _ refl)

pub first_greatest_is : (xs : List ℕ) → 0 < length xs → IsFirstGreatest xs (length xs) (first_greatest xs)
first_greatest_is xs h =
    let same : suc (length xs - 1) ≡ length xs = omega arith in
    rw (first_greatest-is xs) (subst (λ k. IsFirstGreatest xs k (greatest_upto xs k)) same (greatest_upto_is xs (length xs - 1)))

-- what the choice of a side says of the numbers
second_tells : (x y l : ℕ) (t : Bool) → cond (nat_le x l) false (cond (nat_le y l) true t) ≡ true → l < x
second_tells x y l t h = grind (arith, nat_tests)

first_tells : (x y l : ℕ) (t : Bool) → cond (nat_le x l) false (cond (nat_le y l) true t) ≡ false → (x ≤ l) ⊎ (l < y)
first_tells x y l t h =
    elim (below_or_not l x) [
      | inl below ↦ elim (below_or_not l y) [ inl less ↦ inr less | inr most ↦ absurd (grind (arith, nat_tests)) ]
      | inr most ↦ inl most
    ]

-- the groups so far: what waits is apart from what is placed, and each side can have its least number
pub record IsFair {K : Type 0} (n least : ℕ) (p : Pair) (g : Groups K) : Type 0 where
  pub length_is : length g.sides ≡ n
  pub waits : All (λ s. get_or g.sides s true ≡ false) g.rest
  pub apart : All (λ s. s ≢ p.lower) g.rest
  pub rising : IsRising g.rest
  pub counted : g.in_first + g.in_second + length g.rest ≡ n
  pub second_count : count_by (λ s. s) g.sides ≡ g.in_second
  pub first_enough : least ≤ g.in_first + length g.rest
  pub second_enough : least ≤ g.in_second + length g.rest
  pub lower_side : get_or g.sides p.lower true ≡ false
  pub higher_side : get_or g.sides p.higher false ≡ true

fair_second : {K : Type 0} (m : Measure K) (keys : List K) (n least : ℕ) (p : Pair) (g : Groups K) (place : ℕ) → IsFair n least p g → place < length g.rest
    → least < g.in_first + length g.rest → IsFair n least p (put m keys g place (get_or g.rest place 0) true)
fair_second m keys n least p g place fair within room =
    let slot = get_or g.rest place 0 in
    let less = length-remove g.rest place within in
    let was : get_or g.sides slot true ≡ false = All-get_or (λ s. get_or g.sides s true ≡ false) g.rest place 0 within fair.waits in
    let apart = All-get_or (λ s. s ≢ p.lower) g.rest place 0 within fair.apart in
    let here : slot < length g.sides = in_range g.sides slot was in
    let counted = fair.counted in
    let first_enough = fair.first_enough in
    let second_enough = fair.second_enough in
    record {
      length_is = length-set g.sides slot true ∙ fair.length_is;
      waits = λ k d h.
          get_or-set_other g.sides slot (get_or (remove g.rest place) k d) true true (removed-others g.rest place within fair.rising k d h)
          ∙ All-remove (λ s. get_or g.sides s true ≡ false) g.rest place fair.waits k d h;
      apart = All-remove (λ s. s ≢ p.lower) g.rest place fair.apart;
      rising = removed-rises g.rest place within fair.rising;
      counted = omega arith;
      second_count = count-set g.sides slot was ∙ ap (λ k. k + 1) fair.second_count;
      first_enough = omega arith;
      second_enough = omega arith;
      lower_side = get_or-set_other g.sides slot p.lower true true (λ e. apart (sym e)) ∙ fair.lower_side;
      higher_side = elim (same_or_not slot p.higher) [
        | inl same ↦ subst (λ j. get_or (set g.sides slot true) j false ≡ true) same (get_or-set_same g.sides slot true false here)
        | inr other ↦ get_or-set_other g.sides slot p.higher true false (λ e. other (sym e)) ∙ fair.higher_side
      ];
    }

fair_first : {K : Type 0} (m : Measure K) (keys : List K) (n least : ℕ) (p : Pair) (g : Groups K) (place : ℕ) → IsFair n least p g → place < length g.rest
    → 2 * least ≤ n → (g.in_first + length g.rest ≤ least) ⊎ (least < g.in_second + length g.rest) → IsFair n least p (put m keys g place (get_or g.rest place 0) false)
fair_first m keys n least p g place fair within enough room =
    let less = length-remove g.rest place within in
    let counted = fair.counted in
    let first_enough = fair.first_enough in
    record {
      length_is = fair.length_is;
      waits = All-remove (λ s. get_or g.sides s true ≡ false) g.rest place fair.waits;
      apart = All-remove (λ s. s ≢ p.lower) g.rest place fair.apart;
      rising = removed-rises g.rest place within fair.rising;
      counted = omega arith;
      second_count = fair.second_count;
      first_enough = omega arith;
      second_enough = elim room [ inl few ↦ omega arith | inr many ↦ omega arith ];
      lower_side = fair.lower_side;
      higher_side = fair.higher_side;
    }

fair_put : {K : Type 0} (m : Measure K) (keys : List K) (n least : ℕ) (p : Pair) (g : Groups K) (place a b : ℕ) → IsFair n least p g → place < length g.rest → 2 * least ≤ n
    → (t : Bool) → goes_second m g least a b ≡ t → IsFair n least p (put m keys g place (get_or g.rest place 0) t) × (length (put m keys g place (get_or g.rest place 0) t).rest + 1 ≡ length g.rest)
fair_put m keys n least p g place a b fair within enough true is =
    (fair_second m keys n least p g place fair within (second_tells _ _ _ _ is), length-remove g.rest place within)
fair_put m keys n least p g place a b fair within enough false is =
    (fair_first m keys n least p g place fair within enough (first_tells _ _ _ _ is), length-remove g.rest place within)

fair_place_one : {K : Type 0} (m : Measure K) (keys : List K) (n least : ℕ) (p : Pair) (g : Groups K) → IsFair n least p g → 0 < length g.rest → 2 * least ≤ n
    → IsFair n least p (place_one m keys least g) × (length (place_one m keys least g).rest + 1 ≡ length g.rest)
unfolding place_one
fair_place_one m keys n least p g fair some enough =
    let gaps = map (difference m keys g.first g.second) g.rest in
    let count : length gaps ≡ length g.rest = length-map g.rest (difference m keys g.first g.second) in
    let place_in = (first_greatest_is gaps (omega arith)).within in
    let slot = slice_index g.rest (next_place m keys g) in
    fair_put m keys n least p g (next_place m keys g) (growth_at m keys g.first slot) (growth_at m keys g.second slot) fair (omega arith) enough _ refl

pub fair_placed : {K : Type 0} (m : Measure K) (keys : List K) (n least : ℕ) (p : Pair) (g : Groups K) (k : ℕ) → IsFair n least p g → k ≤ length g.rest → 2 * least ≤ n
    → IsFair n least p (placed m keys least g k) × (length (placed m keys least g k).rest + k ≡ length g.rest)
fair_placed m keys n least p g zero fair some enough = rw (placed-none m keys least g) (fair, omega arith)
fair_placed m keys n least p g (suc k) fair some enough =
    let before = fair_placed m keys n least p g k fair (omega arith) enough in
    let left = before.1 in
    let after = fair_place_one m keys n least p (placed m keys least g k) before.0 (omega arith) enough in
    let left' = after.1 in
    rw (← add-one k, placed-more m keys least g k) (after.0, omega arith)

rising_push : (xs : List ℕ) (k : ℕ) → IsRising xs → All (λ x. x < k) xs → IsRising (xs ++ k ∷ [])
rising_push xs k rising below = record {
  rises = λ i j less within.
      let n = length-append xs (k ∷ []) in
      elim (below_or_not j (length xs)) [
        | inl inside ↦
            let i_in : i < length xs = omega arith in
            rw (get_or-append xs (k ∷ []) 0 i i_in, get_or-append xs (k ∷ []) 0 j inside) (rising.rises i j less inside)
        | inr last ↦
            let j_is : j ≡ length xs = omega arith in
            let i_in : i < length xs = omega arith in
            let at_i = below i 0 i_in in
            let at_j : get_or (xs ++ k ∷ []) j 0 ≡ k = ap (λ z. get_or (xs ++ k ∷ []) z 0) j_is ∙ get_or-append_seam xs k [] 0 in
            rw (get_or-append xs (k ∷ []) 0 i i_in) (omega arith)
      ];
}

others-rising_by : (p : Pair) (k : ℕ) (t : Bool) → is_seed p k ≡ t → IsRising (others p k) → IsRising (others p (k + 1))
others-rising_by p k true is before = rw (others_skips p k is) before
others-rising_by p k false is before = rw (others_takes p k is) (rising_push (others p k) k before (All-others (λ s. s < k) p k (λ s h _. h)))

others-rising : (p : Pair) (k : ℕ) → IsRising (others p k)
others-rising p zero = rw others-none (record { rises = λ i j less within. absurd (omega arith) })
others-rising p (suc k) = rw (← add-one k) (others-rising_by p k (is_seed p k) refl (others-rising p k))

count-replicate : (n : ℕ) → count_by (λ s. s) (replicate n false) ≡ 0
count-replicate zero = refl
count-replicate (suc n) = let first = sum_by-cons (λ s. cond s 1 0) false (replicate n false) in let rest = count-replicate n in omega (arith, first, rest)

count_both : (xs : List Bool) → count_by (λ s. s) xs + count_by not xs ≡ length xs
count_both [] = refl
count_both (x ∷ xs) =
    let yes = sum_by-cons (λ s. cond s 1 0) x xs in
    let no' = sum_by-cons (λ s. cond (not s) 1 0) x xs in
    let rest = count_both xs in
    elim x as (λ z. sum_by (λ s. cond s 1 0) (x ∷ xs) ≡ cond z 1 0 + count_by (λ s. s) xs → sum_by (λ s. cond (not s) 1 0) (x ∷ xs) ≡ cond (not z) 1 0 + count_by not xs
    → count_by (λ s. s) (x ∷ xs) + count_by not (x ∷ xs) ≡ length (x ∷ xs)) [ true ↦ λ a b. omega (arith, a, b) | false ↦ λ a b. omega (arith, a, b) ] yes no'

not_seed_lower : (p : Pair) (s : ℕ) → is_seed p s ≡ false → s ≢ p.lower
not_seed_lower p s h = grind (arith, nat_tests)

not_seed_higher : (p : Pair) (s : ℕ) → is_seed p s ≡ false → s ≢ p.higher
not_seed_higher p s h = grind (arith, nat_tests)

pub fair_begun : {K : Type 0} (keys : List K) (least : ℕ) (p : Pair) (a b : K) → 1 ≤ least → 2 * least ≤ length keys → p.lower < p.higher → p.higher < length keys
    → IsFair (length keys) least p (begun keys p a b)
fair_begun keys least p a b one enough order within =
    let n = length keys in
    let none = replicate n false in
    let waiting = length-others p n order within in
    let apart : p.lower ≢ p.higher = λ e. omega arith in
    let count : length none ≡ n = length-replicate n false in
    let higher_in : p.higher < length none = omega arith in
    let lower_in : p.lower < n = omega arith in
    record {
      length_is = length-set none p.higher true ∙ count;
      waits =
          All-others (λ s. get_or (set none p.higher true) s true ≡ false) p n
          (λ s h no_seed. get_or-set_other none p.higher s true true (not_seed_higher p s no_seed) ∙ get_or-replicate n s false true h);
      apart = All-others (λ s. s ≢ p.lower) p n (λ s h no_seed. not_seed_lower p s no_seed);
      rising = others-rising p n;
      counted = omega arith;
      second_count = count-set none p.higher (get_or-replicate n p.higher false true within) ∙ ap (λ z. z + 1) (count-replicate n);
      first_enough = omega arith;
      second_enough = omega arith;
      lower_side = get_or-set_other none p.higher p.lower true true apart ∙ get_or-replicate n p.lower false true lower_in;
      higher_side = get_or-set_same none p.higher true false higher_in;
    }

-- the sides of n slots, once all are placed
pub fair_end : {K : Type 0} (n least : ℕ) (p : Pair) (g : Groups K) → IsFair n least p g → length g.rest ≡ 0 → p.lower < n → p.higher < n → IsFairSplit n least p g.sides
fair_end n least p g fair none lower higher =
    let both = count_both g.sides in
    let count = fair.length_is in
    let counted = fair.counted in
    let second_count = fair.second_count in
    let first_enough = fair.first_enough in
    let second_enough = fair.second_enough in
    let lower_in : p.lower < length g.sides = omega arith in
    let higher_in : p.higher < length g.sides = omega arith in
    record {
      each_has_one = fair.length_is;
      first_has = omega arith;
      second_has = omega arith;
      lower_is_first = slice_get-get_or g.sides p.lower true lower_in ∙ ap Some fair.lower_side;
      higher_is_second = slice_get-get_or g.sides p.higher false higher_in ∙ ap Some fair.higher_side;
    }
