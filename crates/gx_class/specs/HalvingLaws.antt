-- Keys that are divided by their places are divided in order, and in halves.
use Rattle.std.proofs.Common.{◌≡◌, zero-add, ℕ, ◌+◌, ◌/◌, ◌<◌, ◌≤◌, Bool, true, false, not, List, [], ◌∷◌, length, get_or, refl, ap, sym, ◌∙◌, arith, inl, inr}
use Rattle.std.specs.Prelude.{nat_lt, nat_le}
use Rattle.std.specs.List.{enumerate_from}
use Rattle.std.specs.Cmp.{IsTotalOrder}
use Rattle.std.specs.Ordering.{is_lt, nat_cmp, ordering_then, ordering_reverse}
use Rattle.std.specs.declared.cmp.Ordering.{Ordering}
use Rattle.std.specs.declared.cmp.Ordering.TheVariants.{Less, Equal, Greater}
use Rattle.std.proofs.lemmas.Cmp.{on_total, then_total, nat_cmp_total, ranked}
use Rattle.std.proofs.lemmas.Bool.{lt-ltb, le-ltb, leb-true, leb-false}
use Rattle.std.proofs.lemmas.List.{length-map, get_or_default}
use Rattle.std.proofs.lemmas.List.FromFn.{length-enumerate_from, get_or-enumerate_from}
use Rattle.std.proofs.Math.ListN.{get_or-map}
use Rattle.gx_class.specs.Counts.{count, IsAmong, count_is, count-map, count_both, count_same, rank, AreApart, placed_below, later_not_less}
use Rattle.gx_class.specs.Halving.{slotted_cmp, comes_before, place_among, first_half, halves_by_order, IsHalvedInOrder}

module _ {K : Type 0} (cmp : K → K → Ordering) (total : IsTotalOrder cmp) where
  slotted_total : IsTotalOrder (slotted_cmp cmp)
  slotted_total = then_total (on_total (λ (a : ℕ × K). a.1) total) (on_total (λ (a : ℕ × K). a.0) nat_cmp_total)

  turned : (o p : Ordering) → o ≡ ordering_reverse p → is_lt p ≡ true → is_lt o ≡ false
  turned o Less e h = ap is_lt e
  turned o Equal e h = cc
  turned o Greater e h = cc

  is_less : (o : Ordering) → is_lt o ≡ true → o ≡ Less
  is_less Less h = refl
  is_less Equal h = cc
  is_less Greater h = cc

  asym : (a b : ℕ × K) → comes_before cmp a b ≡ true → comes_before cmp b a ≡ false
  asym a b h = turned (slotted_cmp cmp b a) (slotted_cmp cmp a b) (slotted_total.antisymm b a) h

  through : (a b c : ℕ × K) → comes_before cmp a b ≡ true → comes_before cmp b c ≡ true → comes_before cmp a c ≡ true
  through a b c p q =
      ap is_lt (slotted_total.trans a b c (is_less (slotted_cmp cmp a b) p) (is_less (slotted_cmp cmp b c) q))

-- two keys in different slots are apart

less_slot : (a b : ℕ) (o : Ordering) → o ≡ nat_cmp a b → a < b → o ≡ Less
less_slot a b Less e h = refl
less_slot a b Equal e h = let no : a ≡ b = ranked a b Equal e in absurd (omega arith)
less_slot a b Greater e h = let no : b < a = ranked a b Greater e in absurd (omega arith)

apart_by : (o p u v : Ordering) → p ≡ ordering_reverse o → u ≡ Less → v ≡ Greater → is_lt (ordering_then o u) ≡ not (is_lt (ordering_then p v))
apart_by Less p u v e f g = sym (ap (λ q. not (is_lt (ordering_then q v))) e)
apart_by Equal p u v e f g = ap is_lt f ∙ sym (ap (λ q. not (is_lt (ordering_then q v))) e ∙ ap (λ w. not (is_lt w)) g)
apart_by Greater p u v e f g = sym (ap (λ q. not (is_lt (ordering_then q v))) e)

not_le : (a b : ℕ) (t : Bool) → nat_le a b ≡ t → not t ≡ nat_lt b a
not_le a b true e = let h : a ≤ b = leb-true a b e in sym (le-ltb b a h)
not_le a b false e = let h : b < a = leb-false a b e in sym (lt-ltb b a h)

module _ {K : Type 0} (cmp : K → K → Ordering) (total : IsTotalOrder cmp) where
  apart_by_slot : (x y : ℕ × K) → x.0 < y.0 → comes_before cmp x y ≡ not (comes_before cmp y x)
  apart_by_slot x y h =
      let less : nat_cmp x.0 y.0 ≡ Less = less_slot x.0 y.0 (nat_cmp x.0 y.0) refl h in
      let greater : nat_cmp y.0 x.0 ≡ Greater = nat_cmp_total.antisymm y.0 x.0 ∙ ap ordering_reverse less in
      apart_by (cmp x.1 y.1) (cmp y.1 x.1) (nat_cmp x.0 y.0) (nat_cmp y.0 x.0) (total.antisymm y.1 x.1) less greater

  slots_from : (s : ℕ) (keys : List K) (y : ℕ × K) → IsAmong y (enumerate_from s keys) → s ≤ y.0
  slots_from s [] y among = absurd among
  slots_from s (k ∷ keys) y (inl same) = let slot : y.0 ≡ s = ap (λ (p : ℕ × K). p.0) same in omega arith
  slots_from s (k ∷ keys) y (inr there) = let later = slots_from (s + 1) keys y there in omega (arith, later)

  all_apart : (s : ℕ) (keys : List K) → AreApart (comes_before cmp) (enumerate_from s keys)
  all_apart s [] = tt
  all_apart s (k ∷ keys) =
      (λ y among. let later = slots_from (s + 1) keys y among in apart_by_slot (s, k) y (omega (arith, later)), all_apart (s + 1) keys)

  place_is : (keys : List K) (x : ℕ × K) → place_among cmp keys x ≡ rank (comes_before cmp) x (enumerate_from 0 keys)
  place_is keys x = count_is (λ y. comes_before cmp y x) (enumerate_from 0 keys)

  module _ (keys : List K) where
    abbrev pub slotted : List (ℕ × K)
    slotted = enumerate_from 0 keys

    abbrev pub side : ℕ × K → Bool
    side x = nat_le (first_half (length keys)) (place_among cmp keys x)

    first_side : (x : ℕ × K) → not (side x) ≡ nat_lt (rank (comes_before cmp) x slotted) (first_half (length keys))
    first_side x =
        not_le (first_half (length keys)) (place_among cmp keys x) (side x) refl
        ∙ ap (λ n. nat_lt n (first_half (length keys))) (place_is keys x)

    first_count : count (λ s. not s) (halves_by_order cmp keys) ≡ first_half (length keys)
    first_count =
        count-map (λ s. not s) side slotted
        ∙ count_same (λ x. not (side x)) (λ x. nat_lt (rank (comes_before cmp) x slotted) (first_half (length keys))) slotted (λ x among. first_side x)
        ∙ placed_below (comes_before cmp) (asym cmp total) (through cmp total) slotted (all_apart 0 keys) (first_half (length keys))
        (let long = length-enumerate_from 0 keys in omega (arith, long))

    pub sides_long : length (halves_by_order cmp keys) ≡ length keys
    sides_long = length-map slotted side ∙ length-enumerate_from 0 keys

    second_count : count (λ s. s) (halves_by_order cmp keys) ≡ length keys / 2
    second_count =
        let both = count_both (λ (s : Bool). s) (halves_by_order cmp keys) in
        omega (arith, both, first_count, sides_long)

    not_earlier : (x y : ℕ × K) (o : Ordering) → slotted_cmp cmp x y ≡ o → is_lt o ≡ false
        → rank (comes_before cmp) y slotted ≤ rank (comes_before cmp) x slotted
    not_earlier x y Less e h = cc
    not_earlier x y Equal e h =
        let all = slotted_total cmp total in
        let same : rank (comes_before cmp) y slotted ≡ rank (comes_before cmp) x slotted =
        count_same (λ z. comes_before cmp z y) (λ z. comes_before cmp z x) slotted (λ z among.
        ap is_lt (all.antisymm z y ∙ sym (ap ordering_reverse (all.congr x y z e)) ∙ sym (all.antisymm z x))) in
        omega (arith, same)
    not_earlier x y Greater e h =
        later_not_less (comes_before cmp) (asym cmp total) (through cmp total) y x slotted
        (ap is_lt ((slotted_total cmp total).antisymm y x ∙ ap ordering_reverse e))

    -- what has its place in the first half comes before what hasn't
    first_comes_before : (x y : ℕ × K) (b : Bool) → comes_before cmp x y ≡ b → side x ≡ false → side y ≡ true → b ≡ true
    first_comes_before x y true e p q = refl
    first_comes_before x y false e p q =
        let near : place_among cmp keys x < first_half (length keys) = leb-false (first_half (length keys)) (place_among cmp keys x) p in
        let far : first_half (length keys) ≤ place_among cmp keys y = leb-true (first_half (length keys)) (place_among cmp keys y) q in
        let not_more = not_earlier x y (slotted_cmp cmp x y) refl e in
        absurd (omega (arith, near, far, not_more, place_is keys x, place_is keys y))

    pub side_at : (i : ℕ) (d : K) (s : Bool) → i < length keys → get_or (halves_by_order cmp keys) i s ≡ side (i, get_or keys i d)
    side_at i d s within =
        get_or_default (halves_by_order cmp keys) i s (side (0, d)) (omega (arith, sides_long))
        ∙ get_or-map side slotted i (0, d)
        ∙ ap side (get_or-enumerate_from 0 keys i (0, d) within ∙ ap (λ (n : ℕ). (n, get_or keys i d)) (zero-add i))

    pub halved_in_order : IsHalvedInOrder cmp keys (halves_by_order cmp keys)
    halved_in_order = record {
      each_has_one = sides_long;
      first_has = count_is not (halves_by_order cmp keys) ∙ first_count;
      second_has = count_is (λ s. s) (halves_by_order cmp keys) ∙ second_count;
      in_order = λ i j d i_within j_within p q.
          first_comes_before (i, get_or keys i d) (j, get_or keys j d) (comes_before cmp (i, get_or keys i d) (j, get_or keys j d)) refl
          (sym (side_at i d true i_within) ∙ p) (sym (side_at j d false j_within) ∙ q);
    }
