-- Lists of touches: one more, and those of a transaction taken away.
use Rattle.std.proofs.Common.{◌≡◌, ℕ, Bool, true, false, not, cond, ◌&&◌, ◌||◌, inl, inr, List, [], ◌∷◌, Option, Some, None, refl, ap, sym, ◌∙◌}
use Rattle.std.specs.Prelude.{filter, ◌==◌}
use Rattle.std.specs.List.{list_all}
use Rattle.std.specs.Option.{option_or}
use Rattle.std.specs.declared.cmp.Ordering.{Ordering}
use Rattle.std.specs.declared.cmp.Ordering.TheVariants.{Less, Equal, Greater}
use Rattle.std.specs.Ordering.{match_ordering, ordering_reverse, is_eq, nat_cmp}
use Rattle.std.specs.Cmp.{IsTotalOrder, nat_cmp_total}
use Rattle.std.proofs.lemmas.Cmp.{then_total, on_total, tied_itself}
use Rattle.std.proofs.Math.Bool.{and-false}
use Rattle.std.proofs.lemmas.Bool.{eqb-true}
use Rattle.std.proofs.lemmas.Map.Lookups.{exact_pairs, exact_unsigned}
use Rattle.gx_recovery.specs.Known.{Known, IsLawful, same}
use Rattle.gx_recovery.specs.Records.{Touch}
use Rattle.gx_recovery.specs.Analysis.{touch_cmp, touching, without, lists}
use Rattle.gx_recovery.specs.Standing.{mark_before}
use Rattle.gx_recovery.specs.Damage.{apart}
use Rattle.gx_recovery.proofs.Tests.{and_first, and_second, either_of, or_second, or_swap, or_again, clash}

-- a touch comes before each of these; each comes before all that follow it
abbrev pub Before : {E P : Type 0} → Known E P → Touch E → List (Touch E) → Type 0
Before k t [] = Unit {0}
Before k t (x ∷ xs) = (touch_cmp k t x ≡ Less) × Before k t xs

abbrev pub InOrder : {E P : Type 0} → Known E P → List (Touch E) → Type 0
InOrder k [] = Unit {0}
InOrder k (x ∷ xs) = Before k x xs × InOrder k xs

-- two transactions that are both listed with an entry are one
abbrev pub Apart : {E P : Type 0} → Known E P → List (Touch E) → Type 0
Apart {E} k xs = (t u : ℕ) (e : E) → lists k t e xs ≡ true → lists k u e xs ≡ true → t ≡ u

-- the first mark before among touches of the entry by transactions that count
abbrev pub lookup : {E P : Type 0} → Known E P → (ℕ → Bool) → E → List (Touch E) → Option Bool
lookup k c e [] = None
lookup k c e (x ∷ xs) = option_or (mark_before k c e (Some x)) (lookup k c e xs)

pick : (a b c s rest : Bool) → (a ≡ true → b ≡ c) → (a ≡ false → c ≡ true → b ≡ false)
    → cond a (not c && rest) ((b && s) || (not c && rest)) ≡ (not c && ((b && s) || rest))
pick true true true s rest f g = refl
pick true true false s rest f g = let no : true ≡ false = f refl in cc
pick true false true s rest f g = let no : false ≡ true = f refl in cc
pick true false false s rest f g = refl
pick false true true s rest f g = let no : true ≡ false = g refl refl in cc
pick false true false s rest f g = refl
pick false false true s rest f g = refl
pick false false false s rest f g = refl

module _ {E P : Type 0} (k : Known E P) (l : IsLawful k) where
  pub touch_total : IsTotalOrder (touch_cmp k)
  touch_total = then_total (on_total (λ (t : Touch E). t.transaction) nat_cmp_total) (on_total (λ (t : Touch E). t.entry) l.total)

  pub touch_exact : (a b : Touch E) → touch_cmp k a b ≡ Equal → (a.transaction ≡ b.transaction) × (a.entry ≡ b.entry)
  touch_exact a b e =
      let both : (a.transaction, a.entry) ≡ (b.transaction, b.entry) = exact_pairs nat_cmp k.cmp exact_unsigned l.exact (a.transaction, a.entry) (b.transaction, b.entry) e in
      (ap (λ (p : ℕ × E). p.0) both, ap (λ (p : ℕ × E). p.1) both)

  equal_if : (o : Ordering) → is_eq o ≡ true → o ≡ Equal
  equal_if Less h = cc
  equal_if Equal h = refl
  equal_if Greater h = cc

  pub same_is : (a b : E) → same k a b ≡ true → a ≡ b
  same_is a b h = l.exact a b (equal_if (k.cmp a b) h)

  pub same_itself : (a : E) → same k a a ≡ true
  same_itself a = ap is_eq (tied_itself l.total a)

  turned : (a b : Touch E) → touch_cmp k a b ≡ Greater → touch_cmp k b a ≡ Less
  turned a b e = touch_total.antisymm b a ∙ ap ordering_reverse e

  turned_back : (a b : Touch E) → touch_cmp k a b ≡ Less → touch_cmp k b a ≡ Greater
  turned_back a b e = touch_total.antisymm b a ∙ ap ordering_reverse e

  -- what comes before another is of another transaction or entry
  pub apart_if_less : {A : Type 0} (a b : Touch E) → touch_cmp k a b ≡ Less → a.transaction ≡ b.transaction → a.entry ≡ b.entry → A
  apart_if_less a b less t e =
      let key : ℕ × E → Touch E = λ p. record { transaction = p.0; entry = p.1; before = true; leaf = 0 } in
      let both : touch_cmp k a b ≡ touch_cmp k b b = ap (λ n. touch_cmp k (key (n, a.entry)) b) t ∙ ap (λ x. touch_cmp k (key (b.transaction, x)) b) e in
      let no : ⊥ = let tied : touch_cmp k b b ≡ Equal = tied_itself touch_total b in cc in absurd no

  lists_by : (t : ℕ) (e : E) (n x : Touch E) (xs : List (Touch E)) (o : Ordering) → touch_cmp k n x ≡ o
      → lists k t e (touching k n xs) ≡ ((n.transaction == t && same k e n.entry) || lists k t e xs)
      → lists k t e (match_ordering o (n ∷ x ∷ xs) (record x { leaf = n.leaf } ∷ xs) (x ∷ touching k n xs))
      ≡ ((n.transaction == t && same k e n.entry) || ((x.transaction == t && same k e x.entry) || lists k t e xs))
  lists_by t e n x xs Less h rest = refl
  lists_by t e n x xs Equal h rest =
      let both : (n.transaction ≡ x.transaction) × (n.entry ≡ x.entry) = touch_exact n x h in
      or_again (x.transaction == t && same k e x.entry) (n.transaction == t && same k e n.entry) (lists k t e xs)
      (sym (ap (λ m. m == t && same k e n.entry) both.0 ∙ ap (λ y. x.transaction == t && same k e y) both.1))
  lists_by t e n x xs Greater h rest =
      ap (λ b. (x.transaction == t && same k e x.entry) || b) rest
      ∙ or_swap (x.transaction == t && same k e x.entry) (n.transaction == t && same k e n.entry) (lists k t e xs)

  -- what is listed with one touch more
  pub lists-touching : (t : ℕ) (e : E) (n : Touch E) (xs : List (Touch E))
      → lists k t e (touching k n xs) ≡ ((n.transaction == t && same k e n.entry) || lists k t e xs)
  lists-touching t e n [] = refl
  lists-touching t e n (x ∷ xs) = lists_by t e n x xs (touch_cmp k n x) refl (lists-touching t e n xs)

  lists_pick : (t u : ℕ) (e : E) (x : Touch E) (xs : List (Touch E)) (a : Bool) → (x.transaction == u) ≡ a
      → lists k t e (without u xs) ≡ (not (u == t) && lists k t e xs)
      → lists k t e (cond (not a) (x ∷ without u xs) (without u xs)) ≡ (not (u == t) && ((x.transaction == t && same k e x.entry) || lists k t e xs))
  lists_pick t u e x xs true h rest =
      rest ∙ pick true (x.transaction == t) (u == t) (same k e x.entry) (lists k t e xs) (λ p. ap (λ m. m == t) (eqb-true x.transaction u h)) (λ p q. cc)
  lists_pick t u e x xs false h rest =
      ap (λ b. (x.transaction == t && same k e x.entry) || b) rest
      ∙ pick false (x.transaction == t) (u == t) (same k e x.entry) (lists k t e xs) (λ p. cc)
      (λ p q. ap (λ m. x.transaction == m) (sym (eqb-true u t q)) ∙ h)

  pub lists-without : (t u : ℕ) (e : E) (xs : List (Touch E)) → lists k t e (without u xs) ≡ (not (u == t) && lists k t e xs)
  lists-without t u e [] = sym (and-false (not (u == t)))
  lists-without t u e (x ∷ xs) = lists_pick t u e x xs (x.transaction == u) refl (lists-without t u e xs)

  pub before_through : (e x : Touch E) (xs : List (Touch E)) → touch_cmp k e x ≡ Less → Before k x xs → Before k e xs
  before_through e x [] h b = tt
  before_through e x (y ∷ ys) h b = (touch_total.trans e x y h b.0, before_through e x ys h b.1)

  before_leaf : (x : Touch E) (leaf : ℕ) (xs : List (Touch E)) → Before k x xs → Before k (record x { leaf = leaf }) xs
  before_leaf x leaf [] b = tt
  before_leaf x leaf (y ∷ ys) b = (b.0, before_leaf x leaf ys b.1)

  before_filter : (p : Touch E → Bool) (e : Touch E) (xs : List (Touch E)) → Before k e xs → Before k e (filter p xs)
  before_filter p e [] b = tt
  before_filter p e (x ∷ xs) b =
      elim (p x) as (λ t. Before k e (cond t (x ∷ filter p xs) (filter p xs)))
      [ true ↦ (b.0, before_filter p e xs b.1) | false ↦ before_filter p e xs b.1 ]

  pub in_order_filter : (p : Touch E → Bool) (xs : List (Touch E)) → InOrder k xs → InOrder k (filter p xs)
  in_order_filter p [] o = tt
  in_order_filter p (x ∷ xs) o =
      elim (p x) as (λ t. InOrder k (cond t (x ∷ filter p xs) (filter p xs)))
      [ true ↦ (before_filter p x xs o.0, in_order_filter p xs o.1) | false ↦ in_order_filter p xs o.1 ]

  before_by : (n x y : Touch E) (ys : List (Touch E)) (o : Ordering) → touch_cmp k x n ≡ Less → (touch_cmp k x y ≡ Less) × Before k x ys
      → Before k x (touching k n ys) → Before k x (match_ordering o (n ∷ y ∷ ys) (record y { leaf = n.leaf } ∷ ys) (y ∷ touching k n ys))
  before_by n x y ys Less h b rest = (h, b)
  before_by n x y ys Equal h b rest = b
  before_by n x y ys Greater h b rest = (b.0, rest)

  before_touching : (n x : Touch E) (xs : List (Touch E)) → touch_cmp k x n ≡ Less → Before k x xs → Before k x (touching k n xs)
  before_touching n x [] h b = (h, tt)
  before_touching n x (y ∷ ys) h b = before_by n x y ys (touch_cmp k n y) h b (before_touching n x ys h b.1)

  in_order_by : (n x : Touch E) (xs : List (Touch E)) (o : Ordering) → touch_cmp k n x ≡ o → Before k x xs × InOrder k xs
      → InOrder k (touching k n xs) → InOrder k (match_ordering o (n ∷ x ∷ xs) (record x { leaf = n.leaf } ∷ xs) (x ∷ touching k n xs))
  in_order_by n x xs Less h o rest = ((h, before_through n x xs h o.0), o)
  in_order_by n x xs Equal h o rest = (before_leaf x n.leaf xs o.0, o.1)
  in_order_by n x xs Greater h o rest = (before_touching n x xs (turned n x h) o.0, rest)

  pub in_order_touching : (n : Touch E) (xs : List (Touch E)) → InOrder k xs → InOrder k (touching k n xs)
  in_order_touching n [] o = (tt, tt)
  in_order_touching n (x ∷ xs) o = in_order_by n x xs (touch_cmp k n x) refl o (in_order_touching n xs o.1)

  others_tell : (x : Touch E) (xs : List (Touch E)) (u : ℕ) (e : E) → same k e x.entry ≡ true
      → list_all (λ y. x.transaction == y.transaction || not (same k x.entry y.entry)) xs ≡ true → lists k u e xs ≡ true → x.transaction ≡ u
  others_tell x (y ∷ ys) u e is all listed =
      elim (either_of (y.transaction == u && same k e y.entry) (lists k u e ys) listed) [
        | inl hit ↦
            let alike : x.entry ≡ y.entry = sym (same_is e x.entry is) ∙ same_is e y.entry (and_second (y.transaction == u) (same k e y.entry) hit) in
            let tied : same k x.entry y.entry ≡ true = ap (λ z. same k x.entry z) (sym alike) ∙ same_itself x.entry in
            elim (either_of (x.transaction == y.transaction) (not (same k x.entry y.entry)) (and_first (x.transaction == y.transaction || not (same k x.entry y.entry)) (list_all (λ z. x.transaction == z.transaction || not (same k x.entry z.entry)) ys) all)) [
              | inl one ↦ eqb-true x.transaction y.transaction one ∙ eqb-true y.transaction u (and_first (y.transaction == u) (same k e y.entry) hit)
              | inr two ↦ clash (not (same k x.entry y.entry)) two (ap not tied)
            ]
        | inr rest ↦ others_tell x ys u e is (and_second (x.transaction == y.transaction || not (same k x.entry y.entry)) (list_all (λ z. x.transaction == z.transaction || not (same k x.entry z.entry)) ys) all) rest
      ]
  others_tell x [] u e is all listed = cc

  -- what the test of a log says
  pub apart_tells : (xs : List (Touch E)) → apart k xs ≡ true → Apart k xs
  apart_tells [] h t u e p q = cc
  apart_tells (x ∷ xs) h t u e p q =
      let one : list_all (λ y. x.transaction == y.transaction || not (same k x.entry y.entry)) xs ≡ true = and_first (list_all (λ y. x.transaction == y.transaction || not (same k x.entry y.entry)) xs) (apart k xs) h in
      let rest : apart k xs ≡ true = and_second (list_all (λ y. x.transaction == y.transaction || not (same k x.entry y.entry)) xs) (apart k xs) h in
      elim (either_of (x.transaction == t && same k e x.entry) (lists k t e xs) p) [
        | inl here ↦ elim (either_of (x.transaction == u && same k e x.entry) (lists k u e xs) q) [
          | inl there ↦ sym (eqb-true x.transaction t (and_first (x.transaction == t) (same k e x.entry) here)) ∙ eqb-true x.transaction u (and_first (x.transaction == u) (same k e x.entry) there)
          | inr far ↦ sym (eqb-true x.transaction t (and_first (x.transaction == t) (same k e x.entry) here)) ∙ others_tell x xs u e (and_second (x.transaction == t) (same k e x.entry) here) one far
        ]
        | inr far ↦ elim (either_of (x.transaction == u && same k e x.entry) (lists k u e xs) q) [
          | inl there ↦ sym (others_tell x xs t e (and_second (x.transaction == u) (same k e x.entry) there) one far) ∙ eqb-true x.transaction u (and_first (x.transaction == u) (same k e x.entry) there)
          | inr both ↦ apart_tells xs rest t u e far both
        ]
      ]

  -- fewer touches lie apart, too
  pub apart_fewer : (xs ys : List (Touch E)) → ((t : ℕ) (e : E) → lists k t e xs ≡ true → lists k t e ys ≡ true) → Apart k ys → Apart k xs
  apart_fewer xs ys more a t u e p q = a t u e (more t e p) (more u e q)

  pub lists_more : (n : Touch E) (xs : List (Touch E)) (t : ℕ) (e : E) → lists k t e xs ≡ true → lists k t e (touching k n xs) ≡ true
  lists_more n xs t e h = lists-touching t e n xs ∙ or_second (n.transaction == t && same k e n.entry) (lists k t e xs) h
