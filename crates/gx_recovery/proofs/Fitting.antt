-- When what a log says fits with one touch more, by tests of that touch alone.
use Rattle.std.proofs.Common.{◌≡◌, ℕ, ◌+◌, Bool, true, false, not, ◌&&◌, ◌||◌, inl, inr, List, [], ◌∷◌, length, refl, ap, sym, ◌∙◌, add-one}
use Rattle.std.specs.Prelude.{nat_le, nat_lt, ◌==◌, if◌then◌else◌}
use Rattle.std.specs.List.{list_all}
use Rattle.std.specs.declared.cmp.Ordering.{Ordering}
use Rattle.std.specs.declared.cmp.Ordering.TheVariants.{Less, Equal, Greater}
use Rattle.std.specs.Ordering.{match_ordering, ordering_reverse, is_eq}
use Rattle.std.proofs.Math.Bool.{and-true, and-false}
use Rattle.std.proofs.lemmas.Bool.{eq-eqb, eqb-true}
use Rattle.gx_recovery.specs.Known.{Known, IsLawful, same}
use Rattle.gx_recovery.specs.Records.{Touch}
use Rattle.gx_recovery.specs.Analysis.{Analysis, touch_cmp, touching}
use Rattle.gx_recovery.specs.Damage.{is_transaction, is_page, touch_fits, apart, transactions, fits}
use Rattle.gx_recovery.proofs.Tests.{and_first, and_second, or_swap, or_again, true_or_false, clash}
use Rattle.gx_recovery.proofs.Touches.{touch_exact}
use Rattle.gx_recovery.proofs.SoundRecords.{FitsBy, parts_of}
use Rattle.gx_recovery.specs.Kept.{has_touched, lies_apart, may_be_open, has_place}
use Rattle.gx_recovery.proofs.Bridging.{same_touching}

pub and_yes : (a b : Bool) → b ≡ true → (a && b) ≡ a
and_yes a b h = ap (λ c. a && c) h ∙ and-true a

pub yes_and : (a b : Bool) → a ≡ true → (a && b) ≡ b
yes_and a b h = ap (λ c. c && b) h

same_number : (a b : ℕ) → (a == b) ≡ (b == a)
same_number a b = elim (true_or_false (a == b)) [
  | inl is ↦ is ∙ sym (eq-eqb b a (sym (eqb-true a b is)))
  | inr other ↦ elim (true_or_false (b == a)) [
    | inl is ↦ clash (a == b) (eq-eqb a b (sym (eqb-true b a is))) other
    | inr too ↦ other ∙ sym too
  ]
]

eq_reversed : (o : Ordering) → is_eq (ordering_reverse o) ≡ is_eq o
eq_reversed Less = refl
eq_reversed Equal = refl
eq_reversed Greater = refl

-- how many there are with one more in front, counted before or behind it
counted_both : (a hx ht : Bool) (n : ℕ) → (a ≡ true → hx ≡ ht)
    → (if (a || hx) then (if ht then n else n + 1) else (if ht then n else n + 1) + 1) ≡ (if (a || ht) then (if hx then n else n + 1) else (if hx then n else n + 1) + 1)
counted_both true hx ht n h = ap (λ b. if b then n else n + 1) (sym (h refl))
counted_both false true ht n h = refl
counted_both false false true n h = refl
counted_both false false false n h = refl

still_few : (b : Bool) (n most : ℕ) → nat_le n most ≡ true → nat_le (if b then n else n + 1) most ≡ (b || nat_lt n most)
still_few true n most h = h
still_few false n most h = ap (λ m. nat_le m most) (add-one n)

in_row : (a b c : Bool) → ((a && (true && b)) && c) ≡ (a && (b && c))
in_row true true c = refl
in_row true false c = refl
in_row false b c = refl

module _ {E P : Type 0} (k : Known E P) (l : IsLawful k) where
  abbrev beside : Touch E → Touch E → Bool
  beside t x = t.transaction == x.transaction || not (same k t.entry x.entry)

  all_by : (p : Touch E → Bool) (t x : Touch E) (xs : List (Touch E)) (o : Ordering) → touch_cmp k t x ≡ o
      → ((y : Touch E) → touch_cmp k t y ≡ Equal → p (record y { leaf = t.leaf }) ≡ p t) → p x ≡ true → list_all p xs ≡ true
      → list_all p (touching k t xs) ≡ p t
      → list_all p (match_ordering o (t ∷ x ∷ xs) (record x { leaf = t.leaf } ∷ xs) (x ∷ touching k t xs)) ≡ p t
  all_by p t x xs Less h alike first later rest = and_yes (p t) (p x && list_all p xs) (yes_and (p x) (list_all p xs) first ∙ later)
  all_by p t x xs Equal h alike first later rest = and_yes (p (record x { leaf = t.leaf })) (list_all p xs) later ∙ alike x h
  all_by p t x xs Greater h alike first later rest = yes_and (p x) (list_all p (touching k t xs)) first ∙ rest

  -- a test that all pass, with one touch more
  pub all_with : (p : Touch E → Bool) (t : Touch E) (xs : List (Touch E)) → ((y : Touch E) → touch_cmp k t y ≡ Equal → p (record y { leaf = t.leaf }) ≡ p t)
      → list_all p xs ≡ true → list_all p (touching k t xs) ≡ p t
  all_with p t [] alike all = and-true (p t)
  all_with p t (x ∷ xs) alike all =
      let later = and_second (p x) (list_all p xs) all in
      all_by p t x xs (touch_cmp k t x) refl alike (and_first (p x) (list_all p xs) all) later (all_with p t xs alike later)

  fits_alike : (used : ℕ) (t y : Touch E) → touch_cmp k t y ≡ Equal → touch_fits k used (record y { leaf = t.leaf }) ≡ touch_fits k used t
  fits_alike used t y h =
      let both = touch_exact k l t y h in
      ap (λ n. is_transaction n && (k.is_entry y.entry && is_page used t.leaf)) (sym both.0)
      ∙ ap (λ e. is_transaction t.transaction && (k.is_entry e && is_page used t.leaf)) (sym both.1)

  beside_alike : (x t y : Touch E) → touch_cmp k t y ≡ Equal → beside x (record y { leaf = t.leaf }) ≡ beside x t
  beside_alike x t y h =
      let both = touch_exact k l t y h in
      ap (λ n. x.transaction == n || not (same k x.entry y.entry)) (sym both.0) ∙ ap (λ e. x.transaction == t.transaction || not (same k x.entry e)) (sym both.1)

  beside_turned : (x t : Touch E) → beside x t ≡ beside t x
  beside_turned x t =
      ap (λ b. b || not (same k x.entry t.entry)) (same_number x.transaction t.transaction)
      ∙ ap (λ b. t.transaction == x.transaction || not b) (ap is_eq (l.total.antisymm x.entry t.entry) ∙ eq_reversed (k.cmp t.entry x.entry))

  apart_by : (t x : Touch E) (xs : List (Touch E)) (o : Ordering) → touch_cmp k t x ≡ o → list_all (beside x) xs ≡ true → apart k xs ≡ true
      → apart k (touching k t xs) ≡ list_all (beside t) xs
      → apart k (match_ordering o (t ∷ x ∷ xs) (record x { leaf = t.leaf } ∷ xs) (x ∷ touching k t xs)) ≡ (beside t x && list_all (beside t) xs)
  apart_by t x xs Less h own rest more =
      and_yes (beside t x && list_all (beside t) xs) (list_all (beside x) xs && apart k xs) (yes_and (list_all (beside x) xs) (apart k xs) own ∙ rest)
  apart_by t x xs Equal h own rest more =
      let both = touch_exact k l t x h in
      let first : beside t x ≡ true = ap (λ b. b || not (same k t.entry x.entry)) (eq-eqb t.transaction x.transaction both.0) in
      let later : list_all (beside t) xs ≡ true =
      ap (λ n. list_all (λ (y : Touch E). n == y.transaction || not (same k t.entry y.entry)) xs) both.0
      ∙ ap (λ e. list_all (λ (y : Touch E). x.transaction == y.transaction || not (same k e y.entry)) xs) both.1 ∙ own in
      yes_and (list_all (beside x) xs) (apart k xs) own ∙ rest ∙ sym (yes_and (beside t x) (list_all (beside t) xs) first ∙ later)
  apart_by t x xs Greater h own rest more =
      ap (λ b. b && apart k (touching k t xs)) (all_with (beside x) t xs (beside_alike x t) own ∙ beside_turned x t) ∙ ap (λ b. beside t x && b) more

  -- touches lie apart with one more exactly if that one lies apart from them
  apart_with : (t : Touch E) (xs : List (Touch E)) → apart k xs ≡ true → apart k (touching k t xs) ≡ list_all (beside t) xs
  apart_with t [] rest = refl
  apart_with t (x ∷ xs) rest =
      let tail = and_second (list_all (beside x) xs) (apart k xs) rest in
      apart_by t x xs (touch_cmp k t x) refl (and_first (list_all (beside x) xs) (apart k xs) rest) tail (apart_with t xs tail)

  named_by : (u : ℕ) (t x : Touch E) (xs : List (Touch E)) (o : Ordering) → touch_cmp k t x ≡ o
      → has_touched u (touching k t xs) ≡ (t.transaction == u || has_touched u xs)
      → has_touched u (match_ordering o (t ∷ x ∷ xs) (record x { leaf = t.leaf } ∷ xs) (x ∷ touching k t xs)) ≡ (t.transaction == u || (x.transaction == u || has_touched u xs))
  named_by u t x xs Less h rest = refl
  named_by u t x xs Equal h rest =
      let both = touch_exact k l t x h in or_again (x.transaction == u) (t.transaction == u) (has_touched u xs) (ap (λ n. n == u) (sym both.0))
  named_by u t x xs Greater h rest =
      ap (λ b. x.transaction == u || b) rest ∙ or_swap (x.transaction == u) (t.transaction == u) (has_touched u xs)

  -- whose touches there are with one more
  named_with : (u : ℕ) (t : Touch E) (xs : List (Touch E)) → has_touched u (touching k t xs) ≡ (t.transaction == u || has_touched u xs)
  named_with u t [] = refl
  named_with u t (x ∷ xs) = named_by u t x xs (touch_cmp k t x) refl (named_with u t xs)

  abbrev pub one_more : Touch E → List (Touch E) → ℕ
  one_more t xs = if has_touched t.transaction xs then transactions xs else transactions xs + 1

  counted_by : (t x : Touch E) (xs : List (Touch E)) (o : Ordering) → touch_cmp k t x ≡ o → transactions (touching k t xs) ≡ one_more t xs
      → transactions (match_ordering o (t ∷ x ∷ xs) (record x { leaf = t.leaf } ∷ xs) (x ∷ touching k t xs)) ≡ one_more t (x ∷ xs)
  counted_by t x xs Less h rest = refl
  counted_by t x xs Equal h rest =
      let both = touch_exact k l t x h in
      let one : (x.transaction == t.transaction) ≡ true = eq-eqb x.transaction t.transaction (sym both.0) in
      sym (ap (λ b. if (b || has_touched t.transaction xs) then transactions (x ∷ xs) else transactions (x ∷ xs) + 1) one)
  counted_by t x xs Greater h rest =
      let a : Bool = t.transaction == x.transaction in
      let hx : Bool = has_touched x.transaction xs in
      let ht : Bool = has_touched t.transaction xs in
      let n : ℕ = transactions xs in
      ap (λ b. if b then transactions (touching k t xs) else transactions (touching k t xs) + 1) (named_with x.transaction t xs)
      ∙ ap (λ m. if (a || hx) then m else m + 1) rest
      ∙ counted_both a hx ht n (λ is. ap (λ u. has_touched u xs) (sym (eqb-true t.transaction x.transaction is)))
      ∙ ap (λ b. if (b || ht) then (if hx then n else n + 1) else (if hx then n else n + 1) + 1) (same_number t.transaction x.transaction)

  -- how many transactions there are with one touch more
  pub counted_with : (t : Touch E) (xs : List (Touch E)) → transactions (touching k t xs) ≡ one_more t xs
  counted_with t [] = refl
  counted_with t (x ∷ xs) = counted_by t x xs (touch_cmp k t x) refl (counted_with t xs)

  -- What a log says fits with one touch more, of an entry of the class, exactly if the touch passes its tests.
  pub fits_with : (a : Analysis E) (next : ℕ) (t : Touch E) → fits k a ≡ true → k.is_entry t.entry ≡ true
      → fits k (record a { next = next; touched = touching k t a.touched })
      ≡ (is_transaction t.transaction && (is_page a.used t.leaf && (lies_apart k.cmp t a.touched && (may_be_open t.transaction a.touched && has_place k.cmp t a.touched))))
  fits_with a next t fit of_class =
      let old : FitsBy k l a = parts_of k l a fit in
      let xs : List (Touch E) = a.touched in
      let few : transactions (touching k t xs) ≡ one_more t xs = counted_with t xs in
      let place : nat_le (length (touching k t xs)) 512 ≡ has_place k.cmp t xs = ap (λ (ys : List (Touch E)). nat_le (length ys) 512) (sym (same_touching k t xs)) in
      let rest : (apart k (touching k t xs) && (nat_le (transactions (touching k t xs)) 8 && nat_le (length (touching k t xs)) 512))
      ≡ (lies_apart k.cmp t xs && (may_be_open t.transaction xs && has_place k.cmp t xs)) =
      ap (λ b. b && (nat_le (transactions (touching k t xs)) 8 && nat_le (length (touching k t xs)) 512)) (apart_with t xs old.lie_apart)
      ∙ ap (λ b. lies_apart k.cmp t xs && (b && nat_le (length (touching k t xs)) 512))
      (ap (λ n. nat_le n 8) few ∙ still_few (has_touched t.transaction xs) (transactions xs) 8 old.few)
      ∙ ap (λ b. lies_apart k.cmp t xs && (may_be_open t.transaction xs && b)) place in
      let whole : Bool = lies_apart k.cmp t xs && (may_be_open t.transaction xs && has_place k.cmp t xs) in
      yes_and (nat_le a.used k.pages)
      (list_all (touch_fits k a.used) (touching k t xs) && (apart k (touching k t xs) && (nat_le (transactions (touching k t xs)) 8 && nat_le (length (touching k t xs)) 512))) old.device
      ∙ ap (λ b. b && (apart k (touching k t xs) && (nat_le (transactions (touching k t xs)) 8 && nat_le (length (touching k t xs)) 512))) (all_with (touch_fits k a.used) t xs (fits_alike a.used t) old.each)
      ∙ ap (λ b. touch_fits k a.used t && b) rest
      ∙ ap (λ b. (is_transaction t.transaction && (b && is_page a.used t.leaf)) && whole) of_class
      ∙ in_row (is_transaction t.transaction) (is_page a.used t.leaf) whole

  -- with a touch of what is no entry of the class it doesn't fit
  pub unfits_with : (a : Analysis E) (next : ℕ) (t : Touch E) → fits k a ≡ true → k.is_entry t.entry ≡ false
      → fits k (record a { next = next; touched = touching k t a.touched }) ≡ false
  unfits_with a next t fit of_none =
      let old : FitsBy k l a = parts_of k l a fit in
      let xs : List (Touch E) = a.touched in
      let rest : Bool = apart k (touching k t xs) && (nat_le (transactions (touching k t xs)) 8 && nat_le (length (touching k t xs)) 512) in
      yes_and (nat_le a.used k.pages) (list_all (touch_fits k a.used) (touching k t xs) && rest) old.device
      ∙ ap (λ b. b && rest) (all_with (touch_fits k a.used) t xs (fits_alike a.used t) old.each
      ∙ ap (λ b. is_transaction t.transaction && (b && is_page a.used t.leaf)) of_none ∙ and-false (is_transaction t.transaction))
