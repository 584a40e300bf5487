-- The first mark before an entry's touches, looked up in the list of what is touched.
use Rattle.std.proofs.Common.{◌≡◌, ℕ, Bool, true, false, not, cond, ◌&&◌, ◌||◌, inl, inr, List, [], ◌∷◌, Option, Some, None, refl, ap, sym, ◌∙◌}
use Rattle.std.specs.Prelude.{◌==◌, if◌then◌else◌}
use Rattle.std.specs.Option.{option_or}
use Rattle.std.specs.declared.cmp.Ordering.{Ordering}
use Rattle.std.specs.declared.cmp.Ordering.TheVariants.{Less, Equal, Greater}
use Rattle.std.specs.Ordering.{match_ordering}
use Rattle.std.proofs.Math.Bool.{and-false}
use Rattle.gx_recovery.specs.Known.{Known, IsLawful, same}
use Rattle.gx_recovery.specs.Records.{Touch}
use Rattle.gx_recovery.specs.Analysis.{touch_cmp, touching, without, lists}
use Rattle.gx_recovery.specs.Standing.{mark_before}
use Rattle.gx_recovery.proofs.Tests.{and_second, or_second, true_or_false, itself}
use Rattle.gx_recovery.proofs.Folds.{or-assoc, or-none}
use Rattle.gx_recovery.proofs.Touches.{Before, InOrder, lookup, touch_exact, same_is, apart_if_less, before_through}

abbrev pub marked : Bool → Bool → Option Bool
marked test before = if test then Some before else None

marked_again : (test before : Bool) (rest : Option Bool) (again : Bool)
    → option_or (marked test before) rest ≡ option_or (option_or (marked test before) rest) (marked test again)
marked_again true before rest again = refl
marked_again false before rest again = sym (or-none rest)

module _ {E P : Type 0} (k : Known E P) (l : IsLawful k) where
  -- after a touch that comes before all these, and lies apart from them, nothing of its entry is found
  none_later : (c : ℕ → Bool) (e : E) (n : Touch E) (xs : List (Touch E)) → Before k n xs → ((u : ℕ) → lists k u n.entry xs ≡ true → n.transaction ≡ u)
      → same k e n.entry ≡ true → lookup k c e xs ≡ None
  none_later c e n [] b alone is = refl
  none_later c e n (y ∷ ys) b alone is =
      let at : e ≡ n.entry = same_is k l e n.entry is in
      let other : same k n.entry y.entry ≡ false =
      elim (true_or_false (same k n.entry y.entry)) [
        | inl tied ↦
            let here : lists k y.transaction n.entry (y ∷ ys) ≡ true =
            ap (λ b. (b && same k n.entry y.entry) || lists k y.transaction n.entry ys) (itself y.transaction)
            ∙ ap (λ b. b || lists k y.transaction n.entry ys) tied in
            apart_if_less k l n y b.0 (alone y.transaction here) (same_is k l n.entry y.entry tied)
        | inr differ ↦ differ
      ] in
      let untold : (c y.transaction && same k e y.entry) ≡ false =
      ap (λ z. c y.transaction && same k z y.entry) at ∙ ap (λ b. c y.transaction && b) other ∙ and-false (c y.transaction) in
      ap (λ b. option_or (marked b y.before) (lookup k c e ys)) untold
      ∙ none_later c e n ys b.1 (λ u h. alone u (or_second (y.transaction == u && same k n.entry y.entry) (lists k u n.entry ys) h)) is

  lookup_less : (c : ℕ → Bool) (e : E) (n : Touch E) (xs : List (Touch E)) (test : Bool) → (c n.transaction && same k e n.entry) ≡ test
      → Before k n xs → ((u : ℕ) → lists k u n.entry xs ≡ true → n.transaction ≡ u)
      → option_or (marked test n.before) (lookup k c e xs) ≡ option_or (lookup k c e xs) (marked test n.before)
  lookup_less c e n xs true h b alone = sym (ap (λ o. option_or o (Some n.before)) (none_later c e n xs b alone (and_second (c n.transaction) (same k e n.entry) h)))
  lookup_less c e n xs false h b alone = sym (or-none (lookup k c e xs))

  lookup_by : (c : ℕ → Bool) (e : E) (n x : Touch E) (xs : List (Touch E)) (o : Ordering) → touch_cmp k n x ≡ o
      → InOrder k (x ∷ xs) → ((y : Touch E) → touch_cmp k n x ≡ Less → Before k n (x ∷ xs))
      → ((u : ℕ) → lists k u n.entry (x ∷ xs) ≡ true → n.transaction ≡ u)
      → lookup k c e (touching k n xs) ≡ option_or (lookup k c e xs) (mark_before k c e (Some n))
      → lookup k c e (match_ordering o (n ∷ x ∷ xs) (record x { leaf = n.leaf } ∷ xs) (x ∷ touching k n xs))
      ≡ option_or (lookup k c e (x ∷ xs)) (mark_before k c e (Some n))
  lookup_by c e n x xs Less h o before alone rest = lookup_less c e n (x ∷ xs) (c n.transaction && same k e n.entry) refl (before n h) alone
  lookup_by c e n x xs Equal h o before alone rest =
      let both : (n.transaction ≡ x.transaction) × (n.entry ≡ x.entry) = touch_exact k l n x h in
      let tests : (c n.transaction && same k e n.entry) ≡ (c x.transaction && same k e x.entry) =
      ap (λ m. c m && same k e n.entry) both.0 ∙ ap (λ z. c x.transaction && same k e z) both.1 in
      marked_again (c x.transaction && same k e x.entry) x.before (lookup k c e xs) n.before
      ∙ ap (λ b. option_or (lookup k c e (x ∷ xs)) (marked b n.before)) (sym tests)
  lookup_by c e n x xs Greater h o before alone rest =
      ap (option_or (mark_before k c e (Some x))) rest ∙ or-assoc (mark_before k c e (Some x)) (lookup k c e xs) (mark_before k c e (Some n))

  before_all : (n x : Touch E) (xs : List (Touch E)) → InOrder k (x ∷ xs) → touch_cmp k n x ≡ Less → Before k n (x ∷ xs)
  before_all n x xs o h = (h, before_through k l n x xs h o.0)

  -- what is found with one touch more
  pub lookup-touching : (c : ℕ → Bool) (e : E) (n : Touch E) (xs : List (Touch E)) → InOrder k xs
      → ((u : ℕ) → lists k u n.entry xs ≡ true → n.transaction ≡ u)
      → lookup k c e (touching k n xs) ≡ option_or (lookup k c e xs) (mark_before k c e (Some n))
  lookup-touching c e n [] o alone = or-none (mark_before k c e (Some n))
  lookup-touching c e n (x ∷ xs) o alone =
      lookup_by c e n x xs (touch_cmp k n x) refl o (λ y h. before_all n x xs o h) alone
      (lookup-touching c e n xs o.1 (λ u h. alone u (or_second (x.transaction == u && same k n.entry x.entry) (lists k u n.entry xs) h)))

  -- what is found without a transaction's touches is what is found where it doesn't count
  pub lookup-without : (c : ℕ → Bool) (t : ℕ) (e : E) (xs : List (Touch E)) → lookup k c e (without t xs) ≡ lookup k (λ u. not (u == t) && c u) e xs
  lookup-without c t e [] = refl
  lookup-without c t e (x ∷ xs) =
      elim (x.transaction == t) as (λ a. lookup k c e (cond (not a) (x ∷ without t xs) (without t xs))
      ≡ option_or (marked ((not a && c x.transaction) && same k e x.entry) x.before) (lookup k (λ u. not (u == t) && c u) e xs))
      [ true ↦ lookup-without c t e xs | false ↦ ap (option_or (mark_before k c e (Some x))) (lookup-without c t e xs) ]

  -- where none that counts has touched the entry, nothing is found
  pub lookup_none : (c : ℕ → Bool) (e : E) (xs : List (Touch E)) → ((u : ℕ) → lists k u e xs ≡ true → c u ≡ false) → lookup k c e xs ≡ None
  lookup_none c e [] none = refl
  lookup_none c e (x ∷ xs) none =
      let untold : (c x.transaction && same k e x.entry) ≡ false =
      elim (true_or_false (same k e x.entry)) [
        | inl is ↦
            ap (λ b. b && same k e x.entry) (none x.transaction (ap (λ b. (b && same k e x.entry) || lists k x.transaction e xs) (itself x.transaction) ∙ ap (λ b. b || lists k x.transaction e xs) is))
        | inr differ ↦ ap (λ b. c x.transaction && b) differ ∙ and-false (c x.transaction)
      ] in
      ap (λ b. option_or (marked b x.before) (lookup k c e xs)) untold
      ∙ lookup_none c e xs (λ u h. none u (or_second (x.transaction == u && same k e x.entry) (lists k u e xs) h))
