-- Transactions that a crash cut off, each held with a session: one touch more.
use Rattle.std.proofs.Common.{◌≡◌, ℕ, zero, suc, ◌+◌, ◌<◌, ◌≤◌, Bool, true, false, ◌||◌, inl, inr, cond, Option, Some, None, List, [], ◌∷◌, ◌++◌, length, refl, ap, sym, ◌∙◌, subst, arith, append_assoc, append-nil}
use Rattle.std.specs.Prelude.{◌==◌, if◌then◌else◌, slice_set}
use Rattle.std.specs.List.{slice_index_or}
use Rattle.std.proofs.lemmas.Bool.{eqb-true, eq-eqb, ne_eqb, or_parts, or_from}
use Rattle.std.proofs.lemmas.List.{length-append}
use Rattle.gx_recovery.specs.Records.{Touch}
use Rattle.gx_recovery.proofs.Tests.{true_or_false, or_second, itself, clash}
use Rattle.gx_index_laws.specs.Openings.{numbers_of, listed_for}
use Rattle.gx_index_laws.proofs.Numbered.{or_first, is_in, touches, in_touching, Distinct, numbers_distinct, listed_at, listed_there}
use Rattle.gx_engine.specs.Noted.{touched_by}

-- the transaction of the last of these touches
abbrev pub last_of : {E : Type 0} → List (Touch E) → Option ℕ
last_of [] = None
last_of (x ∷ []) = Some x.transaction
last_of (x ∷ y ∷ ys) = last_of (y ∷ ys)

turned : (a b : ℕ) → (a == b) ≡ false → (b == a) ≡ false
turned a b h = ne_eqb b a (λ same. clash (a == b) (eq-eqb a b (sym same)) h)

some_is : (a b : ℕ) → Some a ≡ Some b → a ≡ b
some_is a b h = cc

module _ {E : Type 0} (x : Touch E) where
  abbrev t : ℕ
  t = x.transaction

  pub last_more : (ys : List (Touch E)) → last_of (ys ++ x ∷ []) ≡ Some t
  last_more [] = refl
  last_more (y ∷ []) = refl
  last_more (y ∷ z ∷ zs) = last_more (z ∷ zs)

  -- what is touched with one touch more
  touches_more : (u : ℕ) (ys : List (Touch E)) → touches u (ys ++ x ∷ []) ≡ (touches u ys || (t == u))
  touches_more u [] = alone (t == u)
    where
      alone : (b : Bool) → (b || false) ≡ (false || b)
      alone true = refl
      alone false = refl
  touches_more u (y ∷ ys) = ap (λ b. (y.transaction == u) || b) (touches_more u ys) ∙ grouped (y.transaction == u) (touches u ys) (t == u)
    where
      grouped : (a b c : Bool) → (a || (b || c)) ≡ ((a || b) || c)
      grouped true b c = refl
      grouped false b c = refl

  touches_last : (ys : List (Touch E)) → last_of ys ≡ Some t → touches t ys ≡ true
  touches_last [] h = let no : ⊥ = cc in absurd no
  touches_last (y ∷ []) h = or_first (y.transaction == t) false (eq-eqb y.transaction t (some_is y.transaction t h))
  touches_last (y ∷ z ∷ zs) h = or_second (y.transaction == t) (touches t (z ∷ zs)) (touches_last (z ∷ zs) h)

  touches_again : (u : ℕ) (ys : List (Touch E)) → last_of ys ≡ Some t → touches u (ys ++ x ∷ []) ≡ touches u ys
  touches_again u ys h =
      elim (true_or_false (t == u)) [
        | inl is ↦
            touches_more u ys ∙ or_second (touches u ys) (t == u) is
            ∙ sym (subst (λ v. touches v ys ≡ true) (eqb-true t u is) (touches_last ys h))
        | inr other ↦ touches_more u ys ∙ ap (λ b. touches u ys || b) other ∙ none (touches u ys)
      ]
    where
      none : (b : Bool) → (b || false) ≡ b
      none true = refl
      none false = refl

  abbrev number_first : Touch E → Bool → List ℕ → List ℕ
  number_first y b ns = if b then ns else y.transaction ∷ ns

  -- a touch of the last one's transaction
  pub numbers_again : (ys : List (Touch E)) → last_of ys ≡ Some t → numbers_of (ys ++ x ∷ []) ≡ numbers_of ys
  numbers_again [] h = let no : ⊥ = cc in absurd no
  numbers_again (y ∷ []) h =
      let same : y.transaction ≡ t = some_is y.transaction t h in
      ap (λ b. number_first y b (t ∷ [])) (or_first (t == y.transaction) false (eq-eqb t y.transaction (sym same))) ∙ ap (λ n. n ∷ []) (sym same)
  numbers_again (y ∷ z ∷ zs) h =
      ap (λ b. number_first y b (numbers_of ((z ∷ zs) ++ x ∷ []))) (touches_again y.transaction (z ∷ zs) h)
      ∙ ap (number_first y (touches y.transaction (z ∷ zs))) (numbers_again (z ∷ zs) h)

  more_first : (y : Touch E) (b : Bool) (ns : List ℕ) → number_first y b (ns ++ t ∷ []) ≡ number_first y b ns ++ t ∷ []
  more_first y true ns = refl
  more_first y false ns = refl

  -- a touch of another transaction than all before
  pub numbers_more : (ys : List (Touch E)) → touches t ys ≡ false → numbers_of (ys ++ x ∷ []) ≡ numbers_of ys ++ t ∷ []
  numbers_more [] h = refl
  numbers_more (y ∷ ys) h =
      let parts = or_parts (y.transaction == t) (touches t ys) h in
      let same : touches y.transaction (ys ++ x ∷ []) ≡ touches y.transaction ys =
      touches_more y.transaction ys ∙ ap (λ b. touches y.transaction ys || b) (turned y.transaction t parts.0) ∙ none (touches y.transaction ys) in
      ap (λ b. number_first y b (numbers_of (ys ++ x ∷ []))) same ∙ ap (number_first y (touches y.transaction ys)) (numbers_more ys parts.1)
      ∙ more_first y (touches y.transaction ys) (numbers_of ys)
    where
      none : (b : Bool) → (b || false) ≡ b
      none true = refl
      none false = refl

  longer_first : (y : Touch E) (ys : List (Touch E)) (b c : Bool) → touches y.transaction ys ≡ b → (t == y.transaction) ≡ c
      → length (numbers_of ys) ≤ length (numbers_of (ys ++ x ∷ []))
      → length (number_first y b (numbers_of ys)) ≤ length (number_first y (b || c) (numbers_of (ys ++ x ∷ [])))
  longer_first y ys true c is same rest = rest
  longer_first y ys false false is same rest = omega (arith, rest)
  longer_first y ys false true is same rest =
      let none : touches t ys ≡ false = subst (λ u. touches u ys ≡ false) (sym (eqb-true t y.transaction same)) is in
      let sizes : length (numbers_of (ys ++ x ∷ [])) ≡ length (numbers_of ys ++ t ∷ []) = ap length (numbers_more ys none) in
      let both = length-append (numbers_of ys) (t ∷ []) in
      omega (arith, sizes, both)

  longer_by_one : (ys : List (Touch E)) → length (numbers_of ys) ≤ length (numbers_of (ys ++ x ∷ []))
  longer_by_one [] = omega arith
  longer_by_one (y ∷ ys) =
      subst (λ b. length (numbers_of (y ∷ ys)) ≤ length (number_first y b (numbers_of (ys ++ x ∷ [])))) (sym (touches_more y.transaction ys))
      (longer_first y ys (touches y.transaction ys) (t == y.transaction) refl refl (longer_by_one ys))

-- more touches are of no fewer transactions
pub numbers_longer : {E : Type 0} (zs ys : List (Touch E)) → length (numbers_of ys) ≤ length (numbers_of (ys ++ zs))
numbers_longer {E} [] ys = subst (λ (all : List (Touch E)). length (numbers_of ys) ≤ length (numbers_of all)) (sym (append-nil ys)) (omega arith)
numbers_longer {E} (z ∷ zs) ys =
    subst (λ (all : List (Touch E)). length (numbers_of ys) ≤ length (numbers_of all)) (append_assoc ys (z ∷ []) zs)
    (let one = longer_by_one z ys in let rest = numbers_longer zs (ys ++ z ∷ []) in omega (arith, one, rest))

-- the numbers up to the last one
pub record IsEnd (t : ℕ) (ts : List ℕ) : Type 0 where
  pub before : List ℕ
  pub is : ts ≡ before ++ t ∷ []

end_first : (n t : ℕ) (ts : List ℕ) (b : Bool) → IsEnd t ts → IsEnd t (if b then ts else n ∷ ts)
end_first n t ts true e = e
end_first n t ts false e = record { before = n ∷ e.before; is = ap (λ (ns : List ℕ). n ∷ ns) e.is }

pub last_number : {E : Type 0} (t : ℕ) (ys : List (Touch E)) → last_of ys ≡ Some t → IsEnd t (numbers_of ys)
last_number t [] h = let no : ⊥ = cc in absurd no
last_number t (y ∷ []) h = record { before = []; is = ap (λ n. n ∷ []) (some_is y.transaction t h) }
last_number t (y ∷ z ∷ zs) h = end_first y.transaction t (numbers_of (z ∷ zs)) (touches y.transaction (z ∷ zs)) (last_number t (z ∷ zs) h)

in_end : (u t : ℕ) (ts : List ℕ) → (t == u) ≡ true → is_in u (ts ++ t ∷ []) ≡ true
in_end u t [] h = or_first (t == u) false h
in_end u t (v ∷ ts) h = or_second (v == u) (is_in u (ts ++ t ∷ [])) (in_end u t ts h)

-- of distinct numbers the last one is none of the others
end_apart : (t : ℕ) (ts : List ℕ) → Distinct (ts ++ t ∷ []) → is_in t ts ≡ false
end_apart t [] d = refl
end_apart t (v ∷ ts) d =
    or_from (v == t) (is_in t ts)
    (elim (true_or_false (t == v)) [
      | inl is ↦ clash (is_in v (ts ++ t ∷ [])) (in_end v t ts is) d.0
      | inr other ↦ turned t v other
    ])
    (end_apart t ts d.1)

-- a list of so many in which the last number's part is anew, or comes
module _ {X : Type 0} (f g : ℕ → List X) where
  none_listed : (n : ℕ) → listed_for n g [] ≡ listed_for n f []
  none_listed zero = refl
  none_listed (suc n) = ap (λ (xs : List (List X)). [] ∷ xs) (none_listed n)

  listed_last : (n t : ℕ) (ts tail : List ℕ) → ((m : ℕ) → slice_set (listed_for (suc m) f tail) 0 (g t) ≡ g t ∷ listed_for m f [])
      → ((u : ℕ) → is_in u ts ≡ true → g u ≡ f u) → length ts < n
      → listed_for n g (ts ++ t ∷ []) ≡ slice_set (listed_for n f (ts ++ tail)) (length ts) (g t)
  listed_last zero t ts tail here same low = absurd (omega (arith, low))
  listed_last (suc n) t [] tail here same low = ap (λ (xs : List (List X)). g t ∷ xs) (none_listed n) ∙ sym (here n)
  listed_last (suc n) t (u ∷ ts) tail here same low =
      ap (λ (y : List X). y ∷ listed_for n g (ts ++ t ∷ [])) (same u (or_first (u == u) (is_in u ts) (itself u)))
      ∙ ap (λ (xs : List (List X)). f u ∷ xs)
      (listed_last n t ts tail here (λ v there. same v (or_second (u == v) (is_in v ts) there)) (omega (arith, low)))

-- what each transaction has touched, for eight sessions
abbrev pub groups_of : {E : Type 0} → List (Touch E) → List (List (Touch E))
groups_of xs = listed_for 8 (λ t. touched_by t xs) (numbers_of xs)

module _ {E : Type 0} (x : Touch E) where
  own_more : (u : ℕ) (ys : List (Touch E)) → (x.transaction == u) ≡ true → touched_by u (ys ++ x ∷ []) ≡ touched_by u ys ++ x ∷ []
  own_more u [] is = ap (λ b. cond b (x ∷ []) []) is
  own_more u (y ∷ ys) is =
      elim (y.transaction == u) as (λ b. cond b (y ∷ touched_by u (ys ++ x ∷ [])) (touched_by u (ys ++ x ∷ [])) ≡ cond b (y ∷ touched_by u ys) (touched_by u ys) ++ x ∷ []) [
        | true ↦ ap (λ (zs : List (Touch E)). y ∷ zs) (own_more u ys is)
        | false ↦ own_more u ys is
      ]

  other_more : (u : ℕ) (ys : List (Touch E)) → (x.transaction == u) ≡ false → touched_by u (ys ++ x ∷ []) ≡ touched_by u ys
  other_more u [] is = ap (λ b. cond b (x ∷ []) []) is
  other_more u (y ∷ ys) is = ap (λ (zs : List (Touch E)). cond (y.transaction == u) (y ∷ zs) zs) (other_more u ys is)

  -- one touch more, at the place of its transaction
  pub record IsPlaced (ys : List (Touch E)) (place : ℕ) : Type 0 where
    pub low : place < 8
    pub numbers : length (numbers_of (ys ++ x ∷ [])) ≡ suc place
    pub before : slice_index_or (groups_of ys) place [] ≡ touched_by x.transaction ys
    pub after : groups_of (ys ++ x ∷ []) ≡ slice_set (groups_of ys) place (touched_by x.transaction ys ++ x ∷ [])

  none_yet : (ys : List (Touch E)) → touches x.transaction ys ≡ false → touched_by x.transaction ys ≡ []
  none_yet [] h = refl
  none_yet (y ∷ ys) h =
      let parts = or_parts (y.transaction == x.transaction) (touches x.transaction ys) h in
      ap (λ b. cond b (y ∷ touched_by x.transaction ys) (touched_by x.transaction ys)) parts.0 ∙ none_yet ys parts.1

  not_in : (u : ℕ) (ts : List ℕ) → is_in x.transaction ts ≡ false → is_in u ts ≡ true → (x.transaction == u) ≡ false
  not_in u ts none there =
      elim (true_or_false (x.transaction == u)) [
        | inl is ↦ clash (is_in u ts) there (subst (λ v. is_in v ts ≡ false) (eqb-true x.transaction u is) none)
        | inr other ↦ other
      ]

  past : (n : ℕ) (f : ℕ → List (Touch E)) (ts : List ℕ) → slice_index_or (listed_for n f ts) (length ts) [] ≡ []
  past n f ts =
      elim (listed_at f n (length ts) ts) [
        | inl none ↦ none
        | inr some ↦ (let low = some.0 in absurd (omega (arith, low)))
      ]

  module _ (ys : List (Touch E)) where
    abbrev f : ℕ → List (Touch E)
    f u = touched_by u ys

    abbrev g : ℕ → List (Touch E)
    g u = touched_by u (ys ++ x ∷ [])

    own : g x.transaction ≡ f x.transaction ++ x ∷ []
    own = own_more x.transaction ys (itself x.transaction)

    -- of the transaction of the last one
    pub placed_again : last_of ys ≡ Some x.transaction → length (numbers_of ys) ≤ 8 → (place : ℕ) → length (numbers_of ys) ≡ suc place → IsPlaced ys place
    placed_again last few place size =
        let end : IsEnd x.transaction (numbers_of ys) = last_number x.transaction ys last in
        let ts : List ℕ = end.before in
        let long : length (numbers_of ys) ≡ length ts + 1 = ap length end.is ∙ length-append ts (x.transaction ∷ []) in
        let at : length ts ≡ place = omega (arith, long, size) in
        let low : place < 8 = omega (arith, size, few) in
        let apart : is_in x.transaction ts ≡ false = end_apart x.transaction ts (subst Distinct end.is (numbers_distinct ys)) in
        let listed = listed_last f g 8 x.transaction ts (x.transaction ∷ []) (λ m. refl)
        (λ u there. other_more u ys (not_in u ts apart there)) (omega (arith, at, low)) in
        record {
          low = low;
          numbers = ap length (numbers_again x ys last) ∙ size;
          before = listed_there f 8 place (numbers_of ys) low (omega (arith, size)) ∙ ap f (end_at place ts at end.is);
          after =
              ap (listed_for 8 g) (numbers_again x ys last ∙ end.is) ∙ listed
              ∙ ap (λ (ns : List ℕ). slice_set (listed_for 8 f ns) (length ts) (g x.transaction)) (sym end.is)
              ∙ ap (λ n. slice_set (groups_of ys) n (g x.transaction)) at
              ∙ ap (slice_set (groups_of ys) place) own;
        }
      where
        at_end : (ts : List ℕ) (u : ℕ) → slice_index_or (ts ++ u ∷ []) (length ts) 0 ≡ u
        at_end [] u = refl
        at_end (v ∷ ts) u = at_end ts u

        end_at : (place : ℕ) (ts : List ℕ) → length ts ≡ place → numbers_of ys ≡ ts ++ x.transaction ∷ [] → slice_index_or (numbers_of ys) place 0 ≡ x.transaction
        end_at place ts at is = ap (λ (ns : List ℕ). slice_index_or ns place 0) is ∙ ap (λ n. slice_index_or (ts ++ x.transaction ∷ []) n 0) (sym at) ∙ at_end ts x.transaction

    -- of another one than all before
    pub placed_new : touches x.transaction ys ≡ false → (place : ℕ) → length (numbers_of ys) ≡ place → place < 8 → IsPlaced ys place
    placed_new none place size low =
        let ts : List ℕ = numbers_of ys in
        let apart : is_in x.transaction ts ≡ false = unlisted in
        let listed = listed_last f g 8 x.transaction ts [] (λ m. refl) (λ u there. other_more u ys (not_in u ts apart there)) (omega (arith, size, low)) in
        let long : length (numbers_of (ys ++ x ∷ [])) ≡ length ts + 1 = ap length (numbers_more x ys none) ∙ length-append ts (x.transaction ∷ []) in
        record {
          low = low;
          numbers = omega (arith, long, size);
          before = ap (λ n. slice_index_or (groups_of ys) n []) (sym size) ∙ past 8 f ts ∙ sym (none_yet ys none);
          after =
              ap (listed_for 8 g) (numbers_more x ys none) ∙ listed
              ∙ ap (λ (ns : List ℕ). slice_set (listed_for 8 f ns) (length ts) (g x.transaction)) (append-nil ts)
              ∙ ap (λ n. slice_set (groups_of ys) n (g x.transaction)) size
              ∙ ap (slice_set (groups_of ys) place) own;
        }
      where
        unlisted : is_in x.transaction (numbers_of ys) ≡ false
        unlisted =
            elim (true_or_false (is_in x.transaction (numbers_of ys))) [
              | inl is ↦ clash (touches x.transaction ys) (in_touching x.transaction ys is) none
              | inr other ↦ other
            ]
