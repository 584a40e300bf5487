-- Where a touch goes among touches, looked at one after another.
use Rattle.std.proofs.Common.{◌≡◌, ℕ, zero, suc, ◌+◌, ◌<◌, Bool, true, false, List, [], ◌∷◌, ◌++◌, take, drop, length, get_or, refl, ap, sym, ◌∙◌, arith, drop-cons, add-one}
use Rattle.std.proofs.lemmas.List.{length-set, get_or_default}
use Rattle.std.specs.Prelude.{slice_set, if◌then◌else◌}
use Rattle.std.specs.declared.cmp.Ordering.{Ordering}
use Rattle.std.specs.declared.cmp.Ordering.TheVariants.{Equal}
use Rattle.std.specs.Ordering.{match_ordering}
use Rattle.gx_recovery.specs.Known.{Known}
use Rattle.gx_recovery.specs.Records.{Touch}
use Rattle.gx_recovery.specs.Analysis.{touch_cmp, touching}
use Rattle.gx_recovery.specs.Damage.{transactions}
use Rattle.gx_recovery.specs.Kept.{has_touched}

set_cut : {X : Type 0} → (xs : List X) (i : ℕ) (a : X) → i < length xs → slice_set xs i a ≡ take i xs ++ a ∷ drop (suc i) xs
set_cut [] i a h = absurd (omega arith)
set_cut (x ∷ xs) zero a h = refl
set_cut (x ∷ xs) (suc i) a h = ap (λ ys. x ∷ ys) (set_cut xs i a (omega arith))

module _ {E P : Type 0} (k : Known E P) where
  -- one step of touching, by how the touch compares with the first
  pub touching_by : (o : Ordering) (t x : Touch E) (xs : List (Touch E)) → touch_cmp k t x ≡ o
      → touching k t (x ∷ xs) ≡ match_ordering o (t ∷ x ∷ xs) (record x { leaf = t.leaf } ∷ xs) (x ∷ touching k t xs)
  touching_by o t x xs h = ap (λ r. match_ordering r (t ∷ x ∷ xs) (record x { leaf = t.leaf } ∷ xs) (x ∷ touching k t xs)) h

  cut_at : (o : Ordering) (t x : Touch E) (xs : List (Touch E)) (i : ℕ) → i < length xs → get_or xs i x ≡ x → touch_cmp k t x ≡ o
      → touching k t (drop i xs) ≡ match_ordering o (t ∷ x ∷ drop (suc i) xs) (record x { leaf = t.leaf } ∷ drop (suc i) xs) (x ∷ touching k t (drop (suc i) xs))
  cut_at o t x xs i lt at h =
      ap (touching k t) (drop-cons xs i x lt ∙ ap (λ y. y ∷ drop (suc i) xs) at) ∙ touching_by o t x (drop (suc i) xs) h

  -- the touch of this transaction and entry is at place i
  pub stands_at : (t x d : Touch E) (xs : List (Touch E)) (i : ℕ) → i < length xs → x ≡ get_or xs i x → Equal ≡ touch_cmp k t x
      → touching k t xs ≡ take i xs ++ touching k t (drop i xs) → touching k t xs ≡ slice_set xs i (record (get_or xs i d) { leaf = t.leaf })
  stands_at t x d xs i lt at h so_far =
      let by_default : get_or xs i d ≡ x = get_or_default xs i d x lt ∙ sym at in
      so_far ∙ ap (λ ys. take i xs ++ ys) (cut_at Equal t x xs i lt (sym at) (sym h))
      ∙ ap (λ (y : Touch E). take i xs ++ record y { leaf = t.leaf } ∷ drop (suc i) xs) (sym by_default)
      ∙ sym (set_cut xs i (record (get_or xs i d) { leaf = t.leaf }) lt)

-- how many transactions are left, by whether the first one comes again
pub counted : {E : Type 0} → (x : Touch E) (xs : List (Touch E)) (i : ℕ) → i < length xs → x ≡ get_or xs i x
    → transactions (drop i xs) ≡ transactions (drop (i + 1) xs) + (if has_touched x.transaction (drop (i + 1) xs) then 0 else 1)
counted {E} x xs i lt at =
    let split : (b : Bool) (n : ℕ) → (if b then n else n + 1) ≡ n + (if b then 0 else 1) = λ b n. elim b as (λ c. (if c then n else n + 1) ≡ n + (if c then 0 else 1)) [ true ↦ omega arith | false ↦ refl ] in
    ap transactions (drop-cons xs i x lt ∙ ap (λ (y : Touch E). y ∷ drop (suc i) xs) (sym at))
    ∙ ap (λ j. if has_touched x.transaction (drop j xs) then transactions (drop j xs) else transactions (drop j xs) + 1) (sym (add-one i))
    ∙ split (has_touched x.transaction (drop (i + 1) xs)) (transactions (drop (i + 1) xs))

-- a touch that replaces another leaves as many
pub as_many : {E : Type 0} → (xs ys : List (Touch E)) (i : ℕ) (y : Touch E) → ys ≡ slice_set xs i y → length ys ≡ length xs
as_many xs ys i y h = ap length h ∙ length-set xs i y
