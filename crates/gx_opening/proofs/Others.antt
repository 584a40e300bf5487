-- No two touches in an undamaged log are of one entry.
use Rattle.std.proofs.Common.{◌≡◌, ℕ, zero, suc, ◌<◌, ◌==◌, Bool, true, List, [], ◌∷◌, Some, refl, ap, subst, arith}
use Rattle.std.specs.Prelude.{slice_get, ◌&&◌, ◌||◌}
use Rattle.std.specs.Ordering.{is_eq}
use Rattle.std.specs.declared.cmp.Ordering.TheVariants.{Less}
use Rattle.gx_recovery.specs.Analysis.{analysis, lists, touch_cmp}
use Rattle.gx_recovery.specs.Damage.{is_undamaged, records_of}
use Rattle.gx_recovery.specs.Known.{Known, IsLawful, same}
use Rattle.gx_recovery.specs.Records.{Record, Touch}
use Rattle.gx_recovery.proofs.DamageItems.{bodies_log}
use Rattle.gx_recovery.proofs.Logs.{told_log}
use Rattle.gx_recovery.proofs.Tests.{itself, or_second}
use Rattle.gx_recovery.proofs.Told.{Told}
use Rattle.gx_recovery.proofs.Touches.{Apart, Before, InOrder, apart_if_less, same_itself}
use Rattle.gx_opening.specs.Noting.{AreOfOthers}

or_first : (a b : Bool) → a ≡ true → (a || b) ≡ true
or_first a b is = rw is refl

module _ {E P : Type 0} (k : Known E P) (l : IsLawful k) where
  before_at : (x : Touch E) (xs : List (Touch E)) (j : ℕ) (y : Touch E) → Before k x xs → slice_get xs j ≡ Some y → touch_cmp k x y ≡ Less
  before_at x [] j y all there = absurd (cc)
  before_at x (z ∷ xs) zero y all there = let here : z ≡ y = cc in subst (λ (t : Touch E). touch_cmp k x t ≡ Less) here all.0
  before_at x (z ∷ xs) (suc j) y all there = before_at x xs j y all.1 there

  in_order_at : (xs : List (Touch E)) (i j : ℕ) (x y : Touch E) → InOrder k xs → i < j → slice_get xs i ≡ Some x → slice_get xs j ≡ Some y → touch_cmp k x y ≡ Less
  in_order_at [] i j x y up low at there = absurd (cc)
  in_order_at (z ∷ xs) i zero x y up low at there = absurd (omega (arith, low))
  in_order_at (z ∷ xs) zero (suc j) x y up low at there =
      let here : z ≡ x = cc in subst (λ (t : Touch E). touch_cmp k t y ≡ Less) here (before_at z xs j y up.0 there)
  in_order_at (z ∷ xs) (suc i) (suc j) x y up low at there = in_order_at xs i j x y up.1 (omega (arith, low)) at there

  listed_at : (e : E) (xs : List (Touch E)) (j : ℕ) (y : Touch E) → slice_get xs j ≡ Some y → same k e y.entry ≡ true → lists k y.transaction e xs ≡ true
  listed_at e [] j y there is = absurd (cc)
  listed_at e (z ∷ xs) zero y there is =
      let here : y ≡ z = cc in
      subst (λ (t : Touch E). ((t.transaction == y.transaction && same k e t.entry) || lists k y.transaction e xs) ≡ true) here
      (or_first (y.transaction == y.transaction && same k e y.entry) (lists k y.transaction e xs) (rw (itself y.transaction, is) refl))
  listed_at e (z ∷ xs) (suc j) y there is =
      or_second (z.transaction == y.transaction && same k e z.entry) (lists k y.transaction e xs) (listed_at e xs j y there is)

  pub of_others : (xs : List (Touch E)) → InOrder k xs → Apart k xs → AreOfOthers k.cmp xs
  of_others xs up apart = λ i j x y low at there tied.
      (let alike : x.entry ≡ y.entry = l.exact x.entry y.entry tied in
      let one : x.transaction ≡ y.transaction =
      apart x.transaction y.transaction x.entry (listed_at x.entry xs i x at (same_itself k l x.entry)) (listed_at x.entry xs j y there (ap is_eq tied)) in
      apart_if_less k l x y (in_order_at xs i j x y up low at there) one alike)

  -- of an undamaged log
  pub log_of_others : (bodies : List (List (Record E P))) → is_undamaged k bodies ≡ true → AreOfOthers k.cmp (analysis k (records_of bodies)).touched
  log_of_others bodies undamaged =
      let told : Told k (records_of bodies) = told_log k l (records_of bodies) (bodies_log k bodies undamaged) in
      of_others (analysis k (records_of bodies)).touched told.in_order told.apart
