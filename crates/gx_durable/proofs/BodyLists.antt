-- Bodies one by one.
use Rattle.std.proofs.Common.{◌≡◌, ℕ, zero, suc, ◌+◌, ◌<◌, ◌≤◌, List, [], ◌∷◌, ◌++◌, refl, ap, ◌∙◌, true, false, arith}
use Rattle.gx_glog.specs.declared.extent.TheConstants.{PLACES}
use Rattle.gx_glog.specs.declared.extent.Extent.{Extent}
use Rattle.gx_glog.specs.Layout.{selected_of, is_open, body_of, records_in, open_run}
use Rattle.gx_glog.proofs.Gates.{run_is}
use Rattle.gx_glog.specs.Cuts.{bodies_in, open_bodies, joined}
use Rattle.gx_recovery.specs.Records.{Record}
use Rattle.gx_recovery.specs.Damage.{records_of}
use Rattle.gx_durable.specs.Spelled.{Reading}
use Rattle.gx_durable.specs.Laws.{BodiesOneWay, BodyAdds, BodiesJoin}
use Rattle.gx_durable.proofs.Spellings.{one_way, parts_join, none_are}

-- one body more
pub bodies_more : (bytes : List ℕ) (extent : Extent) (n m : ℕ) → m ≡ n + 1 → bodies_in bytes extent m ≡ bodies_in bytes extent n ++ records_in (body_of bytes extent n) ∷ []
unfolding bodies_in
bodies_more bytes extent n m is = let more : m ≡ suc n = omega arith in rw more refl

-- bodies that read the same are the same
pub bodies_same : (xs ys : List ℕ) (extent : Extent) (n : ℕ) → ((k : ℕ) → k < n → body_of xs extent k ≡ body_of ys extent k) → bodies_in xs extent n ≡ bodies_in ys extent n
unfolding bodies_in
bodies_same xs ys extent zero same = refl
bodies_same xs ys extent (suc n) same =
    let before : bodies_in xs extent n ≡ bodies_in ys extent n = bodies_same xs ys extent n (λ k less. same k (omega arith)) in
    let last : body_of xs extent n ≡ body_of ys extent n = same n (omega arith) in
    rw (before, last) refl

-- which bodies an image has whose first n gates are open, and the next closed
pub open_are : (extent : Extent) (n : ℕ) (image : List ℕ) → selected_of image ≡ extent → n ≤ PLACES → ((k : ℕ) → k < n → is_open image extent k ≡ true) → (n < PLACES → is_open image extent n ≡ false)
    → open_bodies image ≡ bodies_in image extent n
unfolding open_bodies
open_are extent n image selects few opened closed =
    let there : 0 + n ≡ n = omega arith in
    let run : open_run image extent 0 PLACES ≡ n = run_is extent PLACES 0 n image few (λ j from below. opened j (omega arith)) (λ less. ap (λ j. is_open image extent j) there ∙ closed less) in
    rw selects (ap (λ m. bodies_in image extent m) run)

module _ {E P : Type 0} (r : Reading E P) where
  pub bodies_one_way : BodiesOneWay r
  bodies_one_way [] [] [] a b = refl
  bodies_one_way [] [] (y ∷ ys) a b = absurd b
  bodies_one_way [] (x ∷ xs) ys a b = absurd a
  bodies_one_way (body ∷ bodies) [] ys a b = absurd a
  bodies_one_way (body ∷ bodies) (x ∷ xs) [] a b = absurd b
  bodies_one_way (body ∷ bodies) (x ∷ xs) (y ∷ ys) a b =
      let first : x ≡ y = one_way r body x y a.0 b.0 in
      let others : xs ≡ ys = bodies_one_way bodies xs ys a.1 b.1 in
      ap (λ (z : List (Record E P)). z ∷ xs) first ∙ ap (λ (l : List (List (Record E P))). y ∷ l) others

  pub body_adds : BodyAdds r
  body_adds [] body [] records a b = (b, tt)
  body_adds [] body (x ∷ xs) records a b = absurd a
  body_adds (c ∷ bodies) body [] records a b = absurd a
  body_adds (c ∷ bodies) body (x ∷ xs) records a b = (a.0, body_adds bodies body xs records a.1 b)

  pub bodies_join : BodiesJoin r
  bodies_join [] [] a = none_are r
  bodies_join [] (x ∷ xs) a = absurd a
  bodies_join (body ∷ bodies) [] a = absurd a
  bodies_join (body ∷ bodies) (x ∷ xs) a = parts_join r body (joined bodies) x (records_of xs) a.0 (bodies_join bodies xs a.1)
