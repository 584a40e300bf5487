-- Pages whose sectors are kept read the same.
use Rattle.std.proofs.Common.{◌≡◌, ◌∙◌, sym, ap, refl, ℕ, ◌<◌, ◌≤◌, Bool, true, false, ◌&&◌, List, arith}
use Rattle.std.specs.Prelude.{if◌then◌else◌, nat_le, nat_lt}
use Rattle.std.proofs.lemmas.Bool.{ltb-true, leb-true}
use Rattle.gx_disk.specs.Device.{IsImage}
use Rattle.gx_disk.proofs.Spans.{image_span}
use Rattle.gx_pool.specs.Area.{bytes_of, first_of, IsPage}
use Rattle.gx_recovery.specs.Records.{Record}
use Rattle.gx_recovery.specs.Logged.{AgreesBeside}
use Rattle.gx_recovery.proofs.Tests.{and_first, and_second}
use Rattle.gx_durable.specs.Spelled.{Reading}
use Rattle.gx_durable.specs.Area.{area_of, HasPages, is_given, IsSettledBut}

-- a page of the device lies on it
pub device_page : (pages sectors p : ℕ) → HasPages pages sectors → (nat_lt 0 p && nat_le p pages) ≡ true → IsPage sectors p
device_page pages sectors p has is =
    let from : 0 < p = ltb-true 0 p (and_first (nat_lt 0 p) (nat_le p pages) is) in
    let to : p ≤ pages = leb-true p pages (and_second (nat_lt 0 p) (nat_le p pages) is) in
    record { from = omega arith; to = omega (arith, has.few); inside = omega (arith, has.inside) }

pub by_test : {P : Type 0} (b : Bool) (x y z : P) → (b ≡ true → x ≡ y) → (if b then x else z) ≡ (if b then y else z)
by_test true x y z h = h refl
by_test false x y z h = refl

module _ {E P : Type 0} (r : Reading E P) (pages sectors : ℕ) (has : HasPages pages sectors) where
  -- a page reads the same where its bytes do, if the device has it
  pub page_same : (p : ℕ) (xs ys : List ℕ) → (IsPage sectors p → bytes_of xs p ≡ bytes_of ys p) → area_of r pages xs p ≡ area_of r pages ys p
  unfolding area_of
  page_same p xs ys same =
      by_test (nat_lt 0 p && nat_le p pages) (r.content (bytes_of xs p)) (r.content (bytes_of ys p)) r.no_page
      (λ is. ap (λ (bytes : List ℕ). r.content bytes) (same (device_page pages sectors p has is)))

  -- an image has each page as it reads whose sectors are settled
  pub image_page : (named : ℕ → Bool) (seen : List ℕ) (pending : ℕ → Bool) (image : List ℕ) → IsSettledBut named sectors pending → IsImage seen pending image → (p : ℕ) → named p ≡ false
      → area_of r pages image p ≡ area_of r pages seen p
  image_page named seen pending image settled may p unnamed =
      page_same p image seen (λ is. image_span 8 (first_of p) seen pending image may (λ s within. settled p s is unnamed within))

  -- so it agrees with a page area that reads so, beside the pages that are given
  pub image_agrees : (log : List (Record E P)) (area : ℕ → P) (seen : List ℕ) (pending : ℕ → Bool) (image : List ℕ) → ((p : ℕ) → area p ≡ area_of r pages seen p)
      → IsSettledBut (is_given log) sectors pending → IsImage seen pending image → AgreesBeside log area (area_of r pages image)
  image_agrees log area seen pending image reads settled may p unnamed = image_page (is_given log) seen pending image settled may p unnamed ∙ sym (reads p)
