-- Each page is stored as all records leave it.
use Rattle.std.proofs.Common.{◌≡◌, ◌∙◌, sym, ap, refl, ◌⊎◌, inl, inr, ℕ, Bool, true, false, ◌&&◌, List, ◌++◌, Option, None, Some}
use Rattle.std.specs.Prelude.{if◌then◌else◌, nat_le, nat_lt}
use Rattle.std.proofs.lemmas.List.{append-nil}
use Rattle.gx_page.specs.Contents.{Contents}
use Rattle.gx_page.specs.Format.{image_of}
use Rattle.gx_pool.specs.Area.{bytes_of}
use Rattle.gx_pool.specs.Bringing.{HasImage, Brings}
use Rattle.gx_pool.specs.Laws.{IsBacked}
use Rattle.gx_pool.specs.State.{State, Kept, kept, stamp_of, IsSpare}
use Rattle.gx_recovery.specs.Records.{Record}
use Rattle.gx_recovery.specs.Redo.{redone}
use Rattle.gx_recovery.specs.Logged.{all_records}
use Rattle.gx_durable.specs.Spelled.{Reading}
use Rattle.gx_durable.specs.Area.{area_of}
use Rattle.gx_durable.specs.Stored.{bytes_by, stored, NothingDirtyIsWritten, BringingStoresTheSame}

-- the image of what bytes read as is those bytes
image_again : (bytes : List ℕ) (contents : Contents) → HasImage bytes contents → image_of contents ≡ bytes
image_again bytes contents has = sym (ap image_of has.read) ∙ has.image.image

-- a clean page's bytes are the device's
pub clean_bytes : (frames : State) (seen : List ℕ) (p : ℕ) (o : Option Kept) → kept frames p ≡ o → stamp_of o ≡ None → IsBacked frames seen → bytes_by o (bytes_of seen p) ≡ bytes_of seen p
clean_bytes frames seen p None is clean backed = refl
clean_bytes frames seen p (Some k) is clean backed = image_again (bytes_of seen p) k.page (backed p k is clean)

-- a page that wasn't kept, or was clean, is what the device has
was_on_device : (seen : List ℕ) (old : State) (p : ℕ) → (kept old p ≡ None) ⊎ IsSpare old p → IsBacked old seen → bytes_by (kept old p) (bytes_of seen p) ≡ bytes_of seen p
was_on_device seen old p (inl none) backed = ap (λ (o : Option Kept). bytes_by o (bytes_of seen p)) none
was_on_device seen old p (inr spare) backed = clean_bytes old seen p (kept old p) refl spare.clean backed

by_test : {P : Type 0} (b : Bool) (x y z : P) → x ≡ y → (if b then x else z) ≡ (if b then y else z)
by_test true x y z same = same
by_test false x y z same = refl

module _ {E P : Type 0} (r : Reading E P) where
  -- what is stored of a page whose bytes are these
  pub stored_as : (pages : ℕ) (frames : State) (seen : List ℕ) (p : ℕ) → bytes_by (kept frames p) (bytes_of seen p) ≡ bytes_of seen p → stored r pages frames seen p ≡ area_of r pages seen p
  unfolding stored area_of
  stored_as pages frames seen p same =
      by_test (nat_lt 0 p && nat_le p pages) (r.content (bytes_by (kept frames p) (bytes_of seen p))) (r.content (bytes_of seen p)) r.no_page (ap (λ (bytes : List ℕ). r.content bytes) same)

  pub stored_same : (pages : ℕ) (old new : State) (seen : List ℕ) (p : ℕ) → bytes_by (kept new p) (bytes_of seen p) ≡ bytes_by (kept old p) (bytes_of seen p)
      → stored r pages new seen p ≡ stored r pages old seen p
  unfolding stored
  stored_same pages old new seen p same =
      by_test (nat_lt 0 p && nat_le p pages) (r.content (bytes_by (kept new p) (bytes_of seen p))) (r.content (bytes_by (kept old p) (bytes_of seen p))) r.no_page
      (ap (λ (bytes : List ℕ). r.content bytes) same)

  pub nothing_dirty : NothingDirtyIsWritten r
  nothing_dirty pages frames seen s area clean backed no_flight no_filling is p =
      let all : all_records s ≡ s.gated =
      ap (λ (x : List (Record E P)). s.gated ++ (x ++ s.filling)) no_flight ∙ ap (λ (x : List (Record E P)). s.gated ++ x) no_filling ∙ append-nil s.gated in
      area p ∙ sym (stored_as pages frames seen p (clean_bytes frames seen p (kept frames p) refl (clean p) backed)) ∙ is p ∙ ap (λ (x : List (Record E P)). redone s.area x p) all

  -- a page that came or went is what the device has
  brought_bytes : (passes : Contents → Bool) (seen : List ℕ) (old new : State) (p : ℕ) → Brings passes true seen old new → IsBacked old seen
      → bytes_by (kept new p) (bytes_of seen p) ≡ bytes_by (kept old p) (bytes_of seen p)
  brought_bytes passes seen old new p brings backed = elim (brings.fates p) [
    | inl same ↦ ap (λ (o : Option Kept). bytes_by o (bytes_of seen p)) same
    | inr went ↦ elim went [
      | inl left ↦ ap (λ (o : Option Kept). bytes_by o (bytes_of seen p)) left.is ∙ sym (clean_bytes old seen p (kept old p) refl left.was.clean backed)
      | inr came ↦ ap (λ (o : Option Kept). bytes_by o (bytes_of seen p)) came.is ∙ image_again (bytes_of seen p) came.contents (came.backed refl)
          ∙ sym (was_on_device seen old p came.was backed)
    ]
  ]

  pub bringing_stores : BringingStoresTheSame r
  bringing_stores passes pages seen old new s brings backed is p = stored_same pages old new seen p (brought_bytes passes seen old new p brings backed) ∙ is p
