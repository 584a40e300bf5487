-- A small change of a page, made by the page's items.
use Rattle.std.proofs.Common.{◌≡◌, ℕ, Bool, true, false, List, [], ◌∷◌, refl, sym, ap, ◌∙◌}
use Rattle.std.specs.Bool.{OnTrue}
use Rattle.gx_page.specs.Contents.{Contents}
use Rattle.gx_page.specs.Edits.{with_items}
use Rattle.gx_page.specs.Format.{image_of, IsWellFormed}
use Rattle.gx_page.proofs.Images.{read-image}
use Rattle.gx_record.specs.Bytes.{u16_of}
use Rattle.gx_record.specs.Slots as slots
use Rattle.gx_node.specs.Reading.{Format}
use Rattle.gx_node.specs.Small.{slots_in}
use Rattle.gx_durable.specs.Classes.{page_of, change_by}

module _ {B : Type 0} (f : Format B) (fits : ℕ → Contents → Bool) (made : List (List ℕ) → List (List ℕ)) (page : Contents) (formed : IsWellFormed page) where
  -- it fits where its test passes
  pub fits_so : (most : ℕ) (result : Bool) → result ≡ fits most page → result ≡ (change_by f fits made).fits most (page_of f (image_of page))
  fits_so most result is = is ∙ ap (fits most) (sym (read-image page formed))

  -- and makes the page that has the items that it makes
  pub made_so : (new : Contents) → new ≡ with_items page (made page.items) → page_of f (image_of new) ≡ (change_by f fits made).made (page_of f (image_of page))
  made_so new is = ap (λ (p : Contents). page_of f (image_of p)) is ∙ ap (λ (p : Contents). page_of f (image_of (with_items p (made p.items)))) (sym (read-image page formed))

  pub made_on : (result : Bool) (new : Contents) → OnTrue result (new ≡ with_items page (made page.items))
      → OnTrue result (page_of f (image_of new) ≡ (change_by f fits made).made (page_of f (image_of page)))
  made_on true new is = made_so new is
  made_on false new is = tt

-- slots are read alike of the bytes of a record and by the change
pub same_slots : (bytes : List ℕ) → slots_in bytes ≡ slots.slots_in bytes
unfolding u16_of
same_slots [] = refl
same_slots (byte ∷ []) = refl
same_slots (high ∷ low ∷ bytes) = ap (λ (l : List ℕ). u16_of (high ∷ low ∷ []) ∷ l) (same_slots bytes)
