-- Records that give a page's whole content.
use Rattle.std.specs.Prelude.{ℕ, Bool, List, [], ◌∷◌}
use Rattle.gx_page.specs.Format.{image_of}
use Rattle.gx_record.specs.Rec.{Rec, Pages, Write}
use Rattle.gx_store.specs.Standing.{standing}
use Rattle.gx_store.specs.State.{Shelf}

-- the image of a page's content
abbrev pub image_at : {D : Type 0} → List ℕ → Shelf D → ℕ → List ℕ
image_at seen s page = image_of (standing s.frames seen page)

-- a transaction's write of an entry on a leaf, with the leaf's content of now
abbrev pub write_of : {B D : Type 0} → (B → List ℕ) → ℕ → ℕ → B → Bool → Bool → ℕ → List ℕ → Shelf D → Rec
write_of spelling transaction row key before after leaf seen s = Write transaction row (spelling key) before after leaf (image_at seen s leaf)

-- a page that was changed, with its content and the numbers of now
abbrev pub page_given : {D : Type 0} → ℕ → List ℕ → Shelf D → Rec
page_given page seen s = Pages s.counter s.used ((page, image_at seen s page) ∷ [])
