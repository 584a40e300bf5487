-- Several pages that were changed, with the record that gives them.
use Rattle.std.specs.Prelude.{ℕ, List, [], ◌∷◌, map, max, min, nat_lt, if◌then◌else◌}
use Rattle.gx_page.specs.Contents.{Contents}
use Rattle.gx_page.specs.Format.{IsWellFormed}
use Rattle.gx_record.specs.Rec.{Rec, Pages}
use Rattle.gx_durable.specs.Stored.{images_of}
use Rattle.gx_store.specs.Standing.{standing}
use Rattle.gx_store.specs.State.{Shelf, IsHeld}
use Rattle.gx_storage.specs.Numbers.{HasOwnNumber}

-- a number in its place among rising ones
abbrev pub placed : ℕ → List ℕ → List ℕ
placed a [] = a ∷ []
placed a (b ∷ rest) = if nat_lt a b then a ∷ b ∷ rest else b ∷ placed a rest

-- three pages by rising number
abbrev pub rising : ℕ → ℕ → ℕ → List ℕ
rising a b c = placed c (min a b ∷ max a b ∷ [])

-- pages with their contents of now
abbrev pub contents_at : {D : Type 0} → List ℕ → Shelf D → List ℕ → List (ℕ × Contents)
contents_at seen s pages = map (λ page. (page, standing s.frames seen page)) pages

-- pages that were changed, with their contents and the numbers of now
abbrev pub pages_given : {D : Type 0} → List ℕ → List ℕ → Shelf D → Rec
pages_given pages seen s = Pages s.counter s.used (images_of (contents_at seen s pages))

-- a page that is held has an image of its content, under its own number
pub record IsGiven {D : Type 0} (seen : List ℕ) (s : Shelf D) (page : ℕ) : Type 0 where
  pub held : IsHeld s page
  pub well : IsWellFormed (standing s.frames seen page)
  pub own : HasOwnNumber seen s page
