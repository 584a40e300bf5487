-- Images that a record gives under their page's own number.
use Rattle.std.specs.Prelude.{◌≡◌, ℕ, List}
use Rattle.gx_page.specs.Reading.{read_of}
use Rattle.gx_store.specs.State.{Shelf}
use Rattle.gx_tree.specs.declared.seek.Sought.{Sought}
use Rattle.gx_tree.specs.declared.seek.Sought.TheVariants.{Here, Right}
use Rattle.gx_storage.specs.Changes.{image_at}

-- the image of a page's content of now has that page's number as its own
abbrev pub HasOwnNumber : {D : Type 0} → List ℕ → Shelf D → ℕ → Type 0
HasOwnNumber seen s page = (read_of (image_at seen s page)).number ≡ page

-- so it has if a mark was set
abbrev pub OwnWhereSet : {D : Type 0} → List ℕ → Shelf D → ℕ → Sought → Type 0
OwnWhereSet seen s page (Here slot before) = HasOwnNumber seen s page
OwnWhereSet seen s page (Right next) = Unit {0}
