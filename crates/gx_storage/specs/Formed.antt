-- Pages in frames that have an image.
use Rattle.std.specs.Prelude.{◌≡◌, ℕ, Some}
use Rattle.gx_page.specs.Format.{IsWellFormed}
use Rattle.gx_pool.specs.State.{State, Kept, kept}

-- the contents of each kept page are well formed: an image of them reads as them again
abbrev pub AreFormed : State → Type 0
AreFormed frames = (page : ℕ) (k : Kept) → kept frames page ≡ Some k → IsWellFormed k.page
