-- What comes into frames, and goes from them, for what a store was asked.
use Rattle.std.specs.Prelude.{◌≡◌, ℕ, ◌+◌, ◌-◌, ◌≤◌, List, [], length, Bool, false, None, Some}
use Rattle.std.specs.List.{list_any, sum_by}
use Rattle.gx_pool.specs.Bringing.{AtMostGo}
use Rattle.gx_pool.specs.Marks.{is_held}
use Rattle.gx_pool.specs.State.{kept}
use Rattle.gx_node.specs.Owner.{Asking, Brings, Prepares}
use Rattle.gx_store.specs.State.{Shelf}

-- the pages that it was asked to bring
abbrev pub brought_by : Asking → List ℕ
brought_by (Brings pages) = pages
brought_by (Prepares changes taken) = []

-- whether a page is among those that it was asked to bring
abbrev pub is_asked : List Asking → ℕ → Bool
is_asked asked page = list_any (λ a. is_held (brought_by a) (Some page)) asked

-- how many those are
abbrev pub asked_count : List Asking → ℕ
asked_count asked = sum_by (λ a. length (brought_by a)) asked

-- Of the pages that were taken none came into a frame but those that it was asked to bring; and at most as many went as those are, and
-- as were taken since.
pub record MovesAsAsked {D : Type 0} (old new : Shelf D) (asked : List Asking) : Type 0 where
  pub used : old.used ≤ new.used
  pub come : (page : ℕ) → page ≤ old.used → is_asked asked page ≡ false → kept old.frames page ≡ None → kept new.frames page ≡ None
  pub go : AtMostGo old.frames new.frames (asked_count asked + (new.used - old.used))
