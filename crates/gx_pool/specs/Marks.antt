-- What is known of a frame besides its page.
use Rattle.std.specs.Prelude.{◌≡◌, ℕ, ◌<◌, ◌≤◌, ◌==◌, ◌&&◌, nat_lt, Bool, true, false, not, if◌then◌else◌, List, length, slice_index_or, Option, Some, None, MatchOption, is_none, is_some, nat_le}
use Rattle.std.specs.List.{list_any}
use Rattle.gx_page.specs.Contents.{Contents}
use Rattle.gx_page.specs.Edits.{blank}
use Rattle.gx_pool.specs.declared.mark.FrameMark.{FrameMark}

-- of an empty frame
abbrev pub empty : FrameMark
empty = record { page = None; stamp = None }

-- whether a frame's page is among those held
abbrev pub is_held : List ℕ → Option ℕ → Bool
is_held held None = false
is_held held (Some page) = list_any (λ other. other == page) held

-- whether a frame is empty or has a clean page that isn't held
abbrev pub clean : List ℕ → FrameMark → Bool
clean held mark = is_none mark.stamp && not (is_held held mark.page)

-- whether a frame has a page above the leaves
abbrev pub is_upper : FrameMark → Contents → Bool
is_upper mark page = is_some mark.page && nat_lt 0 page.level

-- whether a frame has a dirty page
abbrev pub is_dirty : FrameMark → Bool
is_dirty mark = is_some mark.stamp

-- whether a page has changes, and all are in gated batches
abbrev pub is_gated : ℕ → Option ℕ → Bool
is_gated gated None = false
is_gated gated (Some stamp) = nat_le stamp gated

-- no frame between two places that is clean is empty or has a leaf: each has a page above the leaves
abbrev pub NoLeafBetween : List ℕ → List FrameMark → List Contents → ℕ → ℕ → Type 0
NoLeafBetween held marks pages from to = (k : ℕ) → from ≤ k → k < to → clean held (slice_index_or marks k empty) ≡ true → is_upper (slice_index_or marks k empty) (slice_index_or pages k (blank 0 0)) ≡ true

-- no clean frame is empty or has a leaf
abbrev pub NoLeaf : List ℕ → List FrameMark → List Contents → Type 0
NoLeaf held marks pages = (k : ℕ) → k < length marks → clean held (slice_index_or marks k empty) ≡ true → is_upper (slice_index_or marks k empty) (slice_index_or pages k (blank 0 0)) ≡ true
