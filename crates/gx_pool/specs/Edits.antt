-- What an edit of the frames leaves.
use Rattle.std.specs.Prelude.{ℕ, List, slice_set, Option, Some, None, max}
use Rattle.gx_page.specs.Contents.{Contents}
use Rattle.gx_pool.specs.Marks.{empty}
use Rattle.gx_pool.specs.State.{State, mark_at, place_of}

abbrev pub forgotten : List (Option ℕ) → Option ℕ → List (Option ℕ)
forgotten places None = places
forgotten places (Some page) = slice_set places page None

-- a frame is empty
abbrev pub vacated : State → ℕ → State
vacated s i = record s { marks = slice_set s.marks i empty; places = forgotten s.places (mark_at s i).page }

-- a frame has other contents
abbrev pub with_page : State → ℕ → Contents → State
with_page s i page = record s { pages = slice_set s.pages i page }

-- an empty frame is a page's, with this stamp
abbrev pub settled : State → ℕ → ℕ → Option ℕ → State
settled s i page stamp = record s {
  marks = slice_set s.marks i (record { page = Some page; stamp = stamp });
  places = slice_set s.places page (Some i);
}

-- a frame's page has this stamp
abbrev pub stamped : State → ℕ → Option ℕ → State
stamped s i stamp = record s { marks = slice_set s.marks i (record (mark_at s i) { stamp = stamp }) }

-- contents under another number
abbrev pub numbered : Contents → ℕ → Contents
numbered page number = record page { number = number }

-- the later of a batch and the stamp that a page has, if it has one
abbrev pub later : ℕ → Option ℕ → ℕ
later stamp None = stamp
later stamp (Some was) = max was stamp

abbrev pub changed_at : State → Option ℕ → ℕ → Contents → State
changed_at s None stamp contents = s
changed_at s (Some i) stamp contents = with_page (stamped s i (Some (later stamp (mark_at s i).stamp))) i contents

-- a kept page has these contents, and a change of this batch
abbrev pub changed : State → ℕ → ℕ → Contents → State
changed s page stamp contents = changed_at s (place_of s page) stamp contents
