-- The laws of the spelling.
use Rattle.std.specs.Prelude.{◌≡◌, ◌↔◌, ℕ, ◌+◌, ◌≤◌, List, ◌++◌, length, drop}
use Rattle.std.specs.List.{AllByRecursion}
use Rattle.gx_page.specs.Contents.{Contents}
use Rattle.gx_page.specs.Format.{image_of, IsWellFormed}
use Rattle.gx_record.specs.declared.sizes.TheConstants.{SPLIT_RECORD, WIDEN_BESIDE_KEY}
use Rattle.gx_record.specs.Rec.{Rec}
use Rattle.gx_record.specs.Format.{spelling, spellings, IsImageOf, IsRecord, BeginsWith}
use Rattle.gx_record.specs.Writing.{size_of}

-- No spelling begins another: records whose spellings begin the same bytes are equal, and the same bytes follow them.
abbrev pub NoSpellingBeginsAnother : Type 0
NoSpellingBeginsAnother = (key : ℕ) (r s : Rec) (x y : List ℕ) → IsRecord key r → IsRecord key s → spelling r ++ x ≡ spelling s ++ y → (r ≡ s) × (x ≡ y)

-- a spelling is at the front of the bytes that it begins
abbrev pub SpellingsBegin : Type 0
SpellingsBegin = (key : ℕ) (r : Rec) (rest : List ℕ) → IsRecord key r → BeginsWith key (spelling r ++ rest) r (length (spelling r)) × (drop (length (spelling r)) (spelling r ++ rest) ≡ rest)

-- bytes are whole records in one way only
abbrev pub SpellingsTell : Type 0
SpellingsTell = (key : ℕ) (rs ss : List Rec) → AllByRecursion (IsRecord key) rs → AllByRecursion (IsRecord key) ss → spellings rs ≡ spellings ss → rs ≡ ss

-- the bytes of records one after the other
abbrev pub SpellingsJoin : Type 0
SpellingsJoin = (rs ss : List Rec) → spellings (rs ++ ss) ≡ spellings rs ++ spellings ss

-- how long each kind's spelling is
abbrev pub SpellingsHaveSizes : Type 0
SpellingsHaveSizes = (key : ℕ) (r : Rec) → IsRecord key r → length (spelling r) ≡ size_of r

-- how long a spelling is at least and at most
abbrev pub SpellingsAreShort : Type 0
SpellingsAreShort = (key : ℕ) (r : Rec) → IsRecord key r → (WIDEN_BESIDE_KEY ≤ length (spelling r)) × (length (spelling r) ≤ SPLIT_RECORD + key)

-- images are images of pages
abbrev pub ImagesAreOfPages : Type 0
ImagesAreOfPages = (page : ℕ) (bytes : List ℕ) → IsImageOf page bytes ↔ ((v : Contents) × (IsWellFormed v × (v.number ≡ page) × (image_of v ≡ bytes)))
