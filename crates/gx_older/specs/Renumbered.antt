-- The bytes of a device of the first version, as those of a device of this version.
use Rattle.std.specs.Prelude.{ℕ, ◌+◌, ◌*◌, ◌≤◌, List, [], ◌∷◌, replicate}
use Rattle.gx_disk.specs.declared.layout.TheConstants.{LOG_AT, PAGES_AT, PAGE_SECTORS}
use Rattle.gx_disk.specs.Sectors.{put, span_of}
use Rattle.gx_format.specs.Formatting.{sectors_of}
use Rattle.gx_format.specs.Fresh.{magic_bytes}
use Rattle.gx_glog.specs.declared.extent.TheConstants.{BODIES_A, BODIES_B, GATES_A, GATES_B}
use Rattle.gx_older.specs.declared.layout.Part.{Part}
use Rattle.gx_older.specs.declared.layout.TheConstants.{OLDER_BODIES, OLDER_BODIES_A, OLDER_BODIES_B, OLDER_GATES_B, OLDER_PAGES_AT, OLDER_PLACES}

-- how many sectors an index of so many pages took
abbrev pub older_sectors_of : ℕ → ℕ
older_sectors_of pages = OLDER_PAGES_AT + PAGE_SECTORS * pages

-- so many sectors from one on, and the sector from which on they lie now
abbrev pub part : ℕ → ℕ → ℕ → Part
part from to sectors = record { from = from; to = to; sectors = sectors }

-- the parts of an index of so many pages: what lies in front of the log, each extent's gates and bodies, the pages
abbrev pub parts_of : ℕ → List Part
parts_of pages =
    part 0 0 LOG_AT ∷ part LOG_AT GATES_A OLDER_PLACES ∷ part OLDER_BODIES_A BODIES_A OLDER_BODIES ∷ part OLDER_GATES_B GATES_B OLDER_PLACES
    ∷ part OLDER_BODIES_B BODIES_B OLDER_BODIES ∷ part OLDER_PAGES_AT PAGES_AT (PAGE_SECTORS * pages) ∷ []

-- a part of what is seen, in its place among these bytes
abbrev pub with_part : List ℕ → Part → List ℕ → List ℕ
with_part seen p bytes = put (512 * p.to) (span_of seen p.from (512 * p.sectors)) bytes

-- and so each of these parts
abbrev pub with_parts : List ℕ → List Part → List ℕ → List ℕ
with_parts seen [] bytes = bytes
with_parts seen (p ∷ parts) bytes = with_parts seen parts (with_part seen p bytes)

-- this version's magic, over the parts in their places, with zeros between them
abbrev pub renumbered : ℕ → List ℕ → List ℕ
renumbered pages seen = put 0 magic_bytes (with_parts seen (parts_of pages) (replicate (512 * sectors_of pages) 0))

-- A part has sectors, all of them of a device of so many, and its place lies within so many bytes.
pub record Fits (sectors size : ℕ) (p : Part) : Type 0 where
  pub some : 1 ≤ p.sectors
  pub inside : p.from + p.sectors ≤ sectors
  pub room : 512 * (p.to + p.sectors) ≤ size

-- each of these parts
abbrev pub AllFit : ℕ → ℕ → List Part → Type 0
AllFit sectors size [] = Unit {0}
AllFit sectors size (p ∷ parts) = Fits sectors size p × AllFit sectors size parts
