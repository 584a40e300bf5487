-- Where the tail of each place begins: from that sector of it on, the place reads zero.
use Rattle.std.specs.Prelude.{◌≡◌, ℕ, ◌+◌, ◌*◌, ◌/◌, ◌≤◌, ◌<◌, max, List, length, replicate, slice_index, slice_set, Bool, false}
use Rattle.gx_disk.specs.Sectors.{sector_of}
use Rattle.gx_glog.specs.declared.extent.Extent.{Extent}
use Rattle.gx_glog.specs.declared.extent.Extent.TheVariants.{A, B}
use Rattle.gx_glog.specs.declared.extent.TheConstants.{BODY_SECTORS, PLACES}
use Rattle.gx_glog.specs.Layout.{bodies_of}

-- how many sectors of a body these records take, with their size before them
abbrev pub sectors_of : List ℕ → ℕ
sectors_of records = (length records + 515) / 512

-- which of the log's places, those of both extents, an extent's place k is
abbrev pub place_of : Extent → ℕ → ℕ
place_of A k = k
place_of B k = PLACES + k

-- the sector of an extent's place k at which that place's tail begins, all of them if it has none
abbrev pub tail_of : List ℕ → Extent → ℕ → ℕ
tail_of tails extent k = slice_index tails (place_of extent k)

-- a tail for each place, within its sectors
pub record AreTails (tails : List ℕ) : Type 0 where
  pub whole : length tails ≡ 2 * PLACES
  pub within : (i : ℕ) → slice_index tails i ≤ BODY_SECTORS

-- no place is known to have one
unfoldable pub unknown_tails : List ℕ
unknown_tails = replicate (2 * PLACES) BODY_SECTORS

-- a place's tail begins so far on, or where it did, if that is farther on
abbrev pub widened : Extent → ℕ → ℕ → List ℕ → List ℕ
widened extent k sectors tails = slice_set tails (place_of extent k) (max (tail_of tails extent k) sectors)

-- a place's tail begins there
abbrev pub trimmed : Extent → ℕ → ℕ → List ℕ → List ℕ
trimmed extent k sectors tails = slice_set tails (place_of extent k) sectors

-- a sector reads zero, and a crash leaves it so
pub record IsZeroed (seen : List ℕ) (pending : ℕ → Bool) (s : ℕ) : Type 0 where
  pub reads : sector_of seen s ≡ replicate 512 0
  pub settled : pending s ≡ false

-- place k of an extent reads zero from this sector of it on, and a crash leaves it so
abbrev pub HasTail : ℕ → Extent → ℕ → List ℕ → (ℕ → Bool) → Type 0
HasTail tail extent k seen pending =
    (s : ℕ)
    → bodies_of extent + BODY_SECTORS * k + tail ≤ s
    → s < bodies_of extent + BODY_SECTORS * (k + 1)
    → IsZeroed seen pending s

-- each place of the log does from its tail on
abbrev pub HaveTails : List ℕ → List ℕ → (ℕ → Bool) → Type 0
HaveTails tails seen pending =
    (extent : Extent) (k : ℕ) → k < PLACES → HasTail (tail_of tails extent k) extent k seen pending
