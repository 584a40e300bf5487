-- Where the log lies on the device, and what the log of an image is.
use Rattle.std.specs.Prelude.{ℕ, zero, suc, ◌+◌, ◌*◌, ◌==◌, Bool, List, [], ◌++◌, take, drop, slice_index, if◌then◌else◌}
use Rattle.std.specs.Int.{from_be_bytes}
use mir.Syntax.{w32}
use Rattle.gx_disk.specs.Sectors.{span_of}
use Rattle.gx_glog.specs.declared.extent.TheConstants.{BODIES_A, BODIES_B, BODY_SECTORS, BODY_SIZE, GATES_A, GATES_B, PLACES}
use Rattle.gx_glog.specs.declared.extent.Extent.{Extent}
use Rattle.gx_glog.specs.declared.extent.Extent.TheVariants.{A, B}

-- an extent's first gate
abbrev pub gates_of : Extent → ℕ
gates_of A = GATES_A
gates_of B = GATES_B

-- the first sector of an extent's first body
abbrev pub bodies_of : Extent → ℕ
bodies_of A = BODIES_A
bodies_of B = BODIES_B

-- the extent that a turn leads to
abbrev pub other_of : Extent → Extent
other_of A = B
other_of B = A

-- the extent that the selector's first byte selects
unfoldable pub selected_of : List ℕ → Extent
selected_of bytes = if slice_index (span_of bytes 2 512) 0 == 0x5A then B else A

-- whether the gate of place k is open: no other byte of its sector is read
unfoldable pub is_open : List ℕ → Extent → ℕ → Bool
is_open bytes extent k = slice_index (span_of bytes (gates_of extent + k) 512) 0 == 0xA7

-- the body of place k
unfoldable pub body_of : List ℕ → Extent → ℕ → List ℕ
body_of bytes extent k = span_of bytes (bodies_of extent + BODY_SECTORS * k) BODY_SIZE

-- how many bytes of records a body says it has
unfoldable pub size_in : List ℕ → ℕ
size_in body = from_be_bytes w32 (take 4 body)

-- the bytes of a body's records
unfoldable pub records_in : List ℕ → List ℕ
records_in body = take (size_in body) (drop 4 body)

-- how many gates from place k on are open in a row, of so many places
unfoldable pub open_run : List ℕ → Extent → ℕ → ℕ → ℕ
open_run bytes extent k zero = 0
open_run bytes extent k (suc places) = if is_open bytes extent k then suc (open_run bytes extent (k + 1) places) else 0

-- the bytes of the records in the first n bodies of an extent
unfoldable pub batches_of : List ℕ → Extent → ℕ → List ℕ
batches_of bytes extent zero = []
batches_of bytes extent (suc n) = batches_of bytes extent n ++ records_in (body_of bytes extent n)

-- The log of an image: the bytes of the records after the leading open gates of the selected extent. Each list of
-- records has its own bytes, so these say which records they are.
unfoldable pub log_of : List ℕ → List ℕ
log_of bytes = batches_of bytes (selected_of bytes) (open_run bytes (selected_of bytes) 0 PLACES)
