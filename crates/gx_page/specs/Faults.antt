-- The first fault of given bytes.
use Rattle.std.specs.Prelude.{ℕ, ◌+◌, ◌*◌, ◌==◌, ◌&&◌, Bool, true, not, if◌then◌else◌, List, [], ◌∷◌, length, slice_range, Option, Some, None, nat_le}
use Rattle.gx_page.specs.declared.block.TheConstants.{PAGE_SIZE}
use Rattle.gx_page.specs.Bytes.{all_zero, number_16_at}
use Rattle.gx_page.specs.Reading.{count_of, entries_of}
use Rattle.gx_page.specs.declared.fault.PageFault.{PageFault}
use Rattle.gx_page.specs.declared.fault.PageFault.TheVariants.{Size, Reserved, Directory, Free}

-- each slot has a byte at least, and its bytes end where those of the slot before begin, the first one's at `end`
abbrev pub in_order : ℕ → List (ℕ × ℕ) → Bool
in_order end [] = true
in_order end (entry ∷ entries) = nat_le 1 entry.1 && (entry.0 + entry.1 == end) && in_order entry.0 entries

-- where the last slot's bytes begin
abbrev pub last_place : ℕ → List (ℕ × ℕ) → ℕ
last_place end [] = end
last_place end (entry ∷ entries) = last_place entry.0 entries

-- where the last slot's bytes begin, if all slots are in order
unfoldable pub lowest : ℕ → List (ℕ × ℕ) → Option ℕ
lowest end entries = if in_order end entries then Some (last_place end entries) else None

-- where the heap starts, as the header says
abbrev pub heap_start : List ℕ → ℕ
heap_start bytes = number_16_at bytes 4

abbrev pub directory_end : List ℕ → ℕ
directory_end bytes = 32 + 4 * count_of bytes

unfoldable pub is_reserved_zero : List ℕ → Bool
is_reserved_zero bytes = all_zero (slice_range bytes 6 8) && all_zero (slice_range bytes 24 32)

-- the directory ends within the block, its slots are in order, and the heap starts at the last of them, after the
-- directory
unfoldable pub is_directory : List ℕ → Bool
is_directory bytes =
    nat_le (directory_end bytes) PAGE_SIZE && in_order PAGE_SIZE (entries_of bytes) && (heap_start bytes == last_place PAGE_SIZE (entries_of bytes)) && nat_le (directory_end bytes) (heap_start bytes)

unfoldable pub is_free_zero : List ℕ → Bool
is_free_zero bytes = all_zero (slice_range bytes (directory_end bytes) (heap_start bytes))

-- the tests in their order
abbrev pub fault_of : List ℕ → Option PageFault
fault_of bytes =
    if not (length bytes == PAGE_SIZE) then Some Size
    else (if not (is_reserved_zero bytes) then Some Reserved
    else (if not (is_directory bytes) then Some Directory
    else (if not (is_free_zero bytes) then Some Free else None)))
