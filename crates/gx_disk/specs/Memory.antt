-- A device in memory: its record of writes and syncs, and what it held before them.
use Rattle.std.specs.Prelude.{◌≡◌, ℕ, ◌+◌, ◌-◌, ◌*◌, ◌≤◌, List, [], ◌∷◌, length, take, drop, Bool, true, false, ◌&&◌, ◌||◌, nat_le, nat_lt, if◌then◌else◌, Option, Some, None}
use Rattle.gx_disk.specs.declared.memory.PastCall.{PastCall}
use Rattle.gx_disk.specs.declared.memory.PastCall.TheVariants.{Write, Sync}
use Rattle.gx_disk.specs.Sectors.{put}
use Rattle.gx_disk.specs.Device.{Device, IsImage}

-- whether a sector is one of the n from first on
abbrev pub is_within : ℕ → ℕ → ℕ → Bool
is_within first n s = nat_le first s && nat_lt s (first + n)

-- whether a sector is pending after one call
unfoldable pub pending_next : PastCall → Bool → ℕ → Bool
pending_next Sync was s = false
pending_next (Write first n kept) was s = was || is_within first n s

-- whether a sector is pending after these calls
unfoldable pub pending_after : List PastCall → Bool → ℕ → Bool
pending_after [] was s = was
pending_after (call ∷ calls) was s = pending_after calls (pending_next call was s) s

-- how many overwritten bytes were kept of one call
unfoldable pub size_kept : PastCall → ℕ
size_kept Sync = 0
size_kept (Write first n kept) = 512 * kept

-- the overwritten bytes that are kept of one call, of the bytes before it
unfoldable pub kept_of : PastCall → List ℕ → List ℕ
kept_of Sync bytes = []
kept_of (Write first n kept) bytes = take (512 * kept) (drop (512 * first) bytes)

-- where the overwritten bytes of one call have a sector, if they do
unfoldable pub place_kept : PastCall → ℕ → Option ℕ
place_kept Sync s = None
place_kept (Write first n kept) s = if is_within first kept s then Some (512 * (s - first)) else None

-- how many overwritten bytes were kept of these calls
unfoldable pub total_kept : List PastCall → ℕ
total_kept [] = 0
total_kept (call ∷ calls) = size_kept call + total_kept calls

-- the bytes before one call, of its overwritten bytes and those after it
unfoldable pub bytes_back : PastCall → List ℕ → List ℕ → List ℕ
bytes_back Sync kept now = now
bytes_back (Write first n m) kept now = put (512 * first) (take (512 * m) kept) now

-- the bytes before these calls, of their overwritten bytes, the first call's first, and those now
unfoldable pub bytes_before : List PastCall → List ℕ → List ℕ → List ℕ
bytes_before [] kept now = now
bytes_before (call ∷ calls) kept now = bytes_back call kept (bytes_before calls (drop (size_kept call) kept) now)

-- the bytes after the first k calls
unfoldable pub bytes_at : ℕ → List PastCall → List ℕ → List ℕ → List ℕ
bytes_at k calls kept now = bytes_before (drop k calls) (drop (total_kept (take k calls)) kept) now

-- a device of so many sectors with this record, these overwritten bytes, these bytes now, and these counts of faults and of calls
abbrev pub device_of : ℕ → List PastCall → List ℕ → List ℕ → ℕ → ℕ → Device
device_of sectors calls kept bytes faults made = record {
  sectors = sectors;
  seen = bytes;
  pending = pending_after calls false;
  moment = length calls;
  left_since = λ t image. (k : ℕ) × ((t ≤ k) × ((k ≤ length calls) × IsImage (bytes_at k calls kept bytes) (pending_after (take k calls) false) image));
  faults = faults;
  calls = made;
  honest = true;
}

-- whether each write lies in a device of so many sectors, and no more of it was kept than it has
unfoldable pub fit_all : ℕ → List PastCall → Bool
fit_all sectors [] = true
fit_all sectors (Sync ∷ calls) = fit_all sectors calls
fit_all sectors (Write first n kept ∷ calls) = (nat_le (first + n) sectors && nat_le kept n) && fit_all sectors calls

-- the record of a device fits it and what was kept, and what is pending is what was written since the last sync
pub record IsKept (sectors : ℕ) (calls : List PastCall) (kept : List ℕ) (synced synced_size : ℕ) : Type 0 where
  pub fits : fit_all sectors calls ≡ true
  pub sized : total_kept calls ≡ length kept
  pub since : synced ≤ length calls
  pub since_size : synced_size ≡ total_kept (take synced calls)
  pub since_pending : (s : ℕ) → pending_after calls false s ≡ pending_after (drop synced calls) false s
