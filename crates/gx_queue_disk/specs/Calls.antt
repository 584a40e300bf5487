-- Writes and syncs of a device: what they make of its bytes, and of what is pending.
use Rattle.std.specs.Prelude.{ℕ, ◌*◌, ◌/◌, List, [], ◌∷◌, length, Bool, false, ◌||◌}
use Rattle.gx_disk.specs.Sectors.{put}
use Rattle.gx_disk.specs.Memory.{is_within}

-- a write of these bytes from a sector on, or a sync
pub data Call : Type 0 where
  Write : (first : ℕ) (bytes : List ℕ) → Call
  Sync : Call

-- the bytes after one call, of those before it
unfoldable pub bytes_next : Call → List ℕ → List ℕ
bytes_next (Write first bytes) was = put (512 * first) bytes was
bytes_next Sync was = was

-- the bytes after these calls
unfoldable pub bytes_after : List Call → List ℕ → List ℕ
bytes_after [] was = was
bytes_after (call ∷ calls) was = bytes_after calls (bytes_next call was)

-- whether a sector is pending after one call
unfoldable pub pending_next : Call → Bool → ℕ → Bool
pending_next (Write first bytes) was s = was || is_within first (length bytes / 512) s
pending_next Sync was s = false

-- whether a sector is pending after these calls
unfoldable pub pending_after : List Call → Bool → ℕ → Bool
pending_after [] was s = was
pending_after (call ∷ calls) was s = pending_after calls (pending_next call was s) s
