-- A crash of a device in memory: what each sector takes.
use Rattle.std.specs.Prelude.{◌≡◌, ℕ, zero, suc, ◌+◌, ◌%◌, ◌<◌, List, length, slice_index_or, Bool, if◌then◌else◌}
use Rattle.gx_disk.specs.declared.memory.Torn.{Torn}
use Rattle.gx_disk.specs.declared.memory.Torn.TheVariants.{Old, New, Bytes}
use Rattle.gx_disk.specs.Sectors.{sector_of}

-- how many of the first sectors are pending
unfoldable pub pending_below : (ℕ → Bool) → ℕ → ℕ
pending_below pending zero = 0
pending_below pending (suc s) = pending_below pending s + (if pending s then 1 else 0)

-- what the i-th unsynced sector takes of these choices, in turn: its old bytes if there is none
abbrev pub choice_of : List Torn → ℕ → Torn
choice_of torn i = slice_index_or torn (i % length torn) Old

-- a sector's bytes by a choice, of its old and new bytes
abbrev pub torn_bytes : Torn → List ℕ → List ℕ → List ℕ
torn_bytes Old old new = old
torn_bytes New old new = new
torn_bytes (Bytes bytes) old new = bytes

-- a sector's bytes after a crash, of its bytes at the last sync and now: the i-th unsynced one by number takes the i-th choice, in turn
unfoldable pub crashed : (ℕ → Bool) → List Torn → List ℕ → List ℕ → ℕ → List ℕ
crashed pending torn synced now s =
    if pending s then torn_bytes (choice_of torn (pending_below pending s)) (sector_of synced s) (sector_of now s) else sector_of now s

-- the bytes after a crash of a device of so many sectors
pub record IsCrash (sectors : ℕ) (pending : ℕ → Bool) (torn : List Torn) (synced now left : List ℕ) : Type 0 where
  pub size : length left ≡ length now
  pub each : (s : ℕ) → s < sectors → sector_of left s ≡ crashed pending torn synced now s
