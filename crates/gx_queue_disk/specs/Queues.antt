-- How a queue keeps its calls: each without its bytes, and the bytes of all one after another.
use Rattle.std.specs.Prelude.{◌≡◌, ℕ, ◌+◌, ◌≤◌, List, [], ◌∷◌, length, take, drop}
use Rattle.gx_queue_disk.specs.Calls.{Call, Write, Sync}
use Rattle.gx_queue_disk.specs.declared.queue.Outline.{Outline}
use Rattle.gx_queue_disk.specs.declared.queue.Outline.TheVariants as outline

-- how many bytes a call has
abbrev pub size_of : Outline → ℕ
size_of (outline.Write first size) = size
size_of outline.Sync = 0

-- a call with its bytes
abbrev pub call_of : Outline → List ℕ → Call
call_of (outline.Write first size) bytes = Write first bytes
call_of outline.Sync bytes = Sync

-- how many bytes these calls have
unfoldable pub sizes_of : List Outline → ℕ
sizes_of [] = 0
sizes_of (call ∷ calls) = size_of call + sizes_of calls

-- these calls with their bytes, which lie one after another
unfoldable pub calls_of : List Outline → List ℕ → List Call
calls_of [] bytes = []
calls_of (call ∷ calls) bytes = call_of call (take (size_of call) bytes) ∷ calls_of calls (drop (size_of call) bytes)

-- what was taken is some of what is kept, and each call that is left has its bytes
pub record IsKept (calls : List Outline) (bytes : List ℕ) (taken at : ℕ) : Type 0 where
  pub few : taken ≤ length calls
  pub inside : at ≤ length bytes
  pub sized : sizes_of (drop taken calls) ≡ length (drop at bytes)
