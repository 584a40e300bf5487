-- Room in the record of a device in memory.
use Rattle.std.specs.Prelude.{ℕ, ◌+◌, ◌≤◌, Vec, vec_len, vec_capacity}
use Rattle.std.specs.declared.alloc.Global.{Global}
use Rattle.gx_disk.specs.declared.memory.PastCall.{PastCall}

-- there is room for so many calls that overwrite so many bytes in all
pub record HasRoom (calls bytes : ℕ) (past : Vec PastCall Global) (kept : Vec ℕ Global) : Type 0 where
  pub calls_fit : vec_len past + calls ≤ vec_capacity past
  pub bytes_fit : vec_len kept + bytes ≤ vec_capacity kept
