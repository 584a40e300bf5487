-- What a block owns says the same to every thread: its pointer and its handle, the bytes behind the pointer, and the right to free them.
use Rattle.std.proofs.Common.{ℕ, List}
use base.Fraction.{full_share}
use base.Shift.{Keyless}
use denote.Builtin.{u8}
use denote.Memory.{lone}
use denote.Param.Send.{IsSend, array_send, part_keyless, owning_send, sendable}
use denote.RawPtr.{Ptr, block_ptr, null_ptr, lies_at}
use mir.Raw.{raw}
use Rattle.std.proofs.Crossing.{frees}
use Rattle.std.proofs.alloc.Global.TheSendSync as heap
use Rattle.gx_page.specs.Ownership.{the_bytes}
use Rattle.gx_page.specs.contracts.block.Block.{the_row, the_type}

-- nothing lies at null
bytes_cross : (bytes : List ℕ) (p : Ptr) → Keyless (lies_at the_bytes full_share p bytes)
bytes_cross bytes null_ptr = tt
bytes_cross bytes (block_ptr b o) = part_keyless the_bytes (array_send u8 4096 (search sendable)) full_share bytes b o

pub send : IsSend the_row
send = owning_send the_type (search sendable, (heap.the_field_send, tt)) (λ d. (bytes_cross d.bytes d.at, frees.frees d.alloc (raw (lone the_bytes.mir)) d.at)) (λ k d w. tt)
