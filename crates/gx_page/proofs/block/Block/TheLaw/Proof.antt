-- A `&` to a block reaches its bytes. Assumes `Logic`.
use base.Fraction.{full_share}
use denote.Memory.{lone}
use denote.Param.Shared.{copy_shared}
use denote.RawPtr.{Ptr, lies_at}
use denote.Struct.Field.{RawPtr-field}
use denote.Struct.Laws.{RawPtr-copy}
use denote.Struct.Lending.{Lends, of_Lends, lent_at_shr_laws, Lends-first, Lends-lies}
use mir.Raw.{raw}
use seplogic.Ra.Ura.{Ura}
use types.Logic.{Logic}
use Rattle.std.specs.contracts.alloc.Global as heap
use Rattle.std.proofs.alloc.Global.TheLaws as heap_laws
use Rattle.std.specs.contracts.impls.GlobalAllocator.TheImpl.{ghosts}
use Rattle.gx_page.specs.Ownership.{the_bytes, block_lends}
use Rattle.gx_page.proofs.block.Memory.{bytes_laws}
use Rattle.gx_page.specs.contracts.block.Block as block
use Rattle.gx_page.proofs.block.Block.TheLaw.Statement.{statement}

-- for as long as a block is borrowed its bytes are, and the right to free them waits
lends_bytes : (M : Type 1) (𝓤 : Ura M) (𝓛 : Logic 𝓤) (d : block.the_row.Denot) (p : Ptr) → Lends 𝓛 (block.the_heap d) (block.the_lent d p) (block.the_row).lives
lends_bytes M 𝓤 𝓛 d p =
    let lives = (block.the_row).lives in
    Lends-first 𝓛 (lies_at the_bytes full_share d.at d.bytes) (ghosts.dealloc_token d.alloc (raw (lone the_bytes.mir)) d.at) (block_lends d.at d.bytes) lives
    (Lends-lies 𝓛 the_bytes lives d.at d.bytes (bytes_laws.shares 𝓛 d.bytes))

-- the pointer and the handle are copied
pub shares : statement
shares =
    of_Lends block.struct (block.the_codes heap.the_row.coded) block.the_heap block.the_lent (λ d p. lent_at_shr_laws the_bytes bytes_laws.shr_laws d.at d.bytes)
    (copy_shared RawPtr-field RawPtr-copy, (heap_laws.the_field_shared, tt)) lends_bytes
