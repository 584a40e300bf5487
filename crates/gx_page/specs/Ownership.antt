-- What a block of a page owns, and how it is lent. Assumes nothing: these are definitions.
use Rattle.std.specs.Prelude.{ℕ, List}
use base.Fml.{Fml, Lft}
use denote.Array.{Array}
use denote.Builtin.{u8}
use denote.RattleType.{RattleType}
use denote.RawPtr.{Ptr}
use denote.Struct.Lending.{lent_at}
use Rattle.std.specs.Box.Ownership.{box_owns}
use Rattle.std.specs.declared.alloc.Global.{Global}
use Rattle.std.specs.contracts.impls.GlobalAllocator.TheImpl.{ghosts}
use Rattle.gx_page.specs.declared.block.TheConstants.{PAGE_SIZE}

-- an array of the block's 4,096 bytes, as a type of the logic
abbrev pub the_bytes : RattleType
the_bytes = Array u8 PAGE_SIZE

-- the bytes at p, and the right to give their block back to the heap
abbrev pub block_owns : Global → Ptr → List ℕ → Fml
block_owns heap p bytes = box_owns (ghosts.dealloc_token heap) the_bytes p bytes

-- what a `&` to the block holds of its bytes for a lifetime
abbrev pub block_lends : Ptr → List ℕ → Lft → Fml
block_lends p bytes = lent_at the_bytes p bytes
