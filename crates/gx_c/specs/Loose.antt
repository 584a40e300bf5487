-- What a box's pointer owns. Assumes nothing: this is a definition.
use base.Fml.{Fml}
use denote.RattleType.{RattleType}
use denote.RawPtr.{Ptr}
use Rattle.std.specs.Box.Ownership.{box_owns}
use Rattle.std.specs.declared.alloc.Global.{Global}
use Rattle.std.specs.contracts.impls.GlobalAllocator.TheImpl.{ghosts}

-- a value of a type at p, and the right to give its block back to the heap
abbrev pub owns_loose : (R : RattleType) → Global → Ptr → R.Denot → Fml
owns_loose R heap p x = box_owns (ghosts.dealloc_token heap) R p x
