-- A block and a box of its bytes as the logic sees them: each is one word, a pointer beside the heap's handle, and owns what `block_owns` says behind the pointer.
-- Each law under a model takes its `Logic`.
use Rattle.std.proofs.Common.{List, [], ◌∷◌, refl, lit<, w8}
use seplogic.Ra.Ura.{Ura}
use lib.Dec.{T}
use mir.Syntax.{Ty, ty_int, ty_ptr, ty_array, ty_struct, ty_unit, tnil, tcons}
use mir.Val.{Val, vstruct, vcons, vnil, has_ty, WT}
use base.Logic.{ent, sep}
use types.Logic.{Logic, sem}
use types.Kit.{‵, ◌$◌, ◌∵◌, !, qed, move, keep, drop, fsplit, fpick, feq_i, fjoin, rewrite, done}
use denote.Builtin.{u8, RawPtr}
use denote.Exit.{no}
use denote.Laws.{Is, Tells, Lawful, shows}
use denote.Param.{arg, layout}
use denote.Param.Laws.{Laws, row_laws, of_field, array_laws, arg_laws}
use denote.Param.Shared.{copy_shared}
use denote.RattleType.{RattleType, owns}
use denote.RawPtr.{Ptr, block_ptr, null_ptr, ptr_val}
use denote.Steps.{nothing, peeks}
use denote.Struct.Field.{u8-field, row_field}
use denote.Struct.Laws.{FLaws, Lawss, Copyable, spells, tellss, u8-laws, u8-copy, field_copy, RawPtr-laws}
use denote.Struct.Owning.{shape, to}
use denote.Struct.OwningLaws.{tells, lawful}
use denote.Struct.Struct.{Struct, Struct-Tells}
use Rattle.std.proofs.Handle.{heap_val, heap_Tells}
use Rattle.std.proofs.alloc.Global.TheLaws as heap_laws
use Rattle.std.specs.contracts.alloc.Global as heap
use Rattle.std.specs.contracts.boxed.Box as box
use Rattle.std.specs.contracts.impls.GlobalAllocator.TheImpl.{ghosts}
use Rattle.gx_page.specs.Ownership.{the_bytes, block_owns}
use Rattle.gx_page.specs.contracts.block.Block as block

-- ---- the laws of the bytes, and that the handle is copied
abbrev pub byte_laws : Laws u8
byte_laws = of_field u8-field u8-laws refl (copy_shared u8-field u8-copy)

abbrev pub bytes_laws : Laws the_bytes
bytes_laws = array_laws u8 byte_laws 4096

abbrev pub handle_copy : Copyable heap.the_field
handle_copy = field_copy heap.the_type heap_laws.the_copy

-- ---- the two types as a call of std passes them for its parameters
abbrev pub bytes_arg : RattleType
bytes_arg = arg (ty_array (ty_int w8) 4096) no the_bytes

abbrev pub bytes_arg_laws : Laws bytes_arg
bytes_arg_laws = arg_laws (ty_array (ty_int w8) 4096) no the_bytes bytes_laws refl

abbrev heap_ty : Ty
heap_ty = ty_struct [] (tcons (ty_struct [] (tcons ty_unit tnil)) tnil)

abbrev pub heap_arg : RattleType
heap_arg = arg heap_ty no heap.the_row

abbrev pub heap_arg_laws : Laws heap_arg
heap_arg_laws = arg_laws heap_ty no heap.the_row heap_laws.the_row_laws refl

-- ---- the word
abbrev pub word : Ptr → Val
word p = vstruct (vcons (ptr_val p) (vcons heap_val vnil))

pub pointer_fits : (p : Ptr) → T (has_ty ty_ptr (ptr_val p)) × WT (ptr_val p)
pointer_fits (block_ptr b o) = (tt, tt)
pointer_fits null_ptr = (tt, record { fits = lit< tt })

abbrev pub handle_fits : Unit {0} × WT heap_val
handle_fits = (tt, ((tt, tt), tt))

pub word_fits : (p : Ptr) → T (has_ty (layout block.the_row) (word p)) × WT (word p)
word_fits (block_ptr b o) = (tt, (tt, (((tt, tt), tt), tt)))
word_fits null_ptr = (tt, (record { fits = lit< tt }, (((tt, tt), tt), tt)))

abbrev pub box_row : RattleType
box_row = box.the_row the_bytes heap.the_row ghosts

abbrev handle_laws : FLaws (row_field heap.the_row)
handle_laws = row_laws heap.the_row heap_laws.the_row_laws (record { val = λ _. heap_val; tells = heap_Tells })

-- a box and a block determine their word
pub box_tells : Tells box_row (Is box_row) (λ v. word v.ptr ∷ [])
box_tells = tells (box.the_type the_bytes heap.the_row ghosts) (RawPtr-laws, (handle_laws, tt))

abbrev block_laws : Lawss (block.the_type).parts
block_laws = (RawPtr-laws, (heap_laws.the_field_laws, tt))

pub fields_tell : Tells (Struct (shape block.the_type)) (Is (Struct (shape block.the_type))) (λ fields. word fields.0 ∷ [])
fields_tell = Struct-Tells (shape block.the_type) (spells (block.the_type).parts block_laws) (tellss (block.the_type).parts block_laws)

pub block_tells : Tells block.the_row (Is block.the_row) (λ d. word d.at ∷ [])
block_tells d vs is = fields_tell (to block.the_type d) vs is.0

-- what a box is in the machine has a box's type
pub box_lawful : {M : Type 1} {𝓤 : Ura M} (𝓛 : Logic 𝓤) → Lawful 𝓛 box_row
box_lawful = lawful (box.the_type the_bytes heap.the_row ghosts) (RawPtr-laws, (handle_laws, tt))

-- ---- what a block owns: its handle, and what lies behind its pointer
module _ {M : Type 1} {𝓤 : Ura M} (𝓛 : Logic 𝓤) where
  -- a block taken apart, as arguments in the order of `Box::from_raw`
  pub block_parts : (d : block.the_row.Denot) (vs : List Val)
      → ent 𝓤 (sem 𝓛 (block.the_row.own_val d vs)) (sep 𝓤 (sem 𝓛 (owns (heap.the_row ∷ RawPtr ∷ []) (d.alloc, (d.at, tt)) (heap_val ∷ [], (ptr_val d.at ∷ [], tt)))) (sem 𝓛 (block_owns d.alloc d.at d.bytes)))
  block_parts d vs =
      qed 𝓛 (‵ (block.the_row.own_val d vs) ∷ []) ∵ fsplit ! $ fpick ! (λ parts. fsplit ! $ drop ! $ fsplit ! $ drop ! $ fsplit ! $
      -- [the handle; nothing; what lies behind the pointer]
      peeks ! heap.the_row (Is heap.the_row) (shows 𝓛 heap.the_row) d.alloc parts.1.0 (λ is.
      rewrite ! 0 (λ (ws : List Val). ‵ (heap.the_row.own_val d.alloc ws)) (heap_Tells d.alloc parts.1.0 is) refl $
      nothing ! $ feq_i ! (List Val) (ptr_val d.at ∷ []) (ptr_val d.at ∷ []) refl $ fjoin ! $ move ! (1 ∷ 0 ∷ []) $ fjoin ! $ keep ! (0 ∷ 2 ∷ []) $ done !))
