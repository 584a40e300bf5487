-- A box, its pointer and a handle as the logic sees them: each is one word, a pointer beside the heap's handle, and owns what lies behind the pointer.
-- Each law under a model takes its `Logic`.
use Rattle.std.proofs.Common.{List, [], ◌∷◌, refl, lit<}
use seplogic.Ra.Ura.{Ura}
use lib.Dec.{T}
use mir.Syntax.{Ty, ty_ptr, ty_struct, ty_unit, tnil, tcons}
use mir.Val.{Val, vstruct, vcons, vnil, has_ty, WT}
use base.Logic.{ent, sep}
use types.Logic.{Logic, sem}
use types.Kit.{‵, ◌$◌, ◌∵◌, !, qed, move, keep, drop, fsplit, fpick, fpack, feq_i, fjoin, rewrite, done}
use denote.Builtin.{RawPtr}
use denote.Exit.{no}
use denote.Laws.{Is, Tells, Lawful, shows}
use denote.Param.{arg}
use denote.Param.Laws.{Laws, arg_laws, row_laws}
use denote.RattleType.{RattleType, Valss, owns}
use denote.RawPtr.{Ptr, block_ptr, null_ptr, ptr_val}
use denote.Steps.{nothing, peeks}
use denote.Struct.Field.{row_field}
use denote.Struct.Laws.{FLaws, RawPtr-laws}
use denote.Struct.Owning.{shape, to}
use denote.Struct.OwningLaws.{tells, lawful}
use denote.Struct.Struct.{within}
use Rattle.std.proofs.Handle.{heap_val, heap_Tells}
use Rattle.std.proofs.alloc.Global.TheLaws as heap_laws
use Rattle.std.specs.contracts.alloc.Global as heap
use Rattle.std.specs.contracts.boxed.Box as box
use Rattle.std.specs.contracts.impls.GlobalAllocator.TheImpl.{ghosts}
use Rattle.gx_c.specs.Loose.{owns_loose}
use Rattle.gx_c.specs.Owned.{owns_held}
use Rattle.gx_c.specs.contracts.handle.Handle as handle
use Rattle.gx_c.specs.contracts.loose.Loose as loose

-- ---- the heap, as a call of std passes it for a parameter
abbrev heap_ty : Ty
heap_ty = ty_struct [] (tcons (ty_struct [] (tcons ty_unit tnil)) tnil)

abbrev pub heap_arg : RattleType
heap_arg = arg heap_ty no heap.the_row

abbrev pub heap_arg_laws : Laws heap_arg
heap_arg_laws = arg_laws heap_ty no heap.the_row heap_laws.the_row_laws refl

-- ---- the word
abbrev pub word : Ptr → Val
word p = vstruct (vcons (ptr_val p) (vcons heap_val vnil))

pub pointer_fits : (p : Ptr) → T (has_ty ty_ptr (ptr_val p)) × WT (ptr_val p)
pointer_fits (block_ptr b o) = (tt, tt)
pointer_fits null_ptr = (tt, record { fits = lit< tt })

abbrev pub handle_fits : Unit {0} × WT heap_val
handle_fits = (tt, ((tt, tt), tt))

abbrev word_ty : Ty
word_ty = ty_struct [] (tcons ty_ptr (tcons heap_ty tnil))

pub word_fits : (p : Ptr) → T (has_ty word_ty (word p)) × WT (word p)
word_fits (block_ptr b o) = (tt, (tt, (((tt, tt), tt), tt)))
word_fits null_ptr = (tt, (record { fits = lit< tt }, (((tt, tt), tt), tt)))

abbrev heap_row_laws : FLaws (row_field heap.the_row)
heap_row_laws = row_laws heap.the_row heap_laws.the_row_laws (record { val = λ _. heap_val; tells = heap_Tells })

-- ---- a box of values of a type, and its pointer
module _ (R : RattleType) where
  abbrev pub Box : RattleType
  Box = box.the_row R heap.the_row ghosts

  abbrev pub Loose : RattleType
  Loose = loose.the_row R

  pub box_tells : Tells Box (Is Box) (λ v. word v.ptr ∷ [])
  box_tells = tells (box.the_type R heap.the_row ghosts) (RawPtr-laws, (heap_row_laws, tt))

  pub box_lawful : {M : Type 1} {𝓤 : Ura M} (𝓛 : Logic 𝓤) → Lawful 𝓛 Box
  box_lawful = lawful (box.the_type R heap.the_row ghosts) (RawPtr-laws, (heap_row_laws, tt))

  pub loose_tells : Tells Loose (Is Loose) (λ d. word d.at ∷ [])
  loose_tells = tells (loose.the_type R) (RawPtr-laws, (heap_laws.the_field_laws, tt))

  module _ {M : Type 1} {𝓤 : Ura M} (𝓛 : Logic 𝓤) where
    -- a pointer's parts, as arguments in the order of `Box::from_raw`
    pub loose_parts : (d : Loose.Denot) (vs : List Val)
        → ent 𝓤 (sem 𝓛 (Loose.own_val d vs)) (sep 𝓤 (sem 𝓛 (owns (heap.the_row ∷ RawPtr ∷ []) (d.alloc, (d.at, tt)) (heap_val ∷ [], (ptr_val d.at ∷ [], tt)))) (sem 𝓛 (owns_loose R d.alloc d.at d.value)))
    loose_parts d vs =
        qed 𝓛 (‵ (Loose.own_val d vs) ∷ []) ∵ fsplit ! $ fpick ! (λ parts. fsplit ! $ drop ! $ fsplit ! $ drop ! $ fsplit ! $
        -- [the heap's handle; nothing; what lies behind the pointer]
        peeks ! heap.the_row (Is heap.the_row) (shows 𝓛 heap.the_row) d.alloc parts.1.0 (λ is.
        rewrite ! 0 (λ (ws : List Val). ‵ (heap.the_row.own_val d.alloc ws)) (heap_Tells d.alloc parts.1.0 is) refl $
        nothing ! $ feq_i ! (List Val) (ptr_val d.at ∷ []) (ptr_val d.at ∷ []) refl $ fjoin ! $ move ! (1 ∷ 0 ∷ []) $ fjoin ! $ keep ! (0 ∷ 2 ∷ []) $ done !))

    pub loose_whole : (d : Loose.Denot)
        → ent 𝓤 (sep 𝓤 (sem 𝓛 (heap.the_row.own_val d.alloc (heap_val ∷ []))) (sem 𝓛 (owns_loose R d.alloc d.at d.value))) (sem 𝓛 (Loose.own_val d (word d.at ∷ [])))
    loose_whole d =
        qed 𝓛 (‵ (heap.the_row.own_val d.alloc (heap_val ∷ [])) ∷ ‵ (owns_loose R d.alloc d.at d.value) ∷ []) ∵ nothing ! $ move ! (1 ∷ 0 ∷ []) $ fjoin ! $
        feq_i ! (List Val) (ptr_val d.at ∷ []) (ptr_val d.at ∷ []) refl $ fjoin ! $ feq_i ! (List Val) (word d.at ∷ []) (word d.at ∷ []) refl $ fjoin ! $
        fpack ! (Valss (RawPtr ∷ heap.the_row ∷ [])) (within (shape (loose.the_type R)) (to (loose.the_type R) d) (word d.at ∷ [])) (ptr_val d.at ∷ [], (heap_val ∷ [], tt)) $ fjoin ! $ done !

-- ---- a handle
abbrev pub H : RattleType
H = handle.the_row

pub handle_tells : Tells H (Is H) (λ d. word d.at ∷ [])
handle_tells = tells handle.the_type (RawPtr-laws, (heap_laws.the_field_laws, tt))

module _ {M : Type 1} {𝓤 : Ura M} (𝓛 : Logic 𝓤) where
  pub handle_parts : (d : H.Denot) (vs : List Val)
      → ent 𝓤 (sem 𝓛 (H.own_val d vs)) (sep 𝓤 (sem 𝓛 (heap.the_row.own_val d.alloc (heap_val ∷ []))) (sem 𝓛 (owns_held d.alloc d.at d.held)))
  handle_parts d vs =
      qed 𝓛 (‵ (H.own_val d vs) ∷ []) ∵ fsplit ! $ fpick ! (λ parts. fsplit ! $ drop ! $ fsplit ! $ drop ! $ fsplit ! $
      peeks ! heap.the_row (Is heap.the_row) (shows 𝓛 heap.the_row) d.alloc parts.1.0 (λ is.
      rewrite ! 0 (λ (ws : List Val). ‵ (heap.the_row.own_val d.alloc ws)) (heap_Tells d.alloc parts.1.0 is) refl $ keep ! (0 ∷ 2 ∷ []) $ done !))

  pub handle_whole : (d : H.Denot)
      → ent 𝓤 (sep 𝓤 (sem 𝓛 (heap.the_row.own_val d.alloc (heap_val ∷ []))) (sem 𝓛 (owns_held d.alloc d.at d.held))) (sem 𝓛 (H.own_val d (word d.at ∷ [])))
  handle_whole d =
      qed 𝓛 (‵ (heap.the_row.own_val d.alloc (heap_val ∷ [])) ∷ ‵ (owns_held d.alloc d.at d.held) ∷ []) ∵ nothing ! $ move ! (1 ∷ 0 ∷ []) $ fjoin ! $
      feq_i ! (List Val) (ptr_val d.at ∷ []) (ptr_val d.at ∷ []) refl $ fjoin ! $ feq_i ! (List Val) (word d.at ∷ []) (word d.at ∷ []) refl $ fjoin ! $
      fpack ! (Valss (RawPtr ∷ heap.the_row ∷ [])) (within (shape handle.the_type) (to handle.the_type d) (word d.at ∷ [])) (ptr_val d.at ∷ [], (heap_val ∷ [], tt)) $ fjoin ! $ done !
