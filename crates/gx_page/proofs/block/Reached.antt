-- What a `&` to a block reaches: its two fields, and the bytes behind the pointer.
use Rattle.std.proofs.Common.{◌≡◌, ℕ, zero, suc, ◌+◌, List, [], ◌∷◌, length, zero-add, arith}
use lib.ListN.{drop as drop-list, take as take-list}
use base.Fml.{fhide}
use base.Logic.{ent, sep, id⊢}
use seplogic.Ra.Ura.{Ura}
use types.Logic.{Logic, sem}
use types.Kit.{‵, raw, ◌⊛◌, ◌$◌, ◌∵◌, !, qed, move, split, fsplit, feq_l, frame, use1, done, by, drop}
use contract.Monad.{fact}
use denote.Builtin.{u8}
use denote.Copied.{Copied, Struct-Copied}
use denote.Memory.{hidden_shr}
use denote.Opens.{unhide, hide}
use denote.RattleType.{RattleType}
use denote.RawPtr.{InBlock, block_of, count_of}
use denote.Slice.{elements_shared}
use denote.Steps.{nothing}
use denote.Struct.Laws.{RawPtr-copy, alones, copieds}
use denote.Struct.Lending.{in_block_says, lent_out}
use denote.Struct.Owning.{shape, to}
use denote.Struct.Struct.{Struct}
use denote.Triple.Walked.{says}
use Rattle.std.specs.contracts.alloc.Global as heap
use Rattle.gx_page.specs.Ownership.{the_bytes}
use Rattle.gx_page.proofs.block.Memory.{handle_copy}
use Rattle.gx_page.specs.contracts.block.Block as block

abbrev R : RattleType
R = block.the_row

-- the block's two fields, without what it owns behind the pointer
abbrev pub Fields : RattleType
Fields = Struct (shape block.the_type)

module _ {M : Type 1} {𝓤 : Ura M} (𝓛 : Logic 𝓤) where
  -- the two fields are copied, so a `&` to them is read
  pub fields_copied : Copied 𝓛 Fields
  fields_copied = Struct-Copied 𝓛 (shape block.the_type) (alones (block.the_type).parts (RawPtr-copy, (handle_copy, tt))) (copieds 𝓛 (block.the_type).parts (RawPtr-copy, (handle_copy, tt)))

  -- a `&` to a block is a `&` to its fields and a `&` to its bytes, and the pointer is not null
  pub reaches : (κ : List ℕ) (d : R.Denot) (b o : ℕ)
      → ent 𝓤 (sem 𝓛 (hidden_shr R κ d b o)) (sep 𝓤 (sem 𝓛 (hidden_shr Fields κ (to block.the_type d) b o)) (sep 𝓤 (sem 𝓛 (hidden_shr the_bytes κ d.bytes (block_of d.at) (count_of d.at))) (fact 𝓤 (InBlock d.at))))
  reaches κ d b o =
      qed 𝓛 (‵ (hidden_shr R κ d b o) ∷ []) ∵ use1 𝓛 (‵ (hidden_shr Fields κ (to block.the_type d) b o) ⊛ ‵ (fhide (block.the_lent d d.at κ))) (lent_out 𝓛 block.struct (block.the_codes heap.the_row.coded) block.the_heap block.the_lent κ d b o) $ split ! $ frame ! $
      unhide ! $ fsplit ! $ use1 𝓛 (raw (fact 𝓤 (InBlock d.at))) (in_block_says 𝓛 d.at) $ move ! (1 ∷ []) $ hide ! $ done !

  -- a `&` to the bytes is one to each of them, and they are 4,096
  pub each_byte : (κ : List ℕ) (bytes : List ℕ) (b o : ℕ)
      → ent 𝓤 (sem 𝓛 (hidden_shr the_bytes κ bytes b o)) (sep 𝓤 (sem 𝓛 (fhide (elements_shared u8 bytes b o κ))) (fact 𝓤 (length bytes ≡ 4096)))
  each_byte κ bytes b o = qed 𝓛 (‵ (hidden_shr the_bytes κ bytes b o) ∷ []) ∵ unhide ! $ fsplit ! $ feq_l ! (λ size. hide ! $ says ! size $ done !)

  -- a `&` to each of some bytes, without the first so many, and of the first so many alone
  pub drop_each : (κ : List ℕ) (n : ℕ) (bytes : List ℕ) (b o p : ℕ) → p ≡ n + o
      → ent 𝓤 (sem 𝓛 (elements_shared u8 bytes b o κ)) (sem 𝓛 (elements_shared u8 (drop-list n bytes) b p κ))
  drop_each κ zero bytes b o p e = rw (e, zero-add o) (id⊢ 𝓤 _)
  drop_each κ (suc n) [] b o p e = id⊢ 𝓤 _
  drop_each κ (suc n) (x ∷ bytes) b o p e = qed 𝓛 (‵ (elements_shared u8 (x ∷ bytes) b o κ) ∷ []) ∵ fsplit ! $ drop ! $ by ! (drop_each κ n bytes b (o + 1) p (omega arith))

  pub take_each : (κ : List ℕ) (n : ℕ) (bytes : List ℕ) (b o : ℕ) → ent 𝓤 (sem 𝓛 (elements_shared u8 bytes b o κ)) (sem 𝓛 (elements_shared u8 (take-list n bytes) b o κ))
  take_each κ zero bytes b o = qed 𝓛 (‵ (elements_shared u8 bytes b o κ) ∷ []) ∵ drop ! $ nothing ! $ done !
  take_each κ (suc n) [] b o = id⊢ 𝓤 _
  take_each κ (suc n) (x ∷ bytes) b o =
      qed 𝓛 (‵ (elements_shared u8 (x ∷ bytes) b o κ) ∷ []) ∵ fsplit ! $ frame ! $ by ! (take_each κ n bytes b (o + 1))
