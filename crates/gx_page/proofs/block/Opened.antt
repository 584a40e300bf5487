-- A block taken apart where its pointer is followed to be written through: its bytes, wherever they lie, and the rest.
use Rattle.std.proofs.Common.{◌≡◌, ℕ, List, [], ◌∷◌, length, refl, sym, ap, ◌∙◌}
use mir.Raw.{raw as bare}
use mir.Val.{Val}
use base.Fraction.{full_share}
use base.Logic.{ent, sep, ex, guard, guard_i, emp, id⊢}
use base.Fml.{Fml, Share, fsep}
use seplogic.Ra.Ura.{Ura}
use types.Logic.{Logic, sem}
use types.Kit.{given, learn, check, show, drop, by, ‵, ◌$◌, ◌∵◌, !, qed, move, fsplit, fsplit3, fjoin, fpick, fpack, rewrite, use1, feq_i, done}
use contract.Monad.{fact, fact_i, fact_use}
use denote.Builtin.{u8}
use denote.ArrayMemory.{Array-apart, Array-whole}
use denote.Index.{row}
use denote.Laws.{Is, shows}
use denote.Memory.{mem, shares, cell_at, part_at, part_of, lone}
use types.Share.{arr_parts}
use denote.RattleType.{RattleType}
use denote.RawPtr.{Ptr, block_ptr, lies_at, in_a_block}
use denote.Steps.{peeks}
use denote.Struct.Owning.{shape, to}
use denote.Struct.Struct.{Struct}
use Rattle.std.specs.contracts.impls.GlobalAllocator.TheImpl.{ghosts}
use Rattle.gx_page.specs.Lending.{with_bytes}
use Rattle.gx_page.specs.Ownership.{the_bytes}
use Rattle.gx_page.proofs.block.Memory.{word, block_tells}
use Rattle.gx_page.specs.contracts.block.Block as block

abbrev R : RattleType
R = block.the_row

-- all of a block at (b, o) but its bytes, whose place is p
abbrev pub Rest : R.Denot → Ptr → ℕ → ℕ → Fml
Rest d p b o = fsep (ghosts.dealloc_token d.alloc (bare (lone the_bytes.mir)) d.at) (fsep ((Struct (shape block.the_type)).own_val (to block.the_type d) (word p ∷ [])) (cell_at full_share R.mir (word p ∷ []) b o))

-- where the bytes lie, and how many they are
abbrev pub Lie : R.Denot → ℕ × ℕ → Type 0
Lie d at = (d.at ≡ block_ptr at.0 at.1) × (length d.bytes ≡ 4096)

module _ {M : Type 1} {𝓤 : Ura M} (𝓛 : Logic 𝓤) where
  -- bytes in memory are 4,096
  size_of_bytes : (bytes : List ℕ) (b o : ℕ) → ent 𝓤 (sem 𝓛 (part_at the_bytes full_share bytes b o)) (fact 𝓤 (length bytes ≡ 4096))
  unfolding part_of
  size_of_bytes bytes b o =
      qed 𝓛 (‵ (part_at the_bytes full_share bytes b o) ∷ []) ∵ fpick ! (λ us. fsplit ! $ drop ! $ peeks ! the_bytes (Is the_bytes) (shows 𝓛 the_bytes) bytes us (λ is. drop ! $ by ! (fact_i 𝓤 (length bytes ≡ 4096) (emp 𝓤) is.1.0.1)))

  -- a block is its bytes, wherever they lie, and the rest
  pub comes_apart : (d : R.Denot) (us : List Val) (b o : ℕ) → ent 𝓤 (sep 𝓤 (sem 𝓛 (cell_at full_share R.mir us b o)) (sem 𝓛 (R.own_val d us)))
      (ex 𝓤 (λ (at : ℕ × ℕ). guard 𝓤 (Lie d at) (sep 𝓤 (sem 𝓛 (part_at the_bytes full_share d.bytes at.0 at.1)) (sem 𝓛 (Rest d (block_ptr at.0 at.1) b o)))))
  comes_apart d us b o =
      qed 𝓛 (‵ (cell_at full_share R.mir us b o) ∷ ‵ (R.own_val d us) ∷ []) ∵ move ! (1 ∷ []) $ peeks ! R (Is R) (shows 𝓛 R) d us (λ is. fsplit ! $ move ! (1 ∷ []) $ fsplit ! $
      -- [the bytes; the right to free; the fields; the cell]
      in_a_block ! d.at (λ p. lies_at the_bytes full_share p d.bytes) (id⊢ 𝓤 _) (λ b' o' at. let p = block_ptr b' o' in let told : us ≡ word p ∷ [] = block_tells d us is ∙ ap (λ (r : Ptr). word r ∷ []) at in
      use1 𝓛 (given (length d.bytes ≡ 4096) (‵ (part_at the_bytes full_share d.bytes b' o'))) (fact_use 𝓤 (length d.bytes ≡ 4096) (size_of_bytes d.bytes b' o') (λ size. guard_i 𝓤 (length d.bytes ≡ 4096) _ size)) $ learn ! (λ size.
      rewrite ! 2 (λ (ws : List Val). ‵ ((Struct (shape block.the_type)).own_val (to block.the_type d) ws)) told refl $ rewrite ! 3 (λ (ws : List Val). ‵ (cell_at full_share R.mir ws b o)) told refl $
      show ! (λ (at : ℕ × ℕ). guard 𝓤 (Lie d at) (sep 𝓤 (sem 𝓛 (part_at the_bytes full_share d.bytes at.0 at.1)) (sem 𝓛 (Rest d (block_ptr at.0 at.1) b o)))) (b', o') $ check ! (at, size) $ done !)))

  -- other bytes at the same place and the rest are a block again
  pub closes_over : (d : R.Denot) (b o b' o' : ℕ) → d.at ≡ block_ptr b' o' → (bytes : List ℕ)
      → ent 𝓤 (sep 𝓤 (sem 𝓛 ((mem the_bytes).own_at bytes b' o')) (sem 𝓛 (Rest d (block_ptr b' o') b o))) (sem 𝓛 ((mem R).own_at (with_bytes d bytes) b o))
  unfolding part_of
  closes_over d b o b' o' at bytes =
      qed 𝓛 (‵ (part_at the_bytes full_share bytes b' o') ∷ ‵ (Rest d (block_ptr b' o') b o) ∷ []) ∵
      rewrite ! 0 (λ (p : Ptr). ‵ (lies_at the_bytes full_share p bytes)) (sym at) refl $ move ! (1 ∷ []) $ fsplit3 ! $
      -- [the right to free; the fields; the cell; the bytes]
      move ! (3 ∷ 0 ∷ []) $ fjoin ! $ move ! (1 ∷ 0 ∷ []) $ fjoin ! $ move ! (1 ∷ 0 ∷ []) $ fjoin ! $
      fpack ! (List Val) (λ us. fsep (cell_at full_share R.mir us b o) (R.own_val (with_bytes d bytes) us)) (word (block_ptr b' o') ∷ []) $ done !

  -- the bytes at a place, one by one, and back
  pub each_out : (q : Share) (bytes : List ℕ) (b o : ℕ) → ent 𝓤 (sem 𝓛 (part_at the_bytes q bytes b o)) (sem 𝓛 (row u8 q bytes b o))
  each_out q bytes b o = qed 𝓛 (‵ (part_at the_bytes q bytes b o) ∷ []) ∵
      use1 𝓛 (‵ ((arr_parts (shares u8) 4096).part q bytes b o)) (Array-apart 𝓛 u8 q tt 4096 bytes b o) $ fsplit ! $ drop ! $ done !

  pub each_in : (q : Share) (bytes : List ℕ) (b o : ℕ) → length bytes ≡ 4096 → ent 𝓤 (sem 𝓛 (row u8 q bytes b o)) (sem 𝓛 (part_at the_bytes q bytes b o))
  each_in q bytes b o size = qed 𝓛 (‵ (row u8 q bytes b o) ∷ []) ∵ feq_i ! ℕ (length bytes) 4096 size $ fjoin ! $ by ! (Array-whole 𝓛 u8 q 4096 bytes b o)
