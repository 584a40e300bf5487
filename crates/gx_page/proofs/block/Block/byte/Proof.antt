-- `byte` reads one byte behind the pointer, by the `&` to it that a `&` to the block holds.
use Rattle.std.proofs.Common.{◌≡◌, ℕ, ◌<◌, List, [], ◌∷◌, length, get_or, refl, sym, ap, ◌∙◌, arith, w8, w64}
use mir.Syntax.{named}
use mir.Val.{Val, vint}
use base.Fml.{fhide, flft, ftrue, fsep}
use base.Logic.{SProp}
use types.Kit.{by, split3, ‵, raw, ◌⊛◌, at_ret, ◌$◌, ◌∵◌, !, qed, move, keep, drop, split, fsplit, rewrite, suffices, use1}
use types.Part.{whole, sub, look_in}
use types.Run.{stop, fld, hop, addr, load, look, bin, of_opd, first, blocks, exec, returns, enter}
use types.ByLocal.{alloc_all, pass_all, free_all, look_at, get, through, sets, sets_last, env}
use contract.Monad.{fact}
use contract.Running.{tables}
use denote.Builtin.{u8, usize}
use denote.Copied.{uint_Copied}
use denote.Exit.{yes}
use denote.Index.{place_byte, elem_out, elem_back, looks_slice, shuts_slice}
use denote.Laws.{Is, shows}
use denote.Memory.{cell_at, hidden_shr}
use denote.Plain.{uint_Makes, uint_vals, uint_Tells}
use denote.RattleType.{RattleType}
use denote.RawPtr.{Ptr, block_ptr, InBlock, block_of, count_of, at_block}
use denote.Ref.{ShrRef, shr_vals, shr_Tells}
use denote.Signature.{plain, shr_ref_to}
use denote.Slice.{elements_shared}
use denote.Steps.{owned, heard, looks, shuts, peeks}
use denote.Struct.Owning.{to}
use denote.Triple.Walked.{says, Stays, stay_dropped, walk_of, ends_at, Goes-dropped}
use Rattle.std.proofs.VecSteps.Shapes.{after}
use Rattle.std.proofs.raw_atomic.Walks.{proved}
use Rattle.gx_page.specs.Ownership.{the_bytes}
use Rattle.gx_page.proofs.block.Walks.{gives}
use Rattle.gx_page.proofs.block.Memory.{word, fields_tell}
use Rattle.gx_page.proofs.block.Reached.{Fields, fields_copied, reaches, each_byte}
use Rattle.gx_page.specs.contracts.block.Block as block
use Rattle.gx_page.specs.contracts.block.Block.byte.{ended, clauses}
use Rattle.gx_page.specs.contracts.block.Block.byte.Key.{name as #self}
use Rattle.gx_page.proofs.block.Block.byte.Statement.{statement}
use Rattle.gx_page.proofs.block.Block.byte.Code as code

abbrev R : RattleType
R = block.the_row

abbrev stayed : Stays ended.signature.params ended.kept
stayed = (stay_dropped (shr_ref_to (0 ∷ []) tt (plain (λ _. R))) yes, (stay_dropped (plain (λ _. usize)) yes, tt))

pub byte_spec : {M : Type 1} → statement M
byte_spec 𝓤 𝓛 𝓜 𝓡 wired =
    let c = clauses 𝓛 𝓜.mem 𝓡.returns in let 𝓣 = tables 𝓤 𝓛.H 𝓜 𝓡 𝓡.env in
    proved 𝓛 ended stayed c 𝓜 𝓡 (Goes-dropped 𝓛 1 (shr_ref_to (0 ∷ []) tt (plain (λ _. R))) yes (λ κs x f. refl), (Goes-dropped 𝓛 1 (plain (λ _. usize)) yes (λ κs x f. refl), tt))
    #self code.function (code.unfolded 𝓤 𝓛.H 𝓜 𝓡 wired) (λ κs. (shr_vals, (uint_vals w64, tt))) (λ κs. (shr_Tells (named 0) κs.0 R, (uint_Tells w64, tt))) (λ κs qs bounds a g are.
    let self = a.0 in let i : ℕ = a.1.0 in let d = self.now in let fields = to block.the_type d in let b = self.ref_ptr.0 in let o = self.ref_ptr.1 in
    let Self = (ShrRef (named 0) κs.0 R).own_val self (shr_vals self) in let Index = usize.own_val i (vint w64 i ∷ []) in
    let z : (walk_of 𝓛 ended stayed c).Ghost = ((κs, qs, bounds, a, (shr_vals self, (vint w64 i ∷ [], tt))), g) in let Post : Val → SProp 𝓤 = (walk_of 𝓛 ended stayed c).post z in
    let b' = block_of d.at in let o' = count_of d.at in let here : ℕ = get_or d.bytes i 0 in
    qed 𝓛 (((‵ (flft κs.0 qs.0) ⊛ ‵ ftrue) ⊛ ‵ (fsep Self (fsep Index ftrue))) ∷ raw (fact 𝓤 (i < 4096)) ∷ []) ∵
    move ! (1 ∷ []) $ heard ! (i < 4096) (λ within. split ! $ split ! $ move ! (2 ∷ []) $ fsplit ! $ keep ! (0 ∷ 2 ∷ []) $
    fsplit ! $ drop ! $ use1 𝓛 (‵ (hidden_shr Fields κs.0 fields b o) ⊛ ‵ (hidden_shr the_bytes κs.0 d.bytes b' o') ⊛ raw (fact 𝓤 (InBlock d.at))) (reaches 𝓛 κs.0 d b o) $
    split3 ! $ move ! (2 ∷ []) $ heard ! (InBlock d.at) (λ inside. move ! (1 ∷ []) $
    use1 𝓛 (‵ (fhide (elements_shared u8 d.bytes b' o' κs.0)) ⊛ raw (fact 𝓤 (length d.bytes ≡ 4096))) (each_byte 𝓛 κs.0 d.bytes b' o') $ split ! $ move ! (1 ∷ []) $ heard ! (length d.bytes ≡ 4096) (λ size.
    let low : i < length d.bytes = omega arith in
    enter ! 𝓣.C 𝓣.Λ code.function _ Post $ alloc_all ! (λ l. pass_all ! refl ((tt, tt), ((tt, record { fits = are.1.0.1 }), tt)) $ let Ev = env code.function.locals l in
    -- [the `&` to each byte; the `&` to the fields; the token]: the fields are read, at the pointer
    move ! (1 ∷ 2 ∷ []) $ first ! $ blocks ! $ looks ! tt Fields (fields_copied 𝓛).opens fields b o (λ s ws. move ! (1 ∷ []) $ peeks ! Fields (Is Fields) (shows 𝓛 Fields) fields ws (λ is. move ! (1 ∷ []) $
    let told : ws ≡ word (block_ptr b' o') ∷ [] = fields_tell fields ws is ∙ ap (λ (p : Ptr). word p ∷ []) (at_block d.at inside) in let Cell = λ (us : List Val). ‵ (cell_at s Fields.mir us b o) in
    rewrite ! 0 Cell told refl $ sets ! (addr ! (through ! refl (fld ! refl (hop ! (look_in ! 0 (sub ! 0 refl (whole !))) (stop !))))) refl (tt, tt) $
    rewrite ! 0 Cell (sym told) refl $ shuts ! tt Fields s fields ws b o $ sets ! (bin ! (get ! refl) (get ! refl) tt) refl (tt, tt) $
    -- [the token; the `&` to the fields; the `&` to each byte]: the bytes are looked into, at the place
    move ! (2 ∷ 0 ∷ []) $ looks_slice ! tt u8 (uint_Copied 𝓛 w8) d.bytes b' o' (λ q. elem_out ! u8 (Is u8) (shows 𝓛 u8) (uint_vals w8) (uint_Tells w8) q d.bytes i 0 b' o' low (λ fits.
    let At = λ (p : ℕ). ‵ (cell_at q u8.mir (vint w8 here ∷ []) b' p) in
    rewrite ! 0 At (place_byte o' i) refl $ sets ! (of_opd ! (load ! (through ! refl (stop !)) (look ! 0 refl))) refl (tt, record { fits = fits.1 }) $
    rewrite ! 0 At (sym (place_byte o' i)) refl $ elem_back ! u8 q d.bytes i 0 (vint w8 here ∷ []) b' o' low $ shuts_slice ! tt u8 q d.bytes b' o' $
    sets_last ! (of_opd ! (get ! refl)) refl (tt, record { fits = fits.1 }) $ exec ! 𝓣.C 𝓣.Λ Ev (after 1 code.function.body) (at_ret Ev Post) $
    sets ! (of_opd ! (get ! refl)) refl (tt, record { fits = fits.1 }) $ returns ! (look_at ! 0 refl) $ free_all ! refl $
    keep ! (0 ∷ []) $ suffices ! _ (ends_at 𝓛 ended stayed c z (vint w8 here) here (tt, (tt, tt)) (tt, (tt, tt))) $ says ! (refl, size) $
    owned ! u8 (Is u8) (uint_Makes 𝓛 w8) here (vint w8 here ∷ []) fits $ move ! (1 ∷ 0 ∷ []) $ by ! (gives 𝓛 κs.0 qs.0 (u8.own_val here (vint w8 here ∷ []))))))))))))
