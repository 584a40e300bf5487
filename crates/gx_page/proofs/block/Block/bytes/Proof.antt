-- `bytes` lends what lies behind the pointer, which a `&` to the block holds.
use Rattle.std.proofs.Common.{◌≡◌, ℕ, List, [], ◌∷◌, refl, sym, ap, ◌∙◌}
use mir.Syntax.{named}
use mir.Val.{Val, vptr}
use base.Fml.{flft}
use base.Logic.{SProp, via}
use types.Kit.{by, drop, split3, ‵, raw, ◌⊛◌, at_ret, ◌$◌, ◌∵◌, !, qed, move, keep, fsplit, fjoin, feq_i, rewrite, suffices, use1}
use types.Part.{whole, sub, look_in}
use types.Run.{stop, fld, hop, addr, of_opd, first, blocks, exec, returns, enter}
use types.ByLocal.{alloc_all, pass_all, free_all, look_at, get, through, sets, sets_last, env}
use contract.Monad.{fact}
use contract.Running.{tables}
use denote.Exit.{yes}
use denote.Laws.{Is, shows}
use denote.Memory.{cell_at, hidden_shr}
use denote.RattleType.{RattleType}
use denote.RawPtr.{Ptr, block_ptr, InBlock, block_of, count_of, at_block}
use denote.Ref.{Bor, ShrRef, shr_vals, shr_Tells}
use denote.Signature.{plain, shr_ref_to}
use denote.Steps.{heard, looks, shuts, peeks}
use denote.Struct.Owning.{to}
use denote.Triple.Walked.{says, Stays, stay_dropped, walk_of, ends_at, Goes-dropped}
use Rattle.std.proofs.VecSteps.Shapes.{after}
use Rattle.std.proofs.raw_atomic.Walks.{proved}
use Rattle.gx_page.specs.Ownership.{the_bytes}
use Rattle.gx_page.proofs.block.Walks.{begins_with, lends}
use Rattle.gx_page.proofs.block.Memory.{word, fields_tell}
use Rattle.gx_page.proofs.block.Reached.{Fields, fields_copied, reaches}
use Rattle.gx_page.specs.contracts.block.Block as block
use Rattle.gx_page.specs.contracts.block.Block.bytes.{ended, clauses}
use Rattle.gx_page.specs.contracts.block.Block.bytes.Key.{name as #self}
use Rattle.gx_page.proofs.block.Block.bytes.Statement.{statement}
use Rattle.gx_page.proofs.block.Block.bytes.Code as code

abbrev R : RattleType
R = block.the_row

abbrev stayed : Stays ended.signature.params ended.kept
stayed = (stay_dropped (shr_ref_to (0 ∷ []) tt (plain (λ _. R))) yes, tt)

pub bytes_spec : {M : Type 1} → statement M
bytes_spec 𝓤 𝓛 𝓜 𝓡 wired =
    let c = clauses 𝓛 𝓜.mem 𝓡.returns in let 𝓣 = tables 𝓤 𝓛.H 𝓜 𝓡 𝓡.env in
    proved 𝓛 ended stayed c 𝓜 𝓡 (Goes-dropped 𝓛 1 (shr_ref_to (0 ∷ []) tt (plain (λ _. R))) yes (λ κs x f. refl), tt) #self code.function (code.unfolded 𝓤 𝓛.H 𝓜 𝓡 wired) (λ κs. (shr_vals, tt)) (λ κs. (shr_Tells (named 0) κs.0 R, tt)) (λ κs qs bounds a g are.
    let self = a.0 in let d = self.now in let fields = to block.the_type d in let b = self.ref_ptr.0 in let o = self.ref_ptr.1 in let Self = (ShrRef (named 0) κs.0 R).own_val self (shr_vals self) in
    let z : (walk_of 𝓛 ended stayed c).Ghost = ((κs, qs, bounds, a, (shr_vals self, tt)), g) in let Post : Val → SProp 𝓤 = (walk_of 𝓛 ended stayed c).post z in
    let r : Bor (List ℕ) = record { ref_ptr = (block_of d.at, count_of d.at); now = d.bytes } in
    via 𝓤 _ (begins_with 𝓛 κs.0 qs.0 Self) (qed 𝓛 (‵ Self ∷ ‵ (flft κs.0 qs.0) ∷ []) ∵
    fsplit ! $ drop ! $ use1 𝓛 (‵ (hidden_shr Fields κs.0 fields b o) ⊛ ‵ (hidden_shr the_bytes κs.0 d.bytes r.ref_ptr.0 r.ref_ptr.1) ⊛ raw (fact 𝓤 (InBlock d.at))) (reaches 𝓛 κs.0 d b o) $
    split3 ! $ move ! (2 ∷ []) $ heard ! (InBlock d.at) (λ inside. move ! (1 ∷ []) $ enter ! 𝓣.C 𝓣.Λ code.function (shr_vals self) Post $ alloc_all ! (λ l. pass_all ! refl ((tt, tt), tt) $ let Ev = env code.function.locals l in
    -- [the `&` to the bytes; the `&` to the fields; the token]: the fields are read, at the pointer
    move ! (1 ∷ 2 ∷ []) $ first ! $ blocks ! $ looks ! tt Fields (fields_copied 𝓛).opens fields b o (λ s ws. move ! (1 ∷ []) $ peeks ! Fields (Is Fields) (shows 𝓛 Fields) fields ws (λ is. move ! (1 ∷ []) $
    let told : ws ≡ word (block_ptr r.ref_ptr.0 r.ref_ptr.1) ∷ [] = fields_tell fields ws is ∙ ap (λ (p : Ptr). word p ∷ []) (at_block d.at inside) in let Cell = λ (us : List Val). ‵ (cell_at s Fields.mir us b o) in
    rewrite ! 0 Cell told refl $ sets_last ! (addr ! (through ! refl (fld ! refl (hop ! (look_in ! 0 (sub ! 0 refl (whole !))) (stop !))))) refl (tt, tt) $ exec ! 𝓣.C 𝓣.Λ Ev (after 1 code.function.body) (at_ret Ev Post) $
    rewrite ! 0 Cell (sym told) refl $ shuts ! tt Fields s fields ws b o $ sets ! (of_opd ! (get ! refl)) refl (tt, tt) $ returns ! (look_at ! 0 refl) $ free_all ! refl $
    -- [the token; the `&` to the fields; the `&` to the bytes]: the last of them is the result
    keep ! (0 ∷ 2 ∷ []) $ suffices ! _ (ends_at 𝓛 ended stayed c z (vptr r.ref_ptr.0 r.ref_ptr.1) r (tt, tt) (tt, tt)) $ says ! refl $
    move ! (1 ∷ []) $ feq_i ! (List Val) (vptr r.ref_ptr.0 r.ref_ptr.1 ∷ []) (shr_vals r) refl $ fjoin ! $ move ! (1 ∷ 0 ∷ []) $ by ! (lends 𝓛 κs.0 qs.0 ((ShrRef (named 0) κs.0 the_bytes).own_val r (shr_vals r)))))))))
