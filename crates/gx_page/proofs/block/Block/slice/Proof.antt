-- `slice` lends a part of what lies behind the pointer, of the `&` to each byte that a `&` to the block holds.
use Rattle.std.proofs.Common.{◌≡◌, ℕ, ◌+◌, ◌-◌, ◌*◌, ◌^◌, ◌<◌, ◌≤◌, List, [], ◌∷◌, length, take, refl, sym, ap, ◌∙◌, arith, length-take, length-drop, w64, Bor}
use lib.ListN.{drop as drop-list}
use mir.Syntax.{named}
use mir.Val.{Val, vint}
use base.Fml.{fhide, flft, ftrue, fsep}
use base.Logic.{SProp}
use types.Kit.{by, split3, ‵, raw, ◌⊛◌, at_ret, ◌$◌, ◌∵◌, !, qed, move, keep, drop, split, fsplit, fjoin, feq_i, flt_i, rewrite, suffices, use1}
use types.Part.{whole, sub, look_in, agg}
use types.Run.{stop, fld, load, bin, of_opd, first, blocks, exec, returns, enter, no_more, and_then}
use types.ByLocal.{alloc_all, pass_all, free_all, look_at, get, through, sets, sets_last, env}
use contract.Monad.{fact}
use contract.Running.{tables}
use denote.Builtin.{u8, usize}
use denote.Exit.{yes}
use denote.Opens.{unhide, hide}
use denote.Laws.{Is, shows}
use denote.Memory.{cell_at, hidden_shr}
use denote.Plain.{uint_vals, uint_Tells}
use denote.RattleType.{RattleType}
use denote.RawPtr.{Ptr, block_ptr, InBlock, block_of, count_of, at_block}
use denote.Ref.{ShrRef, shr_vals, shr_Tells}
use denote.Signature.{plain, shr_ref_to}
use denote.Slice.{ShrSlice, slice_val, elements_shared}
use denote.Steps.{heard, looks, shuts, peeks}
use denote.Struct.Owning.{to}
use denote.Triple.Walked.{says, Stays, stay_dropped, walk_of, ends_at, Goes-dropped}
use Rattle.std.proofs.VecSteps.Shapes.{after}
use Rattle.std.proofs.raw_atomic.Walks.{proved}
use Rattle.gx_page.specs.Ownership.{the_bytes}
use Rattle.gx_page.proofs.block.Walks.{gives_two}
use Rattle.gx_page.proofs.block.Memory.{word, fields_tell}
use Rattle.gx_page.proofs.block.Reached.{Fields, fields_copied, reaches, each_byte, drop_each, take_each}
use Rattle.gx_page.specs.contracts.block.Block as block
use Rattle.gx_page.specs.contracts.block.Block.slice.{ended, clauses}
use Rattle.gx_page.specs.contracts.block.Block.slice.Key.{name as #self}
use Rattle.gx_page.proofs.block.Block.slice.Statement.{statement}
use Rattle.gx_page.proofs.block.Block.slice.Code as code

abbrev R : RattleType
R = block.the_row

abbrev stayed : Stays ended.signature.params ended.kept
stayed = (stay_dropped (shr_ref_to (0 ∷ []) tt (plain (λ _. R))) yes, (stay_dropped (plain (λ _. usize)) yes, (stay_dropped (plain (λ _. usize)) yes, tt)))

pub slice_spec : {M : Type 1} → statement M
slice_spec 𝓤 𝓛 𝓜 𝓡 wired =
    let c = clauses 𝓛 𝓜.mem 𝓡.returns in let 𝓣 = tables 𝓤 𝓛.H 𝓜 𝓡 𝓡.env in
    proved 𝓛 ended stayed c 𝓜 𝓡 (Goes-dropped 𝓛 1 (shr_ref_to (0 ∷ []) tt (plain (λ _. R))) yes (λ κs x f. refl), (Goes-dropped 𝓛 1 (plain (λ _. usize)) yes (λ κs x f. refl), (Goes-dropped 𝓛 1 (plain (λ _. usize)) yes (λ κs x f. refl), tt)))
    #self code.function (code.unfolded 𝓤 𝓛.H 𝓜 𝓡 wired) (λ κs. (shr_vals, (uint_vals w64, (uint_vals w64, tt)))) (λ κs. (shr_Tells (named 0) κs.0 R, (uint_Tells w64, (uint_Tells w64, tt)))) (λ κs qs bounds a g are.
    let self = a.0 in let from : ℕ = a.1.0 in let to' : ℕ = a.1.1.0 in let d = self.now in let fields = to block.the_type d in let b = self.ref_ptr.0 in let o = self.ref_ptr.1 in
    let Self = (ShrRef (named 0) κs.0 R).own_val self (shr_vals self) in let Places = fsep (usize.own_val from (vint w64 from ∷ [])) (fsep (usize.own_val to' (vint w64 to' ∷ [])) ftrue) in
    let z : (walk_of 𝓛 ended stayed c).Ghost = ((κs, qs, bounds, a, (shr_vals self, (vint w64 from ∷ [], (vint w64 to' ∷ [], tt)))), g) in let Post : Val → SProp 𝓤 = (walk_of 𝓛 ended stayed c).post z in
    let b' = block_of d.at in let o' = count_of d.at in let n : ℕ = to' - from in let part : List ℕ = take n (drop-list from d.bytes) in let Asked = (from ≤ to') × (to' ≤ 4096) in
    qed 𝓛 (((‵ (flft κs.0 qs.0) ⊛ ‵ ftrue) ⊛ ‵ (fsep Self Places)) ∷ raw (fact 𝓤 Asked) ∷ []) ∵
    move ! (1 ∷ []) $ heard ! Asked (λ asked. split ! $ split ! $ move ! (2 ∷ []) $ fsplit ! $ keep ! (0 ∷ 2 ∷ []) $
    fsplit ! $ drop ! $ use1 𝓛 (‵ (hidden_shr Fields κs.0 fields b o) ⊛ ‵ (hidden_shr the_bytes κs.0 d.bytes b' o') ⊛ raw (fact 𝓤 (InBlock d.at))) (reaches 𝓛 κs.0 d b o) $
    split3 ! $ move ! (2 ∷ []) $ heard ! (InBlock d.at) (λ inside. move ! (1 ∷ []) $
    use1 𝓛 (‵ (fhide (elements_shared u8 d.bytes b' o' κs.0)) ⊛ raw (fact 𝓤 (length d.bytes ≡ 4096))) (each_byte 𝓛 κs.0 d.bytes b' o') $ split ! $ move ! (1 ∷ []) $ heard ! (length d.bytes ≡ 4096) (λ size.
    let long : length part ≡ n = omega (arith, length-take n (drop-list from d.bytes), length-drop from d.bytes, asked.0, asked.1, size) in
    let few : n < 2 ^ 64 = let t = asked.1 in omega arith in let r : Bor (List ℕ) = record { ref_ptr = (b', from + o'); now = part } in
    enter ! 𝓣.C 𝓣.Λ code.function _ Post $ alloc_all ! (λ l. pass_all ! refl ((tt, tt), ((tt, record { fits = are.1.0.1 }), ((tt, record { fits = are.1.1.0.1 }), tt))) $ let Ev = env code.function.locals l in
    -- [the `&` to each byte; the `&` to the fields; the token]: the fields are read, at the pointer
    move ! (1 ∷ 2 ∷ []) $ first ! $ blocks ! $ looks ! tt Fields (fields_copied 𝓛).opens fields b o (λ s ws. move ! (1 ∷ []) $ peeks ! Fields (Is Fields) (shows 𝓛 Fields) fields ws (λ is. move ! (1 ∷ []) $
    let told : ws ≡ word (block_ptr b' o') ∷ [] = fields_tell fields ws is ∙ ap (λ (p : Ptr). word p ∷ []) (at_block d.at inside) in let Cell = λ (us : List Val). ‵ (cell_at s Fields.mir us b o) in
    rewrite ! 0 Cell told refl $ sets ! (of_opd ! (load ! (through ! refl (fld ! refl (stop !))) (look_in ! 0 (sub ! 0 refl (whole !))))) refl (tt, tt) $
    rewrite ! 0 Cell (sym told) refl $ shuts ! tt Fields s fields ws b o $ sets ! (of_opd ! (get ! refl)) refl (tt, tt) $ sets ! (bin ! (get ! refl) (get ! refl) tt) refl (tt, tt) $
    sets ! (bin ! (get ! refl) (get ! refl) asked.0) refl (tt, record { fits = few }) $
    sets_last ! (agg ! (and_then ! (get ! refl) (and_then ! (get ! refl) (no_more !)))) refl (tt, (tt, (record { fits = few }, tt))) $ exec ! 𝓣.C 𝓣.Λ Ev (after 1 code.function.body) (at_ret Ev Post) $
    sets ! (of_opd ! (get ! refl)) refl (tt, (tt, (record { fits = few }, tt))) $ returns ! (look_at ! 0 refl) $ free_all ! refl $
    -- [the `&` to each byte; the token]: the bytes before the part and after it are released
    keep ! (2 ∷ 0 ∷ []) $ unhide ! $ use1 𝓛 (‵ (elements_shared u8 (drop-list from d.bytes) b' (from + o') κs.0)) (drop_each 𝓛 κs.0 from d.bytes b' o' (from + o') refl) $
    use1 𝓛 (‵ (elements_shared u8 part b' (from + o') κs.0)) (take_each 𝓛 κs.0 n (drop-list from d.bytes) b' (from + o')) $ hide ! $
    flt_i ! (length part * 1) (2 ^ 63) (omega arith) $ flt_i ! (length part) (2 ^ 64) (omega arith) $ fjoin ! $
    feq_i ! (List Val) (slice_val r.ref_ptr n ∷ []) (slice_val r.ref_ptr (length part) ∷ []) (ap (λ (k : ℕ). slice_val r.ref_ptr k ∷ []) (sym long)) $ fjoin ! $ fjoin ! $ move ! (1 ∷ 0 ∷ []) $
    suffices ! _ (ends_at 𝓛 ended stayed c z (slice_val r.ref_ptr n) r (tt, (tt, (tt, tt))) (tt, (tt, (tt, tt)))) $ says ! (refl, size) $
    by ! (gives_two 𝓛 κs.0 qs.0 ((ShrSlice (named 0) κs.0 u8).own_val r (slice_val r.ref_ptr n ∷ []))))))))))
