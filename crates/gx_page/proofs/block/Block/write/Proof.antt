-- `write` reads each byte of the slice and writes it behind the pointer, the first of them first.
use Rattle.std.proofs.Common.{◌≡◌, ℕ, ◌+◌, ◌-◌, ◌^◌, ◌<◌, ◌≤◌, List, [], ◌∷◌, length, get_or, refl, sym, ◌∙◌, arith, lit<, nltb→le, w8, w64}
use Rattle.std.proofs.lemmas.List.Edits.{length-paste, paste_none, paste_more, paste_all}
use mathlib.Core.WellFounded.InvImage
use lib.Dec.{ltb→lt}
use lib.Seq.{paste}
use lib.WfN.{lt-wf_rel}
use mir.Syntax.{named}
use mir.Val.{Val, vint, vptr, vunit}
use base.Fraction.{full_share}
use base.Fml.{fhide, Lft, Share, flft, fobs, fbor, ftrue, fsep}
use base.Logic.{SProp, id⊢}
use seplogic.Ra.Ura.{Ura}
use prog.Wp.{Env, Out, Wp, Tables, at_return, after_seq, after_block, after_turn}
use types.Logic.{Logic}
use types.Kit.{Item, Sq, any_q, runs, given, learn, ‵, raw, ◌⊛◌, later, some, at_ret, ◌$◌, ◌∵◌, !, qed, move, keep, drop, split, split3, join, group, pick, await, fsplit, fsplit3, fjoin, frame, feq_i, rewrite, suffices, use1, use2, done}
use types.SemTy.{Body}
use types.Part.{whole, sub, look_in}
use types.Run.{stop, fld, store, load, look, bin, lit, of_opd, unit_lit, assigns_last, first, blocks, skips, jumps, branches, exec, returns, enter, loops, again, Below}
use types.ByLocal.{alloc_all, pass_all, free_all, look_at, get, get_in, through, sets, sets_last, env, holding, forget_but}
use contract.Monad.{fact}
use contract.Running.{tables, tables_of}
use denote.Builtin.{u8, usize}
use denote.Copied.{uint_Copied}
use denote.Exit.{yes}
use denote.Index.{row, place_byte, elem_out, elem_back, looks_slice, shuts_slice}
use denote.Laws.{Is, shows}
use denote.Memory.{mem, cell_at, part_at}
use denote.Plain.{uint_vals, uint_Tells}
use denote.RattleType.{RattleType}
use denote.RawPtr.{block_ptr}
use denote.Ref.{MutRef, mut_vals, mut_Tells}
use denote.Signature.{plain, shr_slice_of}
use denote.Slice.{ShrSlice, slice_val, shr_slice_vals, shr_slice_Tells, elements_shared}
use denote.Steps.{nothing, heard, opens}
use denote.Triple.Walked.{says, Stays, stay_dropped, stay_ref, walk_of, ends_at, Goes-dropped, Goes-ref}
use Rattle.std.proofs.VecSteps.Shapes.{after}
use Rattle.std.proofs.raw_atomic.Walks.{proved}
use Rattle.gx_page.specs.Lending.{with_bytes}
use Rattle.gx_page.specs.Ownership.{the_bytes}
use Rattle.gx_page.proofs.block.Copies.{byte_put, Waits, written}
use Rattle.gx_page.proofs.block.Opened.{Rest, Lie, comes_apart, each_out}
use Rattle.gx_page.specs.contracts.block.Block as block
use Rattle.gx_page.specs.contracts.block.Block.write.{ended, clauses}
use Rattle.gx_page.specs.contracts.block.Block.write.Key.{name as #self}
use Rattle.gx_page.proofs.block.Block.write.Statement.{statement}
use Rattle.gx_page.proofs.block.Block.write.Code as code

abbrev R : RattleType
R = block.the_row

abbrev stayed : Stays ended.signature.params ended.kept
stayed = (stay_ref (0 ∷ []) tt (plain (λ _. R)), (stay_dropped (plain (λ _. usize)) yes, (stay_dropped (shr_slice_of (1 ∷ []) tt (plain (λ _. u8))) yes, tt)))

-- the loop: `Kept` waits until the bytes are those after all copies, and then the function goes on
module _ {M : Type 1} {𝓤 : Ura M} (𝓛 : Logic 𝓤) (𝓣 : Tables 𝓤 𝓛.H) (Post : Val → SProp 𝓤) (Kept : SProp 𝓤) (self : Val) (κ : Lft) (q : Share) (source : ℕ × ℕ) (xs bytes : List ℕ) (b o at : ℕ)
    (within : at + length xs ≤ length bytes) (size : length bytes ≡ 4096) where
  open 𝓛 use {H}

  abbrev after_some : ℕ → List ℕ
  after_some i = paste bytes at xs i

  long : (i : ℕ) → i ≤ length xs → length (after_some i) ≡ length bytes
  long i le = length-paste bytes at xs i (omega arith) le

  abbrev Copied : Type 0
  Copied = (i : ℕ) × (i ≤ length xs)

  abbrev Nearer : Copied → Copied → Type 0
  Nearer t u = length xs - t.0 < length xs - u.0

  module _ (l : ℕ → ℕ) where
    abbrev En : Env 𝓤 H
    En = env code.function.locals l

    -- the bytes; what waits; the `&` to each byte of the slice; its token
    abbrev Now : Copied → List (Item 𝓤)
    Now t = ‵ (row u8 full_share (after_some t.0) b o) ∷ raw Kept ∷ ‵ (fhide (elements_shared u8 xs source.0 source.1 κ)) ∷ ‵ (flft κ q)
        ∷ holding 𝓛 En ((1, self) ∷ (2, vint w64 at) ∷ (3, slice_val source (length xs)) ∷ (4, vptr b o) ∷ (5, vint w64 t.0) ∷ [])

    abbrev End : List (Item 𝓤)
    End = ‵ (row u8 full_share (after_some (length xs)) b o) ∷ raw Kept ∷ ‵ (fhide (elements_shared u8 xs source.0 source.1 κ)) ∷ ‵ (flft κ q)
        ∷ holding 𝓛 En ((1, self) ∷ (2, vint w64 at) ∷ (3, slice_val source (length xs)) ∷ (4, vptr b o) ∷ [])

    abbrev Turned : Copied → Out → SProp 𝓤
    Turned t = after_turn 𝓤 H (Below 𝓛 Nearer Now t) (after_block 𝓤 H (after_seq 𝓤 H (Wp 𝓤 H 𝓣.C 𝓣.Λ En code.Mir.t-5 (at_return 𝓤 H En Post)) (at_return 𝓤 H En Post)))

    turns : Sq 𝓛 End (runs 𝓣.C 𝓣.Λ En code.Mir.t-5 (at_ret En Post)) → (t : Copied) → Sq 𝓛 (Now t) (runs 𝓣.C 𝓣.Λ En code.Mir.turn-1 (any_q (Turned t)))
    unfolding after_turn
    turns ends t =
        let i : ℕ = t.0 in let le = t.1 in let now : List ℕ = after_some i in let x : ℕ = get_or xs i 0 in let f₀ : length xs < 2 ^ 64 = omega arith in
        sets ! (of_opd ! (get_in ! (fld ! refl (stop !)) (sub ! 1 refl (whole !)))) refl (tt, record { fits = f₀ }) $
        sets ! (bin ! (get ! refl) (get ! refl) tt) refl (tt, tt) $ first ! $ branches ! (get ! refl)
        (λ less. let h : i < length xs = ltb→lt i (length xs) less in
        let same = long i le in let room : at + i < length now = omega arith in
        let f₂ : at + i < 2 ^ 64 = omega arith in let f₃ : i + 1 < 2 ^ 64 = omega arith in
        let At : ℕ → Item 𝓤 = λ p. ‵ (cell_at full_share u8.mir (vint w8 x ∷ []) b p) in let Old : ℕ → Item 𝓤 = λ p. ‵ (cell_at full_share u8.mir (vint w8 (get_or now (at + i) 0) ∷ []) b p) in
        skips ! $ exec ! 𝓣.C 𝓣.Λ En (after 3 code.Mir.turn-1) (any_q (Turned t)) $ first ! $ blocks ! $
        sets ! (bin ! (get_in ! (fld ! refl (stop !)) (sub ! 0 refl (whole !))) (get ! refl) tt) refl (tt, tt) $
        -- the byte is read, of the slice
        move ! (2 ∷ 3 ∷ []) $ looks_slice ! tt u8 (uint_Copied 𝓛 w8) xs source.0 source.1 (λ s. elem_out ! u8 (Is u8) (shows 𝓛 u8) (uint_vals w8) (uint_Tells w8) s xs i 0 source.0 source.1 h (λ fits.
        let There : ℕ → Item 𝓤 = λ p. ‵ (cell_at s u8.mir (vint w8 x ∷ []) source.0 p) in
        rewrite ! 0 There (place_byte source.1 i) refl $ sets ! (of_opd ! (load ! (through ! refl (stop !)) (look ! 0 refl))) refl (tt, record { fits = fits.1 }) $
        rewrite ! 0 There (sym (place_byte source.1 i)) refl $ elem_back ! u8 s xs i 0 (vint w8 x ∷ []) source.0 source.1 h $ shuts_slice ! tt u8 s xs source.0 source.1 $
        -- [the token; the `&` to each byte of the slice; the bytes; what waits]
        move ! (2 ∷ 3 ∷ 1 ∷ 0 ∷ []) $
        sets ! (bin ! (get ! refl) (get ! refl) (record { fits = f₂ })) refl (tt, record { fits = f₂ }) $ sets ! (bin ! (get ! refl) (get ! refl) tt) refl (tt, tt) $
        -- and written
        elem_out ! u8 (Is u8) (shows 𝓛 u8) (uint_vals w8) (uint_Tells w8) full_share now (at + i) 0 b o room (λ old.
        rewrite ! 0 Old (place_byte o (at + i)) refl $
        assigns_last ! (of_opd ! (get ! refl)) (through ! refl (stop !)) (store ! 0 refl (tt, record { fits = fits.1 })) $
        exec ! 𝓣.C 𝓣.Λ En (after 4 code.Mir.turn-1) (any_q (Turned t)) $ sets_last ! (bin ! (get ! refl) (lit ! tt) (record { fits = f₃ })) refl (tt, record { fits = f₃ }) $
        -- [the byte; what the old one owned; the other bytes; what waits; the `&` to each byte of the slice; its token]
        byte_put ! now (at + i) x (get_or now (at + i) 0) b o room fits.1 $
        rewrite ! 0 (λ (ys : List ℕ). ‵ (row u8 full_share ys b o)) (paste_more bytes at xs i 0 (omega arith) h) refl $
        forget_but ! En (1 ∷ 2 ∷ 3 ∷ 4 ∷ 5 ∷ []) refl $ again ! Nearer Now t (i + 1, omega arith) (omega arith)))))
        (λ over. let ge = nltb→le i (length xs) over in let all : i ≡ length xs = omega arith in
        jumps ! $ exec ! 𝓣.C 𝓣.Λ En code.Mir.t-5 (at_ret En Post) $ rewrite ! 0 (λ (k : ℕ). ‵ (row u8 full_share (after_some k) b o)) all refl $
        forget_but ! En (1 ∷ 2 ∷ 3 ∷ 4 ∷ []) refl $ ends)

pub write_spec : {M : Type 1} → statement M
unfolding tables_of
write_spec 𝓤 𝓛 𝓜 𝓡 wired =
    let c = clauses 𝓛 𝓜.mem 𝓡.returns in let 𝓣 : Tables 𝓤 𝓛.H = tables_of 𝓤 𝓛.H 𝓜 (tables 𝓤 𝓛.H 𝓜 𝓡 𝓡.env) in
    proved 𝓛 ended stayed c 𝓜 𝓡 (Goes-ref 𝓛 2 0 tt (plain (λ _. R)), (Goes-dropped 𝓛 2 (plain (λ _. usize)) yes (λ κs x f. refl), (Goes-dropped 𝓛 2 (shr_slice_of (1 ∷ []) tt (plain (λ _. u8))) yes (λ κs x f. refl), tt)))
    #self code.function (code.unfolded 𝓤 𝓛.H 𝓜 𝓡 wired) (λ κs. (mut_vals, (uint_vals w64, (shr_slice_vals, tt)))) (λ κs. (mut_Tells (named 0) κs.0 R, (uint_Tells w64, (shr_slice_Tells (named 1) κs.1.0 u8, tt)))) (λ κs qs bounds a g are.
    let self = a.0 in let at' : ℕ = a.1.0 in let slice = a.1.1.0 in let xs : List ℕ = slice.now in let d = self.now in let b = self.ref_ptr.0 in let o = self.ref_ptr.1 in let γ = self.ghost_name in
    let Self = (MutRef (named 0) κs.0 R).own_val self (mut_vals self) in
    let Others = fsep (usize.own_val at' (vint w64 at' ∷ [])) (fsep ((ShrSlice (named 1) κs.1.0 u8).own_val slice (shr_slice_vals slice)) ftrue) in
    let z : (walk_of 𝓛 ended stayed c).Ghost = ((κs, qs, bounds, a, (mut_vals self, (vint w64 at' ∷ [], (shr_slice_vals slice, tt)))), g) in let Post : Val → SProp 𝓤 = (walk_of 𝓛 ended stayed c).post z in
    let Asked = at' + length xs ≤ 4096 in let new : List ℕ = paste d.bytes at' xs (length xs) in
    qed 𝓛 (((‵ (flft κs.0 qs.0) ⊛ ‵ (flft κs.1.0 qs.1.0) ⊛ ‵ ftrue) ⊛ ‵ (fsep Self Others)) ∷ raw (fact 𝓤 Asked) ∷ []) ∵
    move ! (1 ∷ []) $ heard ! Asked (λ asked. split ! $ split3 ! $ move ! (3 ∷ []) $ fsplit ! $ move ! (1 ∷ []) $ fsplit ! $ drop ! $ fsplit ! $ fsplit ! $
    -- [the slice's word; the `&` to its bytes; nothing; self; the two tokens; nothing]
    keep ! (3 ∷ 4 ∷ 1 ∷ 5 ∷ []) $ fsplit3 ! $ drop ! $ enter ! 𝓣.C 𝓣.Λ code.function _ Post $
    alloc_all ! (λ l. pass_all ! refl ((tt, tt), ((tt, record { fits = are.1.0.1 }), ((tt, (tt, (record { fits = are.1.1.0.0.1.0 }, tt))), tt))) $
    opens ! tt R b o (λ us. use2 𝓛 (some (λ (at : ℕ × ℕ). given (Lie d at) (‵ (part_at the_bytes full_share d.bytes at.0 at.1) ⊛ ‵ (Rest d (block_ptr at.0 at.1) b o)))) (comes_apart 𝓛 d us b o) $ pick ! (λ at. learn ! (λ lie. split ! $ move ! (1 ∷ []) $ fsplit3 ! $
    let size = lie.1 in let within : at' + length xs ≤ length d.bytes = omega arith in
    -- [the right to free; the fields; the block's cell; the bytes; the open borrow, in three entries; the `&` to the slice's bytes; its token]: the code reads the pointer in the cell
    sets ! (of_opd ! (load ! (through ! refl (fld ! refl (stop !))) (look_in ! 2 (sub ! 0 refl (whole !))))) refl (tt, tt) $ sets ! (of_opd ! (get ! refl)) refl (tt, tt) $
    sets ! (of_opd ! (lit ! tt)) refl (tt, record { fits = lit< tt }) $
    move ! (1 ∷ 2 ∷ []) $ fjoin ! $ move ! (1 ∷ 0 ∷ []) $ fjoin ! $ move ! (0 ∷ 2 ∷ 3 ∷ 4 ∷ []) $ group ! 4 $ use1 𝓛 (raw (Waits 𝓛 κs.0 qs.0 γ d at b o)) (id⊢ 𝓤 _) $ move ! (1 ∷ []) $
    use1 𝓛 (‵ (row u8 full_share d.bytes at.0 at.1)) (each_out 𝓛 full_share d.bytes at.0 at.1) $
    rewrite ! 0 (λ (ys : List ℕ). ‵ (row u8 full_share ys at.0 at.1)) (paste_none d.bytes at' xs) refl $
    forget_but ! (env code.function.locals l) (1 ∷ 2 ∷ 3 ∷ 4 ∷ 5 ∷ []) refl $ first ! $ blocks ! $
    loops ! 𝓣 (Nearer 𝓛 𝓣 Post (Waits 𝓛 κs.0 qs.0 γ d at b o) (vptr b o) κs.1.0 qs.1.0 slice.ref_ptr xs d.bytes at.0 at.1 at' within size) (InvImage.wf (λ (t : (i : ℕ) × (i ≤ length xs)). length xs - t.0) lt-wf_rel.wf)
    (Now 𝓛 𝓣 Post (Waits 𝓛 κs.0 qs.0 γ d at b o) (vptr b o) κs.1.0 qs.1.0 slice.ref_ptr xs d.bytes at.0 at.1 at' within size l)
    (turns 𝓛 𝓣 Post (Waits 𝓛 κs.0 qs.0 γ d at b o) (vptr b o) κs.1.0 qs.1.0 slice.ref_ptr xs d.bytes at.0 at.1 at' within size l
    (use2 𝓛 (later (‵ (fobs γ (R.coded.code (with_bytes d new))) ⊛ ‵ (fbor κs.0 (Body (mem R) b o γ)) ⊛ ‵ (flft κs.0 qs.0))) (written 𝓛 κs.0 qs.0 γ d at b o lie new (length-paste d.bytes at' xs (length xs) within (omega arith) ∙ size)) $ await ! tt $ split3 ! $
    sets ! (of_opd ! (unit_lit !)) refl (tt, tt) $ returns ! (look_at ! 0 refl) $ free_all ! refl $
    -- [two parts of self; the two tokens]
    keep ! (0 ∷ 1 ∷ 2 ∷ 4 ∷ []) $
    suffices ! _ (ends_at 𝓛 ended stayed c z vunit tt (with_bytes d new, (tt, (tt, tt))) (tt, (tt, (tt, tt)))) $ says ! (paste_all d.bytes at' xs (length xs) refl) $
    feq_i ! (List Val) (mut_vals self) (mut_vals self) refl $ group ! 3 $ nothing ! $ nothing ! $ join ! $ nothing ! $ join ! $ move ! (1 ∷ 0 ∷ []) $ join ! $ nothing ! $ move ! (3 ∷ 0 ∷ []) $ join ! $ move ! (2 ∷ 0 ∷ []) $ join ! $ frame ! $ frame ! $
    feq_i ! (List Val) (vunit ∷ []) (vunit ∷ []) refl $ done !)) (0, omega arith)))))))
