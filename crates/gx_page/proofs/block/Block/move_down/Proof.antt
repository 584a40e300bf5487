-- `move_down` copies byte by byte behind the pointer, the first of them first.
use Rattle.std.proofs.Common.{◌≡◌, ℕ, ◌+◌, ◌-◌, ◌^◌, ◌<◌, ◌≤◌, List, [], ◌∷◌, length, drop as drop-list, get_or, refl, sym, ap, ◌∙◌, arith, lit<, nltb→le, length-drop, w8, w64}
use Rattle.std.proofs.lemmas.List.Edits.{length-paste, paste_none}
use mathlib.Core.WellFounded.InvImage
use lib.Dec.{ltb→lt}
use lib.Seq.{paste}
use lib.WfN.{lt-wf_rel}
use mir.Syntax.{named}
use mir.Val.{Val, vint, vptr, vunit}
use base.Fraction.{full_share}
use base.Fml.{flft, fobs, fbor, ftrue, fsep}
use base.Logic.{SProp, id⊢}
use seplogic.Ra.Ura.{Ura}
use prog.Wp.{Env, Out, Wp, Tables, at_return, after_seq, after_block, after_turn}
use types.Logic.{Logic}
use types.Kit.{Item, Sq, any_q, runs, given, learn, ‵, raw, ◌⊛◌, later, some, at_ret, ◌$◌, ◌∵◌, !, qed, move, keep, drop, split, split3, join, group, pick, await, fsplit, fsplit3, fjoin, frame, feq_i, rewrite, suffices, use1, use2, done}
use types.SemTy.{Body}
use types.Part.{whole, sub, look_in}
use types.Run.{stop, fld, store, load, look, bin, lit, of_opd, unit_lit, assigns_last, first, blocks, skips, jumps, branches, exec, returns, enter, loops, again, Below}
use types.ByLocal.{alloc_all, pass_all, free_all, look_at, get, through, sets, sets_last, env, holding, forget_but}
use contract.Monad.{fact}
use contract.Running.{tables, tables_of}
use denote.Builtin.{u8, usize}
use denote.Exit.{yes}
use denote.Index.{row, place_byte, elem_out, elem_back}
use denote.Laws.{Is, shows}
use denote.Memory.{mem, cell_at, part_at}
use denote.Plain.{uint_vals, uint_Tells}
use denote.RattleType.{RattleType}
use denote.RawPtr.{block_ptr}
use denote.Ref.{MutRef, mut_vals, mut_Tells}
use denote.Signature.{plain}
use denote.Steps.{nothing, heard, opens}
use denote.Triple.Walked.{says, Stays, stay_dropped, stay_ref, walk_of, ends_at, Goes-dropped, Goes-ref}
use Rattle.std.proofs.VecSteps.Shapes.{after}
use Rattle.std.proofs.raw_atomic.Walks.{proved}
use Rattle.gx_page.specs.Lending.{with_bytes}
use Rattle.gx_page.specs.Ownership.{the_bytes}
use Rattle.gx_page.proofs.block.Copies.{byte_put, Waits, written, down_more}
use Rattle.gx_page.proofs.block.Opened.{Rest, Lie, comes_apart, each_out}
use Rattle.gx_page.specs.contracts.block.Block as block
use Rattle.gx_page.specs.contracts.block.Block.move_down.{ended, clauses}
use Rattle.gx_page.specs.contracts.block.Block.move_down.Key.{name as #self}
use Rattle.gx_page.proofs.block.Block.move_down.Statement.{statement}
use Rattle.gx_page.proofs.block.Block.move_down.Code as code

abbrev R : RattleType
R = block.the_row

abbrev stayed : Stays ended.signature.params ended.kept
stayed = (stay_ref (0 ∷ []) tt (plain (λ _. R)), (stay_dropped (plain (λ _. usize)) yes, (stay_dropped (plain (λ _. usize)) yes, (stay_dropped (plain (λ _. usize)) yes, tt))))

-- the loop: `Kept` waits until the bytes are those after all copies, and then the function goes on
module _ {M : Type 1} {𝓤 : Ura M} (𝓛 : Logic 𝓤) (𝓣 : Tables 𝓤 𝓛.H) (Post : Val → SProp 𝓤) (Kept : SProp 𝓤) (self : Val) (bytes : List ℕ) (b o from dest count : ℕ)
    (down : dest ≤ from) (within : from + count ≤ length bytes) (size : length bytes ≡ 4096) where
  open 𝓛 use {H}

  abbrev after_some : ℕ → List ℕ
  after_some i = paste bytes dest (drop-list from bytes) i

  long : (i : ℕ) → i ≤ count → length (after_some i) ≡ length bytes
  long i le = length-paste bytes dest (drop-list from bytes) i (omega arith) (omega (arith, length-drop from bytes))

  abbrev Copied : Type 0
  Copied = (i : ℕ) × (i ≤ count)

  abbrev Nearer : Copied → Copied → Type 0
  Nearer t u = count - t.0 < count - u.0

  module _ (l : ℕ → ℕ) where
    abbrev En : Env 𝓤 H
    En = env code.function.locals l

    abbrev Now : Copied → List (Item 𝓤)
    Now t = ‵ (row u8 full_share (after_some t.0) b o) ∷ raw Kept ∷ holding 𝓛 En ((1, self) ∷ (2, vint w64 from) ∷ (3, vint w64 dest) ∷ (4, vint w64 count) ∷ (5, vptr b o) ∷ (6, vint w64 t.0) ∷ [])

    abbrev End : List (Item 𝓤)
    End = ‵ (row u8 full_share (after_some count) b o) ∷ raw Kept ∷ holding 𝓛 En ((1, self) ∷ (2, vint w64 from) ∷ (3, vint w64 dest) ∷ (4, vint w64 count) ∷ (5, vptr b o) ∷ [])

    abbrev Turned : Copied → Out → SProp 𝓤
    Turned t = after_turn 𝓤 H (Below 𝓛 Nearer Now t) (after_block 𝓤 H (after_seq 𝓤 H (Wp 𝓤 H 𝓣.C 𝓣.Λ En code.Mir.t-5 (at_return 𝓤 H En Post)) (at_return 𝓤 H En Post)))

    turns : Sq 𝓛 End (runs 𝓣.C 𝓣.Λ En code.Mir.t-5 (at_ret En Post)) → (t : Copied) → Sq 𝓛 (Now t) (runs 𝓣.C 𝓣.Λ En code.Mir.turn-1 (any_q (Turned t)))
    unfolding after_turn
    turns ends t =
        let i : ℕ = t.0 in let le = t.1 in let now : List ℕ = after_some i in let x : ℕ = get_or now (from + i) 0 in
        sets ! (bin ! (get ! refl) (get ! refl) tt) refl (tt, tt) $ first ! $ branches ! (get ! refl)
        (λ less. let h : i < count = ltb→lt i count less in
        let same = long i le in let low : from + i < length now = omega arith in let room : dest + i < length now = omega arith in
        let f₁ : from + i < 2 ^ 64 = omega arith in let f₂ : dest + i < 2 ^ 64 = omega arith in let f₃ : i + 1 < 2 ^ 64 = omega arith in
        let At : ℕ → Item 𝓤 = λ p. ‵ (cell_at full_share u8.mir (vint w8 x ∷ []) b p) in let Old : ℕ → Item 𝓤 = λ p. ‵ (cell_at full_share u8.mir (vint w8 (get_or now (dest + i) 0) ∷ []) b p) in
        skips ! $ exec ! 𝓣.C 𝓣.Λ En (after 2 code.Mir.turn-1) (any_q (Turned t)) $ first ! $ blocks ! $
        sets ! (bin ! (get ! refl) (get ! refl) (record { fits = f₁ })) refl (tt, record { fits = f₁ }) $ sets ! (bin ! (get ! refl) (get ! refl) tt) refl (tt, tt) $
        -- the byte is read
        elem_out ! u8 (Is u8) (shows 𝓛 u8) (uint_vals w8) (uint_Tells w8) full_share now (from + i) 0 b o low (λ fits.
        rewrite ! 0 At (place_byte o (from + i)) refl $ sets ! (of_opd ! (load ! (through ! refl (stop !)) (look ! 0 refl))) refl (tt, record { fits = fits.1 }) $
        rewrite ! 0 At (sym (place_byte o (from + i))) refl $ elem_back ! u8 full_share now (from + i) 0 (vint w8 x ∷ []) b o low $
        sets ! (bin ! (get ! refl) (get ! refl) (record { fits = f₂ })) refl (tt, record { fits = f₂ }) $ sets ! (bin ! (get ! refl) (get ! refl) tt) refl (tt, tt) $
        -- and written
        elem_out ! u8 (Is u8) (shows 𝓛 u8) (uint_vals w8) (uint_Tells w8) full_share now (dest + i) 0 b o room (λ old.
        rewrite ! 0 Old (place_byte o (dest + i)) refl $
        assigns_last ! (of_opd ! (get ! refl)) (through ! refl (stop !)) (store ! 0 refl (tt, record { fits = fits.1 })) $
        exec ! 𝓣.C 𝓣.Λ En (after 3 code.Mir.turn-1) (any_q (Turned t)) $ sets_last ! (bin ! (get ! refl) (lit ! tt) (record { fits = f₃ })) refl (tt, record { fits = f₃ }) $
        -- [the byte; what the old one owned; the other bytes; what waits]
        byte_put ! now (dest + i) x (get_or now (dest + i) 0) b o room fits.1 $
        rewrite ! 0 (λ (xs : List ℕ). ‵ (row u8 full_share xs b o)) (down_more bytes from dest i down (omega arith)) refl $
        forget_but ! En (1 ∷ 2 ∷ 3 ∷ 4 ∷ 5 ∷ 6 ∷ []) refl $ again ! Nearer Now t (i + 1, omega arith) (omega arith))))
        (λ over. let ge = nltb→le i count over in let all : i ≡ count = omega arith in
        jumps ! $ exec ! 𝓣.C 𝓣.Λ En code.Mir.t-5 (at_ret En Post) $ rewrite ! 0 (λ (k : ℕ). ‵ (row u8 full_share (after_some k) b o)) all refl $
        forget_but ! En (1 ∷ 2 ∷ 3 ∷ 4 ∷ 5 ∷ []) refl $ ends)

pub move_down_spec : {M : Type 1} → statement M
unfolding tables_of
move_down_spec 𝓤 𝓛 𝓜 𝓡 wired =
    let c = clauses 𝓛 𝓜.mem 𝓡.returns in let 𝓣 : Tables 𝓤 𝓛.H = tables_of 𝓤 𝓛.H 𝓜 (tables 𝓤 𝓛.H 𝓜 𝓡 𝓡.env) in
    let number = Goes-dropped 𝓛 1 (plain (λ _. usize)) yes (λ κs x f. refl) in
    proved 𝓛 ended stayed c 𝓜 𝓡 (Goes-ref 𝓛 1 0 tt (plain (λ _. R)), (number, (number, (number, tt))))
    #self code.function (code.unfolded 𝓤 𝓛.H 𝓜 𝓡 wired) (λ κs. (mut_vals, (uint_vals w64, (uint_vals w64, (uint_vals w64, tt))))) (λ κs. (mut_Tells (named 0) κs.0 R, (uint_Tells w64, (uint_Tells w64, (uint_Tells w64, tt))))) (λ κs qs bounds a g are.
    let self = a.0 in let from : ℕ = a.1.0 in let dest : ℕ = a.1.1.0 in let count : ℕ = a.1.1.1.0 in let d = self.now in let b = self.ref_ptr.0 in let o = self.ref_ptr.1 in let γ = self.ghost_name in
    let Self = (MutRef (named 0) κs.0 R).own_val self (mut_vals self) in
    let Others = fsep (usize.own_val from (vint w64 from ∷ [])) (fsep (usize.own_val dest (vint w64 dest ∷ [])) (fsep (usize.own_val count (vint w64 count ∷ [])) ftrue)) in
    let z : (walk_of 𝓛 ended stayed c).Ghost = ((κs, qs, bounds, a, (mut_vals self, (vint w64 from ∷ [], (vint w64 dest ∷ [], (vint w64 count ∷ [], tt))))), g) in let Post : Val → SProp 𝓤 = (walk_of 𝓛 ended stayed c).post z in
    let Asked = (dest ≤ from) × (from + count ≤ 4096) in let new : List ℕ = paste d.bytes dest (drop-list from d.bytes) count in let as_many : count ≡ from + count - from = omega arith in
    qed 𝓛 (((‵ (flft κs.0 qs.0) ⊛ ‵ ftrue) ⊛ ‵ (fsep Self Others)) ∷ raw (fact 𝓤 Asked) ∷ []) ∵
    move ! (1 ∷ []) $ heard ! Asked (λ asked. split ! $ split ! $ move ! (2 ∷ []) $ fsplit ! $ keep ! (0 ∷ 2 ∷ []) $
    fsplit3 ! $ drop ! $ enter ! 𝓣.C 𝓣.Λ code.function _ Post $
    alloc_all ! (λ l. pass_all ! refl ((tt, tt), ((tt, record { fits = are.1.0.1 }), ((tt, record { fits = are.1.1.0.1 }), ((tt, record { fits = are.1.1.1.0.1 }), tt)))) $
    opens ! tt R b o (λ us. use2 𝓛 (some (λ (at : ℕ × ℕ). given (Lie d at) (‵ (part_at the_bytes full_share d.bytes at.0 at.1) ⊛ ‵ (Rest d (block_ptr at.0 at.1) b o)))) (comes_apart 𝓛 d us b o) $ pick ! (λ at. learn ! (λ lie. split ! $ move ! (1 ∷ []) $ fsplit3 ! $
    let size = lie.1 in let within : from + count ≤ length d.bytes = omega (arith, asked.1) in
    -- [the right to free; the fields; the block's cell; the bytes; the open borrow, in three entries]: the code reads the pointer in the cell
    sets ! (of_opd ! (load ! (through ! refl (fld ! refl (stop !))) (look_in ! 2 (sub ! 0 refl (whole !))))) refl (tt, tt) $ sets ! (of_opd ! (get ! refl)) refl (tt, tt) $
    sets ! (of_opd ! (lit ! tt)) refl (tt, record { fits = lit< tt }) $
    move ! (1 ∷ 2 ∷ []) $ fjoin ! $ move ! (1 ∷ 0 ∷ []) $ fjoin ! $ move ! (0 ∷ 2 ∷ 3 ∷ 4 ∷ []) $ group ! 4 $ use1 𝓛 (raw (Waits 𝓛 κs.0 qs.0 γ d at b o)) (id⊢ 𝓤 _) $ move ! (1 ∷ []) $
    use1 𝓛 (‵ (row u8 full_share d.bytes at.0 at.1)) (each_out 𝓛 full_share d.bytes at.0 at.1) $
    rewrite ! 0 (λ (xs : List ℕ). ‵ (row u8 full_share xs at.0 at.1)) (paste_none d.bytes dest (drop-list from d.bytes)) refl $
    forget_but ! (env code.function.locals l) (1 ∷ 2 ∷ 3 ∷ 4 ∷ 5 ∷ 6 ∷ []) refl $ first ! $ blocks ! $
    loops ! 𝓣 (Nearer 𝓛 𝓣 Post (Waits 𝓛 κs.0 qs.0 γ d at b o) (vptr b o) d.bytes at.0 at.1 from dest count asked.0 within size) (InvImage.wf (λ (t : (i : ℕ) × (i ≤ count)). count - t.0) lt-wf_rel.wf)
    (Now 𝓛 𝓣 Post (Waits 𝓛 κs.0 qs.0 γ d at b o) (vptr b o) d.bytes at.0 at.1 from dest count asked.0 within size l)
    (turns 𝓛 𝓣 Post (Waits 𝓛 κs.0 qs.0 γ d at b o) (vptr b o) d.bytes at.0 at.1 from dest count asked.0 within size l
    (use2 𝓛 (later (‵ (fobs γ (R.coded.code (with_bytes d new))) ⊛ ‵ (fbor κs.0 (Body (mem R) b o γ)) ⊛ ‵ (flft κs.0 qs.0))) (written 𝓛 κs.0 qs.0 γ d at b o lie new (long 𝓛 𝓣 Post (Waits 𝓛 κs.0 qs.0 γ d at b o) (vptr b o) d.bytes at.0 at.1 from dest count asked.0 within size count (omega arith) ∙ size)) $ await ! tt $ split3 ! $
    sets ! (of_opd ! (unit_lit !)) refl (tt, tt) $ returns ! (look_at ! 0 refl) $ free_all ! refl $
    -- [two parts of self; the token]
    suffices ! _ (ends_at 𝓛 ended stayed c z vunit tt (with_bytes d new, (tt, (tt, (tt, tt)))) (tt, (tt, (tt, (tt, tt))))) $ says ! (ap (paste d.bytes dest (drop-list from d.bytes)) as_many, size) $
    feq_i ! (List Val) (mut_vals self) (mut_vals self) refl $ group ! 3 $ nothing ! $ nothing ! $ join ! $ nothing ! $ join ! $ nothing ! $ join ! $ move ! (1 ∷ 0 ∷ []) $ join ! $ nothing ! $ move ! (2 ∷ 0 ∷ []) $ join ! $ frame ! $ frame ! $
    feq_i ! (List Val) (vunit ∷ []) (vunit ∷ []) refl $ done !)) (0, omega arith)))))))
