-- `set_byte` writes one byte behind the pointer, and leaves the others.
use Rattle.std.proofs.Common.{ℕ, ◌<◌, List, [], ◌∷◌, length, set, get_or, refl, ◌∙◌, arith, w8, w64}
use Rattle.std.proofs.lemmas.List.{length-set}
use mir.Syntax.{named}
use mir.Val.{Val, vint, vunit}
use base.Fraction.{full_share}
use base.Fml.{flft, ftrue, fsep}
use base.Logic.{SProp}
use types.Kit.{Item, given, learn, ‵, raw, ◌⊛◌, some, at_ret, ◌$◌, ◌∵◌, !, qed, move, keep, split, join, group, pick, fsplit, fsplit3, fjoin, frame, feq_i, rewrite, suffices, use1, use2, done}
use types.Mut.{close_ref}
use types.Part.{whole, sub, look_in}
use types.Run.{stop, fld, hop, addr, store, bin, of_opd, unit_lit, assigns_last, first, blocks, exec, returns, enter}
use types.ByLocal.{alloc_all, pass_all, free_all, look_at, get, through, sets, env}
use contract.Monad.{fact}
use contract.Running.{tables}
use denote.Builtin.{u8, usize}
use denote.Exit.{yes}
use denote.Index.{row, place_byte, elem_out}
use denote.Laws.{Is, shows}
use denote.Memory.{mem, cell_at, part_at}
use denote.Plain.{uint_vals, uint_Tells}
use denote.RattleType.{RattleType}
use denote.RawPtr.{block_ptr}
use denote.Ref.{MutRef, mut_vals, mut_Tells}
use denote.Signature.{plain}
use denote.Steps.{nothing, heard, opens}
use denote.Triple.Walked.{says, Stays, stay_dropped, stay_ref, walk_of, ends_at, Goes-dropped, Goes-ref}
use Rattle.std.proofs.VecSteps.Shapes.{after}
use Rattle.std.proofs.raw_atomic.Walks.{proved}
use Rattle.gx_page.specs.Lending.{with_bytes}
use Rattle.gx_page.specs.Ownership.{the_bytes}
use Rattle.gx_page.proofs.block.Copies.{byte_put}
use Rattle.gx_page.proofs.block.Opened.{Rest, Lie, comes_apart, closes_over, each_out, each_in}
use Rattle.gx_page.specs.contracts.block.Block as block
use Rattle.gx_page.specs.contracts.block.Block.set_byte.{ended, clauses}
use Rattle.gx_page.specs.contracts.block.Block.set_byte.Key.{name as #self}
use Rattle.gx_page.proofs.block.Block.set_byte.Statement.{statement}
use Rattle.gx_page.proofs.block.Block.set_byte.Code as code

abbrev R : RattleType
R = block.the_row

abbrev stayed : Stays ended.signature.params ended.kept
stayed = (stay_ref (0 ∷ []) tt (plain (λ _. R)), (stay_dropped (plain (λ _. usize)) yes, (stay_dropped (plain (λ _. u8)) yes, tt)))

pub set_byte_spec : {M : Type 1} → statement M
set_byte_spec 𝓤 𝓛 𝓜 𝓡 wired =
    let c = clauses 𝓛 𝓜.mem 𝓡.returns in let 𝓣 = tables 𝓤 𝓛.H 𝓜 𝓡 𝓡.env in
    proved 𝓛 ended stayed c 𝓜 𝓡 (Goes-ref 𝓛 1 0 tt (plain (λ _. R)), (Goes-dropped 𝓛 1 (plain (λ _. usize)) yes (λ κs x f. refl), (Goes-dropped 𝓛 1 (plain (λ _. u8)) yes (λ κs x f. refl), tt)))
    #self code.function (code.unfolded 𝓤 𝓛.H 𝓜 𝓡 wired) (λ κs. (mut_vals, (uint_vals w64, (uint_vals w8, tt)))) (λ κs. (mut_Tells (named 0) κs.0 R, (uint_Tells w64, (uint_Tells w8, tt)))) (λ κs qs bounds a g are.
    let self = a.0 in let i : ℕ = a.1.0 in let v : ℕ = a.1.1.0 in let d = self.now in let b = self.ref_ptr.0 in let o = self.ref_ptr.1 in
    let Self = (MutRef (named 0) κs.0 R).own_val self (mut_vals self) in let Others = fsep (usize.own_val i (vint w64 i ∷ [])) (fsep (u8.own_val v (vint w8 v ∷ [])) ftrue) in
    let z : (walk_of 𝓛 ended stayed c).Ghost = ((κs, qs, bounds, a, (mut_vals self, (vint w64 i ∷ [], (vint w8 v ∷ [], tt)))), g) in let Post : Val → SProp 𝓤 = (walk_of 𝓛 ended stayed c).post z in
    let new : List ℕ = set d.bytes i v in
    qed 𝓛 (((‵ (flft κs.0 qs.0) ⊛ ‵ ftrue) ⊛ ‵ (fsep Self Others)) ∷ raw (fact 𝓤 (i < 4096)) ∷ []) ∵
    move ! (1 ∷ []) $ heard ! (i < 4096) (λ within. split ! $ split ! $ move ! (2 ∷ []) $ fsplit ! $ keep ! (0 ∷ 2 ∷ []) $
    fsplit3 ! $ move ! (1 ∷ 2 ∷ 3 ∷ []) $ enter ! 𝓣.C 𝓣.Λ code.function _ Post $ alloc_all ! (λ l. pass_all ! refl ((tt, tt), ((tt, record { fits = are.1.0.1 }), ((tt, record { fits = are.1.1.0.1 }), tt))) $ let Ev = env code.function.locals l in
    opens ! tt R b o (λ us. use2 𝓛 (some (λ (at : ℕ × ℕ). given (Lie d at) (‵ (part_at the_bytes full_share d.bytes at.0 at.1) ⊛ ‵ (Rest d (block_ptr at.0 at.1) b o)))) (comes_apart 𝓛 d us b o) $ pick ! (λ at. learn ! (λ lie. split ! $ move ! (1 ∷ []) $ fsplit3 ! $
    let low : i < length d.bytes = let size = lie.1 in omega arith in
    -- [the right to free; the fields; the block's cell; the bytes; the open borrow, in three entries; self's first part]: the code reads the pointer in the cell
    first ! $ blocks ! $ sets ! (addr ! (through ! refl (fld ! refl (hop ! (look_in ! 2 (sub ! 0 refl (whole !))) (stop !))))) refl (tt, tt) $
    sets ! (bin ! (get ! refl) (get ! refl) tt) refl (tt, tt) $
    -- and then the byte at the place
    move ! (3 ∷ []) $ use1 𝓛 (‵ (row u8 full_share d.bytes at.0 at.1)) (each_out 𝓛 full_share d.bytes at.0 at.1) $
    elem_out ! u8 (Is u8) (shows 𝓛 u8) (uint_vals w8) (uint_Tells w8) full_share d.bytes i 0 at.0 at.1 low (λ fits.
    let Old : ℕ → Item 𝓤 = λ p. ‵ (cell_at full_share u8.mir (vint w8 (get_or d.bytes i 0) ∷ []) at.0 p) in
    rewrite ! 0 Old (place_byte at.1 i) refl $ assigns_last ! (of_opd ! (get ! refl)) (through ! refl (stop !)) (store ! 0 refl (tt, record { fits = are.1.1.0.1 })) $
    exec ! 𝓣.C 𝓣.Λ Ev (after 1 code.function.body) (at_ret Ev Post) $ sets ! (of_opd ! (unit_lit !)) refl (tt, tt) $
    -- [the byte; what the old one owned; the other bytes; the right to free; the fields; the block's cell; the open borrow, in three entries; self's first part]
    byte_put ! d.bytes i v (get_or d.bytes i 0) at.0 at.1 low are.1.1.0.1 $ use1 𝓛 (‵ (part_at the_bytes full_share new at.0 at.1)) (each_in 𝓛 full_share new at.0 at.1 (length-set d.bytes i v ∙ lie.1)) $
    move ! (2 ∷ 3 ∷ []) $ fjoin ! $ move ! (2 ∷ 0 ∷ []) $ fjoin ! $ move ! (1 ∷ 0 ∷ []) $ use2 𝓛 (‵ ((mem R).own_at (with_bytes d new) b o)) (closes_over 𝓛 d b o at.0 at.1 lie.0 new) $
    close_ref ! tt (mem R) (with_bytes d new) {b = b} {o = o} $ returns ! (look_at ! 0 refl) $ free_all ! refl $
    -- [two parts of self; the token; self's first part]
    move ! (3 ∷ []) $ suffices ! _ (ends_at 𝓛 ended stayed c z vunit tt (with_bytes d new, (tt, (tt, tt))) (tt, (tt, (tt, tt)))) $ says ! (refl, lie.1) $
    group ! 3 $ nothing ! $ nothing ! $ join ! $ nothing ! $ join ! $ move ! (1 ∷ 0 ∷ []) $ join ! $ nothing ! $ move ! (2 ∷ 0 ∷ []) $ join ! $ frame ! $ frame ! $ feq_i ! (List Val) (vunit ∷ []) (vunit ∷ []) refl $ done !)))))))
