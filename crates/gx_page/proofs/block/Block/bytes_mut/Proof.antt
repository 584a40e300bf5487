-- `bytes_mut` lends what lies behind the pointer, and the block ends with whatever was last written there.
use Rattle.std.proofs.Common.{ℕ, List, [], ◌∷◌, refl, MutBor}
use mir.Syntax.{named}
use mir.Val.{Val, vptr}
use base.Fraction.{full_share}
use base.Logic.{SProp, ent, sep, ex, emp, via}
use base.Fml.{GName, Lft, Share, ftrue, flft, fobor, fobs, fauth, fsep}
use types.SemTy.{Body}
use seplogic.Ra.Ura.{Ura}
use types.Logic.{Logic, sem}
use types.Kit.{given, learn, use2, split3, fjoin3, ‵, raw, ◌⊛◌, some, later, at_ret, ◌$◌, ◌∵◌, !, qed, move, keep, split, group, pick, await, fsplit3, frame, suffices, use1, done}
use types.Part.{whole, sub, look_in}
use types.Run.{stop, fld, hop, addr, of_opd, first, blocks, exec, returns, enter}
use types.ByLocal.{alloc_all, pass_all, free_all, look_at, get, through, sets, sets_last, env}
use contract.Running.{tables}
use denote.Exit.{no}
use denote.Follow.{follows, lends_Part}
use denote.Memory.{mem, part_at}
use denote.RattleType.{RattleType}
use denote.RawPtr.{block_ptr}
use denote.Ref.{MutRef, mut_vals, mut_Tells}
use denote.Signature.{plain, mut_ref_to}
use denote.Steps.{opens}
use denote.Triple.Walked.{says, Stays, stay_dropped, walk_of, ends_at, Goes-spent_ref}
use Rattle.std.proofs.VecSteps.Shapes.{after}
use Rattle.std.proofs.raw_atomic.Walks.{proved}
use Rattle.gx_page.specs.Lending.{with_bytes}
use Rattle.gx_page.specs.Ownership.{the_bytes}
use Rattle.gx_page.proofs.block.Walks.{begins_with, lends}
use Rattle.gx_page.proofs.block.Opened.{Rest, Lie, comes_apart, closes_over}
use Rattle.gx_page.specs.contracts.block.Block as block
use Rattle.gx_page.specs.contracts.block.Block.bytes_mut.{ended, clauses}
use Rattle.gx_page.specs.contracts.block.Block.bytes_mut.Key.{name as #self}
use Rattle.gx_page.proofs.block.Block.bytes_mut.Statement.{statement}
use Rattle.gx_page.proofs.block.Block.bytes_mut.Code as code

abbrev R : RattleType
R = block.the_row

abbrev stayed : Stays ended.signature.params ended.kept
stayed = (stay_dropped (mut_ref_to (0 ∷ []) tt (plain (λ _. R))) no, tt)

-- the `&mut` that is lent
abbrev loan : ℕ × ℕ → GName → List ℕ → MutBor (List ℕ)
loan at γ bytes = record { ref_ptr = at; ghost_name = γ; now = bytes }

module _ {M : Type 1} {𝓤 : Ura M} (𝓛 : Logic 𝓤) where
  -- so the bytes are lent as a separate `&mut`, and the rest waits for them
  goes_out : (κ : Lft) (q : Share) (b o : ℕ) (γ : GName) (d : R.Denot) (at : ℕ × ℕ) → Lie d at
      → ent 𝓤 (sep 𝓤 (sem 𝓛 (fobor κ q (Body (mem R) b o γ))) (sep 𝓤 (sem 𝓛 (fobs γ (R.coded.code d))) (sep 𝓤 (sem 𝓛 (fauth γ (R.coded.code d))) (sep 𝓤 (sem 𝓛 (part_at the_bytes full_share d.bytes at.0 at.1)) (sem 𝓛 (Rest d (block_ptr at.0 at.1) b o))))))
      (𝓛.H.⇛ (ex 𝓤 (λ (γ' : GName). sep 𝓤 (sem 𝓛 ((MutRef (named 0) κ the_bytes).own_val (loan at γ' d.bytes) (vptr at.0 at.1 ∷ []))) (sep 𝓤 (sem 𝓛 (flft κ q)) (sem 𝓛 (follows R the_bytes γ γ' (with_bytes d)))))))
  goes_out κ q b o γ d at lie =
      lends_Part 𝓛 R the_bytes (with_bytes d) (named 0) κ q b o at.0 at.1 γ (sem 𝓛 (Rest d (block_ptr at.0 at.1) b o)) (closes_over 𝓛 d b o at.0 at.1 lie.0) (R.coded.code d) (R.coded.code d) d.bytes

pub bytes_mut_spec : {M : Type 1} → statement M
bytes_mut_spec 𝓤 𝓛 𝓜 𝓡 wired =
    let c = clauses 𝓛 𝓜.mem 𝓡.returns in let 𝓣 = tables 𝓤 𝓛.H 𝓜 𝓡 𝓡.env in
    proved 𝓛 ended stayed c 𝓜 𝓡 (Goes-spent_ref 𝓛 1 (0 ∷ []) tt (plain (λ _. R)), tt) #self code.function (code.unfolded 𝓤 𝓛.H 𝓜 𝓡 wired) (λ κs. (mut_vals, tt)) (λ κs. (mut_Tells (named 0) κs.0 R, tt)) (λ κs qs bounds a g are.
    let self = a.0 in let d = self.now in let b = self.ref_ptr.0 in let o = self.ref_ptr.1 in let γ = self.ghost_name in let Self = (MutRef (named 0) κs.0 R).own_val self (mut_vals self) in
    let z : (walk_of 𝓛 ended stayed c).Ghost = ((κs, qs, bounds, a, (mut_vals self, tt)), g) in let Post : Val → SProp 𝓤 = (walk_of 𝓛 ended stayed c).post z in
    via 𝓤 _ (begins_with 𝓛 κs.0 qs.0 Self) (qed 𝓛 (‵ Self ∷ ‵ (flft κs.0 qs.0) ∷ []) ∵
    fsplit3 ! $ move ! (1 ∷ 2 ∷ 3 ∷ []) $ enter ! 𝓣.C 𝓣.Λ code.function (mut_vals self) Post $ alloc_all ! (λ l. pass_all ! refl ((tt, tt), tt) $ let Ev = env code.function.locals l in
    opens ! tt R b o (λ us. use2 𝓛 (some (λ (at : ℕ × ℕ). given (Lie d at) (‵ (part_at the_bytes full_share d.bytes at.0 at.1) ⊛ ‵ (Rest d (block_ptr at.0 at.1) b o)))) (comes_apart 𝓛 d us b o) $ pick ! (λ at. learn ! (λ lie. split ! $ move ! (1 ∷ []) $ fsplit3 ! $
    -- [the right to free; the fields; the block's cell; the bytes; the open borrow, in three entries]: the code reads the pointer in the cell
    first ! $ blocks ! $ sets_last ! (addr ! (through ! refl (fld ! refl (hop ! (look_in ! 2 (sub ! 0 refl (whole !))) (stop !))))) refl (tt, tt) $ exec ! 𝓣.C 𝓣.Λ Ev (after 1 code.function.body) (at_ret Ev Post) $
    sets ! (of_opd ! (get ! refl)) refl (tt, tt) $ fjoin3 ! $ move ! (2 ∷ 3 ∷ 4 ∷ 1 ∷ 0 ∷ []) $ group ! 5 $
    use1 𝓛 (later (some (λ (γ' : GName). ‵ ((MutRef (named 0) κs.0 the_bytes).own_val (loan at γ' d.bytes) (vptr at.0 at.1 ∷ [])) ⊛ ‵ (flft κs.0 qs.0) ⊛ ‵ (follows R the_bytes γ γ' (with_bytes d))))) (goes_out 𝓛 κs.0 qs.0 b o γ d at lie) $ await ! tt $ pick ! (λ γ'.
    split3 ! $ returns ! (look_at ! 0 refl) $ free_all ! refl $ keep ! (1 ∷ 0 ∷ 2 ∷ []) $ suffices ! _ (ends_at 𝓛 ended stayed c z (vptr at.0 at.1) (loan at γ' d.bytes) (tt, tt) (tt, tt)) $
    use2 𝓛 (raw (sep 𝓤 (sep 𝓤 (sem 𝓛 (flft κs.0 qs.0)) (emp 𝓤)) (sep 𝓤 (sem 𝓛 (fsep ftrue ftrue)) (sem 𝓛 ((MutRef (named 0) κs.0 the_bytes).own_val (loan at γ' d.bytes) (vptr at.0 at.1 ∷ []))))))
    (lends 𝓛 κs.0 qs.0 ((MutRef (named 0) κs.0 the_bytes).own_val (loan at γ' d.bytes) (vptr at.0 at.1 ∷ []))) $ frame ! $ says ! (refl, lie.1) $ done !)))))))
