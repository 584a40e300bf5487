-- `of` takes the box apart and keeps its pointer and the heap's handle.
use Rattle.std.proofs.Common.{◌≡◌, List, [], ◌∷◌, refl, ap}
use mir.Syntax.{Dict, Fn, a_type, dcons, dnil}
use mir.MapTy.{inst_fn}
use mir.Val.{Val}
use base.Fraction.{full_share}
use base.Fml.{Lft, Share, ftrue, flft}
use base.Logic.{SProp, ent, sep, emp, ex}
use seplogic.Ra.Ura.{Ura}
use types.Logic.{Logic, sem}
use types.Kit.{‵, raw, ◌⊛◌, some, later, ◌$◌, ◌∵◌, !, qed, by, move, drop, keep, split, split3, join, fjoin, pick, show, suffices, updating, use1, await, now, rewrite, done}
use types.Run.{stop, fld, of_opd, no_more, and_then, returns, enter}
use types.ByLocal.{alloc_all, pass_all, free_all, look_at, get, get_in, sets, lands_as}
use types.Part.{agg, sub, whole}
use contract.BorrowLft.{◌⊑◌}
use contract.Monad.{Fun, fact}
use contract.Running.{tables}
use denote.Builtin.{RawPtr}
use denote.Exit.{no}
use denote.Laws.{Is, shows}
use denote.Param.{bounded, param}
use denote.RattleType.{RattleType, owns}
use denote.RawPtr.{Ptr}
use denote.Signature.{types_at, plain}
use denote.Steps.{only, heard, peeks}
use denote.Struct.Tuple.{Tuple}
use denote.Triple.Call.{calls_at}
use denote.Triple.Clauses.{Ended, Lasts}
use denote.Triple.Spec.{triple_of}
use denote.Triple.Statement.{Contract}
use denote.Triple.Table.{framed}
use denote.Triple.Walked.{Stays, stay_dropped, ends_at}
use prog.Memory.{Memory}
use prog.Routine.{Routine}
use Rattle.std.proofs.alloc.Calls.{Goes-blank}
use Rattle.std.proofs.raw_atomic.Walks.{proved}
use Rattle.std.specs.contracts.alloc.Global as heap
use Rattle.std.specs.contracts.boxed.Box.into_raw_with_allocator as callee
use Rattle.std.specs.contracts.impls.GlobalAllocator.TheImpl.{ghosts, dict}
use Rattle.std.specs.declared.alloc.Global.{Global}
use Rattle.std.proofs.boxed.Box.into_raw_with_allocator.Met.{met}
use Rattle.std.proofs.impls.GlobalAllocator.TheImpl.Met.{passed}
use Rattle.gx_c.specs.Loose.{owns_loose}
use Rattle.gx_c.proofs.Words.{heap_arg, heap_arg_laws, Box, Loose, box_tells, loose_tells, word, word_fits, pointer_fits, handle_fits}
use Rattle.gx_c.proofs.Walks.{no_drop, drops_nothing, asked, answered, gives}
use Rattle.gx_c.specs.contracts.loose.Loose.of.{ended, clauses}
use Rattle.gx_c.specs.contracts.loose.Loose.of.Key.{name as #self}
use Rattle.gx_c.proofs.loose.Loose.of.Statement.{statement}
use Rattle.gx_c.proofs.loose.Loose.of.Code as code

module _ (T : RattleType) (dx : Dict) where
  abbrev R : RattleType
  R = param 0 T

  abbrev En : Ended
  En = ended T dx

  abbrev stayed : Stays En.signature.params En.kept
  stayed = (stay_dropped (plain (λ _. Box R)) no, tt)

  -- the pointer of a box, where the call passes it
  abbrev loose_of : (Box R).Denot → Ptr → (Loose R).Denot
  loose_of v p = record { at = p; alloc = v.alloc; value = v.value }

  abbrev To : Ended
  To = callee.ended T heap_arg ghosts dict (no_drop heap_arg) dx

  module _ {M : Type 1} {𝓤 : Ura M} (𝓛 : Logic 𝓤) (at_mem : Memory → SProp 𝓤) (run : Routine → Fun 𝓤) where
    open 𝓛 use {H}

    abbrev Apart : Contract 𝓤
    Apart = triple_of 𝓛 To.signature (callee.spec T heap_arg ghosts dict (no_drop heap_arg) dx 𝓛 at_mem run)

    abbrev at_box : Lft → Share → (Box R).Denot → Apart.Ghost
    at_box κ q v = (((κ, ([], tt)), (q, (full_share, tt)), tt, (v, tt), (word v.ptr ∷ [], tt)), tt)

    -- a box taken apart is its pointer: the pair has the same word, and what the call ensures is what the pointer owns
    apart_is_loose : (κ : Lft) (q : Share) (v : (Box R).Denot) (u : Val)
        → ent 𝓤 (Apart.post (at_box κ q v) u) (H.⇛ (ex 𝓤 (λ (p : Ptr). sep 𝓤 (sem 𝓛 (flft κ q)) (sem 𝓛 ((Loose R).own_val (loose_of v p) (u ∷ []))))))
    apart_is_loose κ q v u =
        qed 𝓛 (raw (Apart.post (at_box κ q v) u) ∷ []) ∵ updating ! $
        use1 𝓛 (later (some (λ (r : Ptr × Global). (‵ (flft κ q) ⊛ ‵ (flft [] full_share) ⊛ ‵ ftrue) ⊛ ‵ ((Tuple (RawPtr ∷ heap.the_row ∷ [])).own_val r (u ∷ []))
        ⊛ some (λ (_ : Lasts To (at_box κ q v).0.0 (at_box κ q v).0.3). raw (fact 𝓤 (r.1 ≡ v.alloc)) ⊛ ‵ (owns_loose R v.alloc r.0 v.value)))))
        (answered 𝓛 To (callee.clauses T heap_arg ghosts dict (no_drop heap_arg) dx 𝓛 at_mem run) (at_box κ q v) u) $ await ! tt $
        pick ! (λ r. split3 ! $ move ! (2 ∷ []) $ pick ! (λ _. split ! $ heard ! (r.1 ≡ v.alloc) (λ same.
        -- [what lies at the pointer; the tokens; the pair]
        move ! (2 ∷ []) $ rewrite ! 0 (λ (h : Global). ‵ ((Tuple (RawPtr ∷ heap.the_row ∷ [])).own_val (r.0, h) (u ∷ []))) same refl $ fjoin ! $ move ! (1 ∷ []) $ split ! $ keep ! (0 ∷ 2 ∷ []) $ now ! $
        show ! (λ (p : Ptr). sep 𝓤 (sem 𝓛 (flft κ q)) (sem 𝓛 ((Loose R).own_val (loose_of v p) (u ∷ [])))) r.0 $ done !)))

pub of_spec : {M : Type 1} → statement M
of_spec {M = M} 𝓤 𝓛 𝓜 𝓡 wired T L dx glue =
    let c = clauses T dx 𝓛 𝓜.mem 𝓡.returns in let L' = Loose (param 0 T) in let fn : Fn = inst_fn (bounded (a_type ∷ []) (T, tt) (dcons dx dnil)) code.function in
    proved 𝓛 (En T dx) (stayed T dx) c 𝓜 𝓡 (Goes-blank 𝓛 1 (plain (λ _. Box (param 0 T))) no (λ κs x f. tt), tt) (#self (bounded (a_type ∷ []) (T, tt) (dcons dx dnil))) fn (code.unfolded 𝓤 𝓛.H 𝓜 𝓡 wired (T, tt) dx)
    (λ κs. ((λ v. word v.ptr ∷ []), tt)) (λ κs. (box_tells (param 0 T), tt)) (λ κs qs bounds a g are.
    let v = a.0 in let vs : List Val × Unit {0} = (word v.ptr ∷ [], tt) in let calls = Apart T dx 𝓛 𝓜.mem 𝓡.returns in
    let mine = owns (types_at (En T dx).signature.params κs) a vs in
    qed 𝓛 (((‵ (flft κs.0 qs.0) ⊛ ‵ ftrue) ⊛ ‵ mine) ∷ (raw (fact 𝓤 (κs.0 ⊑ T.lives)) ⊛ ‵ ftrue) ∷ []) ∵ split ! $ split ! $ move ! (1 ∷ []) $ drop ! $
    -- [the token; the box; that the type lives]
    move ! (2 ∷ []) $ move ! (2 ∷ 0 ∷ []) $ join ! $ move ! (1 ∷ 0 ∷ []) $ join ! $
    use1 𝓛 (raw (calls.pre (at_box T dx 𝓛 𝓜.mem 𝓡.returns κs.0 qs.0 v))) (asked 𝓛 κs.0 qs.0 T mine (emp 𝓤)) $
    enter ! _ _ _ _ _ $ alloc_all ! (λ l. pass_all ! refl (word_fits v.ptr, tt) $ sets ! (of_opd ! (get ! refl)) refl (word_fits v.ptr) $
    calls_at ! (framed 𝓤 𝓛.H 𝓜 (tables 𝓤 𝓛.H 𝓜 𝓡 𝓡.env)) calls
    (met 𝓤 𝓛 𝓜 𝓡 (code.calls-std_alloc::boxed::Box::into_raw_with_allocator 𝓡.env wired) T heap_arg L heap_arg_laws ghosts dict (no_drop heap_arg) dx
    (passed 𝓡.env (code.calls-std_heap::GlobalAllocator::allocate 𝓡.env wired) (code.calls-std_heap::GlobalAllocator::deallocate 𝓡.env wired) (code.calls-std_heap::GlobalAllocator::grow 𝓡.env wired) (code.calls-std_heap::GlobalAllocator::shrink 𝓡.env wired) M 𝓤 𝓛 𝓜 𝓡)
    (drops_nothing 𝓡.env (code.calls-gx_c::Destruct++none::drop 𝓡.env wired) heap_arg heap_arg_laws M 𝓤 𝓛 𝓜 𝓡)
    glue) (at_box T dx 𝓛 𝓜.mem 𝓡.returns κs.0 qs.0 v) (and_then ! (get ! refl) (no_more !)) (λ u.
    use1 𝓛 (later (some (λ (p : Ptr). ‵ (flft κs.0 qs.0) ⊛ ‵ (L'.own_val (loose_of T dx v p) (u ∷ []))))) (apart_is_loose T dx 𝓛 𝓜.mem 𝓡.returns κs.0 qs.0 v u) $ await ! tt $
    pick ! (λ p. split ! $ move ! (1 ∷ []) $ let d = loose_of T dx v p in peeks ! L' (Is L') (shows 𝓛 L') d (u ∷ []) (λ is. let told = loose_tells (param 0 T) d (u ∷ []) is in
    rewrite ! 0 (λ (us : List Val). ‵ (L'.own_val d us)) told refl $ lands_as ! (ap only told) refl (word_fits p) $
    -- the pair's two fields, and the pointer of them
    sets ! (of_opd ! (get_in ! (fld ! refl (stop !)) (sub ! 0 refl (whole !)))) refl (pointer_fits p) $
    sets ! (of_opd ! (get_in ! (fld ! refl (stop !)) (sub ! 1 refl (whole !)))) refl handle_fits $
    sets ! (agg ! (and_then ! (get ! refl) (and_then ! (get ! refl) (no_more !)))) refl (word_fits p) $ returns ! (look_at ! 0 refl) $ free_all ! refl $
    -- the pointer is the result
    keep ! (1 ∷ 0 ∷ []) $ suffices ! _ (ends_at 𝓛 (En T dx) (stayed T dx) c ((κs, qs, bounds, a, vs), g) (word p) d (tt, tt) (tt, tt)) $ by ! (gives 𝓛 κs.0 qs.0 (L'.own_val d (word p ∷ [])) refl))))))
