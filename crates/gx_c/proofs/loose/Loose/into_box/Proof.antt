-- `into_box` gives the pointer and the heap's handle back to a box.
use Rattle.std.proofs.Common.{◌≡◌, List, [], ◌∷◌, refl}
use mir.Syntax.{Dict, Fn, a_type, dcons, dnil}
use mir.MapTy.{inst_fn}
use mir.Val.{Val}
use base.Fraction.{full_share}
use base.Fml.{Lft, Share, ftrue, flft}
use base.Logic.{SProp, ent, sep, ex}
use seplogic.Ra.Ura.{Ura}
use types.Logic.{Logic, sem}
use types.Kit.{at_ret, ‵, raw, ◌⊛◌, some, later, ◌$◌, ◌∵◌, !, qed, by, move, drop, keep, split, split3, join, fsplit, pick, show, suffices, updating, use1, await, now, done}
use types.Run.{stop, fld, of_opd, no_more, and_then, first, blocks, exec, returns, enter}
use types.ByLocal.{alloc_all, pass_all, free_all, look_at, get, get_in, sets, lands_last, env}
use types.Part.{sub, whole}
use contract.BorrowLft.{◌⊑◌}
use contract.Monad.{Fun, fact}
use contract.Running.{tables}
use denote.Builtin.{RawPtr}
use denote.Exit.{no}
use denote.Laws.{Is, shows}
use denote.Param.{bounded, param}
use denote.RattleType.{RattleType, owns}
use denote.RawPtr.{ptr_val}
use denote.Signature.{types_at, plain}
use denote.Steps.{heard, peeks}
use denote.Triple.Call.{calls_at_last}
use denote.Triple.Clauses.{Ended, Lasts}
use denote.Triple.Spec.{triple_of}
use denote.Triple.Statement.{Contract}
use denote.Triple.Table.{framed}
use denote.Triple.Walked.{Stays, stay_dropped, walk_of, ends_at}
use prog.Memory.{Memory}
use prog.Routine.{Routine}
use Rattle.std.proofs.Handle.{heap_val}
use Rattle.std.proofs.VecSteps.Shapes.{after}
use Rattle.std.proofs.alloc.Calls.{Goes-blank}
use Rattle.std.proofs.raw_atomic.Walks.{proved}
use Rattle.std.specs.contracts.alloc.Global as heap
use Rattle.std.specs.contracts.boxed.Box.from_raw as callee
use Rattle.std.specs.contracts.impls.GlobalAllocator.TheImpl.{ghosts, dict}
use Rattle.std.proofs.boxed.Box.from_raw.Met.{met}
use Rattle.std.proofs.impls.GlobalAllocator.TheImpl.Met.{passed}
use Rattle.gx_c.specs.Loose.{owns_loose}
use Rattle.gx_c.proofs.Words.{heap_arg, heap_arg_laws, Box, Loose, box_lawful, loose_parts, loose_tells, word, word_fits, pointer_fits, handle_fits}
use Rattle.gx_c.proofs.Walks.{no_drop, drops_nothing, asked, answered, gives}
use Rattle.gx_c.specs.contracts.loose.Loose.into_box.{ended, clauses}
use Rattle.gx_c.specs.contracts.loose.Loose.into_box.Key.{name as #self}
use Rattle.gx_c.proofs.loose.Loose.into_box.Statement.{statement}
use Rattle.gx_c.proofs.loose.Loose.into_box.Code as code

module _ (T : RattleType) (dx : Dict) where
  abbrev R : RattleType
  R = param 0 T

  abbrev En : Ended
  En = ended T dx

  abbrev stayed : Stays En.signature.params En.kept
  stayed = (stay_dropped (plain (λ _. Loose R)) no, tt)

  abbrev From : Ended
  From = callee.ended T heap_arg ghosts dict (no_drop heap_arg)

  module _ {M : Type 1} {𝓤 : Ura M} (𝓛 : Logic 𝓤) (at_mem : Memory → SProp 𝓤) (run : Routine → Fun 𝓤) where
    open 𝓛 use {H}

    abbrev Made : Contract 𝓤
    Made = triple_of 𝓛 From.signature (callee.spec T heap_arg ghosts dict (no_drop heap_arg) 𝓛 at_mem run)

    abbrev of_loose : Lft → Share → (Loose R).Denot → Made.Ghost
    of_loose κ q d = (((κ, ([], tt)), (q, (full_share, tt)), tt, (d.alloc, (d.at, tt)), (heap_val ∷ [], (ptr_val d.at ∷ [], tt))), d.value)

    -- what is made is a box of what lay behind the pointer
    box_is_made : (κ : Lft) (q : Share) (d : (Loose R).Denot) (u : Val)
        → ent 𝓤 (Made.post (of_loose κ q d) u) (H.⇛ (ex 𝓤 (λ (r : (Box R).Denot). sep 𝓤 (sem 𝓛 (flft κ q)) (sep 𝓤 (sem 𝓛 ((Box R).own_val r (u ∷ []))) (fact 𝓤 (r.value ≡ d.value))))))
    box_is_made κ q d u =
        qed 𝓛 (raw (Made.post (of_loose κ q d) u) ∷ []) ∵ updating ! $
        use1 𝓛 (later (some (λ (r : (Box R).Denot). (‵ (flft κ q) ⊛ ‵ (flft [] full_share) ⊛ ‵ ftrue) ⊛ ‵ ((Box R).own_val r (u ∷ []))
        ⊛ some (λ (_ : Lasts From (of_loose κ q d).0.0 (of_loose κ q d).0.3). raw (fact 𝓤 (r.value ≡ d.value)) ⊛ raw (fact 𝓤 (r.alloc ≡ d.alloc))))))
        (answered 𝓛 From (callee.clauses T heap_arg ghosts dict (no_drop heap_arg) 𝓛 at_mem run) (of_loose κ q d) u) $ await ! tt $
        -- [the value; the allocator; the tokens; the box]
        pick ! (λ r. split3 ! $ move ! (2 ∷ []) $ pick ! (λ _. split ! $ move ! (2 ∷ []) $ split ! $ keep ! (0 ∷ 4 ∷ 2 ∷ []) $ now ! $
        show ! (λ (r : (Box R).Denot). sep 𝓤 (sem 𝓛 (flft κ q)) (sep 𝓤 (sem 𝓛 ((Box R).own_val r (u ∷ []))) (fact 𝓤 (r.value ≡ d.value)))) r $ done !))

pub into_box_spec : {M : Type 1} → statement M
into_box_spec {M = M} 𝓤 𝓛 𝓜 𝓡 wired T L dx glue =
    let c = clauses T dx 𝓛 𝓜.mem 𝓡.returns in let B = Box (param 0 T) in let 𝓣 = tables 𝓤 𝓛.H 𝓜 𝓡 𝓡.env in
    let fn : Fn = inst_fn (bounded (a_type ∷ []) (T, tt) (dcons dx dnil)) code.function in
    proved 𝓛 (En T dx) (stayed T dx) c 𝓜 𝓡 (Goes-blank 𝓛 1 (plain (λ _. Loose (param 0 T))) no (λ κs x f. tt), tt) (#self (bounded (a_type ∷ []) (T, tt) (dcons dx dnil))) fn (code.unfolded 𝓤 𝓛.H 𝓜 𝓡 wired (T, tt) dx)
    (λ κs. ((λ d. word d.at ∷ []), tt)) (λ κs. (loose_tells (param 0 T), tt)) (λ κs qs bounds a g are.
    let d = a.0 in let vs : List Val × Unit {0} = (word d.at ∷ [], tt) in let z : (walk_of 𝓛 (En T dx) (stayed T dx) c).Ghost = ((κs, qs, bounds, a, vs), g) in
    let Post : Val → SProp 𝓤 = (walk_of 𝓛 (En T dx) (stayed T dx) c).post z in let calls = Made T dx 𝓛 𝓜.mem 𝓡.returns in
    let parts = owns (heap.the_row ∷ RawPtr ∷ []) (d.alloc, (d.at, tt)) (heap_val ∷ [], (ptr_val d.at ∷ [], tt)) in
    qed 𝓛 (((‵ (flft κs.0 qs.0) ⊛ ‵ ftrue) ⊛ ‵ (owns (types_at (En T dx).signature.params κs) a vs)) ∷ (raw (fact 𝓤 (κs.0 ⊑ T.lives)) ⊛ ‵ ftrue) ∷ []) ∵
    split ! $ split ! $ move ! (1 ∷ []) $ drop ! $ move ! (1 ∷ []) $ fsplit ! $
    use1 𝓛 (‵ parts ⊛ ‵ (owns_loose (param 0 T) d.alloc d.at d.value)) (loose_parts (param 0 T) 𝓛 d (word d.at ∷ [])) $ split ! $
    -- [the parts; what lies behind the pointer; nothing; the token; that the type lives]
    move ! (4 ∷ []) $ split ! $ move ! (1 ∷ []) $ drop ! $ move ! (0 ∷ 2 ∷ []) $ join ! $ move ! (1 ∷ 0 ∷ []) $ join ! $ move ! (2 ∷ 0 ∷ []) $ join ! $
    use1 𝓛 (raw (calls.pre (of_loose T dx 𝓛 𝓜.mem 𝓡.returns κs.0 qs.0 d))) (asked 𝓛 κs.0 qs.0 T parts (sem 𝓛 (owns_loose (param 0 T) d.alloc d.at d.value))) $
    enter ! 𝓣.C 𝓣.Λ fn (word d.at ∷ []) Post $ alloc_all ! (λ l. pass_all ! refl (word_fits d.at, tt) $ let Ev = env fn.locals l in
    sets ! (of_opd ! (get_in ! (fld ! refl (stop !)) (sub ! 0 refl (whole !)))) refl (pointer_fits d.at) $
    sets ! (of_opd ! (get_in ! (fld ! refl (stop !)) (sub ! 1 refl (whole !)))) refl handle_fits $ first ! $ blocks ! $
    calls_at_last ! (framed 𝓤 𝓛.H 𝓜 𝓣) calls
    (met 𝓤 𝓛 𝓜 𝓡 (code.calls-std_alloc::boxed::Box::from_raw 𝓡.env wired) T heap_arg L heap_arg_laws ghosts dict (no_drop heap_arg)
    (passed 𝓡.env (code.calls-std_heap::GlobalAllocator::allocate 𝓡.env wired) (code.calls-std_heap::GlobalAllocator::deallocate 𝓡.env wired) (code.calls-std_heap::GlobalAllocator::grow 𝓡.env wired) (code.calls-std_heap::GlobalAllocator::shrink 𝓡.env wired) M 𝓤 𝓛 𝓜 𝓡)
    (drops_nothing 𝓡.env (code.calls-gx_c::Destruct++none::drop 𝓡.env wired) heap_arg heap_arg_laws M 𝓤 𝓛 𝓜 𝓡)) (of_loose T dx 𝓛 𝓜.mem 𝓡.returns κs.0 qs.0 d) (and_then ! (get ! refl) (and_then ! (get ! refl) (no_more !))) (λ u.
    use1 𝓛 (later (some (λ (r : B.Denot). ‵ (flft κs.0 qs.0) ⊛ ‵ (B.own_val r (u ∷ [])) ⊛ raw (fact 𝓤 (r.value ≡ d.value))))) (box_is_made T dx 𝓛 𝓜.mem 𝓡.returns κs.0 qs.0 d u) $ await ! tt $
    pick ! (λ r. split3 ! $ move ! (2 ∷ []) $ heard ! (r.value ≡ d.value) (λ same. move ! (1 ∷ []) $ peeks ! B (Is B) (shows 𝓛 B) r (u ∷ []) (λ is.
    -- [the box; the token]
    let fits = ((box_lawful (param 0 T) 𝓛).typed r (u ∷ []) is).0 in
    lands_last ! refl fits $ exec ! 𝓣.C 𝓣.Λ Ev (after 3 fn.body) (at_ret Ev Post) $
    sets ! (of_opd ! (get ! refl)) refl fits $ returns ! (look_at ! 0 refl) $ free_all ! refl $
    keep ! (1 ∷ 0 ∷ []) $ suffices ! _ (ends_at 𝓛 (En T dx) (stayed T dx) c z u r (tt, tt) (tt, tt)) $ by ! (gives 𝓛 κs.0 qs.0 (B.own_val r (u ∷ [])) same)))))))
