-- `into_box` gives the pointer and the handle back to a box.
use Rattle.std.proofs.Common.{◌≡◌, List, [], ◌∷◌, refl}
use seplogic.Ra.Ura.{Ura}
use mir.Val.{Val}
use base.Fraction.{full_share}
use base.Logic.{SProp, ent, sep, ex}
use base.Fml.{ftrue}
use prog.Memory.{Memory}
use prog.Routine.{Routine}
use types.Logic.{Logic, sem}
use types.Kit.{at_ret, ‵, raw, ◌⊛◌, some, later, ◌$◌, ◌∵◌, !, qed, by, move, drop, keep, split, fsplit, pick, show, suffices, updating, use1, use2, await, now, done}
use types.Run.{stop, fld, of_opd, no_more, and_then, first, blocks, exec, returns, enter}
use types.ByLocal.{alloc_all, pass_all, free_all, look_at, get, get_in, sets, lands_last, env}
use types.Part.{sub, whole}
use contract.Monad.{Fun, fact}
use contract.Running.{tables}
use denote.Builtin.{RawPtr}
use denote.Exit.{yes}
use denote.Laws.{Is, shows}
use denote.RattleType.{owns}
use denote.RawPtr.{ptr_val}
use denote.Signature.{types_at, plain}
use denote.Steps.{heard, peeks}
use denote.Triple.Call.{calls_at_last}
use denote.Triple.Clauses.{Ended, Lasts}
use denote.Triple.Spec.{triple_of}
use denote.Triple.Statement.{Contract}
use denote.Triple.Table.{framed}
use denote.Triple.Walked.{Stays, stay_dropped, walk_of, ends_at, Goes-dropped}
use Rattle.std.proofs.Handle.{heap_val}
use Rattle.std.proofs.VecSteps.Shapes.{after}
use Rattle.std.proofs.raw_atomic.Walks.{proved}
use Rattle.std.specs.contracts.alloc.Global as heap
use Rattle.std.specs.contracts.boxed.Box.from_raw as callee
use Rattle.std.specs.contracts.impls.GlobalAllocator.TheImpl.{ghosts, dict}
use Rattle.std.proofs.boxed.Box.from_raw.Met.{met}
use Rattle.std.proofs.impls.GlobalAllocator.TheImpl.Met.{passed}
use Rattle.gx_page.specs.Ownership.{block_owns}
use Rattle.gx_page.proofs.block.Memory.{bytes_arg, bytes_arg_laws, heap_arg, heap_arg_laws, box_row, box_lawful, block_tells, block_parts, word, word_fits, pointer_fits, handle_fits}
use Rattle.gx_page.proofs.block.Walks.{no_drop, drops_nothing, asked, answered, ends_with}
use Rattle.gx_page.specs.contracts.block.Block as block
use Rattle.gx_page.specs.contracts.block.Block.into_box.{ended, clauses}
use Rattle.gx_page.specs.contracts.block.Block.into_box.Key.{name as #self}
use Rattle.gx_page.proofs.block.Block.into_box.Statement.{statement}
use Rattle.gx_page.proofs.block.Block.into_box.Code as code

abbrev stayed : Stays ended.signature.params ended.kept
stayed = (stay_dropped (plain (λ _. block.the_row)) yes, tt)

abbrev From : Ended
From = callee.ended bytes_arg heap_arg ghosts dict (no_drop heap_arg)

module _ {M : Type 1} {𝓤 : Ura M} (𝓛 : Logic 𝓤) (at_mem : Memory → SProp 𝓤) (run : Routine → Fun 𝓤) where
  open 𝓛 use {H}

  abbrev Made : Contract 𝓤
  Made = triple_of 𝓛 From.signature (callee.spec bytes_arg heap_arg ghosts dict (no_drop heap_arg) 𝓛 at_mem run)

  abbrev of_block : block.the_row.Denot → Made.Ghost
  of_block d = ((([], ([], tt)), (full_share, (full_share, tt)), tt, (d.alloc, (d.at, tt)), (heap_val ∷ [], (ptr_val d.at ∷ [], tt))), d.bytes)

  -- what is made is a box of the block's bytes
  box_is_made : (d : block.the_row.Denot) (u : Val)
      → ent 𝓤 (Made.post (of_block d) u) (H.⇛ (ex 𝓤 (λ (r : box_row.Denot). sep 𝓤 (sem 𝓛 (box_row.own_val r (u ∷ []))) (fact 𝓤 (r.value ≡ d.bytes)))))
  box_is_made d u =
      qed 𝓛 (raw (Made.post (of_block d) u) ∷ []) ∵ updating ! $
      use1 𝓛 (later (some (λ (r : box_row.Denot). ‵ (box_row.own_val r (u ∷ [])) ⊛ some (λ (_ : Lasts From (of_block d).0.0 (of_block d).0.3). raw (fact 𝓤 (r.value ≡ d.bytes)) ⊛ raw (fact 𝓤 (r.alloc ≡ d.alloc))))))
      (answered 𝓛 From (callee.clauses bytes_arg heap_arg ghosts dict (no_drop heap_arg) 𝓛 at_mem run) (of_block d) u) $ await ! tt $
      pick ! (λ r. split ! $ move ! (1 ∷ []) $ pick ! (λ _. split ! $ keep ! (2 ∷ 0 ∷ []) $ now ! $
      show ! (λ (r : box_row.Denot). sep 𝓤 (sem 𝓛 (box_row.own_val r (u ∷ []))) (fact 𝓤 (r.value ≡ d.bytes))) r $ done !))

pub into_box_spec : {M : Type 1} → statement M
into_box_spec {M = M} 𝓤 𝓛 𝓜 𝓡 wired =
    let c = clauses 𝓛 𝓜.mem 𝓡.returns in let B = box_row in let 𝓣 = tables 𝓤 𝓛.H 𝓜 𝓡 𝓡.env in
    proved 𝓛 ended stayed c 𝓜 𝓡 (Goes-dropped 𝓛 0 (plain (λ _. block.the_row)) yes (λ κs x f. refl), tt) #self code.function (code.unfolded 𝓤 𝓛.H 𝓜 𝓡 wired)
    (λ κs. ((λ d. word d.at ∷ []), tt)) (λ κs. (block_tells, tt)) (λ κs qs bounds a g are.
    let d = a.0 in let vs : List Val × Unit {0} = (word d.at ∷ [], tt) in let z : (walk_of 𝓛 ended stayed c).Ghost = ((κs, qs, bounds, a, vs), g) in
    let Post : Val → SProp 𝓤 = (walk_of 𝓛 ended stayed c).post z in let calls = Made 𝓛 𝓜.mem 𝓡.returns in let parts = owns (heap.the_row ∷ RawPtr ∷ []) (d.alloc, (d.at, tt)) (heap_val ∷ [], (ptr_val d.at ∷ [], tt)) in
    qed 𝓛 ((‵ ftrue ⊛ ‵ (owns (types_at ended.signature.params κs) a vs)) ∷ ‵ ftrue ∷ []) ∵ split ! $ drop ! $ fsplit ! $
    -- the block's parts are all that the call asks for
    use1 𝓛 (‵ parts ⊛ ‵ (block_owns d.alloc d.at d.bytes)) (block_parts 𝓛 d (word d.at ∷ [])) $ split ! $
    use2 𝓛 (raw (calls.pre (of_block 𝓛 𝓜.mem 𝓡.returns d))) (asked 𝓛 parts (sem 𝓛 (block_owns d.alloc d.at d.bytes))) $
    enter ! 𝓣.C 𝓣.Λ code.function (word d.at ∷ []) Post $ alloc_all ! (λ l. pass_all ! refl (word_fits d.at, tt) $ let Ev = env code.function.locals l in
    sets ! (of_opd ! (get_in ! (fld ! refl (stop !)) (sub ! 0 refl (whole !)))) refl (pointer_fits d.at) $
    sets ! (of_opd ! (get_in ! (fld ! refl (stop !)) (sub ! 1 refl (whole !)))) refl handle_fits $ first ! $ blocks ! $
    calls_at_last ! (framed 𝓤 𝓛.H 𝓜 𝓣) calls
    (met 𝓤 𝓛 𝓜 𝓡 (code.calls-std_alloc::boxed::Box::from_raw 𝓡.env wired) bytes_arg heap_arg bytes_arg_laws heap_arg_laws ghosts dict (no_drop heap_arg)
    (passed 𝓡.env (code.calls-std_heap::GlobalAllocator::allocate 𝓡.env wired) (code.calls-std_heap::GlobalAllocator::deallocate 𝓡.env wired) (code.calls-std_heap::GlobalAllocator::grow 𝓡.env wired) (code.calls-std_heap::GlobalAllocator::shrink 𝓡.env wired) M 𝓤 𝓛 𝓜 𝓡)
    (drops_nothing 𝓡.env (code.calls-gx_page::Destruct++none::drop 𝓡.env wired) heap_arg heap_arg_laws M 𝓤 𝓛 𝓜 𝓡)) (of_block 𝓛 𝓜.mem 𝓡.returns d) (and_then ! (get ! refl) (and_then ! (get ! refl) (no_more !))) (λ u.
    use1 𝓛 (later (some (λ (r : B.Denot). ‵ (B.own_val r (u ∷ [])) ⊛ raw (fact 𝓤 (r.value ≡ d.bytes))))) (box_is_made 𝓛 𝓜.mem 𝓡.returns d u) $ await ! tt $
    pick ! (λ r. split ! $ move ! (1 ∷ []) $ heard ! (r.value ≡ d.bytes) (λ same. peeks ! B (Is B) (shows 𝓛 B) r (u ∷ []) (λ is.
    -- the box is the block's value, and then the result
    let fits = ((box_lawful 𝓛).typed r (u ∷ []) is).0 in
    lands_last ! refl fits $ exec ! 𝓣.C 𝓣.Λ Ev (after 3 code.function.body) (at_ret Ev Post) $
    sets ! (of_opd ! (get ! refl)) refl fits $ returns ! (look_at ! 0 refl) $ free_all ! refl $
    keep ! (0 ∷ []) $ suffices ! _ (ends_at 𝓛 ended stayed c z u r (tt, tt) (tt, tt)) $ by ! (ends_with 𝓛 (B.own_val r (u ∷ [])) same)))))))
