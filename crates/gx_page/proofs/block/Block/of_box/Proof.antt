-- `of_box` takes the box apart and keeps its pointer and its handle.
use Rattle.std.proofs.Common.{◌≡◌, List, [], ◌∷◌, refl, ap}
use mir.Val.{Val}
use base.Fraction.{full_share}
use base.Logic.{SProp, ent, emp, ex}
use base.Fml.{ftrue}
use seplogic.Ra.Ura.{Ura}
use types.Logic.{Logic, sem}
use types.Kit.{‵, raw, ◌⊛◌, some, later, ◌$◌, ◌∵◌, !, qed, by, move, drop, keep, split, fjoin, pick, show, suffices, updating, use1, use2, await, now, rewrite, done}
use types.Run.{stop, fld, of_opd, no_more, and_then, returns, enter}
use types.ByLocal.{alloc_all, pass_all, free_all, look_at, get, get_in, sets, lands_as}
use types.Part.{agg, sub, whole}
use contract.Monad.{fact}
use contract.Running.{tables}
use denote.Builtin.{RawPtr}
use denote.Exit.{yes}
use denote.Laws.{Is, shows}
use denote.RattleType.{owns}
use denote.RawPtr.{Ptr}
use denote.Signature.{types_at, plain}
use denote.Steps.{only, heard, peeks}
use denote.Struct.Tuple.{Tuple}
use denote.Triple.Call.{calls_at}
use denote.Triple.Clauses.{Ended, Lasts}
use denote.Triple.Spec.{triple_of}
use denote.Triple.Statement.{Contract}
use denote.Triple.Table.{framed}
use denote.Triple.Walked.{Stays, stay_dropped, ends_at, Goes-dropped}
use prog.Memory.{Memory}
use prog.Routine.{Routine}
use contract.Monad.{Fun}
use Rattle.std.proofs.raw_atomic.Walks.{proved}
use Rattle.std.specs.contracts.alloc.Global as heap
use Rattle.std.specs.contracts.boxed.Box.into_raw_with_allocator as callee
use Rattle.std.specs.contracts.impls.GlobalAllocator.TheImpl.{ghosts, dict}
use Rattle.std.specs.declared.alloc.Global.{Global}
use Rattle.std.proofs.boxed.Box.into_raw_with_allocator.Met.{met}
use Rattle.std.proofs.impls.GlobalAllocator.TheImpl.Met.{passed}
use Rattle.gx_page.specs.Ownership.{block_owns}
use Rattle.gx_page.proofs.block.Memory.{bytes_arg, bytes_arg_laws, heap_arg, heap_arg_laws, box_row, box_tells, block_tells, word, word_fits, pointer_fits, handle_fits}
use Rattle.gx_page.proofs.block.Walks.{no_drop, drops_nothing, asked, answered, ends_with}
use Rattle.gx_page.specs.contracts.block.Block as block
use Rattle.gx_page.specs.contracts.block.Block.of_box.{ended, clauses}
use Rattle.gx_page.specs.contracts.block.Block.of_box.Key.{name as #self}
use Rattle.gx_page.proofs.block.Block.of_box.Statement.{statement}
use Rattle.gx_page.proofs.block.Block.of_box.Code as code

abbrev stayed : Stays ended.signature.params ended.kept
stayed = (stay_dropped (plain (λ _. box_row)) yes, tt)

-- the block of a box, at the pointer that the call passes
abbrev block_of : box_row.Denot → Ptr → block.the_row.Denot
block_of v p = record { at = p; alloc = v.alloc; bytes = v.value }

abbrev To : Ended
To = callee.ended bytes_arg heap_arg ghosts dict (no_drop heap_arg) (no_drop bytes_arg)

module _ {M : Type 1} {𝓤 : Ura M} (𝓛 : Logic 𝓤) (at_mem : Memory → SProp 𝓤) (run : Routine → Fun 𝓤) where
  open 𝓛 use {H}

  abbrev Apart : Contract 𝓤
  Apart = triple_of 𝓛 To.signature (callee.spec bytes_arg heap_arg ghosts dict (no_drop heap_arg) (no_drop bytes_arg) 𝓛 at_mem run)

  abbrev at_box : box_row.Denot → Apart.Ghost
  at_box v = ((([], ([], tt)), (full_share, (full_share, tt)), tt, (v, tt), (word v.ptr ∷ [], tt)), tt)

  -- a box taken apart is a block: the pair has the same word, and what the call ensures is what a block owns
  apart_is_block : (v : box_row.Denot) (u : Val) → ent 𝓤 (Apart.post (at_box v) u) (H.⇛ (ex 𝓤 (λ (p : Ptr). sem 𝓛 (block.the_row.own_val (block_of v p) (u ∷ [])))))
  apart_is_block v u =
      qed 𝓛 (raw (Apart.post (at_box v) u) ∷ []) ∵ updating ! $
      use1 𝓛 (later (some (λ (r : Ptr × Global). ‵ ((Tuple (RawPtr ∷ heap.the_row ∷ [])).own_val r (u ∷ [])) ⊛ some (λ (_ : Lasts To (at_box v).0.0 (at_box v).0.3). raw (fact 𝓤 (r.1 ≡ v.alloc)) ⊛ ‵ (block_owns v.alloc r.0 v.value)))))
      (answered 𝓛 To (callee.clauses bytes_arg heap_arg ghosts dict (no_drop heap_arg) (no_drop bytes_arg) 𝓛 at_mem run) (at_box v) u) $ await ! tt $
      pick ! (λ r. split ! $ move ! (1 ∷ []) $ pick ! (λ _. split ! $ heard ! (r.1 ≡ v.alloc) (λ same.
      -- [what lies at the pointer; the pair]
      move ! (1 ∷ []) $ rewrite ! 0 (λ (h : Global). ‵ ((Tuple (RawPtr ∷ heap.the_row ∷ [])).own_val (r.0, h) (u ∷ []))) same refl $ fjoin ! $ now ! $
      show ! (λ (p : Ptr). sem 𝓛 (block.the_row.own_val (block_of v p) (u ∷ []))) r.0 $ done !)))

pub of_box_spec : {M : Type 1} → statement M
of_box_spec {M = M} 𝓤 𝓛 𝓜 𝓡 wired =
    let c = clauses 𝓛 𝓜.mem 𝓡.returns in let R = block.the_row in
    proved 𝓛 ended stayed c 𝓜 𝓡 (Goes-dropped 𝓛 0 (plain (λ _. box_row)) yes (λ κs x f. refl), tt) #self code.function (code.unfolded 𝓤 𝓛.H 𝓜 𝓡 wired)
    (λ κs. ((λ v. word v.ptr ∷ []), tt)) (λ κs. (box_tells, tt)) (λ κs qs bounds a g are.
    let v = a.0 in let vs : List Val × Unit {0} = (word v.ptr ∷ [], tt) in let calls = Apart 𝓛 𝓜.mem 𝓡.returns in
    let mine = owns (types_at ended.signature.params κs) a vs in
    qed 𝓛 ((‵ ftrue ⊛ ‵ mine) ∷ ‵ ftrue ∷ []) ∵ split ! $ drop ! $
    -- the box is all that the call asks for
    use2 𝓛 (raw (calls.pre (at_box 𝓛 𝓜.mem 𝓡.returns v))) (asked 𝓛 mine (emp 𝓤)) $
    enter ! _ _ _ _ _ $ alloc_all ! (λ l. pass_all ! refl (word_fits v.ptr, tt) $ sets ! (of_opd ! (get ! refl)) refl (word_fits v.ptr) $
    calls_at ! (framed 𝓤 𝓛.H 𝓜 (tables 𝓤 𝓛.H 𝓜 𝓡 𝓡.env)) calls
    (met 𝓤 𝓛 𝓜 𝓡 (code.calls-std_alloc::boxed::Box::into_raw_with_allocator 𝓡.env wired) bytes_arg heap_arg bytes_arg_laws heap_arg_laws ghosts dict (no_drop heap_arg) (no_drop bytes_arg)
    (passed 𝓡.env (code.calls-std_heap::GlobalAllocator::allocate 𝓡.env wired) (code.calls-std_heap::GlobalAllocator::deallocate 𝓡.env wired) (code.calls-std_heap::GlobalAllocator::grow 𝓡.env wired) (code.calls-std_heap::GlobalAllocator::shrink 𝓡.env wired) M 𝓤 𝓛 𝓜 𝓡)
    (drops_nothing 𝓡.env (code.calls-gx_page::Destruct++none::drop 𝓡.env wired) heap_arg heap_arg_laws M 𝓤 𝓛 𝓜 𝓡)
    (drops_nothing 𝓡.env (code.calls-gx_page::Destruct++none::drop 𝓡.env wired) bytes_arg bytes_arg_laws M 𝓤 𝓛 𝓜 𝓡)) (at_box 𝓛 𝓜.mem 𝓡.returns v) (and_then ! (get ! refl) (no_more !)) (λ u.
    use1 𝓛 (later (some (λ (p : Ptr). ‵ (R.own_val (block_of v p) (u ∷ []))))) (apart_is_block 𝓛 𝓜.mem 𝓡.returns v u) $ await ! tt $
    pick ! (λ p. let d = block_of v p in peeks ! R (Is R) (shows 𝓛 R) d (u ∷ []) (λ is. let told = block_tells d (u ∷ []) is in
    rewrite ! 0 (λ (us : List Val). ‵ (R.own_val d us)) told refl $ lands_as ! (ap only told) refl (word_fits p) $
    -- the pair's two fields, and the block of them
    sets ! (of_opd ! (get_in ! (fld ! refl (stop !)) (sub ! 0 refl (whole !)))) refl (pointer_fits p) $
    sets ! (of_opd ! (get_in ! (fld ! refl (stop !)) (sub ! 1 refl (whole !)))) refl handle_fits $
    sets ! (agg ! (and_then ! (get ! refl) (and_then ! (get ! refl) (no_more !)))) refl (word_fits p) $ returns ! (look_at ! 0 refl) $ free_all ! refl $
    -- the block is the result, and nothing else is left
    keep ! (0 ∷ []) $ suffices ! _ (ends_at 𝓛 ended stayed c ((κs, qs, bounds, a, vs), g) (word p) d (tt, tt) (tt, tt)) $ by ! (ends_with 𝓛 (R.own_val d (word p ∷ [])) refl))))))
