-- `none` makes a handle that owns nothing.
use Rattle.std.proofs.Common.{List, [], ◌∷◌, refl}
use mir.Val.{Val}
use base.Fml.{ftrue}
use types.Kit.{‵, ◌⊛◌, ◌$◌, ◌∵◌, !, qed, move, drop, keep, split, join, fsplit3, fjoin, suffices, use2, feq_l, done}
use types.Run.{no_more, and_then, returns, enter}
use types.ByLocal.{alloc_all, pass_all, free_all, look_at, get, sets}
use types.Part.{agg}
use denote.Builtin.{RawPtr}
use denote.Exit.{yes}
use denote.RattleType.{owns}
use denote.RawPtr.{ptr_val, rawptr_vals, rawptr_Tells}
use denote.Signature.{types_at, plain}
use denote.Steps.{nothing}
use denote.Triple.Walked.{Stays, stay_dropped, says, ends_at, Goes-dropped}
use Rattle.std.proofs.Handle.{heap_val, heap_Tells}
use Rattle.std.proofs.raw_atomic.Walks.{proved}
use Rattle.std.specs.contracts.alloc.Global as heap
use Rattle.std.specs.Prelude.{None}
use Rattle.gx_c.proofs.Words.{H, handle_whole, word, word_fits, pointer_fits, handle_fits}
use Rattle.gx_c.specs.contracts.handle.Handle.none.{ended, clauses}
use Rattle.gx_c.specs.contracts.handle.Handle.none.Key.{name as #self}
use Rattle.gx_c.proofs.handle.Handle.none.Statement.{statement}
use Rattle.gx_c.proofs.handle.Handle.none.Code as code

abbrev stayed : Stays ended.signature.params ended.kept
stayed = (stay_dropped (plain (λ _. RawPtr)) yes, (stay_dropped (plain (λ _. heap.the_row)) yes, tt))

pub none_spec : {M : Type 1} → statement M
none_spec 𝓤 𝓛 𝓜 𝓡 wired =
    let c = clauses 𝓛 𝓜.mem 𝓡.returns in
    proved 𝓛 ended stayed c 𝓜 𝓡 (Goes-dropped 𝓛 0 (plain (λ _. RawPtr)) yes (λ κs x f. refl), (Goes-dropped 𝓛 0 (plain (λ _. heap.the_row)) yes (λ κs x f. refl), tt)) #self code.function (code.unfolded 𝓤 𝓛.H 𝓜 𝓡 wired)
    (λ κs. (rawptr_vals, ((λ h. heap_val ∷ []), tt))) (λ κs. (rawptr_Tells, (heap_Tells, tt))) (λ κs qs bounds a g are.
    let p = a.0 in let h = a.1.0 in let vs : List Val × (List Val × Unit {0}) = (ptr_val p ∷ [], (heap_val ∷ [], tt)) in
    let d : H.Denot = record { at = p; alloc = h; held = None } in
    qed 𝓛 ((‵ ftrue ⊛ ‵ (owns (types_at ended.signature.params κs) a vs)) ∷ ‵ ftrue ∷ []) ∵ split ! $ drop ! $ fsplit3 ! $ feq_l ! (λ _.
    -- [the heap's handle; nothing; nothing]
    enter ! _ _ _ _ _ $ alloc_all ! (λ l. pass_all ! refl (pointer_fits p, (handle_fits, tt)) $
    sets ! (agg ! (and_then ! (get ! refl) (and_then ! (get ! refl) (no_more !)))) refl (word_fits p) $ returns ! (look_at ! 0 refl) $ free_all ! refl $
    keep ! (0 ∷ []) $ nothing ! $ move ! (1 ∷ 0 ∷ []) $ use2 𝓛 (‵ (H.own_val d (word p ∷ []))) (handle_whole 𝓛 d) $
    suffices ! _ (ends_at 𝓛 ended stayed c ((κs, qs, bounds, a, vs), g) (word p) d (tt, (tt, tt)) (tt, (tt, tt))) $ says ! refl $
    nothing ! $ nothing ! $ fjoin ! $ nothing ! $ fjoin ! $ join ! $ nothing ! $ join ! $ done !)))
