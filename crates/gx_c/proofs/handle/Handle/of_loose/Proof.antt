-- `of_loose` keeps the pointer and the heap's handle, and owns what the pointer owned.
use Rattle.std.proofs.Common.{List, [], ◌∷◌, refl}
use mir.Val.{Val}
use base.Fml.{ftrue}
use base.Logic.{ent}
use seplogic.Ra.Ura.{Ura}
use types.Logic.{Logic, sem}
use types.Kit.{‵, ◌⊛◌, ◌$◌, ◌∵◌, !, qed, by, move, drop, keep, split, fsplit, suffices, use1, use2, done}
use types.Run.{stop, fld, of_opd, no_more, and_then, returns, enter}
use types.ByLocal.{alloc_all, pass_all, free_all, look_at, get, get_in, sets}
use types.Part.{agg, sub, whole}
use denote.Builtin.{RawPtr}
use denote.Exit.{yes}
use denote.RattleType.{owns}
use denote.RawPtr.{ptr_val}
use denote.Signature.{types_at, plain}
use denote.Triple.Walked.{Stays, stay_dropped, ends_at, Goes-dropped}
use Rattle.std.proofs.Handle.{heap_val}
use Rattle.std.proofs.raw_atomic.Walks.{proved}
use Rattle.std.specs.Prelude.{Some}
use Rattle.std.specs.contracts.alloc.Global as heap
use Rattle.gx_c.specs.Loose.{owns_loose}
use Rattle.gx_c.proofs.Words.{H, Loose, handle_whole, loose_parts, loose_tells, word, word_fits, pointer_fits, handle_fits}
use Rattle.gx_c.proofs.Walks.{ends_with}
use Rattle.gx_c.specs.contracts.held.Held as held
use Rattle.gx_c.specs.contracts.handle.Handle.of_loose.{ended, clauses}
use Rattle.gx_c.specs.contracts.handle.Handle.of_loose.Key.{name as #self}
use Rattle.gx_c.proofs.handle.Handle.of_loose.Statement.{statement}
use Rattle.gx_c.proofs.handle.Handle.of_loose.Code as code

abbrev stayed : Stays ended.signature.params ended.kept
stayed = (stay_dropped (plain (λ _. Loose held.the_row)) yes, tt)

abbrev handle_of : (Loose held.the_row).Denot → H.Denot
handle_of d = record { at = d.at; alloc = d.alloc; held = Some d.value }

-- what a box's pointer owns is what a handle owns
is_handle : {M : Type 1} {𝓤 : Ura M} (𝓛 : Logic 𝓤) (d : (Loose held.the_row).Denot) → ent 𝓤 (sem 𝓛 ((Loose held.the_row).own_val d (word d.at ∷ []))) (sem 𝓛 (H.own_val (handle_of d) (word d.at ∷ [])))
is_handle 𝓛 d =
    qed 𝓛 (‵ ((Loose held.the_row).own_val d (word d.at ∷ [])) ∷ []) ∵
    use1 𝓛 (‵ (owns (heap.the_row ∷ RawPtr ∷ []) (d.alloc, (d.at, tt)) (heap_val ∷ [], (ptr_val d.at ∷ [], tt))) ⊛ ‵ (owns_loose held.the_row d.alloc d.at d.value)) (loose_parts held.the_row 𝓛 d (word d.at ∷ [])) $
    split ! $ fsplit ! $ move ! (1 ∷ []) $ drop ! $ use2 𝓛 (‵ (H.own_val (handle_of d) (word d.at ∷ []))) (handle_whole 𝓛 (handle_of d)) $ done !

pub of_loose_spec : {M : Type 1} → statement M
of_loose_spec 𝓤 𝓛 𝓜 𝓡 wired =
    let c = clauses 𝓛 𝓜.mem 𝓡.returns in
    proved 𝓛 ended stayed c 𝓜 𝓡 (Goes-dropped 𝓛 0 (plain (λ _. Loose held.the_row)) yes (λ κs x f. refl), tt) #self code.function (code.unfolded 𝓤 𝓛.H 𝓜 𝓡 wired)
    (λ κs. ((λ d. word d.at ∷ []), tt)) (λ κs. (loose_tells held.the_row, tt)) (λ κs qs bounds a g are.
    let d = a.0 in let vs : List Val × Unit {0} = (word d.at ∷ [], tt) in
    qed 𝓛 ((‵ ftrue ⊛ ‵ (owns (types_at ended.signature.params κs) a vs)) ∷ ‵ ftrue ∷ []) ∵ split ! $ drop ! $ fsplit ! $
    use1 𝓛 (‵ (H.own_val (handle_of d) (word d.at ∷ []))) (is_handle 𝓛 d) $
    enter ! _ _ _ _ _ $ alloc_all ! (λ l. pass_all ! refl (word_fits d.at, tt) $
    sets ! (of_opd ! (get_in ! (fld ! refl (stop !)) (sub ! 0 refl (whole !)))) refl (pointer_fits d.at) $
    sets ! (of_opd ! (get_in ! (fld ! refl (stop !)) (sub ! 1 refl (whole !)))) refl handle_fits $
    sets ! (of_opd ! (get ! refl)) refl (pointer_fits d.at) $
    sets ! (agg ! (and_then ! (get ! refl) (and_then ! (get ! refl) (no_more !)))) refl (word_fits d.at) $ returns ! (look_at ! 0 refl) $ free_all ! refl $
    keep ! (0 ∷ []) $ suffices ! _ (ends_at 𝓛 ended stayed c ((κs, qs, bounds, a, vs), g) (word d.at) (handle_of d) (tt, tt) (tt, tt)) $ by ! (ends_with 𝓛 (H.own_val (handle_of d) (word d.at ∷ [])) refl)))
