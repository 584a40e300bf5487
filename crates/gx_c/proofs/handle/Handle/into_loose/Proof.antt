-- `into_loose` gives the pointer and the heap's handle on, with what the handle has.
use Rattle.std.proofs.Common.{◌≡◌, List, [], ◌∷◌, refl}
use mir.Val.{Val}
use base.Fml.{ftrue}
use base.Logic.{ent}
use seplogic.Ra.Ura.{Ura}
use types.Logic.{Logic, sem}
use types.Kit.{‵, raw, ◌⊛◌, ◌$◌, ◌∵◌, !, qed, by, move, drop, keep, split, fsplit, suffices, use1, use2, rewrite, done}
use types.Run.{stop, fld, of_opd, no_more, and_then, returns, enter}
use types.ByLocal.{alloc_all, pass_all, free_all, look_at, get, get_in, sets}
use types.Part.{agg, sub, whole}
use contract.Monad.{fact}
use denote.Exit.{yes}
use denote.RattleType.{owns}
use denote.Signature.{types_at, plain}
use denote.Steps.{heard}
use denote.Triple.Walked.{Stays, stay_dropped, ends_at, Goes-dropped}
use Rattle.std.proofs.Handle.{heap_val}
use Rattle.std.proofs.raw_atomic.Walks.{proved}
use Rattle.std.specs.Prelude.{Option, Some}
use Rattle.std.specs.contracts.alloc.Global as heap
use Rattle.gx_c.specs.Owned.{owns_held}
use Rattle.gx_c.specs.declared.held.Held.{Held}
use Rattle.gx_c.proofs.Words.{H, Loose, handle_parts, handle_tells, loose_whole, word, word_fits, pointer_fits, handle_fits}
use Rattle.gx_c.proofs.Walks.{ends_with}
use Rattle.gx_c.specs.contracts.held.Held as held
use Rattle.gx_c.specs.contracts.handle.Handle.into_loose.{ended, clauses}
use Rattle.gx_c.specs.contracts.handle.Handle.into_loose.Key.{name as #self}
use Rattle.gx_c.proofs.handle.Handle.into_loose.Statement.{statement}
use Rattle.gx_c.proofs.handle.Handle.into_loose.Code as code

abbrev stayed : Stays ended.signature.params ended.kept
stayed = (stay_dropped (plain (λ _. H)) yes, tt)

abbrev loose_of : H.Denot → Held → (Loose held.the_row).Denot
loose_of d x = record { at = d.at; alloc = d.alloc; value = x }

-- what a handle owns that has something is what a box's pointer owns
is_loose : {M : Type 1} {𝓤 : Ura M} (𝓛 : Logic 𝓤) (d : H.Denot) (x : Held) → d.held ≡ Some x
    → ent 𝓤 (sem 𝓛 (H.own_val d (word d.at ∷ []))) (sem 𝓛 ((Loose held.the_row).own_val (loose_of d x) (word d.at ∷ [])))
is_loose 𝓛 d x has =
    qed 𝓛 (‵ (H.own_val d (word d.at ∷ [])) ∷ []) ∵
    use1 𝓛 (‵ (heap.the_row.own_val d.alloc (heap_val ∷ [])) ⊛ ‵ (owns_held d.alloc d.at d.held)) (handle_parts 𝓛 d (word d.at ∷ [])) $
    split ! $ rewrite ! 1 (λ (h : Option Held). ‵ (owns_held d.alloc d.at h)) has refl $
    use2 𝓛 (‵ ((Loose held.the_row).own_val (loose_of d x) (word d.at ∷ []))) (loose_whole held.the_row 𝓛 (loose_of d x)) $ done !

pub into_loose_spec : {M : Type 1} → statement M
into_loose_spec 𝓤 𝓛 𝓜 𝓡 wired =
    let c = clauses 𝓛 𝓜.mem 𝓡.returns in
    proved 𝓛 ended stayed c 𝓜 𝓡 (Goes-dropped 𝓛 0 (plain (λ _. H)) yes (λ κs x f. refl), tt) #self code.function (code.unfolded 𝓤 𝓛.H 𝓜 𝓡 wired)
    (λ κs. ((λ d. word d.at ∷ []), tt)) (λ κs. (handle_tells, tt)) (λ κs qs bounds a g are.
    let d = a.0 in let vs : List Val × Unit {0} = (word d.at ∷ [], tt) in
    qed 𝓛 ((‵ ftrue ⊛ ‵ (owns (types_at ended.signature.params κs) a vs)) ∷ raw (fact 𝓤 ((x : Held) × (d.held ≡ Some x))) ∷ []) ∵ split ! $ drop ! $ fsplit ! $
    -- [the handle; nothing; that it has something]
    move ! (2 ∷ []) $ heard ! ((x : Held) × (d.held ≡ Some x)) (λ has. let e = loose_of d has.0 in
    use1 𝓛 (‵ ((Loose held.the_row).own_val e (word d.at ∷ []))) (is_loose 𝓛 d has.0 has.1) $
    enter ! _ _ _ _ _ $ alloc_all ! (λ l. pass_all ! refl (word_fits d.at, tt) $
    sets ! (of_opd ! (get_in ! (fld ! refl (stop !)) (sub ! 0 refl (whole !)))) refl (pointer_fits d.at) $
    sets ! (of_opd ! (get_in ! (fld ! refl (stop !)) (sub ! 1 refl (whole !)))) refl handle_fits $
    sets ! (of_opd ! (get ! refl)) refl (pointer_fits d.at) $
    sets ! (agg ! (and_then ! (get ! refl) (and_then ! (get ! refl) (no_more !)))) refl (word_fits d.at) $ returns ! (look_at ! 0 refl) $ free_all ! refl $
    keep ! (0 ∷ []) $ suffices ! _ (ends_at 𝓛 ended stayed c ((κs, qs, bounds, a, vs), g) (word d.at) e (tt, tt) (tt, tt)) $ by ! (ends_with 𝓛 ((Loose held.the_row).own_val e (word d.at ∷ [])) has.1))))
