-- `after` picks what was noted with one thing more. Assumes `Logic`.
use Rattle.std.proofs.Common.{[], ◌∷◌, refl}
use Rattle.std.proofs.raw_atomic.Walks.{proved}
use mir.Syntax.{a_type, named}
use mir.Val.{Val, vstruct, vcons, vnil}
use mir.MapTy.{inst_fn}
use types.Kit.{‵, raw, ◌⊛◌, ◌$◌, ◌∵◌, !, qed, move, keep, split, join, fjoin, fpack, feq_i, suffices, done}
use types.Part.{agg}
use types.Run.{enter, returns, no_more, and_then}
use types.ByLocal.{alloc_all, pass_all, free_all, look_at, get, sets}
use denote.Exit.{yes}
use denote.Builtin.{RefOf}
use denote.Param.{param, layouts}
use denote.Ref.{shr_vals, shr_Tells}
use denote.RattleType.{RattleType, Valss, owns}
use denote.Signature.{Slot, plain, types_at}
use denote.Steps.{nothing}
use denote.Struct.Struct.{Shape, within}
use denote.Triple.Entry.{alive}
use denote.Triple.Walked.{says, Stays, stay_dropped, Goes-dropped, ends_at}
use Rattle.gx_disk.proofs.Empty.{Empty, no_bytes, empty_made}
use Rattle.gx_shared.specs.contracts.trail.Trail as Trail
use Rattle.gx_shared.specs.contracts.trail.Trail.after as f
use Rattle.gx_shared.proofs.trail.Trail.after.Statement.{statement}
use Rattle.gx_shared.proofs.trail.Trail.after.Code as code

abbrev earlier : (T : RattleType) → Slot 3
earlier T = RefOf (0 ∷ []) tt (plain (λ _. Trail.the_row (f.T-row T))) (λ _. tt)

abbrev shown : (T : RattleType) → Slot 3
shown T = RefOf (1 ∷ []) tt (plain (λ _. param 0 T)) (λ _. tt)

abbrev stayed : (T : RattleType) → Stays (f.ended T).signature.params (f.ended T).kept
stayed T = (stay_dropped (earlier T) yes, (stay_dropped (shown T) yes, tt))

-- the struct's one field takes no bytes
abbrev marked : Shape
marked = record { name = []; args = []; types = []; fields = Empty ∷ [] }

-- as the machine holds it
abbrev held : Val
held = vstruct (vcons no_bytes vnil)

pub after_spec : {M : Type 1} → statement M
after_spec 𝓤 𝓛 𝓜 𝓡 wired T laws =
    let at = layouts (a_type ∷ []) (T, tt) in let c = f.clauses T 𝓛 𝓜.mem 𝓡.returns in let S = (f.ended T).signature in
    proved 𝓛 (f.ended T) (stayed T) c 𝓜 𝓡
    (Goes-dropped 𝓛 3 (earlier T) yes (λ κs x w. refl), (Goes-dropped 𝓛 3 (shown T) yes (λ κs x w. refl), tt))
    (f.Key.name at) (inst_fn at code.function) (code.unfolded 𝓤 𝓛.H 𝓜 𝓡 wired (T, tt))
    (λ κs. (shr_vals, (shr_vals, tt))) (λ κs. (shr_Tells (named 0) κs.0 (Trail.the_row (f.T-row T)), (shr_Tells (named 0) κs.1.0 (param 0 T), tt))) (λ κs qs bounds a g are.
    let more : (Trail.the_row T).Denot = record { marker = record {}; noted = a.1.0.now ∷ a.0.now.noted } in
    qed 𝓛 ((raw (alive 𝓛 S κs qs) ⊛ ‵ (owns (types_at S.params κs) a (shr_vals a.0, (shr_vals a.1.0, tt)))) ∷ raw ((c κs a).requires g) ∷ []) ∵
    split ! $ keep ! (0 ∷ []) $
    enter ! _ _ _ _ _ $ alloc_all ! (λ l. pass_all ! refl ((tt, tt), ((tt, tt), tt)) $
    sets ! (agg ! (no_more !)) refl (tt, tt) $ sets ! (agg ! (and_then ! (get ! refl) (no_more !))) refl (tt, (tt, tt)) $
    returns ! (look_at ! 0 refl) $ free_all ! refl $
    suffices ! _ (ends_at 𝓛 (f.ended T) (stayed T) c ((κs, qs, bounds, a, (shr_vals a.0, (shr_vals a.1.0, tt))), g) held more (tt, (tt, tt)) (tt, (tt, tt))) $ says ! refl $
    nothing ! $ nothing ! $ empty_made ! $ fjoin ! $ feq_i ! _ (held ∷ []) (held ∷ []) refl $ fjoin ! $
    fpack ! (Valss marked.fields) (within marked (tt, tt) (held ∷ [])) (no_bytes ∷ [], tt) $ fjoin ! $
    nothing ! $ nothing ! $ fjoin ! $ nothing ! $ fjoin ! $ join ! $ move ! (1 ∷ 0 ∷ []) $ join ! $ done !))
