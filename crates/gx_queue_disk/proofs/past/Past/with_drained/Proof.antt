-- `with_drained` picks the past with the queue's calls. Assumes `Logic`.
use Rattle.std.proofs.Common.{◌++◌, [], ◌∷◌, refl}
use Rattle.std.proofs.raw_atomic.Walks.{proved}
use base.Fml.{ftrue, flft}
use mir.Syntax.{named}
use types.Kit.{‵, ◌⊛◌, ◌$◌, ◌∵◌, !, qed, move, keep, split, join, fjoin, suffices, done}
use types.Part.{agg}
use types.Run.{enter, returns, no_more}
use types.ByLocal.{alloc_all, pass_all, free_all, look_at, sets}
use denote.Exit.{yes}
use denote.Builtin.{RefOf}
use denote.Ref.{shr_vals, shr_Tells}
use denote.RattleType.{owns}
use denote.Signature.{plain, types_at}
use denote.Steps.{nothing}
use denote.Triple.Walked.{says, Stays, stay_dropped, Goes-dropped, ends_at}
use Rattle.gx_disk.proofs.Empty.{no_bytes, empty_made}
use Rattle.gx_queue_disk.specs.contracts.past.Past as Past
use Rattle.gx_queue_disk.specs.contracts.queue.CallQueue as CallQueue
use Rattle.gx_queue_disk.specs.contracts.past.Past.with_drained as f
use Rattle.gx_queue_disk.proofs.past.Past.with_drained.Statement.{statement}
use Rattle.gx_queue_disk.proofs.past.Past.with_drained.Code as code

abbrev stayed : Stays f.ended.signature.params f.ended.kept
stayed = (stay_dropped _ yes, (stay_dropped _ yes, tt))

pub with_drained_spec : {M : Type 1} → statement M
with_drained_spec 𝓤 𝓛 𝓜 𝓡 wired =
    let c = f.clauses 𝓛 𝓜.mem 𝓡.returns in
    proved 𝓛 f.ended stayed c 𝓜 𝓡 (
      Goes-dropped 𝓛 2 (RefOf (0 ∷ []) tt (plain (λ _. Past.the_row)) (λ _. tt)) yes (λ κs x w. refl),
      (Goes-dropped 𝓛 2 (RefOf (1 ∷ []) tt (plain (λ _. CallQueue.the_row)) (λ _. tt)) yes (λ κs x w. refl), tt),
    )
    f.Key.name code.function (code.unfolded 𝓤 𝓛.H 𝓜 𝓡 wired)
    (λ κs. (shr_vals, (shr_vals, tt))) (λ κs. (shr_Tells (named 0) κs.0 Past.the_row, (shr_Tells (named 0) κs.1.0 CallQueue.the_row, tt))) (λ κs qs bounds a g are.
    let was = a.0.now in
    let more : (Past.the_row).Denot = record { start = was.start; drained = was.drained ++ a.1.0.now; faults = was.faults; calls = was.calls } in
    qed 𝓛 (((‵ (flft κs.0 qs.0) ⊛ (‵ (flft κs.1.0 qs.1.0) ⊛ ‵ ftrue)) ⊛ ‵ (owns (types_at f.ended.signature.params κs) a (shr_vals a.0, (shr_vals a.1.0, tt)))) ∷ ‵ ftrue ∷ []) ∵
    split ! $ keep ! (0 ∷ []) $
    enter ! _ _ _ _ _ $ alloc_all ! (λ l. pass_all ! refl ((tt, tt), ((tt, tt), tt)) $
    sets ! (agg ! (no_more !)) refl (tt, tt) $ returns ! (look_at ! 0 refl) $ free_all ! refl $
    suffices ! _ (ends_at 𝓛 f.ended stayed c ((κs, qs, bounds, a, (shr_vals a.0, (shr_vals a.1.0, tt))), g) no_bytes more (tt, (tt, tt)) (tt, (tt, tt))) $ says ! refl $
    nothing ! $ empty_made ! $ fjoin ! $ nothing ! $ nothing ! $ join ! $ nothing ! $ join ! $ move ! (2 ∷ 0 ∷ 1 ∷ []) $ done !))
