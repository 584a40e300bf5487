-- What the walks of this crate share: what a call of std at a type and the heap asks and leaves, and how a function ends.
use Rattle.std.proofs.Common.{[], ◌∷◌}
use seplogic.Ra.Ura.{Ura}
use mir.Syntax.{Dict, impl, tnil, tcons, dnil}
use mir.Val.{Val}
use base.Fraction.{full_share}
use base.Fml.{Fml, Lft, Share, flft, fsep, ftrue}
use base.Logic.{SProp, ent, sep, emp, ex, id⊢}
use prog.Routine.{Env}
use prog.Wired.{Wired}
use types.Logic.{Logic, sem}
use types.Kit.{‵, raw, ◌⊛◌, some, later, ◌$◌, ◌∵◌, !, qed, move, keep, use0, use1, split, join, fjoin, pick, show, frame, updating, await, now, done}
use contract.BorrowLft.{◌⊑◌, ⊑_static}
use contract.Monad.{fact, fact_i}
use denote.Param.{layout}
use denote.Param.Glue.{Bound}
use denote.Param.Laws.{Laws}
use denote.Param.NoDrop.{glues}
use denote.RattleType.{RattleType}
use denote.Signature.{type_at}
use denote.Steps.{nothing}
use denote.Triple.Clauses.{Ended, Clauses, Lasts, lasts, at_exit, closing}
use denote.Triple.Entry.{Res, alive}
use denote.Triple.Spec.{triple_of}
use denote.Triple.Walked.{says}
use Rattle.gx_c.proofs.Destruct++none.drop.Code.{code as no_drop_code}
use Rattle.gx_c.proofs.Words.{heap_arg}

-- the code that drops a value of a type that owns nothing
abbrev pub no_drop : RattleType → Dict
no_drop R = impl ("gx_c::Destruct++none::drop" ∷ []) (tcons (layout R) tnil) dnil

pub drops_nothing : (γ : Env) → Wired γ no_drop_code → (R : RattleType) → Laws R → Bound γ R (no_drop R)
unfolding no_drop_code
drops_nothing γ wired R laws = glues "gx_c::Destruct++none::drop" γ wired R laws

module _ {M : Type 1} {𝓤 : Ura M} (𝓛 : Logic 𝓤) where
  open 𝓛 use {H}

  -- a call at a type that lives as long as κ, and at the heap, asks for its arguments and its `requires`
  pub asked : (κ : Lft) (q : Share) (R : RattleType) (args : Fml) (requires : SProp 𝓤)
      → ent 𝓤 (sep 𝓤 (sem 𝓛 (flft κ q)) (sep 𝓤 (sem 𝓛 args) (sep 𝓤 (fact 𝓤 (κ ⊑ R.lives)) requires)))
      (sep 𝓤 (sep 𝓤 (sep 𝓤 (sem 𝓛 (flft κ q)) (sep 𝓤 (sem 𝓛 (flft [] full_share)) (emp 𝓤))) (sem 𝓛 args)) (sep 𝓤 (fact 𝓤 (κ ⊑ R.lives)) (sep 𝓤 (fact 𝓤 ([] ⊑ heap_arg.lives)) requires)))
  asked κ q R args requires =
      qed 𝓛 (‵ (flft κ q) ∷ ‵ args ∷ raw (fact 𝓤 (κ ⊑ R.lives)) ∷ raw requires ∷ []) ∵
      nothing ! $ use0 𝓛 (‵ (flft [] full_share)) (𝓛.lfts.lft-nil full_share) $ join ! $ move ! (1 ∷ 0 ∷ []) $ join ! $ join ! $ frame ! $ frame ! $
      use0 𝓛 (raw (fact 𝓤 ([] ⊑ heap_arg.lives))) (fact_i 𝓤 ([] ⊑ heap_arg.lives) (emp 𝓤) (⊑_static [])) $ frame ! $ done !

  -- of any call: the tokens, its result, and what it ensures of it
  pub answered : (T : Ended) (c : Clauses 𝓤 T) (y : (triple_of 𝓛 T.signature (closing 𝓛 T c)).Ghost) (v : Val)
      → ent 𝓤 ((triple_of 𝓛 T.signature (closing 𝓛 T c)).post y v)
      (H.⇛ (ex 𝓤 (λ (r : Res T.signature y.0.0). sep 𝓤 (alive 𝓛 T.signature y.0.0 y.0.1) (sep 𝓤 (sem 𝓛 ((type_at T.signature.result y.0.0).own_val r (v ∷ []))) (ex 𝓤 (λ (ws : Lasts T y.0.0 y.0.3). (c y.0.0 y.0.3).ensures y.1 r (at_exit T y.0.0 y.0.3 ws)))))))
  answered T c y v =
      let Alive = alive 𝓛 T.signature y.0.0 y.0.1 in
      let Own = λ (r : Res T.signature y.0.0). (type_at T.signature.result y.0.0).own_val r (v ∷ []) in
      let Said = λ (r : Res T.signature y.0.0) (ws : Lasts T y.0.0 y.0.3). (c y.0.0 y.0.3).ensures y.1 r (at_exit T y.0.0 y.0.3 ws) in
      qed 𝓛 (raw ((triple_of 𝓛 T.signature (closing 𝓛 T c)).post y v) ∷ []) ∵ updating ! $
      use1 𝓛 (later (some (λ r. (raw Alive ⊛ ‵ (Own r)) ⊛ some (λ ws. ‵ (lasts T y.0.0 y.0.3 ws) ⊛ raw (Said r ws))))) (id⊢ 𝓤 _) $ await ! tt $
      -- [the tokens; the result; what is ensured]
      pick ! (λ r. split ! $ split ! $ move ! (2 ∷ []) $ pick ! (λ ws. split ! $ keep ! (2 ∷ 3 ∷ 1 ∷ []) $ now ! $
      show ! (λ s. sep 𝓤 Alive (sep 𝓤 (sem 𝓛 (Own s)) (ex 𝓤 (Said s)))) r $ frame ! $ frame ! $ show ! (Said r) ws $ done !))

  -- a function of one argument that is left with its result alone ends, where it has no lifetime; and where it has one
  pub ends_with : (result : Fml) {φ : Type 0} → φ → ent 𝓤 (sem 𝓛 result) (sep 𝓤 (sep 𝓤 (emp 𝓤) (sep 𝓤 (sem 𝓛 (fsep ftrue ftrue)) (sem 𝓛 result))) (fact 𝓤 φ))
  ends_with result holds = qed 𝓛 (‵ result ∷ []) ∵ says ! holds $ nothing ! $ nothing ! $ fjoin ! $ join ! $ nothing ! $ join ! $ done !

  pub gives : (κ : Lft) (q : Share) (result : Fml) {φ : Type 0} → φ
      → ent 𝓤 (sep 𝓤 (sem 𝓛 (flft κ q)) (sem 𝓛 result)) (sep 𝓤 (sep 𝓤 (sep 𝓤 (sem 𝓛 (flft κ q)) (emp 𝓤)) (sep 𝓤 (sem 𝓛 (fsep ftrue ftrue)) (sem 𝓛 result))) (fact 𝓤 φ))
  gives κ q result holds =
      qed 𝓛 (‵ (flft κ q) ∷ ‵ result ∷ []) ∵ says ! holds $ nothing ! $ move ! (1 ∷ 0 ∷ []) $ join ! $ move ! (1 ∷ []) $ nothing ! $ nothing ! $ fjoin ! $ join ! $ move ! (1 ∷ 0 ∷ []) $ join ! $ done !
