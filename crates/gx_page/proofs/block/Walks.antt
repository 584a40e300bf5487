-- What the walks of a block share: how they begin and end, and what a call of std at the bytes and the heap asks and leaves.
use Rattle.std.proofs.Common.{[], ◌∷◌}
use seplogic.Ra.Ura.{Ura}
use mir.Syntax.{Dict, impl, tnil, tcons, dnil}
use mir.Val.{Val}
use base.Fraction.{full_share}
use base.Fml.{Fml, Lft, Share, flft, fsep, ftrue}
use base.Logic.{SProp, ent, sep, emp, ex, id⊢}
use prog.Routine.{Env}
use prog.Wired.{Wired}
use types.Logic.{Logic, sem}
use types.Kit.{‵, raw, ◌⊛◌, some, later, ◌$◌, ◌∵◌, !, qed, move, keep, use0, use1, split, join, fsplit, fjoin, pick, show, frame, updating, await, now, done}
use contract.BorrowLft.{◌⊑◌, ⊑_static}
use contract.Monad.{fact, fact_i}
use denote.Param.{layout}
use denote.Param.Glue.{Bound}
use denote.Param.Laws.{Laws}
use denote.Param.NoDrop.{glues}
use denote.RattleType.{RattleType}
use denote.Signature.{type_at}
use denote.Steps.{nothing}
use denote.Triple.Clauses.{Ended, Clauses, Lasts, lasts, at_exit, closing}
use denote.Triple.Entry.{Res, alive}
use denote.Triple.Spec.{triple_of}
use denote.Triple.Walked.{says}
use Rattle.gx_page.proofs.Destruct++none.drop.Code.{code as no_drop_code}
use Rattle.gx_page.proofs.block.Memory.{bytes_arg, heap_arg}

-- the code that drops a value of a type that owns nothing
abbrev pub no_drop : RattleType → Dict
no_drop R = impl ("gx_page::Destruct++none::drop" ∷ []) (tcons (layout R) tnil) dnil

pub drops_nothing : (γ : Env) → Wired γ no_drop_code → (R : RattleType) → Laws R → Bound γ R (no_drop R)
unfolding no_drop_code
drops_nothing γ wired R laws = glues "gx_page::Destruct++none::drop" γ wired R laws

module _ {M : Type 1} {𝓤 : Ura M} (𝓛 : Logic 𝓤) where
  open 𝓛 use {H}

  -- the tokens of two lifetimes that never end
  abbrev pub Endless : SProp 𝓤
  Endless = sep 𝓤 (sem 𝓛 (flft [] full_share)) (sep 𝓤 (sem 𝓛 (flft [] full_share)) (emp 𝓤))

  endless : ent 𝓤 (emp 𝓤) Endless
  endless = qed 𝓛 [] ∵ nothing ! $ use0 𝓛 (‵ (flft [] full_share)) (𝓛.lfts.lft-nil full_share) $ use0 𝓛 (‵ (flft [] full_share)) (𝓛.lfts.lft-nil full_share) $ done !

  -- such a call asks for its arguments and its `requires`, and that both types live for ever, which they do
  pub asked : (args : Fml) (requires : SProp 𝓤)
      → ent 𝓤 (sep 𝓤 (sem 𝓛 args) requires) (sep 𝓤 (sep 𝓤 Endless (sem 𝓛 args)) (sep 𝓤 (fact 𝓤 ([] ⊑ bytes_arg.lives)) (sep 𝓤 (fact 𝓤 ([] ⊑ heap_arg.lives)) requires)))
  asked args requires =
      qed 𝓛 (‵ args ∷ raw requires ∷ []) ∵ use0 𝓛 (raw Endless) endless $ join ! $ frame ! $
      use0 𝓛 (raw (fact 𝓤 ([] ⊑ bytes_arg.lives))) (fact_i 𝓤 ([] ⊑ bytes_arg.lives) (emp 𝓤) (⊑_static [])) $ frame ! $
      use0 𝓛 (raw (fact 𝓤 ([] ⊑ heap_arg.lives))) (fact_i 𝓤 ([] ⊑ heap_arg.lives) (emp 𝓤) (⊑_static [])) $ frame ! $ done !

  -- of any call: its result, and what it ensures of it
  pub answered : (T : Ended) (c : Clauses 𝓤 T) (y : (triple_of 𝓛 T.signature (closing 𝓛 T c)).Ghost) (v : Val)
      → ent 𝓤 ((triple_of 𝓛 T.signature (closing 𝓛 T c)).post y v)
      (H.⇛ (ex 𝓤 (λ (r : Res T.signature y.0.0). sep 𝓤 (sem 𝓛 ((type_at T.signature.result y.0.0).own_val r (v ∷ []))) (ex 𝓤 (λ (ws : Lasts T y.0.0 y.0.3). (c y.0.0 y.0.3).ensures y.1 r (at_exit T y.0.0 y.0.3 ws))))))
  answered T c y v =
      let Own = λ (r : Res T.signature y.0.0). (type_at T.signature.result y.0.0).own_val r (v ∷ []) in
      let Said = λ (r : Res T.signature y.0.0) (ws : Lasts T y.0.0 y.0.3). (c y.0.0 y.0.3).ensures y.1 r (at_exit T y.0.0 y.0.3 ws) in
      qed 𝓛 (raw ((triple_of 𝓛 T.signature (closing 𝓛 T c)).post y v) ∷ []) ∵ updating ! $
      use1 𝓛 (later (some (λ r. (raw (alive 𝓛 T.signature y.0.0 y.0.1) ⊛ ‵ (Own r)) ⊛ some (λ ws. ‵ (lasts T y.0.0 y.0.3 ws) ⊛ raw (Said r ws))))) (id⊢ 𝓤 _) $ await ! tt $
      pick ! (λ r. split ! $ split ! $ move ! (2 ∷ []) $ pick ! (λ ws. split ! $ keep ! (3 ∷ 1 ∷ []) $ now ! $
      show ! (λ s. sep 𝓤 (sem 𝓛 (Own s)) (ex 𝓤 (Said s))) r $ frame ! $ show ! (Said r) ws $ done !))

  -- a function that is left with its result alone ends, if it has no lifetime and had one argument
  pub ends_with : (result : Fml) {φ : Type 0} → φ → ent 𝓤 (sem 𝓛 result) (sep 𝓤 (sep 𝓤 (emp 𝓤) (sep 𝓤 (sem 𝓛 (fsep ftrue ftrue)) (sem 𝓛 result))) (fact 𝓤 φ))
  ends_with result holds = qed 𝓛 (‵ result ∷ []) ∵ says ! holds $ nothing ! $ nothing ! $ fjoin ! $ join ! $ nothing ! $ join ! $ done !

  -- a function of one reference begins with it and the token of its lifetime
  pub begins_with : (κ : Lft) (q : Share) (self : Fml) → ent 𝓤 (sep 𝓤 (sep 𝓤 (sep 𝓤 (sem 𝓛 (flft κ q)) (emp 𝓤)) (sem 𝓛 (fsep self ftrue))) (emp 𝓤)) (sep 𝓤 (sem 𝓛 self) (sem 𝓛 (flft κ q)))
  begins_with κ q self = qed 𝓛 (((‵ (flft κ q) ⊛ ‵ ftrue) ⊛ ‵ (fsep self ftrue)) ∷ ‵ ftrue ∷ []) ∵ split ! $ split ! $ move ! (2 ∷ []) $ fsplit ! $ keep ! (0 ∷ 2 ∷ []) $ done !

  -- and ends with that token and what it lends
  pub lends : (κ : Lft) (q : Share) (loan : Fml) → ent 𝓤 (sep 𝓤 (sem 𝓛 (flft κ q)) (sem 𝓛 loan)) (sep 𝓤 (sep 𝓤 (sem 𝓛 (flft κ q)) (emp 𝓤)) (sep 𝓤 (sem 𝓛 (fsep ftrue ftrue)) (sem 𝓛 loan)))
  lends κ q loan = qed 𝓛 (‵ (flft κ q) ∷ ‵ loan ∷ []) ∵ nothing ! $ move ! (1 ∷ 0 ∷ []) $ join ! $ frame ! $ nothing ! $ nothing ! $ fjoin ! $ done !

  -- the same if it had a number besides, or two
  pub gives : (κ : Lft) (q : Share) (result : Fml) → ent 𝓤 (sep 𝓤 (sem 𝓛 (flft κ q)) (sem 𝓛 result)) (sep 𝓤 (sep 𝓤 (sem 𝓛 (flft κ q)) (emp 𝓤)) (sep 𝓤 (sem 𝓛 (fsep ftrue (fsep ftrue ftrue))) (sem 𝓛 result)))
  gives κ q result = qed 𝓛 (‵ (flft κ q) ∷ ‵ result ∷ []) ∵ nothing ! $ move ! (1 ∷ 0 ∷ []) $ join ! $ frame ! $ nothing ! $ nothing ! $ fjoin ! $ nothing ! $ fjoin ! $ done !

  pub gives_two : (κ : Lft) (q : Share) (result : Fml) → ent 𝓤 (sep 𝓤 (sem 𝓛 (flft κ q)) (sem 𝓛 result)) (sep 𝓤 (sep 𝓤 (sem 𝓛 (flft κ q)) (emp 𝓤)) (sep 𝓤 (sem 𝓛 (fsep ftrue (fsep ftrue (fsep ftrue ftrue)))) (sem 𝓛 result)))
  gives_two κ q result =
      qed 𝓛 (‵ (flft κ q) ∷ ‵ result ∷ []) ∵ nothing ! $ move ! (1 ∷ 0 ∷ []) $ join ! $ frame ! $ nothing ! $ nothing ! $ fjoin ! $ nothing ! $ fjoin ! $ nothing ! $ fjoin ! $ done !
