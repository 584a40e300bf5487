use Rattle.std.proofs.Common.{◌≡◌, ◌∙◌, inr, subst, List}
use Rattle.std.proofs.lemmas.Result.{err_from_is_err_and}
use Rattle.gx_machine.specs.declared.entry.Entry.{Entry}
use Rattle.gx_machine.specs.Keys.{Keys}
use Rattle.gx_recovery.specs.Records.{Touch}
use Rattle.gx_engine.specs.declared.start.Start.{Start}
use Rattle.gx_engine.specs.Losing.{AreCutOff}
use Rattle.gx_engine.specs.Starting.{cut_off}
use Rattle.gx_engine.proofs.start.Starting.{taken_from}
use Rattle.gx_engine.proofs.start.sessions.Goals as goal

none_cut : {B : Type 0} (k : Keys B) (start : Start B) (items : List (Touch (Entry B))) → items ≡ start.losers.items → (AreCutOff k items → ⊥) → AreCutOff k (cut_off start) → ⊥
none_cut {B} k start items same none = subst (λ (xs : List (Touch (Entry B))). AreCutOff k xs → ⊥) same none

pub returns-in_ok-hold_losers-in-Ok-clause-taken :
    goal.returns-in_ok-hold_losers-in-Ok-clause-taken
returns-in_ok-hold_losers-in-Ok-clause-taken g c =
    taken_from _ c.args.start.now c.deref.result.now c.in-Ok.sessions c.hold_losers.new.sessions c.deref.ensures.value c.in_ok-hold_losers-in-Ok.ensures.holds c.hold_losers.ensures.rests c.in-Ok.ensures
    c.hold_losers.ensures.only

pub returns-in_err-hold_losers-in-Ok-clause-why : goal.returns-in_err-hold_losers-in-Ok-clause-why
returns-in_err-hold_losers-in-Ok-clause-why g c =
    let told = err_from_is_err_and c.from_residual.result c.from_residual.ensures.1 in
    let why = c.in_err-hold_losers-in-Ok.ensures.holds in
    rw told.1 (inr (told.2 ∙ why.0, none_cut _ c.args.start.now c.deref.result.now c.deref.ensures.value why.1))
