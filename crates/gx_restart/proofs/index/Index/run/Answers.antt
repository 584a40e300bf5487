use Rattle.std.proofs.Common.{◌∙◌, ap, inl, inr, refl}
use Rattle.gx_restart.specs.States.{State}
use Rattle.gx_restart.proofs.index.Index.run.Goals as goal

pub returns-in-Some-clause-calls : goal.returns-in-Some-clause-calls
returns-in-Some-clause-calls g c =
    let goes_on = ap (λ (x : State g.row.K-Key.Denot g.row.D.Denot). x.ended) c.self.view_is ∙ c.requires in
    rw (← c.self.view_is) (inl (c.in-Some.ensures.made, goes_on))

pub returns-in-Some-clause-ends : goal.returns-in-Some-clause-ends
returns-in-Some-clause-ends g c = λ l bodies i holds. rw (← c.self.view_is) refl

pub returns-in-None-clause-calls : goal.returns-in-None-clause-calls
returns-in-None-clause-calls g c = rw (← c.self.view_is) (inr (c.in-None.ensures.made, refl, refl))

pub returns-in-None-clause-ends : goal.returns-in-None-clause-ends
returns-in-None-clause-ends g c = λ l bodies i holds.
    (let clash = c.in-None.ensures.ends l bodies i (rw (← c.self.view_is) at holds) refl in
    let no : ⊥ = cc in absurd no)

pub returns-in-Some-clause-told : goal.returns-in-Some-clause-told
returns-in-Some-clause-told g c = rw (← c.self.view_is) c.in-Some.ensures.told

pub returns-in-None-clause-told : goal.returns-in-None-clause-told
returns-in-None-clause-told g c = rw (← c.self.view_is) c.in-None.ensures.told
