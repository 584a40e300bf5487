use Rattle.std.proofs.Common.{◌≡◌, ◌∙◌, ap, sym, ◌-◌}
use Rattle.gx_phases.specs.States.{phase_at}
use Rattle.gx_tree.specs.declared.look.Look.{Look}
use Rattle.gx_engine.specs.Looks.{leaf_found}
use Rattle.gx_engine.specs.States.{Parts}
use Rattle.gx_engine.proofs.AtWork.{same_look}
use Rattle.gx_engine.proofs.engine.Engine.leaf_of_look.Goals as goal

pub returns-in-Some : goal.returns-in-Some
returns-in-Some g c call look at =
    let same = same_look c.phase.result.now c.in-Some.ensures.some.0 call c.in-Some.look.now look c.in-Some.ensures.some.1 (c.phase.ensures ∙ (ap (λ (x : Parts g.row.K-Key.Denot g.row.D.Denot). phase_at (c.args.session - 1) x.sessions.phases) c.self.view_is ∙ at)) in
    c.leaf_found.ensures ∙ ap (λ (x : Look g.row.K-Key.Denot). leaf_found x.found.items) same

pub returns-in-None : goal.returns-in-None
returns-in-None g c call look at =
    absurd (c.in-None.ensures.none call look (c.phase.ensures ∙ (ap (λ (x : Parts g.row.K-Key.Denot g.row.D.Denot). phase_at (c.args.session - 1) x.sessions.phases) c.self.view_is ∙ at)))
