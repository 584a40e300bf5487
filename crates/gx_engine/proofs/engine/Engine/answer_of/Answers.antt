use Rattle.std.proofs.Common.{◌≡◌, ◌∙◌, ap, sym, ◌-◌, List, map}
use Rattle.gx_events.specs.Engines.{gathered}
use Rattle.gx_index_laws.specs.Classes.{entry_of}
use Rattle.gx_machine.specs.declared.call.Call.TheVariants.{Search}
use Rattle.gx_machine.specs.Keys.{keys}
use Rattle.gx_phases.specs.States.{phase_at}
use Rattle.gx_tree.specs.declared.found.Found.{Found}
use Rattle.gx_tree.specs.declared.look.Look.{Look}
use Rattle.gx_tree.specs.Found.{pairs_found}
use Rattle.gx_engine.specs.States.{Parts}
use Rattle.gx_engine.proofs.AtWork.{same_look}
use Rattle.gx_engine.proofs.Reading.{ok_map}
use Rattle.gx_engine.proofs.engine.Engine.answer_of.Goals as goal

pub returns : goal.returns
returns g c =
    let k = keys g.K.Key.Ord.cmp g.K.Key.Shape.overlap g.K.Key.Shape.inside in
    ok_map _ _ c.gathered.result (λ set is query look at.
    let same = same_look c.phase.result.now c.in-Some.ensures.some.0 (Search query) c.in-Some.look.now look c.in-Some.ensures.some.1 (c.phase.ensures ∙ (ap (λ (x : Parts g.row.K-Key.Denot g.row.D.Denot). phase_at (c.args.session - 1) x.sessions.phases) c.self.view_is ∙ at)) in
    is ∙ ap (λ (fs : List (Found g.row.K-Key.Denot)). gathered k (map entry_of (pairs_found fs))) (c.found.ensures ∙ ap (λ (x : Look g.row.K-Key.Denot). x.found.items) same)) c.gathered.ensures

pub unreachable-requires : goal.unreachable-requires
unreachable-requires g c =
    c.in-None.ensures.none (Search c.requires.looks.0) c.requires.looks.1 (c.phase.ensures ∙ ap (λ (x : Parts g.row.K-Key.Denot g.row.D.Denot). phase_at (c.args.session - 1) x.sessions.phases) c.self.view_is ∙ c.requires.looks.2)
