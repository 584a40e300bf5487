use Rattle.std.proofs.Common.{◌≡◌, ◌∙◌, ap, sym, refl, subst, ◌-◌, [], List}
use Rattle.gx_phases.specs.declared.phase.Phase.TheVariants.{Open}
use Rattle.gx_phases.specs.States.{State, phase_at, with_phase_of}
use Rattle.gx_tree.specs.declared.found.Found.{Found}
use Rattle.gx_engine.specs.declared.work.Work.{Work}
use Rattle.gx_engine.specs.declared.work.Work.TheVariants.{Looks, Seeks}
use Rattle.gx_engine.specs.Looks.{turned_by}
use Rattle.gx_engine.specs.Moves.{calling}
use Rattle.gx_engine.specs.States.{Parts}
use Rattle.gx_engine.proofs.AtWork.{as_kept, turned_none, turned_some}
use Rattle.gx_engine.proofs.LookMoves.{replaced}
use Rattle.gx_engine.proofs.Reading.{on_ok_map}
use Rattle.gx_engine.proofs.engine.Engine.turn_look.Goals as goal

pub returns-in-Some-clause-turns : goal.returns-in-Some-clause-turns
returns-in-Some-clause-turns g c call look phase =
    let e : Parts g.row.K-Key.Denot g.row.D.Denot =
    record { volume = c.self.inside.storage; sessions = c.self.inside.sessions; in_flight = c.self.inside.in_flight; checkpoint = c.self.inside.checkpoint } in
    let at = ap (λ (x : Parts g.row.K-Key.Denot g.row.D.Denot). phase_at (c.args.session - 1) x.sessions.phases) c.self.view_is ∙ phase in
    let found = sym (c.leaf_of_look.ensures call look phase) ∙ c.in-Some.is in
    let put = replaced c.args.session call (Looks look) (Seeks c.in-Some.leaf) e.sessions c.replace_work.new.self at c.replace_work.ensures.state in
    rw (← c.self.view_is) (record {
      there = ap (λ (x : State g.row.K-Key.Denot (Work g.row.K-Key.Denot)). record e { sessions = x }) put ∙ ap (λ (w : Work g.row.K-Key.Denot). calling c.args.session call w e) (sym (turned_some look.found.items look c.in-Some.leaf found));
      ends = tt;
      goes = refl;
    })

pub returns-in-None-clause-turns : goal.returns-in-None-clause-turns
returns-in-None-clause-turns g c call look phase =
    let e : Parts g.row.K-Key.Denot g.row.D.Denot = c.args.self.now in
    let found = sym (c.leaf_of_look.ensures call look phase) ∙ c.in-None.is in
    let none = turned_none look.found.items found in
    record {
      there = sym (ap (λ (fs : List (Found g.row.K-Key.Denot)). calling c.args.session call (turned_by fs look) e) none ∙ as_kept c.args.session e call (Looks look) phase);
      ends = on_ok_map _ _ c.ended_if.result (λ is. (none, is)) c.ended_if.ensures.ends;
      goes = c.ended_if.ensures.goes;
    }
