use Rattle.std.proofs.Common.{◌≡◌, ◌∙◌, ap, sym, subst, refl, ◌-◌, List, [], ◌∷◌, ◌++◌}
use Rattle.std.specs.Prelude.{Err}
use Rattle.gx_node.specs.Reach.{TraversalItem}
use Rattle.gx_node.specs.Trees.{Used}
use Rattle.gx_phases.specs.declared.phase.Phase.{Phase}
use Rattle.gx_phases.specs.Moves.{with_work}
use Rattle.gx_phases.specs.States.{phase_at, with_phase_of}
use Rattle.gx_storage.specs.Setting.{tree_at}
use Rattle.gx_tree.specs.declared.look.Look.{Look}
use Rattle.gx_tree.specs.Looking.{LookStep}
use Rattle.gx_tree.specs.Wants.{wants}
use Rattle.gx_engine.specs.declared.work.Work.{Work}
use Rattle.gx_engine.specs.declared.work.Work.TheVariants.{Looks}
use Rattle.gx_engine.proofs.looks.Steps.{one_look, refuses_in}
use Rattle.gx_engine.proofs.looks.read_in.Goals as goal

pub returns-in-Ok-clause-reads : goal.returns-in-Ok-clause-reads
returns-in-Ok-clause-reads g c call look at =
    let old = c.args.sessions.now in
    let had = c.work_mut.ensures.work ∙ ap (λ (p : Phase g.row.K-Key.Denot (Work g.row.K-Key.Denot)). (with_work c.work_mut.result.now p).0) at in
    let same : c.in-Looks.look ≡ look = one_look c.work_mut.result.now c.in-Looks.look look c.in-Looks.is had in
    record {
      after = c.look_step.new.look;
      only = ap (λ (p : Phase g.row.K-Key.Denot (Work g.row.K-Key.Denot)). with_phase_of c.args.session (with_work (Looks c.look_step.new.look) p).1 old) at;
      ends = c.is_done.ensures;
      step = subst (λ (x : Look g.row.K-Key.Denot). LookStep (tree_at g.K.KeyClass g.D.SectorDisk.state c.look_step.new.self.shelf)
          (wants g.K.Probing.passes c.args.wanted.now.keys c.args.wanted.now.row) (g.K.Probing.passes c.args.wanted.now.bounds)
          x.stack.items c.look_step.new.look.stack.items x.found.items c.look_step.new.look.found.items) same c.in-Ok.ensures.tells.step;
    }

pub returns-in-Err-clause-refused : goal.returns-in-Err-clause-refused
returns-in-Err-clause-refused g c call look at =
    let t = tree_at g.K.KeyClass g.D.SectorDisk.state c.look_step.new.self.shelf in
    let old = c.args.sessions.now in
    let had = c.work_mut.ensures.work ∙ ap (λ (p : Phase g.row.K-Key.Denot (Work g.row.K-Key.Denot)). (with_work c.work_mut.result.now p).0) at in
    let same : c.in-Looks.look ≡ look = one_look c.work_mut.result.now c.in-Looks.look look c.in-Looks.is had in
    refuses_in t c.args.session call look c.look_step.new.look old _ at
    (ap (λ (p : Phase g.row.K-Key.Denot (Work g.row.K-Key.Denot)). with_phase_of c.args.session (with_work (Looks c.look_step.new.look) p).1 old) at)
    (Err c.in-Err.fault) (λ other. c.in-Err.ensures.tells.refused other ∙ same)
    (λ is. subst (λ (x : Look g.row.K-Key.Denot). (rest : List TraversalItem) (item : TraversalItem) → x.stack.items ≡ rest ++ item ∷ [] → ¬ Used t item.page) same (c.in-Err.ensures.tells.damaged is))
    c.in-Err.fault refl
