use Rattle.std.proofs.lemmas.Grind.{common_steps}
use Rattle.std.proofs.Common.{◌≡◌, ◌∙◌, subst, rules, Err, arith}
use Rattle.std.specs.Ordering.{is_eq}
use Rattle.gx_node.specs.Trees.{Rules}
use Rattle.gx_node.specs.declared.fault.SplitFault.TheVariants.{Step}
use Rattle.gx_node.specs.declared.fault.StepFault.TheVariants.{Damaged}
use Rattle.gx_tree.specs.Splitting.{DidSplitRoot}
use Rattle.gx_node.specs.Store.{Store}
use Rattle.gx_node.proofs.Listed.{same_store}
use Rattle.gx_tree.proofs.split_root.RootSplits.{root_is_whole}
use Rattle.gx_tree.proofs.Searched.{same_err}
use Rattle.gx_tree.proofs.split_root.split_root_step.Goals as goal

pub returns-clause-tells : goal.returns-clause-tells
returns-clause-tells g c =
    let r : Rules g.row.K-Key.Denot = record { covers = λ a b. g.K.Key.Shape.inside b a; same = λ a b. is_eq (g.K.Key.Ord.cmp a b); most = c.args.most } in
    let old = g.P.Pages.store c.args.pages.now in
    let brought = g.P.Pages.store c.bring_page.new.pages in
    record {
      split = λ steady. subst (λ (s : Store g.row.K-Key.Denot). DidSplitRoot r g.K.KeyClass.sides_of s (g.P.Pages.store c.make_root_split.new.pages) c.make_root_split.result)
          (c.prepare.ensures.same ∙ same_store (g.P.Pages.steady c.args.pages.now) old brought c.bring_page.ensures.stays steady)
          c.make_root_split.ensures.split;
      keys = search rules;
      only_full = grind (arith, common_steps);
      refused = search rules;
      damaged = search rules;
    }

pub returns-in_err-halves-clause-tells : goal.returns-in_err-halves-clause-tells
returns-in_err-halves-clause-tells g c =
    let r : Rules g.row.K-Key.Denot = record { covers = λ a b. g.K.Key.Shape.inside b a; same = λ a b. is_eq (g.K.Key.Ord.cmp a b); most = c.args.most } in
    let old = g.P.Pages.store c.args.pages.now in
    let brought = g.P.Pages.store c.bring_page.new.pages in
    let out : c.from_residual-in_err-halves.result ≡ Err c.in_err-halves.field-0.0 = search rules in
    record {
      split = search rules;
      keys = search rules;
      only_full = search rules;
      refused = search rules;
      damaged = λ steady is legal full level. root_is_whole r old brought (same_store (g.P.Pages.steady c.args.pages.now) old brought c.bring_page.ensures.stays steady)
          c.requires.most.1 legal full level
          (c.plan_root.ensures.damaged (same_err c.from_residual-in_err-halves.result c.plan_root.result c.in_err-halves.field-0.0 (Step Damaged) out c.in_err-halves.was is));
    }

pub returns-in_err-prepare-clause-tried : goal.returns-in_err-prepare-clause-tried
returns-in_err-prepare-clause-tried g c = grind (arith, common_steps)
