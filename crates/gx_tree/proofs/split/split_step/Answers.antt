use Rattle.std.proofs.lemmas.Grind.{common_steps}
use Rattle.std.proofs.Common.{◌∙◌, ◌∷◌, [], inr, subst, rules, arith}
use Rattle.std.specs.Ordering.{is_eq}
use Rattle.gx_node.specs.Trees.{Rules}
use Rattle.gx_node.specs.Owner.{Brings}
use Rattle.gx_tree.specs.Splitting.{DidSplit}
use Rattle.gx_node.specs.Store.{Store}
use Rattle.gx_node.proofs.Listed.{same_store}
use Rattle.gx_tree.proofs.Owner.{where_refused}
use Rattle.gx_tree.proofs.split.split_step.Goals as goal

pub returns-clause-tells : goal.returns-clause-tells
returns-clause-tells g c =
    let r : Rules g.row.K-Key.Denot = record { covers = λ a b. g.K.Key.Shape.inside b a; same = λ a b. is_eq (g.K.Key.Ord.cmp a b); most = c.args.most } in
    let old = g.P.Pages.store c.args.pages.now in
    let brought = g.P.Pages.store c.bring_both.new.pages in
    record {
      split = λ steady. subst (λ (s : Store g.row.K-Key.Denot). DidSplit r g.K.KeyClass.sides_of s (g.P.Pages.store c.make_split.new.pages) c.args.page c.args.parent c.make_split.result)
          (c.prepare.ensures.same ∙ same_store (g.P.Pages.steady c.args.pages.now) old brought c.bring_both.ensures.stays steady)
          c.make_split.ensures.split;
      keys = search rules;
      apart = grind (arith, common_steps);
      only_full = grind (arith, common_steps);
      placed = search rules;
      refused = search rules;
      damaged = grind (arith, common_steps);
    }

pub returns-in_err-prepare-clause-tried : goal.returns-in_err-prepare-clause-tried
returns-in_err-prepare-clause-tried g c =
    where_refused c.from_residual-in_err-prepare.result
    (inr (λ was past h. c.prepare.ensures.asked was (Brings (c.args.page ∷ c.args.parent ∷ []) ∷ past) (c.in_ok-bring_both.ensures.reads.asked was past h)))

pub prepare-requires-clause-room : goal.prepare-requires-clause-room
prepare-requires-clause-room g c = grind (arith, common_steps)

pub make_split-requires-clause-can : goal.make_split-requires-clause-can
make_split-requires-clause-can g c = grind (arith, common_steps)
