use Rattle.std.proofs.lemmas.Grind.{common_steps}
use Rattle.std.proofs.Common.{◌≡◌, ◌≢◌, sym, rules, Err, arith}
use Rattle.std.specs.Ordering.{is_eq}
use Rattle.gx_node.specs.Trees.{Rules}
use Rattle.gx_node.specs.declared.fault.SplitFault.TheVariants.{Step}
use Rattle.gx_node.specs.declared.fault.StepFault.TheVariants.{Damaged}
use Rattle.gx_memory_tree.proofs.inserts.Splits.{never_damaged_below, splits_below}
use Rattle.gx_tree.proofs.Searched.{same_err}
use Rattle.gx_memory_tree.proofs.inserts.split_place.Goals as goal

pub returns-in_err-split_step-clause-damaged : goal.returns-in_err-split_step-clause-damaged
returns-in_err-split_step-clause-damaged g c = λ steady at e.
    let r : Rules g.row.K-Key.Denot = record { covers = λ a b. g.K.Key.Shape.inside b a; same = λ a b. is_eq (g.K.Key.Ord.cmp a b); most = c.args.most } in
    let old = g.P.Pages.store c.args.pages.now in
    let out : c.from_residual-in_err-split_step.result ≡ Err c.in_err-split_step.field-0.0 = search rules in
    let failed = same_err c.from_residual-in_err-split_step.result c.split_step.result c.in_err-split_step.field-0.0 (Step Damaged) out c.in_err-split_step.was e in
    let below : c.args.place.item.page ≢ 1 = search rules in
    absurd (never_damaged_below r old c.args.place at below (search rules) (rw (sym c.page-page.ensures) (c.split_step.ensures.tells.damaged steady failed)))

pub returns-clause-split : goal.returns-clause-split
returns-clause-split g c = λ steady at.
    let r : Rules g.row.K-Key.Denot = record { covers = λ a b. g.K.Key.Shape.inside b a; same = λ a b. is_eq (g.K.Key.Ord.cmp a b); most = c.args.most } in
    let old = g.P.Pages.store c.args.pages.now in
    let below : c.args.place.item.page ≢ 1 = search rules in
    splits_below r old c.args.place at below g.K.KeyClass.is_key g.K.KeyClass.sides_of (g.P.Pages.store c.split_step.new.pages) c.in_ok-split_step.field-0
    (rw (sym c.page-page.ensures) (c.in_ok-split_step.ensures.tells.split steady)) c.in_ok-split_step.ensures.tells.keys

pub returns-in_err-split_root_step-clause-full : goal.returns-in_err-split_root_step-clause-full
returns-in_err-split_root_step-clause-full g c = grind (arith, common_steps)

pub returns-then-page-eq1-clause-full : goal.returns-then-page-eq1-clause-full
returns-then-page-eq1-clause-full g c = grind (arith, common_steps)
