use Rattle.std.proofs.lemmas.Grind.{common_steps}
use Rattle.std.proofs.Common.{◌≡◌, ◌∙◌, inl, inr, refl, subst, sym, true, false, rules, Err, arith}
use Rattle.std.proofs.lemmas.Result.{err_from_is_err_and}
use Rattle.std.specs.Ordering.{is_eq}
use Rattle.gx_node.specs.Trees.{Rules}
use Rattle.gx_node.specs.declared.fault.SplitFault.TheVariants.{Step}
use Rattle.gx_node.specs.declared.fault.StepFault.TheVariants.{Damaged}
use Rattle.gx_memory_tree.specs.Inserting.{IsFullAt, SplitsOrNot}
use Rattle.gx_node.specs.Store.{Store, tree_of}
use Rattle.gx_tree.specs.Writing.{Swept}
use Rattle.gx_tree.proofs.Searched.{same_err}
use Rattle.gx_memory_tree.proofs.inserts.make_room.Goals as goal

pub returns-then-branch-clause-room : goal.returns-then-branch-clause-room
returns-then-branch-clause-room g c = λ steady at leaf.
    let old = g.P.Pages.store c.args.pages.now in
    let swept = c.in_ok-sweep_step.ensures.tells.swept steady (λ x. false) (λ entry answer p. search rules) in
    let some : c.in_ok-sweep_step.field-0 ≡ true = search rules in
    let here : c.page.result ≡ c.args.place.item.page = search rules in
    let did = subst (λ a. Swept (λ x. false) old (g.P.Pages.store c.sweep_step.new.pages) a c.in_ok-sweep_step.field-0) here swept in
    inl (record { sweep = (did.some some).0; some = (did.some some).1 }, refl)

pub returns-in_err-split_place-clause-refused : goal.returns-in_err-split_place-clause-refused
returns-in_err-split_place-clause-refused g c = λ steady.
    let swept = c.in_ok-sweep_step.ensures.tells.swept steady (λ x. false) (λ entry answer p. search rules) in
    let none : c.in_ok-sweep_step.field-0 ≡ false = search rules in
    let p = err_from_is_err_and c.from_residual-in_err-split_place.result c.from_residual-in_err-split_place.ensures.1 in
    rw p.1 (c.in_err-split_place.ensures.refused (c.sweep_step.ensures.writes.steady steady) ∙ (swept.none none).0)

pub returns-in_err-split_place-clause-damaged : goal.returns-in_err-split_place-clause-damaged
returns-in_err-split_place-clause-damaged g c = λ steady at leaf e.
    let r : Rules g.row.K-Key.Denot = record { covers = λ a b. g.K.Key.Shape.inside b a; same = λ a b. is_eq (g.K.Key.Ord.cmp a b); most = c.args.most } in
    let swept = c.in_ok-sweep_step.ensures.tells.swept steady (λ x. false) (λ entry answer p. search rules) in
    let none : c.in_ok-sweep_step.field-0 ≡ false = search rules in
    let out : c.from_residual-in_err-split_place.result ≡ Err c.in_err-split_place.field-0.0 = search rules in
    let failed = same_err c.from_residual-in_err-split_place.result c.split_place.result c.in_err-split_place.field-0.0 (Step Damaged) out c.in_err-split_place.was e in
    c.split_place.ensures.damaged (c.sweep_step.ensures.writes.steady steady)
    (subst (λ (s : Store g.row.K-Key.Denot). IsFullAt r (tree_of s) c.args.place) (sym (swept.none none).0) at) failed

pub returns-clause-room : goal.returns-clause-room
returns-clause-room g c = λ steady at leaf.
    let r : Rules g.row.K-Key.Denot = record { covers = λ a b. g.K.Key.Shape.inside b a; same = λ a b. is_eq (g.K.Key.Ord.cmp a b); most = c.args.most } in
    let new = tree_of (g.P.Pages.store c.split_place.new.pages) in
    let swept = c.in_ok-sweep_step.ensures.tells.swept steady (λ x. false) (λ entry answer p. search rules) in
    let none : c.in_ok-sweep_step.field-0 ≡ false = search rules in
    let same = (swept.none none).0 in
    let did = c.in_ok-split_place.ensures.split (c.sweep_step.ensures.writes.steady steady)
    (subst (λ (s : Store g.row.K-Key.Denot). IsFullAt r (tree_of s) c.args.place) (sym same) at) in
    inr (subst (λ (s : Store g.row.K-Key.Denot). SplitsOrNot r g.K.KeyClass.is_key (tree_of s) new c.args.place) same did, c.top.ensures.top, c.top.ensures.few)

pub returns-then-branch-clause-full : goal.returns-then-branch-clause-full
returns-then-branch-clause-full g c = grind (arith, common_steps)

pub returns-in_err-split_place-clause-full : goal.returns-in_err-split_place-clause-full
returns-in_err-split_place-clause-full g c = grind (arith, common_steps)

pub returns-clause-full : goal.returns-clause-full
returns-clause-full g c = grind (arith, common_steps)
