use Rattle.std.proofs.lemmas.Grind.{common_steps}
use Rattle.std.proofs.Common.{◌≡◌, ◌∙◌, subst, sym, ap, arith, rules, Err}
use Rattle.std.specs.Ordering.{is_eq}
use Rattle.gx_node.specs.Trees.{Rules, IsLawful}
use Rattle.gx_tree.specs.declared.descent.Descended.{Descended}
use Rattle.gx_node.specs.declared.fault.SplitFault.TheVariants.{Step}
use Rattle.gx_node.specs.declared.fault.StepFault.TheVariants.{Damaged}
use Rattle.gx_tree.specs.Descending.{StepsDown}
use Rattle.gx_memory_tree.specs.Inserting.{GoesOn, IsFullAt, MakesRoom, SplitsOrNot, from_top}
use Rattle.gx_node.specs.Store.{Store, node_at, tree_of}
use Rattle.gx_tree.specs.Writing.{Appends}
use Rattle.gx_memory_tree.proofs.inserts.Down.{down_on, widened_on}
use Rattle.gx_memory_tree.proofs.inserts.Steps.{begins_again, full_at, has_added, room_on, split_or_not, split_since}
use Rattle.gx_tree.proofs.Searched.{same_err}
use Rattle.gx_memory_tree.proofs.inserts.insert_step.Goals as goal

pub returns-in-Again-clause-goes_on : goal.returns-in-Again-clause-goes_on
returns-in-Again-clause-goes_on g c = λ steady ins.
    let r : Rules g.row.K-Key.Denot = record { covers = λ a b. g.K.Key.Shape.inside b a; same = λ a b. is_eq (g.K.Key.Ord.cmp a b); most = c.args.most } in
    let IsKey = g.K.KeyClass.is_key in
    let old = g.P.Pages.store c.args.pages.now in
    let read = g.P.Pages.store c.descend_step.new.pages in
    let entry = c.args.entry.now in
    let place = c.args.place in
    let law : IsLawful r = c.keys_are_lawful.ensures c.args.most (omega (arith, c.requires.most.0)) in
    let step = subst (λ (d : Descended g.row.K-Key.Denot). StepsDown g.K.KeyClass.cost g.K.KeyClass.joined c.args.most old read place.item entry.key d)
    c.in-Again.is (c.in_ok-descend_step.ensures.tells.descended steady) in
    subst (λ n. GoesOn r IsKey (tree_of old) (tree_of read) entry place n) (sym c.top.ensures.top)
    (subst (λ (s : Store g.row.K-Key.Denot). GoesOn r IsKey (tree_of old) (tree_of s) entry place (from_top (tree_of s))) (sym step.1)
    (begins_again r law IsKey entry (tree_of old) place ins (split_since r (tree_of old) place step.0)))

pub returns-in-Down-clause-goes_on : goal.returns-in-Down-clause-goes_on
returns-in-Down-clause-goes_on g c = λ steady ins.
    let r : Rules g.row.K-Key.Denot = record { covers = λ a b. g.K.Key.Shape.inside b a; same = λ a b. is_eq (g.K.Key.Ord.cmp a b); most = c.args.most } in
    let old = g.P.Pages.store c.args.pages.now in
    let new = g.P.Pages.store c.descend_step.new.pages in
    let entry = c.args.entry.now in
    let place = c.args.place in
    let law : IsLawful r = c.keys_are_lawful.ensures c.args.most (omega (arith, c.requires.most.0)) in
    let step = subst (λ (d : Descended g.row.K-Key.Denot). StepsDown g.K.KeyClass.cost g.K.KeyClass.joined c.args.most old new place.item entry.key d)
    c.in-Down.is (c.in_ok-descend_step.ensures.tells.descended steady) in
    subst (λ p. GoesOn r g.K.KeyClass.is_key (tree_of old) (tree_of new) entry place (record { item = c.in-Down.item; parent = p })) (sym c.page-page.ensures)
    (down_on r law g.K.KeyClass.is_key g.K.KeyClass.cost g.K.KeyClass.joined
    g.met.K.KeyClass.union_is_key g.met.K.KeyClass.union_covers_first g.met.K.KeyClass.union_covers_second g.met.K.KeyClass.union_is_least
    old new entry place c.known.ensures ins c.in-Down.item step)

pub returns-in-Widened-clause-goes_on : goal.returns-in-Widened-clause-goes_on
returns-in-Widened-clause-goes_on g c = λ steady ins.
    let r : Rules g.row.K-Key.Denot = record { covers = λ a b. g.K.Key.Shape.inside b a; same = λ a b. is_eq (g.K.Key.Ord.cmp a b); most = c.args.most } in
    let old = g.P.Pages.store c.args.pages.now in
    let new = g.P.Pages.store c.descend_step.new.pages in
    let entry = c.args.entry.now in
    let place = c.args.place in
    let law : IsLawful r = c.keys_are_lawful.ensures c.args.most (omega (arith, c.requires.most.0)) in
    let step = subst (λ (d : Descended g.row.K-Key.Denot). StepsDown g.K.KeyClass.cost g.K.KeyClass.joined c.args.most old new place.item entry.key d)
    c.in-Widened.is (c.in_ok-descend_step.ensures.tells.descended steady) in
    subst (λ p. GoesOn r g.K.KeyClass.is_key (tree_of old) (tree_of new) entry place (record { item = c.in-Widened.item; parent = p })) (sym c.page-page.ensures)
    (widened_on r law g.K.KeyClass.is_key g.K.KeyClass.cost g.K.KeyClass.joined
    g.met.K.KeyClass.union_is_key g.met.K.KeyClass.union_covers_first g.met.K.KeyClass.union_covers_second g.met.K.KeyClass.union_is_least
    old new entry place c.known.ensures ins c.in-Widened.item c.in-Widened._slot c.in-Widened._bound step)

pub returns-in_ok-add_step-in-Leaf-clause-added : goal.returns-in_ok-add_step-in-Leaf-clause-added
returns-in_ok-add_step-in-Leaf-clause-added g c = λ steady ins.
    let r : Rules g.row.K-Key.Denot = record { covers = λ a b. g.K.Key.Shape.inside b a; same = λ a b. is_eq (g.K.Key.Ord.cmp a b); most = c.args.most } in
    let old = g.P.Pages.store c.args.pages.now in
    let read = g.P.Pages.store c.descend_step.new.pages in
    let new = tree_of (g.P.Pages.store c.add_step.new.pages) in
    let entry = c.args.entry.now in
    let place = c.args.place in
    let law : IsLawful r = c.keys_are_lawful.ensures c.args.most (omega (arith, c.requires.most.0)) in
    let step = subst (λ (d : Descended g.row.K-Key.Denot). StepsDown g.K.KeyClass.cost g.K.KeyClass.joined c.args.most old read place.item entry.key d)
    c.in-Leaf.is (c.in_ok-descend_step.ensures.tells.descended steady) in
    let appends = subst (λ (s : Store g.row.K-Key.Denot). Appends c.args.most (tree_of s) new c.page-page.result entry) step.1
    (c.in_ok-add_step-in-Leaf.ensures.tells.added (c.in_ok-descend_step.ensures.writes.steady steady)) in
    has_added r law g.K.KeyClass.is_key entry (tree_of old) new place ins c.known.ensures step.0.0
    (subst (λ p. Appends c.args.most (tree_of old) new p entry) c.page-page.ensures appends)

pub returns-in_ok-make_room-in-FullLeaf-clause-goes_on : goal.returns-in_ok-make_room-in-FullLeaf-clause-goes_on
returns-in_ok-make_room-in-FullLeaf-clause-goes_on g c = λ steady ins.
    let r : Rules g.row.K-Key.Denot = record { covers = λ a b. g.K.Key.Shape.inside b a; same = λ a b. is_eq (g.K.Key.Ord.cmp a b); most = c.args.most } in
    let IsKey = g.K.KeyClass.is_key in
    let old = g.P.Pages.store c.args.pages.now in
    let read = g.P.Pages.store c.descend_step.new.pages in
    let new = tree_of (g.P.Pages.store c.make_room.new.pages) in
    let entry = c.args.entry.now in
    let place = c.args.place in
    let law : IsLawful r = c.keys_are_lawful.ensures c.args.most (omega (arith, c.requires.most.0)) in
    let step = subst (λ (d : Descended g.row.K-Key.Denot). StepsDown g.K.KeyClass.cost g.K.KeyClass.joined c.args.most old read place.item entry.key d)
    c.in-FullLeaf.is (c.in_ok-descend_step.ensures.tells.descended steady) in
    let full = step.0.2 in
    let at = full_at r IsKey (tree_of old) entry place ins (omega (arith, full)) in
    let makes = c.in_ok-make_room-in-FullLeaf.ensures.room (c.in_ok-descend_step.ensures.writes.steady steady)
    (subst (λ (s : Store g.row.K-Key.Denot). IsFullAt r (tree_of s) place) (sym step.1) at)
    (ap (λ (s : Store g.row.K-Key.Denot). (node_at s.nodes place.item.page).level) step.1 ∙ step.0.1) in
    room_on r law IsKey entry (tree_of old) new place ins c.in_ok-make_room-in-FullLeaf.field-0
    (subst (λ (s : Store g.row.K-Key.Denot). MakesRoom r IsKey (tree_of s) new place c.in_ok-make_room-in-FullLeaf.field-0) step.1 makes)

pub returns-in_ok-split_place-in-FullInner-clause-goes_on : goal.returns-in_ok-split_place-in-FullInner-clause-goes_on
returns-in_ok-split_place-in-FullInner-clause-goes_on g c = λ steady ins.
    let r : Rules g.row.K-Key.Denot = record { covers = λ a b. g.K.Key.Shape.inside b a; same = λ a b. is_eq (g.K.Key.Ord.cmp a b); most = c.args.most } in
    let IsKey = g.K.KeyClass.is_key in
    let old = g.P.Pages.store c.args.pages.now in
    let read = g.P.Pages.store c.descend_step.new.pages in
    let new = tree_of (g.P.Pages.store c.split_place.new.pages) in
    let entry = c.args.entry.now in
    let place = c.args.place in
    let law : IsLawful r = c.keys_are_lawful.ensures c.args.most (omega (arith, c.requires.most.0)) in
    let step = subst (λ (d : Descended g.row.K-Key.Denot). StepsDown g.K.KeyClass.cost g.K.KeyClass.joined c.args.most old read place.item entry.key d)
    c.in-FullInner.is (c.in_ok-descend_step.ensures.tells.descended steady) in
    let full = step.0.2 in
    let at = full_at r IsKey (tree_of old) entry place ins (omega (arith, full)) in
    let splits = c.in_ok-split_place-in-FullInner.ensures.split (c.in_ok-descend_step.ensures.writes.steady steady)
    (subst (λ (s : Store g.row.K-Key.Denot). IsFullAt r (tree_of s) place) (sym step.1) at) in
    let few = c.top-in-FullInner.ensures.few in
    subst (λ n. GoesOn r IsKey (tree_of old) new entry place n) (sym c.top-in-FullInner.ensures.top)
    (split_or_not r law IsKey entry (tree_of old) new place ins
    (subst (λ (s : Store g.row.K-Key.Denot). SplitsOrNot r IsKey (tree_of s) new place) step.1 splits) (omega (arith, few)))

pub returns-in_err-make_room-in-FullLeaf-clause-damaged : goal.returns-in_err-make_room-in-FullLeaf-clause-damaged
returns-in_err-make_room-in-FullLeaf-clause-damaged g c = λ steady ins e.
    let r : Rules g.row.K-Key.Denot = record { covers = λ a b. g.K.Key.Shape.inside b a; same = λ a b. is_eq (g.K.Key.Ord.cmp a b); most = c.args.most } in
    let old = g.P.Pages.store c.args.pages.now in
    let read = g.P.Pages.store c.descend_step.new.pages in
    let entry = c.args.entry.now in
    let place = c.args.place in
    let step = subst (λ (d : Descended g.row.K-Key.Denot). StepsDown g.K.KeyClass.cost g.K.KeyClass.joined c.args.most old read place.item entry.key d)
    c.in-FullLeaf.is (c.in_ok-descend_step.ensures.tells.descended steady) in
    let full = step.0.2 in
    let at = full_at r g.K.KeyClass.is_key (tree_of old) entry place ins (omega (arith, full)) in
    let out : c.from_residual-in_err-make_room-in-FullLeaf.result ≡ Err c.in_err-make_room-in-FullLeaf.field-0.0 = search rules in
    let failed = same_err c.from_residual-in_err-make_room-in-FullLeaf.result c.make_room.result c.in_err-make_room-in-FullLeaf.field-0.0 (Step Damaged) out c.in_err-make_room-in-FullLeaf.was e in
    c.make_room.ensures.damaged (c.in_ok-descend_step.ensures.writes.steady steady)
    (subst (λ (s : Store g.row.K-Key.Denot). IsFullAt r (tree_of s) place) (sym step.1) at)
    (ap (λ (s : Store g.row.K-Key.Denot). (node_at s.nodes place.item.page).level) step.1 ∙ step.0.1) failed

pub returns-in_err-split_place-in-FullInner-clause-damaged : goal.returns-in_err-split_place-in-FullInner-clause-damaged
returns-in_err-split_place-in-FullInner-clause-damaged g c = λ steady ins e.
    let r : Rules g.row.K-Key.Denot = record { covers = λ a b. g.K.Key.Shape.inside b a; same = λ a b. is_eq (g.K.Key.Ord.cmp a b); most = c.args.most } in
    let old = g.P.Pages.store c.args.pages.now in
    let read = g.P.Pages.store c.descend_step.new.pages in
    let entry = c.args.entry.now in
    let place = c.args.place in
    let step = subst (λ (d : Descended g.row.K-Key.Denot). StepsDown g.K.KeyClass.cost g.K.KeyClass.joined c.args.most old read place.item entry.key d)
    c.in-FullInner.is (c.in_ok-descend_step.ensures.tells.descended steady) in
    let full = step.0.2 in
    let at = full_at r g.K.KeyClass.is_key (tree_of old) entry place ins (omega (arith, full)) in
    let out : c.from_residual-in_err-split_place-in-FullInner.result ≡ Err c.in_err-split_place-in-FullInner.field-0.0 = search rules in
    let failed = same_err c.from_residual-in_err-split_place-in-FullInner.result c.split_place.result c.in_err-split_place-in-FullInner.field-0.0 (Step Damaged) out c.in_err-split_place-in-FullInner.was e in
    c.split_place.ensures.damaged (c.in_ok-descend_step.ensures.writes.steady steady)
    (subst (λ (s : Store g.row.K-Key.Denot). IsFullAt r (tree_of s) place) (sym step.1) at) failed

pub returns-in_err-add_step-in-Leaf-clause-full : goal.returns-in_err-add_step-in-Leaf-clause-full
returns-in_err-add_step-in-Leaf-clause-full g c = grind (arith, common_steps)

pub returns-in_ok-add_step-in-Leaf-clause-full : goal.returns-in_ok-add_step-in-Leaf-clause-full
returns-in_ok-add_step-in-Leaf-clause-full g c = grind (arith, common_steps)

pub returns-in_ok-make_room-in-FullLeaf-clause-full : goal.returns-in_ok-make_room-in-FullLeaf-clause-full
returns-in_ok-make_room-in-FullLeaf-clause-full g c = grind (arith, common_steps)

pub returns-in_ok-make_room-in-FullLeaf-clause-damaged : goal.returns-in_ok-make_room-in-FullLeaf-clause-damaged
returns-in_ok-make_room-in-FullLeaf-clause-damaged g c = grind (arith, common_steps)

pub returns-in_ok-split_place-in-FullInner-clause-full : goal.returns-in_ok-split_place-in-FullInner-clause-full
returns-in_ok-split_place-in-FullInner-clause-full g c = grind (arith, common_steps)

pub returns-in_ok-split_place-in-FullInner-clause-damaged : goal.returns-in_ok-split_place-in-FullInner-clause-damaged
returns-in_ok-split_place-in-FullInner-clause-damaged g c = grind (arith, common_steps)
