use Rattle.std.proofs.lemmas.Grind.{common_steps}
use Rattle.std.proofs.Common.{◌≡◌, subst, sym, arith}
use Rattle.std.proofs.lemmas.Result.{err_from_is_err_and}
use Rattle.std.specs.Ordering.{is_eq}
use Rattle.std.specs.Prelude.{IfNone, IfSome, Option}
use Rattle.gx_node.specs.Legal.{Legal}
use Rattle.gx_node.specs.Trees.{Rules, IsLawful, is_entry, standing}
use Rattle.gx_memory_tree.specs.declared.inserts.DescentPlace.{DescentPlace}
use Rattle.gx_memory_tree.specs.Inserting.{GoesOn, HasAdded, IsInsert, MakesWay}
use Rattle.gx_node.specs.Store.{Store, tree_of}
use Rattle.gx_memory_tree.proofs.inserts.Steps.{added_after, begins, live_after, no_way, once_after, way_on}
use Rattle.gx_memory_tree.proofs.inserts.insert.Goals as goal

pub steps-init : goal.steps-init
steps-init g c =
    let r : Rules g.row.K-Key.Denot = record { covers = λ a b. g.K.Key.Shape.inside b a; same = λ a b. is_eq (g.K.Key.Ord.cmp a b); most = c.args.most } in
    let t = tree_of (g.P.Pages.store c.args.pages.now) in
    let law : IsLawful r = c.keys_are_lawful.ensures c.args.most (omega (arith, c.requires.most.0)) in
    record {
      steady = c.requires.steady;
      way = no_way r t;
      insert = subst (λ p. IsInsert r g.K.KeyClass.is_key t c.args.entry.now p) (sym c.top-place.ensures.top)
          (begins r law g.K.KeyClass.is_key c.args.entry.now t c.requires.legal c.requires.keys c.requires.absent);
    }

pub steps-preserved : goal.steps-preserved
steps-preserved g c =
    let r : Rules g.row.K-Key.Denot = record { covers = λ a b. g.K.Key.Shape.inside b a; same = λ a b. is_eq (g.K.Key.Ord.cmp a b); most = c.args.most } in
    let t = tree_of (g.P.Pages.store c.args.pages.now) in
    let before = tree_of (g.P.Pages.store c.steps.pages) in
    let after = tree_of (g.P.Pages.store c.insert_step.new.pages) in
    let inv = c.steps.invariant in
    let goes = subst (λ (n : Option DescentPlace). IfSome n (GoesOn r g.K.KeyClass.is_key before after c.args.entry.now c.steps.place)) c.in-Some.is
    (c.in_ok-next.ensures.goes_on inv.steady inv.insert) in
    record {
      steady = c.in_ok-next.ensures.steady inv.steady;
      way = way_on r t before after inv.way goes.way;
      insert = goes.insert;
    }

pub returns-in_err-next-clause-legal : goal.returns-in_err-next-clause-legal
returns-in_err-next-clause-legal g c =
    let r : Rules g.row.K-Key.Denot = record { covers = λ a b. g.K.Key.Shape.inside b a; same = λ a b. is_eq (g.K.Key.Ord.cmp a b); most = c.args.most } in
    let inv = c.steps.invariant in
    subst (λ (s : Store g.row.K-Key.Denot). Legal r (tree_of s)) (sym (c.in_err-next.ensures.refused inv.steady)) inv.insert.legal

pub returns-in_err-next-clause-refused : goal.returns-in_err-next-clause-refused
returns-in_err-next-clause-refused g c =
    let r : Rules g.row.K-Key.Denot = record { covers = λ a b. g.K.Key.Shape.inside b a; same = λ a b. is_eq (g.K.Key.Ord.cmp a b); most = c.args.most } in
    let inv = c.steps.invariant in
    let p = err_from_is_err_and c.from_residual.result c.from_residual.ensures.1 in
    rw p.1 (subst (λ (s : Store g.row.K-Key.Denot). MakesWay r (tree_of (g.P.Pages.store c.args.pages.now)) (tree_of s)) (sym (c.in_err-next.ensures.refused inv.steady)) inv.way)

pub returns-in_err-next-clause-absent : goal.returns-in_err-next-clause-absent
returns-in_err-next-clause-absent g c =
    let r : Rules g.row.K-Key.Denot = record { covers = λ a b. g.K.Key.Shape.inside b a; same = λ a b. is_eq (g.K.Key.Ord.cmp a b); most = c.args.most } in
    let inv = c.steps.invariant in
    let p = err_from_is_err_and c.from_residual.result c.from_residual.ensures.1 in
    rw p.1 (subst (λ (s : Store g.row.K-Key.Denot). standing (is_entry r c.args.entry.now.row c.args.entry.now.key) (tree_of s) ≡ 0)
    (sym (c.in_err-next.ensures.refused inv.steady)) inv.insert.absent)

pub returns-in-None-clause-added : goal.returns-in-None-clause-added
returns-in-None-clause-added g c =
    let r : Rules g.row.K-Key.Denot = record { covers = λ a b. g.K.Key.Shape.inside b a; same = λ a b. is_eq (g.K.Key.Ord.cmp a b); most = c.args.most } in
    let IsKey = g.K.KeyClass.is_key in
    let entry = c.args.entry.now in
    let t = tree_of (g.P.Pages.store c.args.pages.now) in
    let before = tree_of (g.P.Pages.store c.steps.pages) in
    let after = tree_of (g.P.Pages.store c.insert_step.new.pages) in
    let inv = c.steps.invariant in
    let law : IsLawful r = c.keys_are_lawful.ensures c.args.most (omega (arith, c.requires.most.0)) in
    let last = subst (λ (n : Option DescentPlace). IfNone n (HasAdded r IsKey before after entry)) c.in-None.is (c.in_ok-next.ensures.added inv.steady inv.insert) in
    let added = added_after r law IsKey entry t before after inv.way last in
    added

pub returns-in-None-clause-live : goal.returns-in-None-clause-live
returns-in-None-clause-live g c =
    let r : Rules g.row.K-Key.Denot = record { covers = λ a b. g.K.Key.Shape.inside b a; same = λ a b. is_eq (g.K.Key.Ord.cmp a b); most = c.args.most } in
    let IsKey = g.K.KeyClass.is_key in
    let entry = c.args.entry.now in
    let t = tree_of (g.P.Pages.store c.args.pages.now) in
    let before = tree_of (g.P.Pages.store c.steps.pages) in
    let after = tree_of (g.P.Pages.store c.insert_step.new.pages) in
    let inv = c.steps.invariant in
    let law : IsLawful r = c.keys_are_lawful.ensures c.args.most (omega (arith, c.requires.most.0)) in
    let last = subst (λ (n : Option DescentPlace). IfNone n (HasAdded r IsKey before after entry)) c.in-None.is (c.in_ok-next.ensures.added inv.steady inv.insert) in
    let added = added_after r law IsKey entry t before after inv.way last in
    λ test. live_after r law IsKey entry t after c.requires.legal added test

pub returns-in-None-clause-once : goal.returns-in-None-clause-once
returns-in-None-clause-once g c =
    let r : Rules g.row.K-Key.Denot = record { covers = λ a b. g.K.Key.Shape.inside b a; same = λ a b. is_eq (g.K.Key.Ord.cmp a b); most = c.args.most } in
    let IsKey = g.K.KeyClass.is_key in
    let entry = c.args.entry.now in
    let t = tree_of (g.P.Pages.store c.args.pages.now) in
    let before = tree_of (g.P.Pages.store c.steps.pages) in
    let after = tree_of (g.P.Pages.store c.insert_step.new.pages) in
    let inv = c.steps.invariant in
    let law : IsLawful r = c.keys_are_lawful.ensures c.args.most (omega (arith, c.requires.most.0)) in
    let last = subst (λ (n : Option DescentPlace). IfNone n (HasAdded r IsKey before after entry)) c.in-None.is (c.in_ok-next.ensures.added inv.steady inv.insert) in
    let added = added_after r law IsKey entry t before after inv.way last in
    once_after r law IsKey entry t after c.requires.legal added

pub returns-in_err-next-clause-full : goal.returns-in_err-next-clause-full
returns-in_err-next-clause-full g c = grind (arith, common_steps)

pub returns-in-None-clause-legal : goal.returns-in-None-clause-legal
returns-in-None-clause-legal g c = grind (arith, common_steps)

pub returns-in-None-clause-full : goal.returns-in-None-clause-full
returns-in-None-clause-full g c = grind (arith, common_steps)
