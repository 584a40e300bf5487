use Rattle.std.proofs.Common.{◌∙◌, List, refl, sym, subst}
use Rattle.gx_legality.specs.Gathered.{Ascends}
use Rattle.gx_legality.specs.Owner.{IsFound}
use Rattle.gx_legality.specs.Placing.{BreaksOrLeavesOut, IsPlaced, noted}
use Rattle.gx_legality.specs.declared.notes.NotedPair.{NotedPair}
use Rattle.gx_machine.specs.Keys.{Members, keys_of, entry_cmp}
use Rattle.gx_machine.specs.declared.entry.Entry.{Entry}
use Rattle.gx_node.specs.Keyed.{rules_of}
use Rattle.gx_node.specs.Reading.{format_of, is_node}
use Rattle.gx_opening.specs.Sound.{shown_tree}
use Rattle.gx_node.specs.Lists.{Each}
use Rattle.gx_opening.proofs.Sounding.{all_in_place, all_read, can_be_read, damage_told, never_sound}
use Rattle.gx_opening.proofs.legal.test_store.Goals as goal

pub test_tree-requires-clause-in_order : goal.test_tree-requires-clause-in_order
test_tree-requires-clause-in_order g c =
    let shape : Members g.row.K-Key.Denot = record { partial_cmp = g.K.Key.PartialOrd.partial_cmp; eq = g.K.Key.PartialEq.eq; cmp = g.K.Key.Ord.cmp; overlap = g.K.Key.Shape.overlap; inside = g.K.Key.Shape.inside } in
    subst (λ (notes : List (NotedPair (Entry g.row.K-Key.Denot))). Ascends (entry_cmp (keys_of shape)) (noted notes)) (c.deref.ensures.value ∙ sym c.deref-2.ensures.value) (c.if-not-are_in_order.ensures.0 refl)

pub returns-then-not-are_in_order-clause-tested : goal.returns-then-not-are_in_order-clause-tested
returns-then-not-are_in_order-clause-tested g c = λ steady clean others is sound.
    (let shape : Members g.row.K-Key.Denot = record { partial_cmp = g.K.Key.PartialOrd.partial_cmp; eq = g.K.Key.PartialEq.eq; cmp = g.K.Key.Ord.cmp; overlap = g.K.Key.Shape.overlap; inside = g.K.Key.Shape.inside } in
    let up = subst (λ (notes : List (NotedPair (Entry g.row.K-Key.Denot))). Ascends (entry_cmp (keys_of shape)) (noted notes)) (sym c.deref.ensures.value) (c.in-Ok.ensures.in_order others) in
    let yes = c.if-not-are_in_order.ensures.1 up in
    cc)

pub returns-in-Ok-test_tree-clause-tested : goal.returns-in-Ok-test_tree-clause-tested
returns-in-Ok-test_tree-clause-tested g c = λ steady clean others.
    (let shape : Members g.row.K-Key.Denot = record { partial_cmp = g.K.Key.PartialOrd.partial_cmp; eq = g.K.Key.PartialEq.eq; cmp = g.K.Key.Ord.cmp; overlap = g.K.Key.Shape.overlap; inside = g.K.Key.Shape.inside } in
    let f = format_of g.K.KeyClass in
    let passes = is_node f in
    let state = g.D.SectorDisk.state in
    let start = c.args.store.now in
    let r = rules_of shape c.args.most in
    let t = shown_tree f passes state start in
    record {
      read = all_read f passes state start steady clean (λ page. c.going_on.ensures.begins start page) c.in-Ok-test_tree.ensures.held;
      shown = record {
        legal = c.in-Ok-test_tree.ensures.legal steady;
        placed = all_in_place r t (entry_cmp (keys_of shape)) c.args.touched.now c.in-Ok.notes.items c.in-Ok.ensures
            (subst (λ (notes : List (NotedPair (Entry g.row.K-Key.Denot))). Each (IsPlaced r t) notes) c.deref-2.ensures.value (c.in-Ok-test_tree.ensures.placed steady));
      };
    })

pub returns-clause-tested : goal.returns-clause-tested
returns-clause-tested g c = λ steady clean others is sound.
    (let shape : Members g.row.K-Key.Denot = record { partial_cmp = g.K.Key.PartialOrd.partial_cmp; eq = g.K.Key.PartialEq.eq; cmp = g.K.Key.Ord.cmp; overlap = g.K.Key.Shape.overlap; inside = g.K.Key.Shape.inside } in
    let f = format_of g.K.KeyClass in
    let passes = is_node f in
    let state = g.D.SectorDisk.state in
    let start = c.args.store.now in
    let r = rules_of shape c.args.most in
    let t = shown_tree f passes state start in
    let notes = c.in-Ok.notes.items in
    let found = subst (λ (ns : List (NotedPair (Entry g.row.K-Key.Denot))). IsFound (BreaksOrLeavesOut r t ns) c.in-Err.fault) c.deref-2.ensures.value (c.in-Err.ensures.found steady) in
    damage_told (BreaksOrLeavesOut r t notes) passes (state start.disk) (state c.test_tree.new.pages.disk) start c.test_tree.new.pages _ c.in-Err.fault
    (c.test_refusal.ensures.damaged is) c.in-Err.ensures.why found
    (never_sound f passes state r c.args.touched.now (entry_cmp (keys_of shape)) notes start c.in-Ok.ensures (λ page rule. c.what_breaks_a_rule_is_not_legal.ensures r t page rule))
    steady (can_be_read passes (state start.disk) start sound.read) sound)
