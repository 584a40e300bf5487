use Rattle.std.proofs.Common.{◌∙◌, List, refl, sym, subst}
use Rattle.gx_legality.specs.Gathered.{Ascends}
use Rattle.gx_legality.specs.Owner.{IsFound}
use Rattle.gx_legality.specs.Placing.{BreaksOrLeavesOut, IsPlaced, noted}
use Rattle.gx_legality.specs.declared.notes.NotedPair.{NotedPair}
use Rattle.gx_machine.specs.Keys.{Members, keys_of, entry_cmp}
use Rattle.gx_machine.specs.declared.entry.Entry.{Entry}
use Rattle.gx_node.specs.Keyed.{rules_of}
use Rattle.gx_node.specs.Lists.{Each}
use Rattle.gx_node.specs.Reading.{format_of, is_node}
use Rattle.gx_opening.specs.Sound.{shown_tree}
use Rattle.gx_opening.proofs.Sounding.{all_in_place}
use Rattle.gx_opening.proofs.Telling.{fault_failed, fault_told}
use Rattle.gx_opening.proofs.damage.pages.in_tree.Goals as goal

pub test_tree-requires-clause-in_order : goal.test_tree-requires-clause-in_order
test_tree-requires-clause-in_order g c =
    let shape : Members g.row.K-Key.Denot = record { partial_cmp = g.K.Key.PartialOrd.partial_cmp; eq = g.K.Key.PartialEq.eq; cmp = g.K.Key.Ord.cmp; overlap = g.K.Key.Shape.overlap; inside = g.K.Key.Shape.inside } in
    subst (λ (notes : List (NotedPair (Entry g.row.K-Key.Denot))). Ascends (entry_cmp (keys_of shape)) (noted notes)) (c.deref.ensures.value ∙ sym c.deref-2.ensures.value) (c.if-not-are_in_order.ensures.0 refl)

pub returns-then-not-are_in_order-clause-finds : goal.returns-then-not-are_in_order-clause-finds
returns-then-not-are_in_order-clause-finds g c = λ others steady can.
    (let shape : Members g.row.K-Key.Denot = record { partial_cmp = g.K.Key.PartialOrd.partial_cmp; eq = g.K.Key.PartialEq.eq; cmp = g.K.Key.Ord.cmp; overlap = g.K.Key.Shape.overlap; inside = g.K.Key.Shape.inside } in
    let up = subst (λ (notes : List (NotedPair (Entry g.row.K-Key.Denot))). Ascends (entry_cmp (keys_of shape)) (noted notes)) (sym c.deref.ensures.value) (c.in-Ok.ensures.in_order others) in
    let yes = c.if-not-are_in_order.ensures.1 up in
    absurd (cc))

pub returns-in-Ok-test_tree-clause-finds : goal.returns-in-Ok-test_tree-clause-finds
returns-in-Ok-test_tree-clause-finds g c = λ others steady can.
    (let shape : Members g.row.K-Key.Denot = record { partial_cmp = g.K.Key.PartialOrd.partial_cmp; eq = g.K.Key.PartialEq.eq; cmp = g.K.Key.Ord.cmp; overlap = g.K.Key.Shape.overlap; inside = g.K.Key.Shape.inside } in
    let f = format_of g.K.KeyClass in
    let start = c.args.store.now in
    let r = rules_of shape c.args.most in
    let t = shown_tree f (is_node f) g.D.SectorDisk.state start in
    record {
      legal = c.in-Ok-test_tree.ensures.legal steady;
      placed = all_in_place r t (entry_cmp (keys_of shape)) c.args.touched.now c.in-Ok.notes.items c.in-Ok.ensures
          (subst (λ (notes : List (NotedPair (Entry g.row.K-Key.Denot))). Each (IsPlaced r t) notes) c.deref-2.ensures.value (c.in-Ok-test_tree.ensures.placed steady));
    })

pub returns-clause-finds : goal.returns-clause-finds
returns-clause-finds g c = λ others steady can.
    (let shape : Members g.row.K-Key.Denot = record { partial_cmp = g.K.Key.PartialOrd.partial_cmp; eq = g.K.Key.PartialEq.eq; cmp = g.K.Key.Ord.cmp; overlap = g.K.Key.Shape.overlap; inside = g.K.Key.Shape.inside } in
    let f = format_of g.K.KeyClass in
    let start = c.args.store.now in
    let r = rules_of shape c.args.most in
    let t = shown_tree f (is_node f) g.D.SectorDisk.state start in
    let notes = c.in-Ok.notes.items in
    let found = subst (λ (ns : List (NotedPair (Entry g.row.K-Key.Denot))). IsFound (BreaksOrLeavesOut r t ns) c.in-Err.fault) c.deref-2.ensures.value (c.in-Err.ensures.found steady) in
    rw c.broken.ensures (fault_told f (is_node f) g.D.SectorDisk.state r (entry_cmp (keys_of shape)) c.args.touched.now notes start c.test_tree.new.pages c.in-Err.fault c.in-Ok.ensures c.in-Err.ensures.why found steady can))

pub returns-clause-failed : goal.returns-clause-failed
returns-clause-failed g c = λ is.
    let f = format_of g.K.KeyClass in
    fault_failed (is_node f) g.D.SectorDisk.state c.args.store.now c.test_tree.new.pages c.in-Err.fault c.in-Err.ensures.why (sym c.broken.ensures ∙ is)
