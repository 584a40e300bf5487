use Rattle.std.specs.Ordering.{is_eq}
use Rattle.gx_node.specs.Trees.{Rules}
use Rattle.gx_memory_tree.specs.Inserting.{IsInsert, MakesWay, insert_left}
use Rattle.gx_node.specs.Store.{tree_of}
use Rattle.gx_memory_tree.proofs.inserts.insert.Given as goal

abbrev pub invariant-steps : goal.invariant-steps
invariant-steps g l =
    let r : Rules g.row.K-Key.Denot = record { covers = λ a b. g.K.Key.Shape.inside b a; same = λ a b. is_eq (g.K.Key.Ord.cmp a b); most = l.most } in
    record {
      steady : g.P.Pages.steady l.pages;
      way : MakesWay r (tree_of (g.P.Pages.store l.fn.pages)) (tree_of (g.P.Pages.store l.pages));
      insert : IsInsert r g.K.KeyClass.is_key (tree_of (g.P.Pages.store l.pages)) l.entry l.place;
    }

abbrev pub decreases-steps : goal.decreases-steps
decreases-steps g l =
    let r : Rules g.row.K-Key.Denot = record { covers = λ a b. g.K.Key.Shape.inside b a; same = λ a b. is_eq (g.K.Key.Ord.cmp a b); most = l.most } in
    insert_left r (tree_of (g.P.Pages.store l.pages)) l.place
