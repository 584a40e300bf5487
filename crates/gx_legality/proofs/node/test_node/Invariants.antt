use Rattle.std.proofs.Common.{◌≡◌, ◌<◌, ℕ, Some}
use Rattle.std.specs.Prelude.{slice_get}
use Rattle.std.specs.Ordering.{is_eq}
use Rattle.gx_node.specs.Legal.{ChildFits}
use Rattle.gx_node.specs.Trees.{Child}
use Rattle.gx_node.specs.Owner.{IsWhyLater}
use Rattle.gx_node.specs.Store.{node_at, tree_of}
use Rattle.gx_legality.specs.Owner.{OnlyReads}
use Rattle.gx_legality.proofs.node.test_node.Given as goal

abbrev pub invariant-loop-slot : goal.invariant-loop-slot
invariant-loop-slot g l = record {
  held : g.P.Pages.held l.pages l.page;
  reads : OnlyReads g.P.Pages.steady g.P.Pages.store g.P.Pages.since l.fn.pages l.pages;
  later : IsWhyLater g.P.Pages.why l.fn.pages l.pages;
  told : g.P.Pages.faults l.pages ≡ g.P.Pages.faults l.fn.pages;
  fits : g.P.Pages.steady l.fn.pages → (k : ℕ) (c : Child g.row.K-Key.Denot) → k < l.slot
      → slice_get (node_at (g.P.Pages.store l.fn.pages).nodes l.page).children k ≡ Some c
      → ChildFits (record { covers = λ a b. g.K.Key.Shape.inside b a; same = λ a b. is_eq (g.K.Key.Ord.cmp a b); most = l.most })
      (tree_of (g.P.Pages.store l.fn.pages)) (node_at (g.P.Pages.store l.fn.pages).nodes l.page).level c;
}
