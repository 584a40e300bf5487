use Rattle.std.proofs.Common.{◌≡◌}
use Rattle.gx_node.specs.Looks.{IsLook}
use Rattle.gx_node.specs.Reach.{pages_ahead}
use Rattle.gx_tree.specs.Found.{pairs_found}
use Rattle.gx_node.specs.Owner.{KeepsSince, IsWhyLater}
use Rattle.gx_node.specs.Store.{tree_of}
use Rattle.gx_tree.specs.Wants.{wants}
use Rattle.gx_memory_tree.proofs.searches.Asked.{ReadsOn}
use Rattle.gx_memory_tree.proofs.searches.search.Given as goal

abbrev pub invariant-pages : goal.invariant-pages
invariant-pages g l = record {
  same : g.P.Pages.store l.pages ≡ g.P.Pages.store l.fn.pages;
  steady : g.P.Pages.steady l.pages;
  goes_on : KeepsSince g.P.Pages.since l.fn.pages l.pages;
  later : IsWhyLater g.P.Pages.why l.fn.pages l.pages;
  reads : ReadsOn g.P.Pages.asked (tree_of (g.P.Pages.store l.fn.pages)) l.fn.pages l.pages l.look.stack.items;
  look : IsLook (tree_of (g.P.Pages.store l.fn.pages)) (wants g.K.Probing.passes l.wanted.keys l.wanted.row) l.look.stack.items (pairs_found l.look.found.items);
}

abbrev pub decreases-pages : goal.decreases-pages
decreases-pages g l = pages_ahead (tree_of (g.P.Pages.store l.fn.pages)) l.look.stack.items
