use Rattle.std.proofs.Common.{◌≡◌, ◌<◌, ◌≤◌, ℕ, None, get_or, length}
use Rattle.std.specs.Ordering.{is_eq}
use Rattle.gx_node.specs.Legal.{NodeFits}
use Rattle.gx_node.specs.Owner.{IsWhyLater}
use Rattle.gx_node.specs.Store.{node_at, tree_of}
use Rattle.gx_legality.specs.Marks.{marked, named_by, link_of}
use Rattle.gx_legality.specs.Owner.{OnlyReads, WasHeld}
use Rattle.gx_legality.proofs.nodes.test_nodes.Given as goal

abbrev pub invariant-loop-before : goal.invariant-loop-before
invariant-loop-before g l = record {
  reads : OnlyReads g.P.Pages.steady g.P.Pages.store g.P.Pages.since l.fn.pages l.pages;
  later : IsWhyLater g.P.Pages.why l.fn.pages l.pages;
  told : g.P.Pages.faults l.pages ≡ g.P.Pages.faults l.fn.pages;
  marks : length l.marks ≡ length l.fn.marks;
  links : length l.links ≡ length l.fn.links;
  held : (p : ℕ) → 0 < p → p ≤ l.before → WasHeld g.P.Pages.steady g.P.Pages.store g.P.Pages.since g.P.Pages.held l.fn.pages p;
  unlinked : g.P.Pages.steady l.fn.pages → get_or l.links 0 None ≡ None;
  fits : g.P.Pages.steady l.fn.pages → (p : ℕ) → 0 < p → p ≤ l.before
      → NodeFits (record { covers = λ a b. g.K.Key.Shape.inside b a; same = λ a b. is_eq (g.K.Key.Ord.cmp a b); most = l.most })
      (tree_of (g.P.Pages.store l.fn.pages)) (node_at (g.P.Pages.store l.fn.pages).nodes p);
  named : g.P.Pages.steady l.fn.pages → (q : ℕ) → q < length l.fn.marks → marked l.marks q ≡ named_by (tree_of (g.P.Pages.store l.fn.pages)) q l.before;
  linked : g.P.Pages.steady l.fn.pages → (p : ℕ) → 0 < p → p ≤ l.before → get_or l.links p None ≡ link_of (node_at (g.P.Pages.store l.fn.pages).nodes p);
}
