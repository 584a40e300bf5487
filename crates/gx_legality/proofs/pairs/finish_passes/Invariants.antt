use Rattle.std.proofs.Common.{[], ◌≡◌}
use Rattle.gx_machine.specs.Keys.{entry_cmp}
use Rattle.gx_node.specs.Legal.{Linked}
use Rattle.gx_node.specs.Trees.{leaves}
use Rattle.gx_node.specs.Owner.{IsWhyLater}
use Rattle.gx_node.specs.Store.{tree_of}
use Rattle.gx_legality.specs.Entries.{entries_on}
use Rattle.gx_legality.specs.Gathered.{Gathers, Tested, gathered_above}
use Rattle.gx_legality.specs.Owner.{OnlyReads}
use Rattle.gx_legality.proofs.pairs.finish_passes.Given as goal

abbrev pub invariant-loop-pass : goal.invariant-loop-pass
invariant-loop-pass g l =
    let order = entry_cmp (record { cmp = g.K.Key.Ord.cmp; overlaps = g.K.Key.Shape.overlap; within = g.K.Key.Shape.inside }) in
    let t = tree_of (g.P.Pages.store l.fn.pages) in
    let all = entries_on t (leaves t) in
    record {
      reads : OnlyReads g.P.Pages.steady g.P.Pages.store g.P.Pages.since l.fn.pages l.pages;
      later : IsWhyLater g.P.Pages.why l.fn.pages l.pages;
      told : g.P.Pages.faults l.pages ≡ g.P.Pages.faults l.fn.pages;
      gathers : g.P.Pages.steady l.fn.pages → Linked t 2 (leaves t) → Gathers order l.fn.gather all [] → Gathers order l.gather all [];
      tested : g.P.Pages.steady l.fn.pages → Linked t 2 (leaves t) → Gathers order l.fn.gather all [] → Tested order (gathered_above 0 l.gather.above) all l._pass;
    }
