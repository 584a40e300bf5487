use Rattle.std.proofs.Common.{◌≡◌, ℕ, List, ◌-◌, Some, length}
use Rattle.std.specs.Prelude.{slice_get}
use Rattle.gx_machine.specs.Keys.{entry_cmp}
use Rattle.gx_machine.specs.declared.entry.Entry.{Entry}
use Rattle.gx_node.specs.Legal.{Linked}
use Rattle.gx_node.specs.Trees.{leaves, walk}
use Rattle.gx_node.specs.Owner.{IsWhyLater}
use Rattle.gx_node.specs.Store.{tree_of}
use Rattle.gx_legality.specs.Entries.{entries_on}
use Rattle.gx_legality.specs.Gathered.{Gathers}
use Rattle.gx_legality.specs.Owner.{OnlyReads}
use Rattle.gx_legality.specs.Placing.{is_noted, passed, stage_at}
use Rattle.gx_legality.specs.declared.notes.NotedPair.{NotedPair}
use Rattle.gx_legality.proofs.leaves.take_leaves.Given as goal

abbrev pub invariant-loop-step : goal.invariant-loop-step
invariant-loop-step g l =
    let order = entry_cmp (record { cmp = g.K.Key.Ord.cmp; overlaps = g.K.Key.Shape.overlap; within = g.K.Key.Shape.inside }) in
    let t = tree_of (g.P.Pages.store l.fn.pages) in
    record {
      reads : OnlyReads g.P.Pages.steady g.P.Pages.store g.P.Pages.since l.fn.pages l.pages;
      later : IsWhyLater g.P.Pages.why l.fn.pages l.pages;
      told : g.P.Pages.faults l.pages ≡ g.P.Pages.faults l.fn.pages;
      above : l.gather.above ≡ l.fn.gather.above;
      long : length l.stages ≡ length l.fn.stages;
      linked : g.P.Pages.steady l.fn.pages → Linked t 2 (leaves t) → Linked t l.page (walk t (length (g.P.Pages.store l.fn.pages).nodes - l._step) l.page);
      gathers : g.P.Pages.steady l.fn.pages → Linked t 2 (leaves t) → (all : List (Entry g.row.K-Key.Denot)) → Gathers order l.fn.gather all (entries_on t (leaves t))
          → Gathers order l.gather all (entries_on t (walk t (length (g.P.Pages.store l.fn.pages).nodes - l._step) l.page));
      moves : g.P.Pages.steady l.fn.pages → Linked t 2 (leaves t) → (i : ℕ) (n : NotedPair (Entry g.row.K-Key.Denot)) → slice_get l.notes i ≡ Some n
          → passed t (is_noted order n) n.leaf (leaves t) (stage_at l.fn.stages i)
          ≡ passed t (is_noted order n) n.leaf (walk t (length (g.P.Pages.store l.fn.pages).nodes - l._step) l.page) (stage_at l.stages i);
    }
