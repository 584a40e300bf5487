use Rattle.std.proofs.Common.{◌≡◌, ℕ, Some, length, map, drop}
use Rattle.std.specs.Prelude.{slice_get}
use Rattle.gx_machine.specs.Keys.{entry_cmp}
use Rattle.gx_machine.specs.declared.entry.Entry.{Entry}
use Rattle.gx_node.specs.Edits.{entry_of}
use Rattle.gx_node.specs.Reading.{format_of}
use Rattle.gx_node.specs.Store.{node_of}
use Rattle.gx_legality.specs.Placing.{is_noted, met, stage_at}
use Rattle.gx_legality.specs.declared.notes.NotedPair.{NotedPair}
use Rattle.gx_legality.proofs.leaves.meet_page.Given as goal

abbrev pub invariant-loop-slot : goal.invariant-loop-slot
invariant-loop-slot g l =
    let order = entry_cmp (record { cmp = g.K.Key.Ord.cmp; overlaps = g.K.Key.Shape.overlap; within = g.K.Key.Shape.inside }) in
    let pairs = (node_of (format_of g.K.KeyClass) l.page).pairs in
    record {
      long : length l.stages ≡ length l.fn.stages;
      met : (i : ℕ) (n : NotedPair (Entry g.row.K-Key.Denot)) → slice_get l.notes i ≡ Some n
          → met (is_noted order n) (map entry_of pairs) (stage_at l.fn.stages i)
          ≡ met (is_noted order n) (map entry_of (drop l.slot pairs)) (stage_at l.stages i);
    }
