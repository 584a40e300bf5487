use Rattle.std.proofs.Common.{◌∙◌, ◌+◌, ap, drop, map, sym, rules}
use Rattle.gx_machine.specs.Keys.{entry_cmp}
use Rattle.gx_node.specs.Edits.{entry_of}
use Rattle.gx_node.specs.Reading.{format_of}
use Rattle.gx_node.specs.Store.{node_of}
use Rattle.gx_legality.specs.Placing.{is_noted, met, stage_at}
use Rattle.gx_legality.proofs.Sought.{met_more, met_all}
use Rattle.gx_legality.proofs.leaves.Taken.{none_past}
use Rattle.gx_legality.proofs.leaves.meet_page.Goals as goal

pub returns-in_default : goal.returns-in_default
returns-in_default g c = λ i n here.
    let order = entry_cmp (record { cmp = g.K.Key.Ord.cmp; overlaps = g.K.Key.Shape.overlap; within = g.K.Key.Shape.inside }) in
    let pairs = (node_of (format_of g.K.KeyClass) c.args.page.now).pairs in
    sym (c.loop-slot.invariant.met i n here
    ∙ met_all (is_noted order n) entry_of pairs c.loop-slot.slot (stage_at c.loop-slot.stages i) (none_past pairs c.loop-slot.slot c.in_default.ensures))

pub loop-slot-preserved : goal.loop-slot-preserved
loop-slot-preserved g c =
    let order = entry_cmp (record { cmp = g.K.Key.Ord.cmp; overlaps = g.K.Key.Shape.overlap; within = g.K.Key.Shape.inside }) in
    let pairs = (node_of (format_of g.K.KeyClass) c.args.page.now).pairs in
    let slot = c.loop-slot.slot in
    let pair = c.in-Some.ensures in
    record {
      long = search rules;
      met = λ i n here. c.loop-slot.invariant.met i n here
          ∙ met_more (is_noted order n) entry_of pairs slot pair.0 c.in-Some.entry (stage_at c.loop-slot.stages i) pair.1 pair.2
          ∙ ap (met (is_noted order n) (map entry_of (drop (slot + 1) pairs))) (sym (c.meet_entry.ensures i n here));
    }
