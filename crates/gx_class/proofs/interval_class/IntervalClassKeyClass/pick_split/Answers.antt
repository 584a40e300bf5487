use Rattle.std.proofs.Common.{◌∙◌}
use Rattle.gx_geom.specs.Spans.{span_cmp}
use Rattle.gx_class.specs.IntervalKeyLaws.{spans_in_order}
use Rattle.gx_class.proofs.interval_class.Placed.{side_more, all_sides}
use Rattle.gx_class.proofs.interval_class.IntervalClassKeyClass.pick_split.Goals as goal

pub loop-slot-preserved : goal.loop-slot-preserved
loop-slot-preserved c =
    let at = c.index-keys-slot in
    side_more c.args.keys.now c.loop-slot.slot at.result c.loop-slot-test.true at.is span_cmp spans_in_order c.loop-slot.sides c.place.result c.is_past.result
    (c.loop-slot.auto.sides ∙ c.requires.as_many) c.place.ensures c.is_past.ensures c.loop-slot.invariant

pub returns : goal.returns
returns c =
    all_sides span_cmp spans_in_order c.args.keys.now c.loop-slot.sides c.loop-slot.slot (c.loop-slot.auto.sides ∙ c.requires.as_many) c.loop-slot-test.false
    c.loop-slot.invariant
