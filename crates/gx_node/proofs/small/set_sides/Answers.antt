use Rattle.std.proofs.Common.{ap, sym, ◌∙◌}
use Rattle.gx_node.specs.Small.{sides_with}
use Rattle.gx_node.proofs.SmallItems.{no_slot, fewer_left, side_set, side_skipped}
use Rattle.gx_node.proofs.small.set_sides.Goals as goal

pub loop-rest-smaller : goal.loop-rest-smaller
loop-rest-smaller c = fewer_left c.loop-rest.rest.now c.in-len2-up.len_at_least

pub loop-rest-preserved-then-slot-sides : goal.loop-rest-preserved-then-slot-sides
loop-rest-preserved-then-slot-sides c =
    side_set c.loop-rest.rest.now c.loop-rest.sides _ _ c.in-len2-up.len_at_least (c.from-slot.ensures ∙ c.from_be_bytes.ensures) c.loop-rest.invariant

pub loop-rest-preserved : goal.loop-rest-preserved
loop-rest-preserved c =
    side_skipped c.loop-rest.rest.now c.loop-rest.sides _ _ c.in-len2-up.len_at_least (c.from-slot.ensures ∙ c.from_be_bytes.ensures) c.if-slot-sides.false c.loop-rest.invariant

pub returns : goal.returns
returns c = sym (ap (sides_with c.loop-rest.sides) (no_slot c.loop-rest.rest.now c.in_default.len_below)) ∙ c.loop-rest.invariant
