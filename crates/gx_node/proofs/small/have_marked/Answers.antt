use Rattle.std.proofs.Common.{rules, [], length, ap, ◌∙◌, arith}
use Rattle.gx_node.specs.Reading.{format_of}
use Rattle.gx_node.specs.Small.{has_marked}
use Rattle.gx_node.proofs.Slots.{leaf_is_keyed}
use Rattle.gx_node.proofs.SmallItems.{fewer_left, slot_fails, slot_passes}
use Rattle.gx_node.proofs.small.have_marked.Goals as goal

pub mark_of-requires : goal.mark_of-requires
mark_of-requires g c =
    ap length c.get.ensures.item ∙ (leaf_is_keyed (format_of g.K.KeyClass) c.args.page.now c.requires c.from-slot.result [] (omega arith)).long

pub loop-rest-smaller : goal.loop-rest-smaller
loop-rest-smaller g c = fewer_left c.loop-rest.rest.now c.in-len2-up.len_at_least

pub returns-then-count-slot : goal.returns-then-count-slot
returns-then-count-slot g c =
    slot_fails (has_marked (format_of g.K.KeyClass) c.args.page.now.items) c.loop-rest.rest.now c.from-slot.result _ c.in-len2-up.len_at_least
    (c.from-slot.ensures ∙ c.from_be_bytes.ensures) (search rules) c.loop-rest.invariant

pub loop-rest-preserved : goal.loop-rest-preserved
loop-rest-preserved g c =
    slot_passes (has_marked (format_of g.K.KeyClass) c.args.page.now.items) c.loop-rest.rest.now c.from-slot.result _ c.in-len2-up.len_at_least
    (c.from-slot.ensures ∙ c.from_be_bytes.ensures) (search rules) c.loop-rest.invariant
