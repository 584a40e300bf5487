use Rattle.std.proofs.Common.{sym, ◌∙◌}
use Rattle.gx_record.proofs.SlotBytes.{fewer_left, falls_here, rises_here, none_rise}
use Rattle.gx_record.proofs.slots.Slots.rise.Goals as goal

pub returns-then-slot-least : goal.returns-then-slot-least
returns-then-slot-least c = falls_here _ _ c.loop-bytes.bytes.now _ c.in-len2-up.len_at_least (c.from-slot.ensures ∙ c.from_be_bytes.ensures) c.if-slot-least.true c.loop-bytes.invariant

pub loop-bytes-smaller : goal.loop-bytes-smaller
loop-bytes-smaller c = fewer_left c.loop-bytes.bytes.now c.in-len2-up.len_at_least

pub loop-bytes-preserved : goal.loop-bytes-preserved
loop-bytes-preserved c = rises_here _ _ c.loop-bytes.bytes.now _ c.in-len2-up.len_at_least (c.from-slot.ensures ∙ c.from_be_bytes.ensures) c.if-slot-least.false c.loop-bytes.invariant

pub returns : goal.returns
returns c = sym (c.loop-bytes.invariant ∙ none_rise _ _ c.in_default.len_below)
