-- The part that is read is the one between the directory and the heap.
use Rattle.std.proofs.Common.{◌∙◌}
use Rattle.gx_page.proofs.Slots.{free_part}
use Rattle.gx_page.proofs.check.is_free_zero.Goals as goal

pub returns : goal.returns
returns c = c.all_zero.ensures ∙ free_part c.args.bytes.now c.from.result c.from-2.result (c.from.ensures ∙ c.u16_at.ensures) (c.from-2.ensures ∙ c.u16_at-2.ensures)
