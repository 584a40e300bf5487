use Rattle.std.proofs.Common.{◌≡◌, ◌<◌, ◌≤◌, length, get_or, true, false, arith, rules}
use Rattle.gx_tree.proofs.Swept.{listed_begin, listed_goes, listed_stays}
use Rattle.gx_tree.proofs.sweep.list_slots.Goals as goal
use Rattle.gx_tree.proofs.sweep.list_slots.Goals.{then-sides-slot, else-sides-slot}

pub loop-slot-init : goal.loop-slot-init
loop-slot-init c = listed_begin c.args.sides.now c.args.slots.now

pub loop-slot-preserved : goal.loop-slot-preserved
loop-slot-preserved c =
    let sides = c.args.sides.now in
    let slot = c.loop-slot.slot in
    let low : slot < length sides = search rules in
    let enough : length sides ≤ length c.args.slots.now = omega arith in
    elim c.if-sides-slot.branch [
      | then-sides-slot w ↦ (
          let goes : get_or sides slot false ≡ true = search rules in
          listed_goes sides slot c.loop-slot.gone c.if-sides-slot.gone c.loop-slot.slots c.args.slots.now c.if-sides-slot.slots low goes enough c.loop-slot.invariant w.gone-is w.slots-is
          )
      | else-sides-slot w ↦ (
          let stays : get_or sides slot false ≡ false = search rules in
          listed_stays sides slot c.loop-slot.gone c.if-sides-slot.gone c.loop-slot.slots c.args.slots.now c.if-sides-slot.slots low stays c.loop-slot.invariant w.gone-is w.slots-is
          )
    ]
