use Rattle.std.proofs.Common.{◌≡◌, ◌≤◌, length, take}
use Rattle.gx_tree.specs.Sweeping.{slots_from}
use Rattle.gx_tree.proofs.sweep.list_slots.Given as goal

abbrev pub invariant-loop-slot : goal.invariant-loop-slot
invariant-loop-slot l = (l.gone ≤ l.slot) × (length l.slots ≡ length l.fn.slots) × (take l.gone l.slots ≡ slots_from 0 (take l.slot l.sides))
