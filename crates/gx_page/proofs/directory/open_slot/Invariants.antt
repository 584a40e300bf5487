-- The move of the slots from here on leaves what the whole move is to leave.
use Rattle.std.proofs.Common.{◌≡◌, ◌-◌, length}
use Rattle.gx_page.proofs.Moves.{after_opening}
use Rattle.gx_page.proofs.directory.open_slot.Given as goal

abbrev pub invariant-loop-index : goal.invariant-loop-index
invariant-loop-index l = record {
  size : length l.block.bytes ≡ 4096;
  rest : after_opening l.block.bytes l.index (l.count - l.index) l.above l.pending ≡ after_opening l.initial.block.bytes l.slot (l.count - l.slot) l.end l.size;
}
