-- The move of the slots from here on leaves what the whole move is to leave.
use Rattle.std.proofs.Common.{◌≡◌, ◌-◌, length}
use Rattle.gx_page.proofs.Moves.{after_closing}
use Rattle.gx_page.proofs.directory.close_slot.Given as goal

abbrev pub invariant-loop-index : goal.invariant-loop-index
invariant-loop-index l = record {
  size : length l.block.bytes ≡ 4096;
  rest : after_closing l.block.bytes l.index (l.count - 1 - l.index) l.above ≡ after_closing l.initial.block.bytes l.slot (l.count - 1 - l.slot) l.end;
}
