use Rattle.std.proofs.Common.{◌≡◌, ◌+◌, drop}
use Rattle.gx_machine.specs.Least.{least_barring}
use Rattle.gx_machine.proofs.least.least_conflicting.Given as goal

-- none of the sessions so far conflicts
abbrev pub invariant-loop-slot : goal.invariant-loop-slot
invariant-loop-slot g l = record {
  number : l.number ≡ l.slot-index + 1;
  rest : least_barring (λ x. g.S.Conflicts.bars x l.call) l.session l.number (drop l.slot-index l.slots)
      ≡ least_barring (λ x. g.S.Conflicts.bars x l.call) l.session 1 l.slots;
}
