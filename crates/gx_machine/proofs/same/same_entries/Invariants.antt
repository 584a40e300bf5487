use Rattle.std.proofs.Common.{◌≡◌, drop}
use Rattle.gx_machine.proofs.Comparing.{Alike}
use Rattle.gx_machine.proofs.same.same_entries.Given as goal

-- the lists are the same if what is left of them is
abbrev pub invariant-loop-place : goal.invariant-loop-place
invariant-loop-place g l = Alike (l.one ≡ l.other) (drop l.place l.one ≡ drop l.place l.other)
