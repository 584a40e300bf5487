use Rattle.std.proofs.Common.{◌≡◌, ◌≤◌, length, drop}
use Rattle.gx_machine.proofs.Comparing.{Alike}
use Rattle.gx_shared.specs.Agreed.{replies_of}
use Rattle.gx_shared.proofs.agree.agree.Given as goal

-- the replies are these if those that are left are
abbrev pub invariant-loop-place : goal.invariant-loop-place
invariant-loop-place g l = (l.next ≤ length l.replies) × Alike (replies_of l.session l.calls ≡ l.replies) (replies_of l.session (drop l.place l.calls) ≡ drop l.next l.replies)
