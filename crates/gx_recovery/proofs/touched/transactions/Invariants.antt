use Rattle.std.proofs.Common.{◌≡◌, ◌+◌, ◌≤◌, drop}
use Rattle.gx_recovery.specs.Damage.{transactions}
use Rattle.gx_recovery.proofs.touched.transactions.Given as goal

-- those counted, and those from here on
abbrev pub invariant-loop-i : goal.invariant-loop-i
invariant-loop-i g l = record { all : l.count + transactions (drop l.i l.touched) ≡ transactions l.touched; few : l.count ≤ l.i }
