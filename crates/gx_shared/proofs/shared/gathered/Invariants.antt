use Rattle.std.specs.Prelude.{◌≡◌, ◌+◌, length, vec_len}
use Rattle.gx_shared.specs.Sharing.{shares_of}
use Rattle.gx_shared.proofs.shared.gathered.Given as goal

abbrev pub invariant-loop-rest : goal.invariant-loop-rest
invariant-loop-rest g l =
    (l.all.parts + length l.rest.items ≡ l.fn.first.parts + length l.fn.sessions.items)
    × (l.all.amount + shares_of l.rest.items ≡ l.fn.first.amount + shares_of l.fn.sessions.items)

abbrev pub decreases-loop-rest : goal.decreases-loop-rest
decreases-loop-rest g l = vec_len l.rest
