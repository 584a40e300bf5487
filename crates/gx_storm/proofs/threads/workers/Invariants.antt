use Rattle.std.proofs.Common.{◌≡◌, ◌+◌, vec_len}
use Rattle.gx_storm.proofs.threads.workers.Given as goal

abbrev pub invariant-loop-taken : goal.invariant-loop-taken
invariant-loop-taken g l = (vec_len l.workers ≡ l.taken) × (vec_len l.sessions + l.taken ≡ vec_len l.fn.sessions)
