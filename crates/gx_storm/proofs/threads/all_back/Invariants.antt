use Rattle.std.proofs.Common.{◌≡◌, ◌+◌, vec_len}
use Rattle.gx_storm.proofs.threads.all_back.Given as goal

abbrev pub invariant-loop-place : goal.invariant-loop-place
invariant-loop-place g l = (vec_len l.all ≡ l.place) × (vec_len l.rest + l.place ≡ l.count)
