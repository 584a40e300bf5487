use Rattle.gx_storm.proofs.verdict.Judging.{HasBelow}
use Rattle.gx_storm.proofs.verdict.has_all.Given as goal

abbrev pub invariant-loop-place : goal.invariant-loop-place
invariant-loop-place g l = HasBelow l.place l.calls l.book.1 l.all
