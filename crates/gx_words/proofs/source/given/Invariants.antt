use Rattle.std.proofs.Common.{◌≡◌, vec_len}
use Rattle.gx_words.proofs.source.given.Given as goal

-- there are as many arguments as places that were asked for
abbrev pub invariant-loop-place : goal.invariant-loop-place
invariant-loop-place g l = vec_len l.words ≡ l.place
