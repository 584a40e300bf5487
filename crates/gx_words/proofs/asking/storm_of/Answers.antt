use Rattle.std.proofs.Common.{refl, arith}
use Rattle.gx_words.proofs.asking.storm_of.Goals as goal

pub overflow_cast-result : goal.overflow_cast-result
overflow_cast-result c = let its = c.number-2.ensures 1 8 c.requires.sessions in omega (arith, its.most)

pub returns : goal.returns
returns c = (
  refl,
  record {
    seed_is = c.number.ensures 0 4294967295 c.requires.seed;
    sessions_are = c.number-2.ensures 1 8 c.requires.sessions;
    calls_are = c.number-3.ensures 1 2000 c.requires.calls;
  },
)
