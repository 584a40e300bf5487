use Rattle.std.proofs.Common.{arith}
use Rattle.std.proofs.lemmas.Int.{ints}
use Rattle.gx_class.proofs.box_penalty.raise.Goals as goal

pub returns : goal.returns
returns c = let bits = c.cast_unsigned.ensures in omega (arith, ints)
