use Rattle.gx_opening.proofs.Resting.{looks_rest}
use Rattle.gx_lives.proofs.turns.verify.Goals as goal

pub returns-clause-turn : goal.returns-clause-turn
returns-clause-turn g c = λ honest. record {
  same = (c.verify.ensures.counted.sectors, c.verify.ensures.counted.honest);
  only = looks_rest _ _ (c.verify.ensures.looks honest);
}
