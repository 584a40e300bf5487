use Rattle.std.proofs.Common.{arith}
use Rattle.gx_restart.proofs.Bringing.{turned_more, turned_used}
use Rattle.gx_restart.proofs.text.bring.bring.Goals as goal

pub take-requires-clause-to : goal.take-requires-clause-to
take-requires-clause-to g c =
    let used = turned_used _ g.K.ReadKeys.is_proper g.K.ReadKeys.said g.K.KeyClass _ c.args.page c.args.engine.now c.loop-turn._turn c.loop-turn.engine c.loop-turn.invariant in
    omega (arith, used, c.requires.to)

pub returns-in-Ok-true-clause-brought : goal.returns-in-Ok-true-clause-brought
returns-in-Ok-true-clause-brought g c = record {
  count = c.loop-turn._turn;
  middle = c.loop-turn.engine;
  turned = c.loop-turn.invariant;
  few = c.loop-turn-test.true;
  last = rw c.in-Ok-true.field-0-test at c.in-Ok-true.ensures.taken;
}

pub loop-turn-preserved : goal.loop-turn-preserved
loop-turn-preserved g c =
    turned_more _ _ c.args.engine.now c.loop-turn._turn c.loop-turn.engine c.take.new.engine c.loop-turn.invariant (rw c.in-Ok-false.field-0-test at c.in-Ok-false.ensures.taken)
