use Rattle.std.proofs.lemmas.Grind.{common_steps}
use Rattle.std.proofs.Common.{rules, arith}
use Rattle.gx_txn.proofs.holding.Holding.hold.Goals as goal

pub returns-clause-takes : goal.returns-clause-takes
returns-clause-takes g c = search rules

pub push-requires : goal.push-requires
push-requires g c = grind (arith, common_steps)

pub returns-clause-held : goal.returns-clause-held
returns-clause-held g c = grind (arith, common_steps)
