use Rattle.std.proofs.lemmas.Grind.{common_steps}
use Rattle.std.proofs.Common.{arith}
use Rattle.gx_plain.proofs.merge.merge.Goals as goal

pub merge_down-requires-clause-in_order : goal.merge_down-requires-clause-in_order
merge_down-requires-clause-in_order g c = grind (arith, common_steps)

pub merge_down-requires-clause-lacks : goal.merge_down-requires-clause-lacks
merge_down-requires-clause-lacks g c = grind (arith, common_steps)

pub merge_down-requires-clause-room : goal.merge_down-requires-clause-room
merge_down-requires-clause-room g c = grind (arith, common_steps)

pub returns-clause-items : goal.returns-clause-items
returns-clause-items g c = grind (arith, common_steps)
