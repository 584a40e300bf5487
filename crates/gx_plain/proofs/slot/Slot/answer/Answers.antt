use Rattle.std.proofs.lemmas.Grind.{common_steps}
use Rattle.std.proofs.Common.{arith}
use Rattle.gx_machine.specs.Keys.{keys}
use Rattle.gx_plain.proofs.slot.Parts.{commit_answered}
use Rattle.gx_plain.proofs.slot.Slot.answer.Goals as goal

pub returns-in-Committing-clause-answers : goal.returns-in-Committing-clause-answers
returns-in-Committing-clause-answers g c =
    let k = keys g.B.Ord.cmp g.B.Shape.overlap g.B.Shape.inside in
    commit_answered c.self.inside.phase _ _ c.args.self.now c.self.view_is k c.in-Committing.number _ _ _ _ c.in-Committing.is
    c.committed-in-Committing.ensures.reply c.committed-in-Committing.ensures.session

pub returns-in-Open-Some-Delete-clause-opened : goal.returns-in-Open-Some-Delete-clause-opened
returns-in-Open-Some-Delete-clause-opened g c = grind (arith, common_steps)

pub returns-in-Open-Some-Search-clause-claims : goal.returns-in-Open-Some-Search-clause-claims
returns-in-Open-Some-Search-clause-claims g c = grind (arith, common_steps)

pub returns-in-Open-Some-Commit-clause-room : goal.returns-in-Open-Some-Commit-clause-room
returns-in-Open-Some-Commit-clause-room g c = grind (arith, common_steps)

pub returns-in-Open-Some-Commit-clause-opened : goal.returns-in-Open-Some-Commit-clause-opened
returns-in-Open-Some-Commit-clause-opened g c = grind (arith, common_steps)

pub returns-in-Committing-clause-room : goal.returns-in-Committing-clause-room
returns-in-Committing-clause-room g c = grind (arith, common_steps)

pub returns-in-Committing-clause-opened : goal.returns-in-Committing-clause-opened
returns-in-Committing-clause-opened g c = grind (arith, common_steps)

pub returns-in-Committing-clause-claims : goal.returns-in-Committing-clause-claims
returns-in-Committing-clause-claims g c = grind (arith, common_steps)

pub returns-in-Aborting-clause-room : goal.returns-in-Aborting-clause-room
returns-in-Aborting-clause-room g c = grind (arith, common_steps)

pub returns-in-Aborting-clause-claims : goal.returns-in-Aborting-clause-claims
returns-in-Aborting-clause-claims g c = grind (arith, common_steps)
