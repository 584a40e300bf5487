use Rattle.std.proofs.Common.{rules}
use Rattle.gx_plain.proofs.slot.Parts.{adds_the_same}
use Rattle.gx_plain.proofs.slot.Slot.drop_call.Goals as goal

pub returns-in-Open-Some-clause-drops : goal.returns-in-Open-Some-clause-drops
returns-in-Open-Some-clause-drops g c = search rules

pub returns-in-Open-Some-clause-added : goal.returns-in-Open-Some-clause-added
returns-in-Open-Some-clause-added g c = adds_the_same c.self.inside.phase _ _ c.args.self.now c.self.view_is _ c.in-Open-Some.is
