use Rattle.gx_plain.proofs.slot.Parts.{abort_asked}
use Rattle.gx_plain.proofs.slot.Slot.ask_abort.Goals as goal

pub returns-clause-session : goal.returns-clause-session
returns-clause-session g c = abort_asked c.self.inside.phase _ _ c.args.self.now c.self.view_is c.requires
