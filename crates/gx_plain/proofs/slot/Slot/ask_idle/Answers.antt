use Rattle.gx_plain.proofs.slot.Parts.{begun}
use Rattle.gx_plain.proofs.slot.Slot.ask_idle.Goals as goal

pub returns-in-Begin-clause-session : goal.returns-in-Begin-clause-session
returns-in-Begin-clause-session g c =
    begun c.args.call _ _ _ _ c.in-Begin.is c.clear.ensures.items c.clear-in-Begin.ensures.items c.clear-in-Begin-2.ensures.items c.clear-in-Begin-3.ensures.items
