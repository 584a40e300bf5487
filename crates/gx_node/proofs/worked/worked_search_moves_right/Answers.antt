use Rattle.std.proofs.Common.{refl}
use Rattle.gx_node.proofs.worked.WorkedLook.{held_look, held_leads}
use Rattle.gx_node.proofs.worked.worked_search_moves_right.Goals as goal

pub returns-clause-root : goal.returns-clause-root
returns-clause-root c = refl

pub returns-clause-near : goal.returns-clause-near
returns-clause-near c = refl

pub returns-clause-second : goal.returns-clause-second
returns-clause-second c = refl

pub returns-clause-fourth : goal.returns-clause-fourth
returns-clause-fourth c = refl

pub returns-clause-third : goal.returns-clause-third
returns-clause-third c = refl

pub returns-clause-found : goal.returns-clause-found
returns-clause-found c = refl

pub returns-clause-looks : goal.returns-clause-looks
returns-clause-looks c = held_look

pub returns-clause-leads : goal.returns-clause-leads
returns-clause-leads c = held_leads
