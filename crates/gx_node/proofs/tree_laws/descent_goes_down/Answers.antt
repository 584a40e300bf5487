use Rattle.gx_node.proofs.DescentSteps.{descent_begins, descent_goes_down, widened_covers}
use Rattle.gx_node.proofs.tree_laws.descent_goes_down.Goals as goal

pub returns-clause-begins : goal.returns-clause-begins
returns-clause-begins g c = λ r coming t legal. descent_begins r coming t legal

pub returns-clause-down : goal.returns-clause-down
returns-clause-down g c = λ r coming t legal a x used named covers. descent_goes_down r coming t legal a x used named covers

pub returns-clause-widens : goal.returns-clause-widens
returns-clause-widens g c = λ r coming old new a x key step. widened_covers r coming old new a x key step
