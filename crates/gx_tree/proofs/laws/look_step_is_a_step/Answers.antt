use Rattle.gx_tree.proofs.Turned.{goes_on, falls}
use Rattle.gx_tree.proofs.laws.look_step_is_a_step.Goals as goal

pub returns-clause-look : goal.returns-clause-look
returns-clause-look g c = λ r law t legal wants leads lead before after old new some look step. goes_on r t legal wants leads law lead before after old new some look step

pub returns-clause-falls : goal.returns-clause-falls
returns-clause-falls g c = λ r t legal wants leads before after old new some look step. falls r t legal wants leads before after old new some look step
