use Rattle.gx_node.proofs.AllSteps.{look_steps, descent_steps, seek_steps}
use Rattle.gx_node.proofs.tree_laws.steps_of_others_keep_what_is_at_work.Goals as goal

pub returns-clause-looks : goal.returns-clause-looks
returns-clause-looks g c = λ r law wants stack found steps old new legal are alone look. look_steps r law wants stack found steps old new legal are alone look

pub returns-clause-descents : goal.returns-clause-descents
returns-clause-descents g c = λ r law coming item steps old new legal are descent. descent_steps r law coming item steps old new legal are descent

pub returns-clause-seeks : goal.returns-clause-seeks
returns-clause-seeks g c = λ r law a row key steps old new legal are alone seek. seek_steps r law a row key steps old new legal are alone seek
