use Rattle.gx_index_laws.proofs.Restarts.{opening_keeps, opening_leaves, opening_seen}
use Rattle.gx_index_laws.proofs.openings.an_opening_keeps_its_set.Goals as goal

pub returns-clause-whole : goal.returns-clause-whole
returns-clause-whole g c = λ class l one s o. (opening_keeps class l one s o).whole

pub returns-clause-stood : goal.returns-clause-stood
returns-clause-stood g c = λ class l one s o. (opening_keeps class l one s o).stands

pub returns-clause-left : goal.returns-clause-left
returns-clause-left g c = λ class l one s o area log left. opening_leaves class l one s o area log left

pub returns-clause-seen : goal.returns-clause-seen
returns-clause-seen g c = λ class l one s o set is free. opening_seen class l one s o set is free
