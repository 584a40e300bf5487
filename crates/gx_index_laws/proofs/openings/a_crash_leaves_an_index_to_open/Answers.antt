use Rattle.gx_index_laws.proofs.Restarts.{start_keeps, is_reopened}
use Rattle.gx_index_laws.proofs.openings.a_crash_leaves_an_index_to_open.Goals as goal

pub returns-clause-whole : goal.returns-clause-whole
returns-clause-whole g c = λ class l old w next area log left up. (start_keeps class l old w area log left next up).whole

pub returns-clause-reopened : goal.returns-clause-reopened
returns-clause-reopened g c = λ class l old w next area log left up. is_reopened class l old w area log left next up
