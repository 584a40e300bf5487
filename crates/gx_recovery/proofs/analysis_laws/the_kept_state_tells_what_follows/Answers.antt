use Rattle.gx_recovery.proofs.Telling.{writes_tell, no_entry_refused, changes_tell, all_pages_tell, commits_tell, ends_tell}
use Rattle.gx_recovery.proofs.analysis_laws.the_kept_state_tells_what_follows.Goals as goal

pub returns-clause-write : goal.returns-clause-write
returns-clause-write g c = λ d. writes_tell (g.M.Meaning.known d)

pub returns-clause-change : goal.returns-clause-change
returns-clause-change g c = λ d. changes_tell (g.M.Meaning.known d)

pub returns-clause-pages : goal.returns-clause-pages
returns-clause-pages g c = λ d. all_pages_tell (g.M.Meaning.known d)

pub returns-clause-commit : goal.returns-clause-commit
returns-clause-commit g c = λ d. commits_tell (g.M.Meaning.known d)

pub returns-clause-end : goal.returns-clause-end
returns-clause-end g c = λ d. ends_tell (g.M.Meaning.known d)

pub returns-clause-no_entry : goal.returns-clause-no_entry
returns-clause-no_entry g c = λ d. no_entry_refused (g.M.Meaning.known d)
