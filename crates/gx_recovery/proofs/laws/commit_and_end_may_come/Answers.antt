use Rattle.gx_recovery.proofs.Undo.{commit_may_come, end_may_come}
use Rattle.gx_recovery.proofs.laws.commit_and_end_may_come.Goals as goal

pub returns-clause-commit : goal.returns-clause-commit
returns-clause-commit g c = λ d l area log is good t open_yet. commit_may_come (g.M.Meaning.known d) l area log is good t open_yet

pub returns-clause-end : goal.returns-clause-end
returns-clause-end g c = λ d l area log is good t open_yet restored. end_may_come (g.M.Meaning.known d) l area log is good t open_yet restored
