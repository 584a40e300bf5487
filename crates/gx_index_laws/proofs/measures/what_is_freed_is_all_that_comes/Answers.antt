use Rattle.gx_index_laws.proofs.measures.Freed.{commit_frees, end_frees}
use Rattle.gx_index_laws.proofs.measures.what_is_freed_is_all_that_comes.Goals as goal

pub returns-clause-commits : goal.returns-clause-commits
returns-clause-commits g c = λ k l old w s a ne there slot work transaction number. commit_frees k l old w s a ne there slot work transaction number

pub returns-clause-ends : goal.returns-clause-ends
returns-clause-ends g c = λ k l old w s a ne there slot work transaction. end_frees k l old w s a ne there slot work transaction
