use Rattle.gx_index_laws.proofs.Alike.{live_too, work_too}
use Rattle.gx_index_laws.proofs.pages.an_index_is_alike_over_trees_that_agree.Goals as goal

pub returns-clause-live : goal.returns-clause-live
returns-clause-live g c = λ k one other agree legal e. live_too k one other agree legal e

pub returns-clause-works : goal.returns-clause-works
returns-clause-works g c = λ k one other agree legal slot work does. work_too k one other agree legal slot work does
