use Rattle.gx_index_laws.proofs.Meanwhile.{begun_stays, written_stays, synced_stays, renewed_stays, page_step_stays}
use Rattle.gx_index_laws.proofs.measures.what_is_no_sessions_leaves_no_more.Goals as goal

pub returns-clause-begins : goal.returns-clause-begins
returns-clause-begins g c = λ k old none s. begun_stays k old none s

pub returns-clause-pages : goal.returns-clause-pages
returns-clause-pages g c = λ k l old area agrees s. written_stays k old l area agrees s

pub returns-clause-synced : goal.returns-clause-synced
returns-clause-synced g c = λ k old older oldest s. synced_stays k old older oldest s

pub returns-clause-renewed : goal.returns-clause-renewed
returns-clause-renewed g c = λ k l old w no_flight no_filling written next s. renewed_stays k l old w no_flight no_filling written next s

pub returns-clause-steps : goal.returns-clause-steps
returns-clause-steps g c = λ k l old w r step page is room s. page_step_stays k l old w r step page is room s
