use Rattle.gx_machine.proofs.Transactions.{ask_refused_sessions, fault_sessions, failed_sessions}
use Rattle.gx_machine.proofs.laws.faults_change_no_session.Goals as goal

pub returns-clause-asked : goal.returns-clause-asked
returns-clause-asked g c = λ k old new s call why step. ask_refused_sessions k s call why old new step

pub returns-clause-called : goal.returns-clause-called
returns-clause-called g c = λ k old new s why step. fault_sessions k why old new step.1

pub returns-clause-unseen : goal.returns-clause-unseen
returns-clause-unseen g c = λ k old new step. failed_sessions k old new step
