use Rattle.gx_machine.proofs.Answered.{busy_least, open_free}
use Rattle.gx_machine.proofs.laws.busy_names_the_least_conflict.Goals as goal

pub returns-clause-busy : goal.returns-clause-busy
returns-clause-busy g c = λ k s other call m eight busy. busy_least k s call other m eight busy

pub returns-clause-open : goal.returns-clause-open
returns-clause-open g c = λ k s call m is_open. open_free k s call m is_open
