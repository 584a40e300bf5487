use Rattle.gx_index_laws.proofs.AskedCalls.{transaction_begins}
use Rattle.gx_index_laws.proofs.beginnings.a_transaction_begins.Goals as goal

pub returns : goal.returns
returns g c = λ k l old w works s is free room. transaction_begins k l old w works s is free room
