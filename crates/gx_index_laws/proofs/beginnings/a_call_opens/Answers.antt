use Rattle.gx_index_laws.proofs.AskedCalls.{call_opens}
use Rattle.gx_index_laws.proofs.beginnings.a_call_opens.Goals as goal

pub returns : goal.returns
returns g c = λ k l old w works s is call given. call_opens k l old w works s is call given
