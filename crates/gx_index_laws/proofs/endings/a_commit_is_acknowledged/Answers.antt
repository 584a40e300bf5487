use Rattle.gx_index_laws.proofs.AskedCalls.{acknowledged}
use Rattle.gx_index_laws.proofs.endings.a_commit_is_acknowledged.Goals as goal

pub returns : goal.returns
returns g c = λ k l old w works s number at durable. acknowledged k l old w works s number at durable
