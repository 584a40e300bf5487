use Rattle.gx_plain.proofs.Decided.{call_decides}
use Rattle.gx_plain.proofs.laws.a_call_alone_decides_its_reply.Goals as goal

pub returns : goal.returns
returns g c = λ k s call reply old new decided rests run. call_decides k s call reply old new decided rests run
