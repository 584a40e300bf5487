use Rattle.std.proofs.Common.{rules}
use Rattle.gx_glog.proofs.Keeping.{put_first_keeps_on, put_first_keeps_turn}
use Rattle.gx_glog.proofs.filling.Glog.put_first.Goals as goal

pub returns-clause-puts : goal.returns-clause-puts
returns-clause-puts c = search rules

pub returns-clause-on : goal.returns-clause-on
returns-clause-on c = λ seen pending on. put_first_keeps_on _ _ _ _ seen pending c.requires.idle (returns-clause-puts c) on

pub returns-clause-may_turn : goal.returns-clause-may_turn
returns-clause-may_turn c = λ seen pending may. put_first_keeps_turn _ _ _ _ seen pending c.requires.idle (returns-clause-puts c) may
