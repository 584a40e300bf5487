use Rattle.std.proofs.Common.{rules}
use Rattle.gx_glog.proofs.Keeping.{append_keeps_on, append_keeps_turn}
use Rattle.gx_glog.proofs.filling.Glog.append.Goals as goal

pub returns-clause-appends : goal.returns-clause-appends
returns-clause-appends c = search rules

pub returns-then-is_under_way-clause-appends : goal.returns-then-is_under_way-clause-appends
returns-then-is_under_way-clause-appends c = search rules

pub returns-clause-on : goal.returns-clause-on
returns-clause-on c = λ seen pending on. append_keeps_on _ _ _ _ seen pending c.requires.place (returns-clause-appends c) on

pub returns-clause-may_turn : goal.returns-clause-may_turn
returns-clause-may_turn c = λ seen pending may. append_keeps_turn _ _ _ _ seen pending c.requires.place (returns-clause-appends c) may
