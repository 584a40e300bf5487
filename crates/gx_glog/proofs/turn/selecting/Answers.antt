use Rattle.std.proofs.Common.{refl}
use Rattle.gx_glog.proofs.Fills.{selector_is, selector_spelled}
use Rattle.gx_glog.proofs.turn.selecting.Goals as goal

pub returns-clause-selector : goal.returns-clause-selector
returns-clause-selector c = selector_is _ 512 _ _ refl c.selector.ensures refl

pub returns-clause-bytes : goal.returns-clause-bytes
returns-clause-bytes c = selector_spelled c.args.extent _ c.selector.ensures
