use Rattle.gx_class.proofs.box_probe.Lanes.{lanes_tell}
use Rattle.gx_class.proofs.box_probe.are_between.Goals as goal

pub returns : goal.returns
returns c = lanes_tell c.args.low.now c.args.high.now c.args.numbers c.told-low c.told-high c.requires.four c.requires.low c.requires.high c.requires.numbers
