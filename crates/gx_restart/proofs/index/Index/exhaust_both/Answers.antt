use Rattle.std.proofs.Common.{◌∙◌}
use Rattle.gx_restart.proofs.settle.Exhausting.{settles_then}
use Rattle.gx_restart.proofs.Going.{told_then}
use Rattle.gx_restart.proofs.index.Index.exhaust_both.Goals as goal

pub returns : goal.returns
returns g c = record {
  made = settles_then _ c.args.self.now.engine c.exhaust.new.self.engine c.in_ok-exhaust.field-0 c.exhaust-2.result c.exhaust-2.new.self.engine c.in_ok-exhaust.ensures.made c.exhaust-2.ensures.made;
  told = told_then g.D.SectorDisk.state c.args.self.now.engine c.exhaust.new.self.engine c.exhaust-2.new.self.engine c.exhaust-2.result c.in_ok-exhaust.ensures.told c.exhaust-2.ensures.told;
  same = c.exhaust-2.ensures.same ∙ c.in_ok-exhaust.ensures.same;
  memory = c.exhaust-2.ensures.memory;
}
