use Rattle.gx_commands.proofs.Over.{left_of}
use Rattle.gx_commands.proofs.running.settle_after.Goals as goal

pub returns : goal.returns
returns g c = record {
  result = c.settle-ended.result;
  new = c.settle-ended.new.self;
  settles = c.settle-ended.ensures.settles;
  runs = c.settle-ended.ensures.runs;
  rests = c.settle-ended.ensures.rests;
  keeps = c.settle-ended.ensures.keeps;
  told = c.tell_settled-status.ensures;
  left = left_of c.settle-ended.new.self c.into_engine.result c.into_disk.result c.into_engine.ensures c.into_disk.ensures;
}
