use Rattle.std.proofs.Common.{refl}
use Rattle.gx_commands.specs.Streams.{outputs_of}
use Rattle.gx_commands.proofs.Over.{left_of}
use Rattle.gx_commands.proofs.dumping.dump_index.Goals as goal

pub tell_dump-status-requires : goal.tell_dump-status-requires
tell_dump-status-requires g c = c.dump-ends.ensures.stuck

pub returns : goal.returns
returns g c = record {
  result = c.dump-ends.result;
  new = c.dump-ends.new.self;
  between = outputs_of g.W.Write.contents g.E.Write.contents c.dump-ends.new.writer c.args.faults.now;
  dumps = c.dump-ends.ensures.dumps;
  text = c.dump-ends.ensures.text;
  cut = c.dump-ends.ensures.cut;
  reads = c.dump-ends.ensures.reads;
  runs = c.dump-ends.ensures.runs;
  keeps = c.dump-ends.ensures.keeps;
  quiet = refl;
  told = c.tell_dump-status.ensures;
  left = left_of c.dump-ends.new.self c.into_engine.result c.into_disk.result c.into_engine.ensures c.into_disk.ensures;
}
