use Rattle.std.proofs.Common.{inl, inr, refl}
use Rattle.gx_commands.specs.Streams.{outputs_of}
use Rattle.gx_commands.proofs.Faults.{fault_of}
use Rattle.gx_commands.proofs.Over.{left_of}
use Rattle.gx_commands.proofs.running.run_watched.Goals as goal

pub returns-in-Ok : goal.returns-in-Ok
returns-in-Ok g c =
    inl (record {
      new = c.run.new.index;
      between = outputs_of g.W.Write.contents g.E.Write.contents c.run.new.writer c.args.faults.now;
      done = c.in-Ok.ensures.done;
      ended = c.in-Ok.ensures.ended;
      quiet = refl;
      ends = c.end_script.ensures;
    })

pub returns-in-Err : goal.returns-in-Err
returns-in-Err g c =
    inr (record {
      new = c.run.new.index;
      fault = c.in-Err.fault;
      status_is = refl;
      stopped = c.in-Err.ensures.stopped;
      faulty = fault_of g.R.Read.remaining g.W.Write.contents c.run.new.reader c.run.new.writer c.in-Err.fault c.in-Err.ensures.fault;
      heard = c.tell_stopped.ensures;
      left_is = left_of c.run.new.index.index c.into_engine.result c.into_disk.result c.into_engine.ensures c.into_disk.ensures;
    })
