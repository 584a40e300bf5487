use Rattle.gx_engine.proofs.Joining.{log_is, page_is}
use Rattle.gx_restart.proofs.Bringing.{work_sync}
use Rattle.gx_restart.proofs.text.bring.make.Goals as goal

pub returns-in-Log : goal.returns-in-Log
returns-in-Log g c =
    rw c.in-Log.is (record {
      comes = c.log_step.ensures.steps;
      spares = λ l bodies i h. (_, log_is _ _ _ _ _ _ _ _ _ c.log_step.ensures.steps, c.log_step.ensures.leads l bodies i h);
    })

pub returns-in-Write : goal.returns-in-Write
returns-in-Write g c =
    rw c.in-Write.is (record {
      comes = c.write_page.ensures.writes;
      spares = λ l bodies i h. (_, work_sync _ _ _ (page_is _ _ _ _ _ _ _ c.write_page.ensures.writes), c.write_page.ensures.leads l bodies i h);
    })

pub returns-in-Checkpoint : goal.returns-in-Checkpoint
returns-in-Checkpoint g c = rw c.in-Checkpoint.is (record { comes = c.checkpoint_step.ensures.steps; spares = c.checkpoint_step.ensures.leads })
