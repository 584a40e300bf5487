use Rattle.gx_machine.specs.Keys.{keys}
use Rattle.gx_engine.proofs.step.Steps.{ask_steps, checkpoint_steps, log_steps, page_steps, sweep_steps}
use Rattle.gx_engine.proofs.Calling.{ask_read, checkpoint_calls, log_calls, page_calls}
use Rattle.gx_engine.proofs.Failing.{ask_told, checkpoint_told, log_steps_told, written_told}
use Rattle.gx_engine.proofs.engine.Engine.make.Goals as goal

pub returns-in-Ask-clause-steps : goal.returns-in-Ask-clause-steps
returns-in-Ask-clause-steps g c l =
    rw (c.in-Ask.is) (ask_steps _ _ _ _ _ _ c.args.self.now c.ask.new.self c.in-Ask.session c.in-Ask.call c.ask.result c.ask.ensures.comes (c.ask.ensures.leads l))

pub returns-in-LogStep-clause-steps : goal.returns-in-LogStep-clause-steps
returns-in-LogStep-clause-steps g c l =
    rw (c.in-LogStep.is) (log_steps _ _ _ _ _ _ c.args.self.now c.log_step.new.self c.log_step.result c.log_step.ensures.steps (c.log_step.ensures.leads l))

pub returns-in-WritePage-clause-steps : goal.returns-in-WritePage-clause-steps
returns-in-WritePage-clause-steps g c l =
    rw (c.in-WritePage.is)
    (page_steps _ _ _ _ _ _ c.args.self.now c.write_page.new.self c.in-WritePage.page c.write_page.result c.write_page.ensures.writes (c.write_page.ensures.leads l))

pub returns-in-Sweep-clause-steps : goal.returns-in-Sweep-clause-steps
returns-in-Sweep-clause-steps g c l =
    rw (c.in-Sweep.is)
    (sweep_steps _ _ _ _ _ _ c.args.self.now c.sweep.new.self (keys g.K.Key.Ord.cmp g.K.Key.Shape.overlap g.K.Key.Shape.inside) _ c.in-Sweep.page c.sweep.result
    c.sweep.ensures.sweeps (c.sweep.ensures.leads l))

pub returns-in-CheckpointStep-clause-steps : goal.returns-in-CheckpointStep-clause-steps
returns-in-CheckpointStep-clause-steps g c l =
    rw (c.in-CheckpointStep.is) (checkpoint_steps _ _ _ _ _ _ c.args.self.now c.checkpoint_step.new.self c.checkpoint_step.result (c.checkpoint_step.ensures.leads l))

pub returns-in-Ask-clause-comes : goal.returns-in-Ask-clause-comes
returns-in-Ask-clause-comes g c = rw (c.in-Ask.is) c.ask.ensures.comes

pub returns-in-LogStep-clause-comes : goal.returns-in-LogStep-clause-comes
returns-in-LogStep-clause-comes g c = rw (c.in-LogStep.is) c.log_step.ensures.steps

pub returns-in-WritePage-clause-comes : goal.returns-in-WritePage-clause-comes
returns-in-WritePage-clause-comes g c = rw (c.in-WritePage.is) c.write_page.ensures.writes

pub returns-in-CheckpointStep-clause-comes : goal.returns-in-CheckpointStep-clause-comes
returns-in-CheckpointStep-clause-comes g c = rw (c.in-CheckpointStep.is) c.checkpoint_step.ensures.steps

pub returns-in-Sweep-clause-comes : goal.returns-in-Sweep-clause-comes
returns-in-Sweep-clause-comes g c = rw (c.in-Sweep.is) c.sweep.ensures.sweeps

pub returns-in-Move-clause-comes : goal.returns-in-Move-clause-comes
returns-in-Move-clause-comes g c = rw (c.in-Move.is) c.move_on.ensures.comes

pub returns-in-Ask-clause-calls : goal.returns-in-Ask-clause-calls
returns-in-Ask-clause-calls g c =
    rw (c.in-Ask.is) (ask_read g.D.SectorDisk.state c.args.self.now c.ask.new.self _ c.in-Ask.session c.in-Ask.call c.ask.result c.ask.ensures.comes)

pub returns-in-Move-clause-calls : goal.returns-in-Move-clause-calls
returns-in-Move-clause-calls g c = rw (c.in-Move.is) c.move_on.ensures.device

pub returns-in-LogStep-clause-calls : goal.returns-in-LogStep-clause-calls
returns-in-LogStep-clause-calls g c = rw (c.in-LogStep.is) (log_calls g.D.SectorDisk.state c.args.self.now c.log_step.new.self _ _ c.log_step.result c.log_step.ensures.steps)

pub returns-in-WritePage-clause-calls : goal.returns-in-WritePage-clause-calls
returns-in-WritePage-clause-calls g c =
    rw (c.in-WritePage.is) (page_calls g.D.SectorDisk.state c.args.self.now c.write_page.new.self c.in-WritePage.page _ c.write_page.result c.write_page.ensures.writes)

pub returns-in-CheckpointStep-clause-calls : goal.returns-in-CheckpointStep-clause-calls
returns-in-CheckpointStep-clause-calls g c =
    rw (c.in-CheckpointStep.is) (checkpoint_calls g.D.SectorDisk.state c.checkpoint_step.new.self c.args.self.now _ c.checkpoint_step.result c.checkpoint_step.ensures.steps)

pub returns-in-Sweep-clause-calls : goal.returns-in-Sweep-clause-calls
returns-in-Sweep-clause-calls g c = rw (c.in-Sweep.is) c.sweep.ensures.device

pub returns-in-Ask-clause-told : goal.returns-in-Ask-clause-told
returns-in-Ask-clause-told g c =
    ask_told g.D.SectorDisk.state c.ask.new.self c.args.self.now _ c.in-Ask.session c.in-Ask.call c.ask.result c.ask.ensures.comes

pub returns-in-LogStep-clause-told : goal.returns-in-LogStep-clause-told
returns-in-LogStep-clause-told g c = log_steps_told g.D.SectorDisk.state c.log_step.new.self c.args.self.now _ _ c.log_step.result c.log_step.ensures.steps

pub returns-in-WritePage-clause-told : goal.returns-in-WritePage-clause-told
returns-in-WritePage-clause-told g c =
    written_told g.D.SectorDisk.state c.write_page.new.self c.args.self.now c.in-WritePage.page _ c.write_page.result c.write_page.ensures.writes

pub returns-in-CheckpointStep-clause-told : goal.returns-in-CheckpointStep-clause-told
returns-in-CheckpointStep-clause-told g c =
    checkpoint_told g.D.SectorDisk.state c.checkpoint_step.new.self c.args.self.now _ c.checkpoint_step.result c.checkpoint_step.ensures.steps
