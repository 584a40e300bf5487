use Rattle.gx_restart.proofs.index.Index.drain.Goals as goal

pub returns-clause-leads : goal.returns-clause-leads
returns-clause-leads g c = rw (← c.self.view_is) c.drain.ensures.leads
