use Rattle.std.proofs.Common.{refl}
use Rattle.gx_storage.specs.State.{Volume}
use Rattle.gx_storage.proofs.Calling.{log_keeps}
use Rattle.gx_storage.proofs.storage.Storage.log_step.Goals as goal

pub returns-clause-keeps : goal.returns-clause-keeps
returns-clause-keeps g c =
    let i = c.self.inside in
    let j = c.journal.inside in
    let v : Volume g.row.D.Denot = record { log = j.log; shelf = i.store; most = i.most; imaged = j.imaged } in
    let w : Volume g.row.D.Denot = record { log = c.log_step.new.log; shelf = c.log_step.new.self; most = i.most; imaged = j.imaged } in
    rw (← c.self.view_is, ← c.journal.view_is) (λ l. log_keeps _ _ _ _ (g.D.SectorDisk.state i.store.disk) (g.D.SectorDisk.state c.log_step.new.self.disk) v w c.log_step.result
    c.log_step.ensures.only refl c.log_step.ensures.counts.honest c.log_step.ensures.pages c.log_step.ensures.goes (c.log_step.ensures.runs l))
