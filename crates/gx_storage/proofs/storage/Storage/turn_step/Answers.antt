use Rattle.gx_storage.specs.State.{Volume}
use Rattle.gx_storage.proofs.Turning.{turn_begins, turn_keeps}
use Rattle.gx_storage.proofs.storage.Storage.turn_step.Goals as goal

pub returns-clause-begins : goal.returns-clause-begins
returns-clause-begins g c = λ l. turn_begins _ _ _ _ (g.D.SectorDisk.state c.args.self.now.shelf.disk) c.args.self.now c.requires

pub returns-clause-keeps : goal.returns-clause-keeps
returns-clause-keeps g c =
    let i = c.self.inside in
    let j = c.journal.inside in
    let v : Volume g.row.D.Denot = record { log = j.log; shelf = i.store; most = i.most; imaged = j.imaged } in
    let w : Volume g.row.D.Denot = record { log = c.turn_step-told.new.log; shelf = c.turn_step-told.new.self; most = i.most; imaged = c.forget_after.new.self } in
    let clean = rw (← c.self.view_is) at c.requires.clean in
    rw (← c.self.view_is, ← c.journal.view_is) (λ l. turn_keeps _ _ _ _ (g.D.SectorDisk.state i.store.disk) (g.D.SectorDisk.state c.turn_step-told.new.self.disk) v w c.turn_step-told.result
    c.turn_step-told.ensures.only c.forget_after.ensures c.turn_step-told.ensures.counts.honest c.turn_step-told.ensures.pages clean (c.turn_step-told.ensures.runs l))
