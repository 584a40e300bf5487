use Rattle.std.proofs.Common.{refl}
use Rattle.gx_storage.specs.State.{Volume, volume}
use Rattle.gx_storage.proofs.Calling.{sync_keeps}
use Rattle.gx_storage.proofs.storage.Storage.sync.Goals as goal

pub returns-clause-counts : goal.returns-clause-counts
returns-clause-counts g c = rw (← c.self.view_is) c.sync.ensures.counts

pub returns-clause-settled : goal.returns-clause-settled
returns-clause-settled g c = rw (← c.self.view_is) c.sync.ensures.settled

pub returns-clause-keeps : goal.returns-clause-keeps
returns-clause-keeps g c =
    let i = c.self.inside in
    let v : Volume g.row.D.Denot = volume i.journal i.store i.most in
    let w : Volume g.row.D.Denot = record { log = i.journal.log; shelf = c.sync.new.self; most = i.most; imaged = i.journal.imaged } in
    rw (← c.self.view_is) (λ l. sync_keeps _ _ _ _ (g.D.SectorDisk.state i.store.disk) (g.D.SectorDisk.state c.sync.new.self.disk) v w refl
    c.sync.ensures.only refl c.sync.ensures.counts.honest c.sync.ensures.pages (c.sync.ensures.up l))
