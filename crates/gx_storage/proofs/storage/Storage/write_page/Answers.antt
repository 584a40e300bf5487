use Rattle.std.proofs.Common.{refl}
use Rattle.gx_storage.specs.State.{Volume, volume}
use Rattle.gx_storage.proofs.Calling.{write_keeps}
use Rattle.gx_storage.proofs.storage.Storage.write_page.Goals as goal

pub returns-clause-keeps : goal.returns-clause-keeps
returns-clause-keeps g c =
    let i = c.self.inside in
    let v : Volume g.row.D.Denot = volume i.journal i.store i.most in
    let w : Volume g.row.D.Denot = record { log = i.journal.log; shelf = c.write_page.new.self; most = i.most; imaged = i.journal.imaged } in
    rw (← c.self.view_is) (λ gated l. write_keeps _ _ _ _ (g.D.SectorDisk.state i.store.disk) (g.D.SectorDisk.state c.write_page.new.self.disk) v w _ c.write_page.ensures.at_most refl
    c.write_page.ensures.only refl c.write_page.ensures.honest c.write_page.ensures.shown c.write_page.ensures.readable (c.write_page.ensures.runs gated l))
