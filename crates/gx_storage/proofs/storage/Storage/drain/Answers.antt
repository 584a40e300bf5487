use Rattle.gx_node.specs.Reading.{format_of, is_node}
use Rattle.gx_storage.specs.State.{Volume, volume}
use Rattle.gx_storage.proofs.OnlyReads.{begun_reads}
use Rattle.gx_storage.proofs.storage.Storage.drain.Goals as goal

pub returns-clause-unlogged : goal.returns-clause-unlogged
returns-clause-unlogged g c =
    let i = c.self.inside in
    let f = format_of g.K.KeyClass in
    let v : Volume g.row.D.Denot = volume i.journal i.store i.most in
    rw (← c.self.view_is) (begun_reads _ _ f (is_node f) g.D.SectorDisk.state v c.drain.new.self i.store.batch i.store.has_room c.drain.ensures.since c.drain.ensures.stays)
