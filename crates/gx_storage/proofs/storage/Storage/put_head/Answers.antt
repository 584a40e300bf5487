use Rattle.std.proofs.Common.{refl}
use Rattle.gx_record.specs.Seen.{rec_of}
use Rattle.gx_storage.specs.State.{Volume}
use Rattle.gx_storage.proofs.Turning.{head_keeps}
use Rattle.gx_storage.proofs.storage.Storage.put_head.Goals as goal

pub returns-clause-keeps : goal.returns-clause-keeps
returns-clause-keeps g c =
    let i = c.self.inside in
    let j = c.journal.inside in
    let v : Volume g.row.D.Denot = record { log = j.log; shelf = i.store; most = i.most; imaged = j.imaged } in
    let w : Volume g.row.D.Denot = record { log = c.put_first.new.log; shelf = i.store; most = i.most; imaged = j.imaged } in
    let d = g.D.SectorDisk.state i.store.disk in
    rw (← c.self.view_is, ← c.journal.view_is) (λ l. head_keeps _ _ _ _ d d v w (rec_of c.args.logged.now) c.put_first.result refl refl c.put_first.ensures.puts (c.put_first.ensures.up l))
