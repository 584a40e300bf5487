use Rattle.std.proofs.Common.{refl}
use Rattle.gx_record.specs.Seen.{rec_of}
use Rattle.gx_storage.specs.State.{Volume}
use Rattle.gx_storage.proofs.flusher.Unpaged.{record_keeps}
use Rattle.gx_storage.proofs.storage.Storage.append.Goals.{in-At, in-NoRoom}
use Rattle.gx_storage.proofs.storage.Storage.append.Goals as goal

pub returns-clause-keeps : goal.returns-clause-keeps
returns-clause-keeps g c =
    let i = c.self.inside in
    let j = c.journal.inside in
    let v : Volume g.row.D.Denot = record { log = j.log; shelf = i.store; most = i.most; imaged = j.imaged } in
    let w : Volume g.row.D.Denot = record { log = c.append.new.log; shelf = i.store; most = i.most; imaged = j.imaged } in
    rw (← c.self.view_is, ← c.journal.view_is) (λ gives. elim c.match-append.branch [
      | in-At t ↦ rw t.result-is (λ l. record_keeps _ _ _ _ (g.D.SectorDisk.state i.store.disk) v w (rec_of c.args.logged.now) 0 gives refl refl (t.in-At.ensures.up l) t.in-At.ensures.stamped t.in-At.ensures.placed)
      | in-NoRoom t ↦ rw t.result-is tt
    ])
