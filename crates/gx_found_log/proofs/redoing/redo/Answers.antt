use Rattle.gx_found_log.proofs.redoing.Redone.{redone_so}
use Rattle.gx_found_log.proofs.redoing.redo.Goals as goal

pub returns-clause-redoes : goal.returns-clause-redoes
returns-clause-redoes g c = λ l bodies lawful honest is gives_so.
    redone_so (g.M.Meaning.known l) g.M.Spelled.reading c.args.given.now (g.D.SectorDisk.state c.args.disk.now) bodies lawful is gives_so c.requires (g.D.SectorDisk.state c.lay_all.new.disk)
    c.lay_all.result (g.met.D.SectorDisk.whole c.args.disk.now honest) c.lay_all.ensures.device.0 (c.lay_all.ensures.lays honest) (c.lay_all.ensures.settled honest)
