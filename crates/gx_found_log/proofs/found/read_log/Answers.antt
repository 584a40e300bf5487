use Rattle.std.proofs.Common.{sym, subst}
use Rattle.std.specs.Prelude.{Err}
use Rattle.gx_geom.specs.declared.refusal.Refusal.{Refusal}
use Rattle.gx_found_log.specs.Found.{LogRead, ReadsAlone}
use Rattle.gx_found_log.proofs.found.read_log.Goals as goal

pub returns-in-Err-clause-reads : goal.returns-in-Err-clause-reads
returns-in-Err-clause-reads g c =
    subst (λ (why : Refusal). ReadsAlone (g.D.SectorDisk.state c.args.disk.now) (g.D.SectorDisk.state c.examine_log.new.disk) (Err why)) (sym c.refusal.ensures) c.in-Err.ensures.reads

pub returns-in-Err-clause-log : goal.returns-in-Err-clause-log
returns-in-Err-clause-log g c = λ honest d ordered pages most.
    subst (λ (why : Refusal). LogRead (g.M.Meaning.known d) g.M.Spelled.reading (g.D.SectorDisk.state c.args.disk.now).seen (Err why)) (sym c.refusal.ensures)
    (c.in-Err.ensures.log honest d ordered pages most)
