use Rattle.std.proofs.Common.{◌∙◌, List, subst}
use Rattle.gx_geom.specs.declared.refusal.Refusal.{Refusal}
use Rattle.gx_found_log.specs.Given.{Imaged}
use Rattle.gx_found_log.specs.Laid.{Lays}
use Rattle.gx_found_log.proofs.Laid.{lays_synced}
use Rattle.gx_found_log.proofs.redoing.lay_all.Goals as goal

pub returns-in-Ok-clause-lays : goal.returns-in-Ok-clause-lays
returns-in-Ok-clause-lays g c = λ honest.
    subst (λ (xs : List Imaged). Lays {T = Unit {0}} {E = Refusal} xs (g.D.SectorDisk.state c.args.disk.now) (g.D.SectorDisk.state c.settle.new.disk) c.settle.result) c.pages.ensures.pages
    (lays_synced c.pages.result.now (g.D.SectorDisk.state c.args.disk.now) (g.D.SectorDisk.state c.lay.new.disk) (g.D.SectorDisk.state c.settle.new.disk) c.in-Ok.field-0 c.settle.result
    (c.in-Ok.ensures.lays honest) (c.settle.ensures.syncs (c.in-Ok.ensures.device.1 ∙ honest)))
