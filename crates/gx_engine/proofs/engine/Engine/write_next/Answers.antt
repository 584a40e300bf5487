use Rattle.std.proofs.Common.{subst}
use Rattle.std.specs.Prelude.{None}
use Rattle.gx_storage.specs.Flushing.{IsLeastWritable}
use Rattle.gx_engine.specs.States.{Parts}
use Rattle.gx_engine.proofs.checkpoints.Turns.{page_leads, page_written, some_writable}
use Rattle.gx_engine.proofs.engine.Engine.write_next.Goals as goal

pub returns-in-Some-clause-leads : goal.returns-in-Some-clause-leads
returns-in-Some-clause-leads g c = λ l.
    page_leads c.in-Some.page _ _ _ _ _ _ _ _ _ (page_written c.in-Some.page _ _ _ _ _ c.requires.works c.write_page.ensures.writes) (c.write_page.ensures.leads l)

pub returns-in-None-clause-leads : goal.returns-in-None-clause-leads
returns-in-None-clause-leads g c = λ l.
    some_writable _ _ _ _ _ _ _ _ _ c.requires.quiet c.requires.dirty
    (subst (λ (x : Parts g.row.K-Key.Denot g.row.D.Denot). IsLeastWritable x.volume.shelf.frames None) c.self.view_is c.in-None.ensures)
