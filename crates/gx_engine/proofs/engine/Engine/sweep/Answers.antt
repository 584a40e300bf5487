use Rattle.std.proofs.Common.{◌≡◌, ◌∙◌, ap, sym, true, false}
use Rattle.gx_engine.specs.States.{Parts}
use Rattle.gx_engine.specs.Sweeping.{is_page}
use Rattle.gx_engine.proofs.Brought.{leads_joined}
use Rattle.gx_engine.proofs.sweeps.Sweeping.{sweep_then}
use Rattle.gx_engine.proofs.Calling.{then_read}
use Rattle.gx_engine.proofs.Failing.{then_told}
use Rattle.gx_engine.proofs.engine.Engine.sweep.Goals as goal

pub returns-in-Ok-clause-sweeps : goal.returns-in-Ok-clause-sweeps
returns-in-Ok-clause-sweeps g c =
    let old : Parts g.row.K-Key.Denot g.row.D.Denot = c.args.self.now in
    let works : old.sessions.failed ≡ false = ap (λ (x : Parts g.row.K-Key.Denot g.row.D.Denot). x.sessions.failed) (sym c.self.view_is) ∙ sym c.has_failed.ensures.failed ∙ c.if-has_failed.false in
    let there : is_page c.args.page old ≡ true = sym c.is_page.ensures ∙ c.if-not-is_page.false in
    rw (works, there) (sweep_then _ _ _ _ _ c.args.page _ _ _ old c.bring.new.self c.in-Ok.ensures.comes c.bring.ensures.unlogged c.bring.ensures.stays c.sweep_held.new.self c.sweep_held.result c.sweep_held.ensures.sweeps)

pub returns-in-Ok-clause-leads : goal.returns-in-Ok-clause-leads
returns-in-Ok-clause-leads g c =
    λ l. leads_joined _ _ _ _ _ _ _ c.args.self.now c.bring.new.self c.sweep_held.new.self _ (c.in-Ok.ensures.leads l) (c.sweep_held.ensures.leads l)

pub returns-in-Ok-clause-device : goal.returns-in-Ok-clause-device
returns-in-Ok-clause-device g c = then_read g.D.SectorDisk.state c.args.self.now c.bring.new.self c.sweep_held.new.self c.bring.ensures.device c.sweep_held.ensures.device

pub returns-in-Ok-clause-told : goal.returns-in-Ok-clause-told
returns-in-Ok-clause-told g c = then_told g.D.SectorDisk.state c.args.self.now c.bring.new.self c.sweep_held.new.self c.sweep_held.result c.in-Ok.ensures.told c.sweep_held.ensures.told
