use Rattle.std.proofs.Common.{refl}
use Rattle.gx_machine.specs.Keys.{Members}
use Rattle.gx_events.specs.declared.outcome.Outcome.TheVariants.{Help, Refused}
use Rattle.gx_engine.specs.declared.pages.NotLent.TheVariants as not_lent
use Rattle.gx_engine.proofs.pages.Viewing.{not_viewed}
use Rattle.gx_engine.proofs.engine.Engine.page.Goals as goal

pub returns-in-Err-Help : goal.returns-in-Err-Help
returns-in-Err-Help g c =
    let shape : Members g.row.K-Key.Denot = record { partial_cmp = g.K.Key.PartialOrd.partial_cmp; eq = g.K.Key.PartialEq.eq; cmp = g.K.Key.Ord.cmp; overlap = g.K.Key.Shape.overlap; inside = g.K.Key.Shape.inside } in
    let did = c.in-Err-Help.ensures in
    rw c.in-Err-Help.need-is (
      (
        refl,
        (λ end. tt),
        not_viewed shape g.K.ReadKeys.is_proper g.K.ReadKeys.said g.K.KeyClass g.D.SectorDisk.state c.args.page c.args.self.now c.bring_page.new.self c.in-Err-Help.field-0
            (Help c.in-Err-Help.need) (not_lent.Help c.in-Err-Help.need) c.in-Err-Help.field-0-is refl
            did.comes did.stays did.leads did.order,
      ),
      record { lends = tt },
    )

pub returns-in-Err-Refused : goal.returns-in-Err-Refused
returns-in-Err-Refused g c =
    let shape : Members g.row.K-Key.Denot = record { partial_cmp = g.K.Key.PartialOrd.partial_cmp; eq = g.K.Key.PartialEq.eq; cmp = g.K.Key.Ord.cmp; overlap = g.K.Key.Shape.overlap; inside = g.K.Key.Shape.inside } in
    let did = c.in-Err-Refused.ensures in
    rw c.in-Err-Refused.why-is (
      (
        refl,
        (λ end. tt),
        not_viewed shape g.K.ReadKeys.is_proper g.K.ReadKeys.said g.K.KeyClass g.D.SectorDisk.state c.args.page c.args.self.now c.bring_page.new.self c.in-Err-Refused.field-0
            (Refused c.in-Err-Refused.why) (not_lent.Refused c.in-Err-Refused.why) c.in-Err-Refused.field-0-is refl
            did.comes did.stays did.leads did.order,
      ),
      record { lends = tt },
    )
