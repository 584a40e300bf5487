use Rattle.std.proofs.Common.{◌≡◌, ◌∙◌, sym, subst, true}
use Rattle.gx_recovery.proofs.Tests.{clash}
use Rattle.gx_found_log.specs.Given.{are_on_device}
use Rattle.gx_found_log.proofs.FoundRedone.{found_on, found_on_device, not_damaged}
use Rattle.gx_found_log.proofs.Laid.{pages_lie}
use Rattle.gx_found_log.proofs.restart.redo_log.Goals as goal

pub redo-requires : goal.redo-requires
redo-requires g c =
    pages_lie c.args.pages (g.D.SectorDisk.state c.args.disk.now).sectors c.requires c.args.found.now.given (sym c.are_on_device.ensures ∙ c.if-not-are_on_device.false)

pub returns-then-not-are_on_device-clause-redoes : goal.returns-then-not-are_on_device-clause-redoes
returns-then-not-are_on_device-clause-redoes g c = λ l same lawful honest settled is.
    clash (are_on_device c.args.pages c.args.found.now.given)
    (subst (λ n. are_on_device n c.args.found.now.given ≡ true) same
    (found_on_device (g.M.Meaning.known l) g.M.Spelled.reading lawful (g.D.SectorDisk.state c.args.disk.now).seen c.args.found.now is))
    (sym c.are_on_device.ensures ∙ c.if-not-are_on_device.true)

pub returns-clause-redoes : goal.returns-clause-redoes
returns-clause-redoes g c = λ l same lawful honest settled is. (
    record {
      redone = c.redo.ensures.redoes l is.log.bodies lawful honest
          (found_on (g.M.Meaning.known l) g.M.Spelled.reading (g.D.SectorDisk.state c.args.disk.now) c.args.found.now c.args.pages same c.requires settled is) is.given;
      whole = not_damaged c.redo.result c.redo.ensures.refusal;
    })
