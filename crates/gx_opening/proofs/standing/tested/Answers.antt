use Rattle.std.proofs.Common.{◌≡◌, ◌≤◌, refl}
use Rattle.gx_geom.specs.declared.refusal.Refusal.TheVariants.{Memory}
use Rattle.gx_opening.specs.Standing.{limits_of}
use Rattle.gx_opening.proofs.standing.Faults.{with_faults}
use Rattle.gx_opening.proofs.Stood.{with_cause, with_known, with_same, with_told, with_why}
use Rattle.gx_opening.proofs.standing.tested.Goals as goal

pub returns-clause-ok : goal.returns-clause-ok
returns-clause-ok g c = rw c.with_standing.ensures (with_same c.test_pages-disk.result.1 c.args.standing)

pub returns-clause-cause : goal.returns-clause-cause
returns-clause-cause g c = rw c.with_standing.ensures (with_cause c.test_pages-disk.result.1 c.args.standing c.test_pages-disk.ensures.cause)

pub returns-clause-memory : goal.returns-clause-memory
returns-clause-memory g c =
    rw c.with_standing.ensures (with_why (λ why. why ≡ Memory → c.args.standing.log.analysis.told.used ≤ c.args.standing.parameters.pages) c.test_pages-disk.result.1 c.args.standing c.test_pages-disk.ensures.memory)

pub returns-clause-tested : goal.returns-clause-tested
returns-clause-tested g c = λ honest others.
    rw c.with_standing.ensures (with_told _ c.test_pages-disk.result.1 c.args.standing (c.test_pages-disk.ensures.tested (limits_of c.args.standing.parameters) refl refl honest others))

pub returns-clause-fits : goal.returns-clause-fits
returns-clause-fits g c =
    rw c.with_standing.ensures (with_known (λ s. s.log.analysis.told.used ≤ s.parameters.pages) c.test_pages-disk.result.1 c.args.standing c.test_pages-disk.ensures.fits)

pub returns-clause-faults : goal.returns-clause-faults
returns-clause-faults g c = rw c.with_standing.ensures (with_faults _ _ c.test_pages-disk.result.1 c.args.standing c.test_pages-disk.ensures.faults)
