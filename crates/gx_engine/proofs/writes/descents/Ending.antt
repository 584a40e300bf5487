-- What is reported of events that have to come first.
use Rattle.std.proofs.Common.{◌≡◌, Bool, false}
use Rattle.gx_store.specs.declared.fault.StoreFault.{StoreFault}
use Rattle.gx_store.specs.declared.fault.StoreFault.TheVariants as fault
use Rattle.gx_engine.specs.Refusals.{IsEarly}

-- if no checkpoint is due, any lack may be reported
pub always_early : (x : StoreFault) (due : Bool) → due ≡ false → IsEarly x due
always_early fault.NoRoom due early = early
always_early (fault.TooFewFrames wanted) due early = tt
always_early fault.Device due early = tt
always_early fault.Damaged due early = tt
