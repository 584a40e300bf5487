-- The refusal by why a log isn't read back.
use Rattle.std.specs.Prelude.{Result, Ok, Err}
use Rattle.gx_geom.specs.declared.refusal.Refusal.{Refusal}
use Rattle.gx_geom.specs.declared.refusal.Refusal.TheVariants as refusals
use Rattle.gx_found_log.specs.declared.fault.LogFault.{LogFault}
use Rattle.gx_found_log.specs.declared.fault.LogFault.TheVariants.{Memory, Device, Damaged}

abbrev pub refusal_of : LogFault → Refusal
refusal_of Memory = refusals.Memory
refusal_of Device = refusals.Device
refusal_of (Damaged damage) = refusals.Damaged

-- what is answered, with the refusal in place of the fault
abbrev pub refusing : {T : Type 0} → Result T LogFault → Result T Refusal
refusing (Ok x) = Ok x
refusing (Err fault) = Err (refusal_of fault)
