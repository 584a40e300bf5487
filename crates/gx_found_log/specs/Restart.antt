-- The redo of a log that was read.
use Rattle.std.specs.Prelude.{◌≡◌, true, Result, Err}
use Rattle.gx_geom.specs.declared.refusal.Refusal.{Refusal}
use Rattle.gx_geom.specs.declared.refusal.Refusal.TheVariants.{Damaged}
use Rattle.gx_disk.specs.Device.{Device, IsSettled}
use Rattle.gx_recovery.specs.Known.{Known, IsLawful}
use Rattle.gx_durable.specs.Spelled.{Reading}
use Rattle.gx_found_log.specs.declared.found.FoundLog.{FoundLog}
use Rattle.gx_found_log.specs.Found.{IsFound}
use Rattle.gx_found_log.specs.Redone.{Redone}

-- It is redone, and isn't refused as damaged.
pub record IsRedoneWhole {T E P : Type 0} (k : Known E P) (r : Reading E P) (d e : Device) (log : FoundLog E) (is : IsFound k r d.seen log) (result : Result T Refusal) : Type 0 where
  pub redone : Redone k r d e is.log.bodies result
  pub whole : result ≡ Err Damaged → ⊥

-- so of a log that was found on what is read of a synced device
abbrev pub RedoesFound : {T E P : Type 0} → Known E P → Reading E P → FoundLog E → Device → Device → Result T Refusal → Type 0
RedoesFound k r log d e result = IsLawful k → d.honest ≡ true → IsSettled d → (is : IsFound k r d.seen log) → IsRedoneWhole k r d e log is result
