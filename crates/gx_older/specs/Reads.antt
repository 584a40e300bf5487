-- What is said of a device that is only read.
use Rattle.std.specs.Prelude.{◌≡◌, ℕ, ◌+◌, Result, Ok, Err}
use Rattle.gx_geom.specs.declared.refusal.Refusal.{Refusal}
use Rattle.gx_geom.specs.declared.refusal.Refusal.TheVariants as refusal
use Rattle.gx_disk.specs.Device.{Device}

-- how many calls failed if a reading was refused so
abbrev pub faults_of : Refusal → ℕ
faults_of refusal.Device = 1
faults_of why = 0

-- no call has failed if the result is Ok, and else as many as its refusal says
abbrev pub FaultsAre : {T : Type 0} → (before now : ℕ) → Result T Refusal → Type 0
FaultsAre before now (Ok x) = now ≡ before
FaultsAre before now (Err why) = now ≡ before + faults_of why

-- The device has as many sectors and is as honest, and no write and no sync was made. A call that failed is reported.
pub record OnlyReads {T : Type 0} (old new : Device) (result : Result T Refusal) : Type 0 where
  pub sectors : new.sectors ≡ old.sectors
  pub honest : new.honest ≡ old.honest
  pub calls : new.calls ≡ old.calls
  pub faults : FaultsAre old.faults new.faults result
