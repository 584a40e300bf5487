-- What a device is formatted for, as it is read once it is settled.
use Rattle.std.specs.Prelude.{◌≡◌, ◌⊎◌, ℕ, ◌+◌, ◌<◌, ◌≤◌, List, ◌++◌, take, Result, Ok, Err, OnOk}
use Rattle.gx_geom.specs.declared.refusal.Refusal.{Refusal}
use Rattle.gx_geom.specs.declared.refusal.Refusal.TheVariants.{BadParameter, TooSmall, NotFormatted, OldVersion, Device}
use Rattle.gx_disk.specs.declared.layout.TheConstants.{LEAST_SECTORS}
use Rattle.gx_disk.specs.Device as disk
use Rattle.gx_disk.specs.Device.{MayLeave, IsSettled, Rests}
use Rattle.gx_disk.specs.Moments.{Leaves}
use Rattle.gx_disk.specs.Sectors.{sector_of}
use Rattle.gx_format.specs.Formatting.{AreInRange, sectors_of}
use Rattle.gx_format.specs.Fresh.{HasMagic, HasOldMagic, IsUnnamed, magic_bytes}
use Rattle.gx_glog.specs.Parameters.{parameters_bytes, Fit}
use Rattle.gx_glog.specs.declared.parameters.Parameters.{Parameters}
use Rattle.gx_store.specs.Faults.{refusal_fails}

-- the first eight bytes of sector 1 say so
pub record Says (image : List ℕ) (p : Parameters) : Type 0 where
  pub bytes : take 8 (sector_of image 1) ≡ parameters_bytes p
  pub fit : Fit p

-- what is read of the first two sectors of a device that is formatted so
abbrev pub head_of : Parameters → List ℕ
head_of p = magic_bytes ++ parameters_bytes p

-- an index of the class may be so
pub record IsAllowed (class : ℕ) (p : Parameters) : Type 0 where
  pub range : AreInRange p.pages p.most
  pub class_is : p.class ≡ class

-- a device of so many sectors has those of such an index
abbrev pub IsLarge : ℕ → Parameters → Type 0
IsLarge sectors p = sectors_of p.pages ≤ sectors

-- why an index of the class isn't so on a device of so many sectors
abbrev pub WhyNotAllowed : (class sectors : ℕ) → Parameters → Refusal → Type 0
WhyNotAllowed class sectors p BadParameter = IsAllowed class p → ⊥
WhyNotAllowed class sectors p TooSmall = IsAllowed class p × (sectors < sectors_of p.pages)
WhyNotAllowed class sectors p refusal = ⊥

-- what is read of an image: what it says after the magic
abbrev pub AreRead : List ℕ → Result Parameters Refusal → Type 0
AreRead image (Ok p) = HasMagic image × Says image p
AreRead image (Err OldVersion) = HasOldMagic image
AreRead image (Err NotFormatted) = IsUnnamed image
AreRead image (Err Device) = Unit {0}
AreRead image (Err refusal) = ⊥

-- why it isn't read
abbrev pub IsUntold : Refusal → Type 0
IsUntold why = (why ≡ Device) ⊎ ((why ≡ OldVersion) ⊎ (why ≡ NotFormatted))

-- no call has failed if the result is Ok, and else as many as its refusal says
abbrev pub FaultsAre : {T : Type 0} → (before now : ℕ) → Result T Refusal → Type 0
FaultsAre before now (Ok x) = now ≡ before
FaultsAre before now (Err why) = now ≡ before + refusal_fails why

-- The device has as many sectors and is as honest, and no write is made: so many syncs at most. A call that failed is
-- reported.
pub record Counted {T : Type 0} (syncs : ℕ) (old new : disk.Device) (result : Result T Refusal) : Type 0 where
  pub sectors : new.sectors ≡ old.sectors
  pub honest : new.honest ≡ old.honest
  pub from : old.calls ≤ new.calls
  pub to : new.calls ≤ old.calls + syncs
  pub faults : FaultsAre old.faults new.faults result

-- Nothing reads otherwise, and a crash since then may have left nothing that it could not have left before.
pub record OnlyRests (old new : disk.Device) : Type 0 where
  pub rests : Rests old new
  pub leaves : Leaves (MayLeave old) old new

-- what is read of a device that has `LEAST_SECTORS` sectors, in the order of its tests
abbrev pub MaySettle : (class sectors : ℕ) → List ℕ → Result Parameters Refusal → Type 0
MaySettle class sectors seen (Ok p) = HasMagic seen × (Says seen p × (IsAllowed class p × IsLarge sectors p))
MaySettle class sectors seen (Err OldVersion) = HasOldMagic seen
MaySettle class sectors seen (Err NotFormatted) = IsUnnamed seen
MaySettle class sectors seen (Err BadParameter) = HasMagic seen × ((p : Parameters) × (Says seen p × (IsAllowed class p → ⊥)))
MaySettle class sectors seen (Err TooSmall) = HasMagic seen × ((p : Parameters) × (Says seen p × (IsAllowed class p × (sectors < sectors_of p.pages))))
MaySettle class sectors seen (Err Device) = Unit {0}
MaySettle class sectors seen (Err refusal) = ⊥

-- What an honest device is read to be formatted for: once it is settled nothing reads otherwise.
pub record Settles (class : ℕ) (old new : disk.Device) (result : Result Parameters Refusal) : Type 0 where
  pub only : OnlyRests old new
  pub told : LEAST_SECTORS ≤ old.sectors → MaySettle class old.sectors old.seen result
  pub settled : OnOk result (IsSettled new)
