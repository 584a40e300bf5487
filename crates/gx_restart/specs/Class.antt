-- The class of keys that a device is formatted for.
use Rattle.std.specs.Prelude.{◌≡◌, ◌<◌, ◌≤◌, ℕ, true, List, Result, Ok, Err, IfOk}
use Rattle.gx_disk.specs.declared.layout.TheConstants.{LEAST_SECTORS}
use Rattle.gx_disk.specs.Device as disk
use Rattle.gx_disk.specs.Looks.{Looks}
use Rattle.gx_format.specs.Fresh.{HasMagic, HasOldMagic, IsUnnamed}
use Rattle.gx_geom.specs.declared.refusal.Refusal.{Refusal}
use Rattle.gx_geom.specs.declared.refusal.Refusal.TheVariants.{BadParameter, Device, NotFormatted, OldVersion, TooSmall}
use Rattle.gx_glog.specs.declared.parameters.Parameters.{Parameters}
use Rattle.gx_opening.specs.Formatted.{Counted, Says}

-- the classes of keys: boxes of the plane, intervals, boxes of space
abbrev pub IsClass : ℕ → Type 0
IsClass n = (1 ≤ n) × (n ≤ 3)

-- the class that a device with `LEAST_SECTORS` sectors says, in the order of the tests
abbrev pub SaysClass : List ℕ → Result ℕ Refusal → Type 0
SaysClass seen (Ok class) = HasMagic seen × ((p : Parameters) × (Says seen p × ((class ≡ p.class) × IsClass p.class)))
SaysClass seen (Err OldVersion) = HasOldMagic seen
SaysClass seen (Err NotFormatted) = IsUnnamed seen
SaysClass seen (Err BadParameter) = HasMagic seen × ((p : Parameters) × (Says seen p × (IsClass p.class → ⊥)))
SaysClass seen (Err Device) = Unit {0}
SaysClass seen (Err refusal) = ⊥

-- A device was read for its class, with this result. No write and no sync is made, and a call that failed is reported.
pub record ReadsClass {D : Type 0} (state : D → disk.Device) (old new : D) (result : Result ℕ Refusal) : Type 0 where
  pub small : (state old).sectors < LEAST_SECTORS → (result ≡ Err TooSmall) × (new ≡ old)
  pub counted : Counted 0 (state old) (state new) result
  pub looks : (state old).honest ≡ true → Looks (state old) (state new)
  pub says : (state old).honest ≡ true → LEAST_SECTORS ≤ (state old).sectors → SaysClass (state old).seen result
  pub known : IfOk result IsClass
