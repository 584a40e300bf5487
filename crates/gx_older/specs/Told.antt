-- What a device of the first version says that it is formatted for.
use Rattle.std.specs.Prelude.{◌≡◌, ℕ, ◌<◌, ◌≤◌, List, take, Result, Ok, Err}
use Rattle.gx_geom.specs.declared.refusal.Refusal.{Refusal}
use Rattle.gx_geom.specs.declared.refusal.Refusal.TheVariants.{BadParameter, Device, NotFormatted, TooSmall}
use Rattle.gx_disk.specs.Sectors.{sector_of}
use Rattle.gx_format.specs.Formatting.{AreInRange}
use Rattle.gx_format.specs.Fresh.{HasOldMagic}
use Rattle.gx_glog.specs.declared.parameters.Parameters.{Parameters}
use Rattle.gx_glog.specs.Parameters.{Fit, parameters_bytes}
use Rattle.gx_older.specs.Renumbered.{older_sectors_of}

-- the first eight bytes of sector 1 say so
pub record Tells (seen : List ℕ) (p : Parameters) : Type 0 where
  pub bytes : take 8 (sector_of seen 1) ≡ parameters_bytes p
  pub fit : Fit p

-- an index of the class may be so
pub record MayBe (class : ℕ) (p : Parameters) : Type 0 where
  pub range : AreInRange p.pages p.most
  pub class_is : p.class ≡ class

-- why an index of the class isn't so on a device of the first version of so many sectors
abbrev pub WhyNotOlder : (class sectors : ℕ) → Parameters → Refusal → Type 0
WhyNotOlder class sectors p BadParameter = MayBe class p → ⊥
WhyNotOlder class sectors p TooSmall = MayBe class p × (sectors < older_sectors_of p.pages)
WhyNotOlder class sectors p refusal = ⊥

-- what is read of a device: what it says after the magic
abbrev pub AreTold : List ℕ → Result Parameters Refusal → Type 0
AreTold seen (Ok p) = HasOldMagic seen × Tells seen p
AreTold seen (Err NotFormatted) = HasOldMagic seen → ⊥
AreTold seen (Err Device) = Unit {0}
AreTold seen (Err refusal) = ⊥

-- what is read of a device that has the sectors of the smallest index, in the order of its tests
abbrev pub IsOlder : (class sectors : ℕ) → List ℕ → Result Parameters Refusal → Type 0
IsOlder class sectors seen (Ok p) = HasOldMagic seen × (Tells seen p × (MayBe class p × (older_sectors_of p.pages ≤ sectors)))
IsOlder class sectors seen (Err NotFormatted) = HasOldMagic seen → ⊥
IsOlder class sectors seen (Err BadParameter) = HasOldMagic seen × ((p : Parameters) × (Tells seen p × (MayBe class p → ⊥)))
IsOlder class sectors seen (Err TooSmall) = HasOldMagic seen × ((p : Parameters) × (Tells seen p × (MayBe class p × (sectors < older_sectors_of p.pages))))
IsOlder class sectors seen (Err Device) = Unit {0}
IsOlder class sectors seen (Err refusal) = ⊥
