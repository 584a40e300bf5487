-- The class of keys and the number of pages that a device of the first version is formatted for.
use Rattle.std.specs.Prelude.{◌≡◌, ◌<◌, ◌≤◌, ℕ, true, List, Result, Ok, Err, IfOk}
use Rattle.gx_geom.specs.declared.refusal.Refusal.{Refusal}
use Rattle.gx_geom.specs.declared.refusal.Refusal.TheVariants.{BadParameter, Device, NotFormatted, TooSmall}
use Rattle.gx_disk.specs.declared.layout.TheConstants.{LEAST_SECTORS, MAX_PAGES, MIN_PAGES}
use Rattle.gx_disk.specs.Device as disk
use Rattle.gx_disk.specs.Looks.{Looks}
use Rattle.gx_format.specs.Fresh.{HasOldMagic}
use Rattle.gx_glog.specs.declared.parameters.Parameters.{Parameters}
use Rattle.gx_older.specs.Reads.{OnlyReads}
use Rattle.gx_older.specs.Told.{Tells}

-- there is a class of this number, and an index may have so many pages
pub record IsKnown (class pages : ℕ) : Type 0 where
  pub first : 1 ≤ class
  pub last : class ≤ 3
  pub least : MIN_PAGES ≤ pages
  pub most : pages ≤ MAX_PAGES

abbrev pub HasClass : Parameters → Type 0
HasClass p = IsKnown p.class p.pages

-- what a device with the sectors of the smallest index says, in the order of the tests
abbrev pub SaysClass : List ℕ → Result (ℕ × ℕ) Refusal → Type 0
SaysClass seen (Ok said) = HasOldMagic seen × ((p : Parameters) × (Tells seen p × (HasClass p × ((said.0 ≡ p.class) × (said.1 ≡ p.pages)))))
SaysClass seen (Err NotFormatted) = HasOldMagic seen → ⊥
SaysClass seen (Err BadParameter) = HasOldMagic seen × ((p : Parameters) × (Tells seen p × (HasClass p → ⊥)))
SaysClass seen (Err Device) = Unit {0}
SaysClass seen (Err refusal) = ⊥

-- A device was read for its class and its pages, with this result. Whatever the device is, these are in range.
pub record ReadsClass {D : Type 0} (state : D → disk.Device) (old new : D) (result : Result (ℕ × ℕ) Refusal) : Type 0 where
  pub small : (state old).sectors < LEAST_SECTORS → (result ≡ Err TooSmall) × (new ≡ old)
  pub only : OnlyReads (state old) (state new) result
  pub looks : (state old).honest ≡ true → Looks (state old) (state new)
  pub says : (state old).honest ≡ true → LEAST_SECTORS ≤ (state old).sectors → SaysClass (state old).seen result
  pub known : IfOk result (λ said. IsKnown said.0 said.1)
