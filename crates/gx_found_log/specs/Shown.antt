-- What is said of a damaged log is true of the device's bytes.
use Rattle.std.specs.Prelude.{◌≡◌, ℕ, ◌<◌, ◌≤◌, ◌⊎◌, true, false, List}
use Rattle.gx_glog.specs.declared.extent.Extent.{Extent}
use Rattle.gx_glog.specs.Layout.{selected_of, is_open, body_of, size_in, records_in}
use Rattle.gx_glog.specs.Reading.{IsSize}
use Rattle.gx_glog.specs.Cuts.{bodies_in}
use Rattle.gx_recovery.specs.Known.{Known}
use Rattle.gx_recovery.specs.Records.{Record}
use Rattle.gx_recovery.specs.Damage.{records_of, is_undamaged}
use Rattle.gx_durable.specs.Spelled.{Reading}
use Rattle.gx_durable.specs.Bodies.{AreBodies}
use Rattle.gx_recovery.specs.declared.rule.LogRule.{LogRule}
use Rattle.gx_recovery.specs.declared.rule.LogRule.TheVariants.{FirstGate, BodySize}
use Rattle.gx_found_log.specs.declared.fault.LogDamage.{LogDamage}
use Rattle.gx_found_log.specs.declared.fault.LogFault.{LogFault}
use Rattle.gx_found_log.specs.declared.fault.LogFault.TheVariants.{Memory, Device, Damaged}
use Rattle.gx_found_log.specs.declared.gathered.Gathered.{Gathered}
use Rattle.gx_found_log.specs.Broken.{IsBrokenAt}
use Rattle.gx_found_log.specs.Found.{part_at, ReadSoFar}

-- The bodies before this one are the records of an undamaged log, and this one breaks the rule behind so many bytes of records.
pub record IsBrokenIn {E P : Type 0} (k : Known E P) (r : Reading E P) (seen : List ℕ) (extent : Extent) (i at : ℕ) (rule : LogRule) : Type 0 where
  pub size : IsSize (size_in (body_of seen extent i))
  pub bodies : List (List (Record E P))
  pub told : AreBodies r (bodies_in seen extent i) bodies
  pub undamaged : 1 ≤ i → is_undamaged k bodies ≡ true
  pub here : IsBrokenAt (part_at i) k r (records_of bodies) (records_in (body_of seen extent i)) at rule

-- A body breaks the rule: its size is out of range, or its records do.
abbrev pub BodyBreaks : {E P : Type 0} → Known E P → Reading E P → List ℕ → Extent → (i at : ℕ) → LogRule → Type 0
BodyBreaks k r seen extent i at rule = ((rule ≡ BodySize) × (at ≡ 0) × (IsSize (size_in (body_of seen extent i)) → ⊥)) ⊎ IsBrokenIn k r seen extent i at rule

-- what is said of a place of an extent, of which all before it are read
abbrev pub PlaceShows : {E P : Type 0} → Known E P → Reading E P → List ℕ → Extent → ℕ → Gathered E → LogFault → Type 0
PlaceShows k r seen extent i old Memory = Unit {0}
PlaceShows k r seen extent i old Device = Unit {0}
PlaceShows k r seen extent i old (Damaged damage) =
    (damage.extent ≡ extent) × (damage.body ≡ i) × (is_open seen extent i ≡ true) × (ReadSoFar k r seen extent i old → BodyBreaks k r seen extent i damage.at damage.rule)

-- The gates before a body are open. The first gate is closed; or this body's is open too, and the body breaks the rule.
pub record IsDamage {E P : Type 0} (k : Known E P) (r : Reading E P) (seen : List ℕ) (extent : Extent) (damage : LogDamage) : Type 0 where
  pub extent_is : damage.extent ≡ extent
  pub gates : (j : ℕ) → j < damage.body → is_open seen extent j ≡ true
  pub breaks : ((damage.rule ≡ FirstGate) × (damage.body ≡ 0) × (damage.at ≡ 0) × (is_open seen extent 0 ≡ false))
      ⊎ ((is_open seen extent damage.body ≡ true) × BodyBreaks k r seen extent damage.body damage.at damage.rule)

-- what is said of an extent, and of the log of an image
abbrev pub ExtentShows : {E P : Type 0} → Known E P → Reading E P → List ℕ → Extent → LogFault → Type 0
ExtentShows k r seen extent Memory = Unit {0}
ExtentShows k r seen extent Device = Unit {0}
ExtentShows k r seen extent (Damaged damage) = IsDamage k r seen extent damage

abbrev pub LogShows : {E P : Type 0} → Known E P → Reading E P → List ℕ → LogFault → Type 0
LogShows k r seen fault = ExtentShows k r seen (selected_of seen) fault
