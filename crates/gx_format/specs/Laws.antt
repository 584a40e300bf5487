-- The laws of a format.
use Rattle.std.specs.Prelude.{◌≡◌, ◌≤◌, true, Result, Ok}
use Rattle.gx_geom.specs.declared.refusal.Refusal.{Refusal}
use Rattle.gx_disk.specs.declared.layout.TheConstants.{MIN_SECTORS}
use Rattle.gx_disk.specs.Device as disk
use Rattle.gx_disk.specs.Device.{IsSettled}
use Rattle.gx_disk.specs.Moments.{Leaves}
use Rattle.gx_page.specs.Contents.{Contents}
use Rattle.gx_glog.specs.declared.parameters.Parameters.{Parameters}
use Rattle.gx_format.specs.Calls.{Runs}
use Rattle.gx_format.specs.Fresh.{IsFresh, IsUnnamed}
use Rattle.gx_format.specs.Formatting.{clearing, laying, naming, formatting, IsOldBeside, IsUnnamedOrFresh, IsOldOrFresh, IsCleared, IsLaidDown}

-- in the first write and its sync each image is one of before except for sector 0, and then the device has no index
abbrev pub ClearingLeavesOld : (D : Type 0) → (D → disk.Device) → Type 0
ClearingLeavesOld D state = (old new : D) (result : Result (Unit {0}) Refusal) → (state old).honest ≡ true → 1 ≤ (state old).sectors → Runs state clearing old new result
    → Leaves (IsOldBeside (state old)) (state old) (state new) × (result ≡ Ok tt → IsCleared (state new))

-- from then on until all is laid down no image is an index
abbrev pub LayingLeavesNone : (D : Type 0) → (D → disk.Device) → Type 0
LayingLeavesNone D state = (parameters : Parameters) (root : Contents) (old new : D) (result : Result (Unit {0}) Refusal) → (state old).honest ≡ true
    → MIN_SECTORS ≤ (state old).sectors → IsCleared (state old) → Runs state (laying parameters root) old new result
    → Leaves IsUnnamed (state old) (state new) × (result ≡ Ok tt → IsLaidDown parameters root (state new))

-- in the last write and its sync each image is no index, or the fresh one
abbrev pub NamingLeavesFresh : (D : Type 0) → (D → disk.Device) → Type 0
NamingLeavesFresh D state = (parameters : Parameters) (root : Contents) (old new : D) (result : Result (Unit {0}) Refusal) → (state old).honest ≡ true
    → 1 ≤ (state old).sectors → IsLaidDown parameters root (state old) → Runs state naming old new result
    → Leaves (IsUnnamedOrFresh parameters root) (state old) (state new) × (result ≡ Ok tt → IsFresh parameters root (state new).seen × IsSettled (state new))

-- so at each moment of a format, and if a call of it fails, each image is one of before except for sector 0, no
-- index, or the fresh one
abbrev pub FormattingLeavesOldOrFresh : (D : Type 0) → (D → disk.Device) → Type 0
FormattingLeavesOldOrFresh D state = (parameters : Parameters) (root : Contents) (old new : D) (result : Result (Unit {0}) Refusal) → (state old).honest ≡ true
    → MIN_SECTORS ≤ (state old).sectors → Runs state (formatting parameters root) old new result
    → Leaves (IsOldOrFresh (state old) parameters root) (state old) (state new) × (result ≡ Ok tt → IsFresh parameters root (state new).seen × IsSettled (state new))
