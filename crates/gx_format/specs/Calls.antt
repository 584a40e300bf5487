-- Calls of a device by name, and runs of them.
use Rattle.std.specs.Prelude.{◌≡◌, ◌⊎◌, ℕ, ◌*◌, List, [], ◌∷◌, length, true, Result, Ok, Err}
use Rattle.gx_geom.specs.declared.refusal.Refusal.{Refusal}
use Rattle.gx_geom.specs.declared.refusal.Refusal.TheVariants as refusal
use Rattle.gx_disk.specs.Device.{Device, Counts, Writes, Syncs}

-- a write of n sectors from a sector on, or a sync
pub data Call : Type 0 where
  Write : (first n : ℕ) (bytes : List ℕ) → Call
  Sync : Call

-- one call, and what the device promises of it
abbrev pub Makes : Call → Device → Device → Result (Unit {0}) Refusal → Type 0
Makes (Write first n bytes) old new result = (length bytes ≡ 512 * n) × (Counts 1 old new result × (old.honest ≡ true → Writes first n bytes old new result))
Makes Sync old new result = Counts 1 old new result × (old.honest ≡ true → Syncs old new result)

-- these calls were made, in this order and no others, each on what the one before left
abbrev pub HasRun : {D : Type 0} → (D → Device) → List Call → D → D → Type 0
HasRun state [] old new = new ≡ old
HasRun {D} state (call ∷ calls) old new = (between : D) × (Makes call (state old) (state between) (Ok tt) × HasRun state calls between new)

-- some of them were made, and then one that failed
abbrev pub HasFailed : {D : Type 0} → (D → Device) → List Call → D → D → Type 0
HasFailed state [] old new = ⊥
HasFailed {D} state (call ∷ calls) old new =
    Makes call (state old) (state new) (Err refusal.Device) ⊎ ((between : D) × (Makes call (state old) (state between) (Ok tt) × HasFailed state calls between new))

-- a run of these calls, and what it returns
abbrev pub Runs : {D : Type 0} → (D → Device) → List Call → D → D → Result (Unit {0}) Refusal → Type 0
Runs state calls old new (Ok x) = HasRun state calls old new
Runs state calls old new (Err why) = (why ≡ refusal.Device) × HasFailed state calls old new
