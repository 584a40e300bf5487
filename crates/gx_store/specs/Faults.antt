-- Why pages were refused.
use Rattle.std.specs.Prelude.{◌≡◌, ℕ, ◌-◌, ◌<◌, ◌≤◌, false, max, nat_le, Bool, Result, Ok, Err}
use Rattle.gx_geom.specs.declared.refusal.Refusal.{Refusal}
use Rattle.gx_geom.specs.declared.refusal.Refusal.TheVariants as refusal
use Rattle.gx_disk.specs.Device as disk
use Rattle.gx_page.specs.Contents.{Contents}
use Rattle.gx_pool.specs.declared.fault.PoolFault.{PoolFault}
use Rattle.gx_pool.specs.declared.fault.PoolFault.TheVariants as pool
use Rattle.gx_pool.specs.Readable.{IsReadable}
use Rattle.gx_pool.specs.State.{clean_count}
use Rattle.gx_store.specs.declared.fault.StoreFault.{StoreFault}
use Rattle.gx_store.specs.declared.fault.StoreFault.TheVariants.{NoRoom, TooFewFrames, Device, Damaged}
use Rattle.gx_store.specs.State.{Shelf, IsSteady}

-- what a bringing answers, as the store's own answer
abbrev pub told_of : Result (Unit {0}) PoolFault → Result (Unit {0}) StoreFault
told_of (Ok done) = Ok done
told_of (Err pool.NoCleanFrame) = Err (TooFewFrames 1)
told_of (Err pool.Device) = Err Device
told_of (Err pool.Damaged) = Err Damaged

-- how many calls of the device failed where this is refused, and where pages are: one where the device is said to have failed, else none
abbrev pub refusal_fails : Refusal → ℕ
refusal_fails refusal.Device = 1
refusal_fails other = 0

abbrev pub store_fails : StoreFault → ℕ
store_fails Device = 1
store_fails fault = 0

-- whether a page is taken, where so many are
abbrev pub is_taken : ℕ → ℕ → Bool
is_taken used page = nat_le page used

-- what the device has of each taken page that isn't kept is a page that passes
abbrev pub CanBeRead : {D : Type 0} → (ℕ → Contents → Bool) → disk.Device → Shelf D → Type 0
CanBeRead passes d s = IsReadable (passes s.pages) (is_taken s.used) s.frames d.seen

-- so many clean frames are wanted: more than there are, two at most, and one alone, or no more than there are free
-- pages
pub record AreWanted {D : Type 0} (s : Shelf D) (wanted : ℕ) : Type 0 where
  pub more : clean_count s.frames < wanted
  pub few : wanted ≤ max 1 (s.pages - s.used)
  pub two : wanted ≤ 2

-- Why pages were refused between two moments: the log had no room; fewer frames than are wanted are clean; a call of the device
-- failed in between; or the device lies, or had no right page of one that is taken.
abbrev pub IsWhy : {D : Type 0} → (ℕ → Contents → Bool) → disk.Device → disk.Device → Shelf D → Shelf D → StoreFault → Type 0
IsWhy passes d e old new NoRoom = old.has_room ≡ false
IsWhy passes d e old new (TooFewFrames wanted) = AreWanted new wanted
IsWhy passes d e old new Device = d.faults < e.faults
IsWhy passes d e old new Damaged = IsSteady d old.frames → CanBeRead passes d old → ⊥
