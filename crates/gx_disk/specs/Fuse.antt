-- When a fuse blows.
use Rattle.std.specs.Prelude.{◌≡◌, ◌+◌, ◌-◌, ◌^◌, ℕ, List, Bool, true, false, ◌&&◌, ◌||◌, ◌==◌, not, min}
use Rattle.gx_disk.specs.Device.{Device, IsWritten}
use Rattle.gx_disk.specs.declared.fuse.Fuse.{Fuse}
use Rattle.gx_disk.specs.declared.fuse.Fuse.TheVariants.{Once, ForEver}

-- whether a fuse that has blown blows again
abbrev pub blows_again : Fuse → Bool
blows_again Once = false
blows_again ForEver = true

-- whether the next call fails: none is left to pass, and the fuse hasn't blown or blows again
abbrev pub blows : ℕ → Bool → Fuse → Bool
blows left blown fuse = (left == 0) && (not blown || blows_again fuse)

-- how many calls were passed on after one more, which the fuse fails or passes: at 2^64 - 1 the count stays
abbrev pub passed_after : Bool → ℕ → ℕ
passed_after true passed = passed
passed_after false passed = min (passed + 1) (2 ^ 64 - 1)

-- what one call does to a fuse: one call less is left to pass, and it has blown if it had or does
pub record Burns (fuse fuse' : Fuse) (done done' : Bool) (left left' : ℕ) (blown blown' : Bool) : Type 0 where
  pub kind : fuse' ≡ fuse
  pub made : done' ≡ done
  pub one_less : left' ≡ left - 1
  pub has_blown : blown' ≡ (blown || blows left blown fuse)

-- a write of n sectors that was made: it counts, and if it succeeded the bytes are there
pub record IsMade (first n : ℕ) (bytes : List ℕ) (old new : Device) : Type 0 where
  pub counted : new.calls ≡ old.calls + 1
  pub written : old.honest ≡ true → new.faults ≡ old.faults → IsWritten first n bytes old new
