-- What clauses say of a class of keys and of a device, from what their traits say of them.
use Rattle.std.specs.Prelude.{ℕ, List, Result}
use Rattle.gx_class.specs.Traits.{Traits, own}
use Rattle.gx_disk.specs.Device.{Device}
use Rattle.gx_durable.specs.Classes.{reading_by}
use Rattle.gx_geom.specs.declared.refusal.Refusal.{Refusal}
use Rattle.gx_glog.specs.declared.parameters.Parameters.{Parameters}
use Rattle.gx_machine.specs.Keys.{Members}
use Rattle.gx_node.specs.Reading.{format_of}
use Rattle.gx_opening.specs.declared.standing.Standing.{Standing}
use Rattle.gx_disk.specs.declared.memory.MemDisk.{MemDisk}
use Rattle.gx_migrate.specs.Migrated.{IsFound, IsMigrated, IsUnmigrated}
use Rattle.gx_migrate.specs.Migrating.{Migrates}
use Rattle.gx_migrate.specs.Moved.{HasMoved, LeavesInPhases, StandsForFound}

-- what a migration of a class's index comes to, by what was found
abbrev pub MigratesAs : {B D : Type 0} → Traits B → (D → Device) → Standing B → List ℕ → D → D → Result (Unit {0}) Refusal → Type 0
MigratesAs traits state s bytes old new result = Migrates (reading_by traits.said (own traits)) state s.parameters s.log.analysis.told bytes old new result

module _ {B : Type 0} (shape : Members B) (traits : Traits B) where
  -- an image stands for what was found; and what it has in the end
  abbrev pub StandsForFoundAs : Parameters → List ℕ → List ℕ → Type 0
  StandsForFoundAs p seen image = StandsForFound shape traits.is_proper traits.said (format_of (own traits)) p seen image

  abbrev pub HasMovedAs : Parameters → List ℕ → List ℕ → Type 0
  HasMovedAs p seen image = HasMoved shape traits.is_proper traits.said (format_of (own traits)) p seen image

  -- what is found in memory of an older device; what a migration of it returns, and why it is refused
  abbrev pub IsFoundAs : ℕ → List ℕ → Result (MemDisk × Standing B) Refusal → Type 0
  IsFoundAs pages seen result = IsFound shape traits.is_proper traits.said (format_of (own traits)) traits.CLASS pages seen result

  abbrev pub IsMigratedAs : Device → Device → ℕ × ℕ → Type 0
  IsMigratedAs d e told = IsMigrated shape traits.is_proper traits.said (format_of (own traits)) traits.CLASS d e told

  abbrev pub IsUnmigratedAs : Device → ℕ → Refusal → Type 0
  IsUnmigratedAs d sectors why = IsUnmigrated shape traits.is_proper traits.said (format_of (own traits)) traits.CLASS d sectors why

module _ {B E : Type 0} (shape : Members B) (traits : Traits B) (state : E → Device) where
  -- what a crash may leave at each moment
  abbrev pub MovesInPhases : Parameters → List ℕ → E → E → Type 0
  MovesInPhases p seen old new = LeavesInPhases state (StandsForFoundAs shape traits p seen) old new
