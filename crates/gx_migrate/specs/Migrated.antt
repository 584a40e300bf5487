-- What a migration says of the old device and of the new one.
use Rattle.std.specs.Prelude.{◌≡◌, ◌⊎◌, ℕ, ◌+◌, ◌*◌, ◌<◌, ◌≤◌, Bool, List, Result, Ok, Err, length}
use Rattle.gx_geom.specs.declared.refusal.Refusal.{Refusal}
use Rattle.gx_geom.specs.declared.refusal.Refusal.TheVariants.{Device as DeviceRefusal, Memory, TooSmall}
use Rattle.gx_disk.specs.declared.layout.TheConstants.{MAX_PAGES, MIN_PAGES}
use Rattle.gx_disk.specs.declared.memory.MemDisk.{MemDisk}
use Rattle.gx_disk.specs.Device.{Device, IsSettled}
use Rattle.gx_disk.specs.Memory.{device_of}
use Rattle.gx_format.specs.Formatting.{sectors_of}
use Rattle.gx_glog.specs.declared.parameters.Parameters.{Parameters}
use Rattle.gx_machine.specs.Keys.{Members}
use Rattle.gx_node.specs.Reading.{Format}
use Rattle.gx_older.specs.Renumbered.{renumbered}
use Rattle.gx_older.specs.Told.{IsOlder}
use Rattle.gx_opening.specs.declared.standing.Standing.{Standing}
use Rattle.gx_opening.specs.Standing.{IsTested, MayStart, Stands, known_for}
use Rattle.gx_recovery.specs.Analysis.{analysis, number_of}
use Rattle.gx_recovery.specs.Damage.{records_of}
use Rattle.gx_migrate.specs.Moved.{HasMoved}

-- a device in memory, as contracts see it
abbrev pub memory_state : MemDisk → Device
memory_state m = device_of m.sectors m.past.items m.kept.items m.bytes.items m.faults.count m.calls.count

-- the refusal of a device by that of its bytes in memory
abbrev pub refusal_of_memory : Refusal → Refusal
refusal_of_memory DeviceRefusal = Memory
refusal_of_memory why = why

-- A device is as large and as honest; no write and no sync was made of it.
pub record IsReadAlone (old new : Device) : Type 0 where
  pub sectors : new.sectors ≡ old.sectors
  pub honest : new.honest ≡ old.honest
  pub calls : new.calls ≡ old.calls

-- why a device was touched: a call of it failed, and is reported
pub record IsItsFault (old new : Device) (why : Refusal) : Type 0 where
  pub device : why ≡ DeviceRefusal
  pub fault : new.faults ≡ old.faults + 1

-- What is held in memory of an index that had so many pages: an engine may start with its numbers, and its bytes have its sectors.
pub record IsHeld {B : Type 0} (class pages : ℕ) (held : MemDisk × Standing B) : Type 0 where
  pub least : MIN_PAGES ≤ held.1.parameters.pages
  pub most : held.1.parameters.pages ≤ MAX_PAGES
  pub starts : MayStart held.1
  pub inside : held.1.parameters.pages ≤ pages
  pub bytes : 512 * sectors_of held.1.parameters.pages ≤ length held.0.bytes.items

module _ {B : Type 0} (shape : Members B) (is_key : B → Bool) (said : List ℕ → B) (f : Format B) where
  -- What is found of the bytes of an older device: an index; or a call failed, memory was refused, or an opening of these bytes is refused so.
  abbrev pub IsFound : (class pages : ℕ) → List ℕ → Result (MemDisk × Standing B) Refusal → Type 0
  IsFound class pages seen (Ok held) =
      (m : MemDisk) × (((memory_state m).seen ≡ renumbered pages seen) × Stands shape is_key said f class (memory_state m) (memory_state held.0) held.1)
  IsFound class pages seen (Err why) =
      ((why ≡ DeviceRefusal) ⊎ (why ≡ Memory))
      ⊎ ((cause : Refusal) × ((why ≡ refusal_of_memory cause) × ((m : MemDisk) × ((e : MemDisk)
      × (((memory_state m).seen ≡ renumbered pages seen) × IsTested shape is_key said f class (e ≡ m) (memory_state m) (memory_state e) (Err cause))))))

  -- Bytes have the magic, and stand for the set that is found; its number, and the greatest page in use, are these.
  pub record HasMovedBy (p : Parameters) (seen image : List ℕ) (told : ℕ × ℕ) : Type 0 where
    pub moved : HasMoved shape is_key said f p seen image
    pub commits : told.0 ≡ number_of (known_for shape is_key said f p) (records_of moved.1.log.bodies)
    pub used : told.1 ≡ (analysis (known_for shape is_key said f p) (records_of moved.1.log.bodies)).used

  -- An older device is formatted for an index of the class, and a new one, which has the sectors of such an index, stands for what it does.
  pub record IsMigrated (class : ℕ) (d e : Device) (told : ℕ × ℕ) : Type 0 where
    pub parameters : Parameters
    pub older : IsOlder class d.sectors d.seen (Ok parameters)
    pub large : sectors_of parameters.pages ≤ e.sectors
    pub moved : HasMovedBy parameters (renumbered parameters.pages d.seen) e.seen told
    pub settled : IsSettled e

  -- An older device is formatted for an index of the class.
  abbrev pub OlderSays : (class : ℕ) → Device → (Parameters → Type 0) → Type 0
  OlderSays class d holds = (p : Parameters) × (IsOlder class d.sectors d.seen (Ok p) × holds p)

  -- Why it isn't migrated to a device of so many sectors, in the order of the tests: by what it is formatted for; or
  -- that is too small; or else by what was found; or a call failed, or memory was refused.
  abbrev pub IsUnmigrated : (class : ℕ) → Device → ℕ → Refusal → Type 0
  IsUnmigrated class d sectors why =
      IsOlder class d.sectors d.seen (Err why)
      ⊎ (((why ≡ TooSmall) × OlderSays class d (λ p. sectors < sectors_of p.pages))
      ⊎ (OlderSays class d (λ p. (sectors_of p.pages ≤ sectors) × IsFound class p.pages d.seen (Err why))))
