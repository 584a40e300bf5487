-- How an index of the first version is migrated: the result, what is printed, and what becomes of both devices.
use Rattle.std.specs.Prelude.{ℕ, ◌≡◌, ◌⊎◌, ◌+◌, ◌<◌, ◌≤◌, true, Result, Ok, Err, IfErr, IfOk}
use Rattle.std.specs.Io.KnownBytes.{Appends}
use Rattle.gx_class.specs.Boxes as boxes
use Rattle.gx_class.specs.SolidKeys as solids
use Rattle.gx_class.specs.Traits.{Traits, traits_of}
use Rattle.gx_class.specs.declared.class.KeyClass.{Ghosts}
use Rattle.gx_commands.specs.Lines.{migrated_line}
use Rattle.gx_commands.specs.Refusing.{Refuses}
use Rattle.gx_commands.specs.Scripts.{TellsFault}
use Rattle.gx_commands.specs.Streams.{Outputs, TakesNoMore}
use Rattle.gx_commands.specs.declared.devices.Kind.{Kind}
use Rattle.gx_commands.specs.declared.devices.Kind.TheVariants.{Plane, Space}
use Rattle.gx_disk.specs.declared.layout.TheConstants.{LEAST_SECTORS}
use Rattle.gx_disk.specs.Device.{Device, SameDevice}
use Rattle.gx_disk.specs.Looks.{Looks}
use Rattle.gx_geom.specs.Rectangles.{Rectangle}
use Rattle.gx_geom.specs.Solids.{Solid}
use Rattle.gx_geom.specs.declared.refusal.Refusal.{Refusal}
use Rattle.gx_geom.specs.declared.refusal.Refusal.TheVariants.{BadParameter, TooSmall}
use Rattle.gx_glog.specs.declared.parameters.Parameters.{Parameters}
use Rattle.gx_machine.specs.Keys.{Members}
use Rattle.gx_migrate.specs.Migrated.{IsItsFault, IsReadAlone}
use Rattle.gx_migrate.specs.Setting.{IsMigratedAs, IsUnmigratedAs, MovesInPhases}
use Rattle.gx_older.specs.Class.{ReadsClass}
use Rattle.gx_older.specs.Reads.{FaultsAre}
use Rattle.gx_older.specs.Renumbered.{renumbered}
use Rattle.gx_older.specs.Told.{Tells}
use Rattle.gx_script.specs.Writes.{IsCut}
use Rattle.gx_script.specs.declared.fault.ScriptFault.TheVariants.{Write}

-- An index was migrated from a device, which was read, to another, with so many frames; of which this is the result.
pub record Migrates {B D N : Type 0} (shape : Members B) (traits : Traits B) (state : D → Device) (other : N → Device) (frames : ℕ)
    (old read : D) (new laid : N) (result : Result (ℕ × ℕ) Refusal) : Type 0 where
  pub frames_are : ((16 ≤ frames) × (frames ≤ 4096) → ⊥) → (result ≡ Err BadParameter) × ((read ≡ old) × (laid ≡ new))
  pub small : 16 ≤ frames → frames ≤ 4096 → (state old).sectors < LEAST_SECTORS → (result ≡ Err TooSmall) × ((read ≡ old) × (laid ≡ new))
  pub only : IsReadAlone (state old) (state read)
  pub looks : (state old).honest ≡ true → Looks (state old) (state read)
  pub device : SameDevice (other new) (other laid)
  pub faults : FaultsAre ((state old).faults + (other new).faults) ((state read).faults + (other laid).faults) result
  pub moments : (p : Parameters) → (state old).honest ≡ true → (other new).honest ≡ true → Tells (state old).seen p
      → MovesInPhases shape traits other p (renumbered p.pages (state old).seen) new laid
  pub migrated : (state old).honest ≡ true → (other new).honest ≡ true → IfOk result (IsMigratedAs shape traits (state old) (other laid))
  pub refused : (state old).honest ≡ true → 16 ≤ frames → frames ≤ 4096 → LEAST_SECTORS ≤ (state old).sectors
      → IfErr result (IsUnmigratedAs shape traits (state old) (other new).sectors)
  pub untouched : IfErr result (λ why. (laid ≡ new) ⊎ IsItsFault (other new) (other laid) why)

-- A migration is reported: its line was written; or a beginning of it, if the writer takes no more, and why is reported.
abbrev pub TellsMigrated : ℕ → ℕ → Outputs → Outputs → ℕ → Type 0
TellsMigrated commits used old new status =
    ((status ≡ 0) × (Appends old.replies.bytes new.replies.bytes (migrated_line commits used) × (new.person ≡ old.person)))
    ⊎ ((status ≡ 1) × (IsCut old.replies.bytes new.replies.bytes (migrated_line commits used)
    × (TakesNoMore new.replies × TellsFault Write new.replies.kind old.person new.person)))

-- so is its refusal
abbrev pub TellsMigration : Result (ℕ × ℕ) Refusal → Outputs → Outputs → ℕ → Type 0
TellsMigration (Ok told) old new status = TellsMigrated told.0 told.1 old new status
TellsMigration (Err why) old new status = Refuses why old new status

-- An index was migrated, with this result, which is reported.
pub record MigratesOver {B D N : Type 0} (shape : Members B) (traits : Traits B) (state : D → Device) (other : N → Device) (frames : ℕ)
    (old read : D) (new laid : N) (from to : Outputs) (status : ℕ) : Type 0 where
  pub result : Result (ℕ × ℕ) Refusal
  pub migrates : Migrates shape traits state other frames old read new laid result
  pub told : TellsMigration result from to status

module _ {C E D N : Type 0} (plane : Members Rectangle) (plane_class : Ghosts C Rectangle) (space : Members Solid) (space_class : Ghosts E Solid) (state : D → Device)
    (other : N → Device) where
  -- an index of boxes was migrated, of the plane or of space
  abbrev pub MigratesBoxes : Kind → ℕ → D → D → N → N → Outputs → Outputs → ℕ → Type 0
  MigratesBoxes Plane frames old read new laid from to status =
      MigratesOver plane (traits_of boxes.in_order boxes.corners_of plane_class) state other frames old read new laid from to status
  MigratesBoxes Space frames old read new laid from to status =
      MigratesOver space (traits_of solids.in_order solids.corners_of space_class) state other frames old read new laid from to status

-- the class of an index of boxes
abbrev pub class_of_kind : Kind → ℕ
class_of_kind Plane = 1
class_of_kind Space = 3

-- why a device holds no boxes of the first version: BadParameter for intervals, or the refusal of reading its class
abbrev pub HasNoOlderBoxes : Result (ℕ × ℕ) Refusal → Refusal → Type 0
HasNoOlderBoxes (Ok told) why = (told.0 ≡ 2) × (why ≡ BadParameter)
HasNoOlderBoxes (Err refusal) why = why ≡ refusal

-- A device was read for its class, and holds no boxes.
pub record FindsNoneOlder {D : Type 0} (state : D → Device) (old new : D) (why : Refusal) : Type 0 where
  pub told : Result (ℕ × ℕ) Refusal
  pub read : ReadsClass state old new told
  pub because : HasNoOlderBoxes told why

-- of which boxes its index is, and for how many pages
abbrev pub FindsOlder : {D : Type 0} → (D → Device) → D → D → Result (Kind × ℕ) Refusal → Type 0
FindsOlder state old new (Ok found) = ReadsClass state old new (Ok (class_of_kind found.0, found.1))
FindsOlder state old new (Err why) = FindsNoneOlder state old new why
