-- How a device is verified: the result, what is printed, and what is reported to the user.
use Rattle.std.specs.Prelude.{ℕ, ◌≡◌, ◌⊎◌, ◌<◌, ◌≤◌, true, Option, Some, Result, Ok, Err, IfErr, IfOk}
use Rattle.std.specs.Io.KnownBytes.{Appends}
use Rattle.gx_disk.specs.declared.layout.TheConstants.{LEAST_SECTORS}
use Rattle.gx_class.specs.Traits.{Traits, own}
use Rattle.gx_commands.specs.Scripts.{TellsFault}
use Rattle.gx_commands.specs.Streams.{Outputs, Prints, Stream, TakesNoMore}
use Rattle.gx_disk.specs.Device.{Device}
use Rattle.gx_disk.specs.Looks.{Looks}
use Rattle.gx_disk.specs.declared.memory.MemDisk.{MemDisk}
use Rattle.gx_geom.specs.declared.refusal.Refusal.{Refusal}
use Rattle.gx_geom.specs.declared.refusal.Refusal.TheVariants.{BadParameter, Damaged, TooSmall}
use Rattle.gx_machine.specs.Keys.{Members}
use Rattle.gx_node.specs.Reading.{format_of}
use Rattle.gx_opening.specs.declared.damage.Damage.{Damage}
use Rattle.gx_opening.specs.Formatted.{Counted}
use Rattle.gx_opening.specs.Shown.{Finds, HoldsDamaged, IsLack, Shows}
use Rattle.gx_restart.specs.Copied.{memory_state}
use Rattle.gx_restart.specs.declared.verification.Report.{Report}
use Rattle.gx_restart.specs.Verified.{IsUnverified, IsVerified}
use Rattle.gx_script.specs.declared.fault.ScriptFault.TheVariants.{Write}
use Rattle.gx_script.specs.Writes.{IsCut}
use Rattle.gx_commands.specs.Lines.{refusal_line, verified_line}
use Rattle.gx_commands.specs.Refusing.{Refuses, TellsFound}
use Rattle.gx_restart.specs.Setting.{IsDamagedCopyAs}

-- A device was verified with so many frames, for a class of keys of this number; of which this is the result. No
-- write and no sync was made.
pub record Verifies {B D : Type 0} (shape : Members B) (traits : Traits B)
    (state : D → Device) (number frames : ℕ) (old new : D) (result : Result Report Refusal) : Type 0 where
  pub frames_are : ((16 ≤ frames) × (frames ≤ 4096) → ⊥) → (result ≡ Err BadParameter) × (new ≡ old)
  pub small : 16 ≤ frames → frames ≤ 4096 → (state old).sectors < LEAST_SECTORS → (result ≡ Err TooSmall) × (new ≡ old)
  pub counted : Counted 0 (state old) (state new) result
  pub looks : (state old).honest ≡ true → Looks (state old) (state new)
  pub verified : (state old).honest ≡ true
      → IfOk result (IsVerified shape traits.is_proper traits.said (format_of (own traits)) number (state old))
  pub refused : (state old).honest ≡ true → 16 ≤ frames → frames ≤ 4096 → LEAST_SECTORS ≤ (state old).sectors
      → IfErr result (IsUnverified shape traits.is_proper traits.said (format_of (own traits)) number (state old))

-- A report is written: its whole line; or a beginning of it, if the writer takes no more, which is reported to the
-- user.
abbrev pub TellsReport : Report → Outputs → Outputs → ℕ → Type 0
TellsReport report old new status =
    ((status ≡ 0) × (Appends old.replies.bytes new.replies.bytes (verified_line report) × (new.person ≡ old.person)))
    ⊎ ((status ≡ 1) × (IsCut old.replies.bytes new.replies.bytes (verified_line report)
    × (TakesNoMore new.replies × TellsFault Write new.replies.kind old.person new.person)))

-- What was found damaged is reported to the user, and this is true of it.
pub record TellsTrue (is_so : Result (Option Damage) Refusal → Type 0) (old new : Stream) : Type 0 where
  pub found : Result (Option Damage) Refusal
  pub is_true : is_so found
  pub heard : TellsFound found old new

-- Damage is reported: the line of its refusal is written, and the user gets a sentence that says where it is.
pub record TellsCopy (is_so : Result (Option Damage) Refusal → Type 0) (old new : Outputs) (status : ℕ) : Type 0 where
  pub status_is : status ≡ 1
  pub told : Prints (refusal_line Damaged) old.replies new.replies
  pub heard : TellsTrue is_so old.person new.person

-- why a device isn't verified is reported
abbrev pub TellsUnverified : (Result (Option Damage) Refusal → Type 0) → Refusal → Outputs → Outputs → ℕ → Type 0
TellsUnverified is_so why old new status =
    ((why ≡ Damaged) × TellsCopy is_so old new status) ⊎ ((why ≡ Damaged → ⊥) × Refuses why old new status)

abbrev pub TellsVerified : (Result (Option Damage) Refusal → Type 0) → Result Report Refusal → Outputs → Outputs → ℕ → Type 0
TellsVerified is_so (Ok report) old new status = TellsReport report old new status
TellsVerified is_so (Err why) old new status = TellsUnverified is_so why old new status

module _ {B : Type 0} (shape : Members B) (traits : Traits B) (number : ℕ) where
  -- the outcome of examining a copy that is damaged: damage there, unless a call of it failed or memory was refused
  abbrev pub CopyFinds : Option MemDisk → Result (Option Damage) Refusal → Type 0
  CopyFinds copy found = (c : MemDisk) → copy ≡ Some c → HoldsDamaged shape traits.is_proper traits.said (format_of (own traits)) number (memory_state c)
      → Finds ⊥ (Shows shape traits.is_proper traits.said (format_of (own traits)) MemDisk number (memory_state c)) IsLack found

  -- This is damaged in a device in memory that reads as the first sectors of a device, but for pages that its log gives.
  pub record IsShownOf (d : Device) (damage : Damage) : Type 0 where
    pub copy : MemDisk
    pub left : IsDamagedCopyAs shape traits d (memory_state copy)
    pub shows : Shows shape traits.is_proper traits.said (format_of (own traits)) MemDisk number (memory_state copy) damage

-- A device was verified, with this result, which is reported.
pub record VerifiesOver {B D : Type 0} (shape : Members B) (traits : Traits B)
    (state : D → Device) (number frames : ℕ) (old new : D) (from to : Outputs) (status : ℕ) : Type 0 where
  pub result : Result Report Refusal
  pub verifies : Verifies shape traits state number frames old new result
  pub told : TellsVerified (λ found. (state old).honest ≡ true → Finds ⊥ (IsShownOf shape traits number (state old)) IsLack found)
      result from to status
