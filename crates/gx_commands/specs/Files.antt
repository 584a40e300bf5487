-- How a command over a file ends: which file was opened, and how; what was written; and what became of the file.
use Rattle.std.specs.Prelude.{ℕ, ◌≡◌, ◌≤◌, ◌⊎◌, List, Option, None, Some, Ok, Err}
use Rattle.gx_geom.specs.Rectangles.{Rectangle}
use Rattle.gx_geom.specs.Solids.{Solid}
use Rattle.gx_geom.specs.declared.refusal.Refusal.{Refusal}
use Rattle.gx_geom.specs.declared.refusal.Refusal.TheVariants.{Device as NoDevice}
use Rattle.gx_machine.specs.Keys.{Members}
use Rattle.gx_class.specs.declared.class.KeyClass.{Ghosts}
use Rattle.gx_disk.specs.Device.{Device}
use Rattle.gx_disk.specs.Files.{IsOpened}
use Rattle.gx_disk.specs.declared.device.DiskFault.{DiskFault}
use Rattle.gx_disk.specs.declared.file.FileDisk.{FileDisk}
use Rattle.gx_format.specs.Formatting.{sectors_of}
use Rattle.gx_format.specs.Fresh.{fresh_root}
use Rattle.gx_commands.specs.Devices.{DumpsDevice, RunsDevice, VerifiesDevice}
use Rattle.gx_commands.specs.Endings.{FormatsOver}
use Rattle.gx_commands.specs.Lines.{fault_text, named, refusal_line}
use Rattle.gx_commands.specs.Migrating.{FindsNoneOlder, FindsOlder, MigratesBoxes}
use Rattle.gx_commands.specs.Opener.{Tries, is_writable}
use Rattle.gx_commands.specs.Refusing.{Refuses}
use Rattle.gx_commands.specs.Streams.{Outputs, Prints, Stream, TellsPerson}
use Rattle.gx_commands.specs.declared.opener.Access.{Access}
use Rattle.gx_commands.specs.declared.opener.Access.TheVariants.{Create, Write, Read}
use Rattle.gx_commands.specs.declared.devices.Kind.{Kind}
use Rattle.gx_commands.specs.declared.opener.Opener.{Opener}

-- A file that couldn't be opened: its name and the cause are reported to the user.
pub record HasNoDevice (file : List ℕ) (fault : DiskFault) (from to : Outputs) (status : ℕ) : Type 0 where
  pub status_is : status ≡ 1
  pub told : Prints (refusal_line NoDevice) from.replies to.replies
  pub heard : TellsPerson (named file (fault_text fault)) from.person to.person

-- if a call of a file failed, why the last one did is reported to the user
abbrev pub TellsCause : List ℕ → Option DiskFault → Stream → Stream → Type 0
TellsCause file None old new = new ≡ old
TellsCause file (Some fault) old new = TellsPerson (named file (fault_text fault)) old new

-- The device of a file is kept as the command left it, and why a call of it failed is reported.
pub record Leaves {F : Type 0} (file : List ℕ) (disk : FileDisk) (old new : Opener F) (from to : Stream) : Type 0 where
  pub kept : new ≡ record old { left = Some disk }
  pub cause : TellsCause file disk.fault from to

module _ {F : Type 0} (file : List ℕ) (old new : Opener F) where
  -- The file couldn't be opened so, which is reported. No other was opened.
  pub record IsNotOpened (access : Access) (from to : Outputs) (status : ℕ) : Type 0 where
    pub fault : DiskFault
    pub tries : Tries file access (Err fault) old new
    pub left : new.left ≡ old.left
    pub told : HasNoDevice file fault from to status

  -- The file was opened so, and no other: this is its device, of which no call was made by then. This device was left of it, and
  -- nothing is done to it from then on; why a call of it failed is reported.
  pub record Uses (access : Access) (disk after : FileDisk) (from to : Outputs) : Type 0 where
    pub tries : Tries file access (Ok disk.sectors) old new
    pub opened : IsOpened (is_writable access) disk
    pub left : new.left ≡ Some after
    pub quiet : to.replies ≡ from.replies
    pub cause : TellsCause file after.fault from.person to.person

module _ {B C F : Type 0} (class : Ghosts C B) (number : ℕ) (state : FileDisk → Device) (file : List ℕ) (old new : Opener F) where
  -- an index of a class of keys with this number was laid down in the file, which had been extended for it
  pub record FormatsFile (pages most : ℕ) (from to : Outputs) (status : ℕ) : Type 0 where
    pub disk : FileDisk
    pub after : FileDisk
    pub between : Outputs
    pub uses : Uses file old new (Create (sectors_of pages)) disk after between to
    pub room : sectors_of pages ≤ disk.sectors
    pub formats : FormatsOver state (record { pages = pages; most = most; class = number }) (fresh_root class.spelling class.start_key) disk after from between status

  -- how a format of a file may end
  abbrev pub EndsFormat : ℕ → ℕ → Outputs → Outputs → ℕ → Type 0
  EndsFormat pages most from to status =
      IsNotOpened file old new (Create (sectors_of pages)) from to status ⊎ FormatsFile pages most from to status

module _ {C E F : Type 0} (plane : Members Rectangle) (plane_class : Ghosts C Rectangle) (space : Members Solid) (space_class : Ghosts E Solid) (state : FileDisk → Device)
    (file : List ℕ) (old new : Opener F) where
  -- a script was run on the index of boxes that the file holds
  pub record RunsFile (frames : ℕ) (had left : Stream) (from to : Outputs) (status : ℕ) : Type 0 where
    pub disk : FileDisk
    pub after : FileDisk
    pub between : Outputs
    pub uses : Uses file old new Write disk after between to
    pub runs : RunsDevice plane plane_class space space_class state frames disk after had left from between status

  -- how a script on a file may end
  abbrev pub EndsRun : ℕ → Stream → Stream → Outputs → Outputs → ℕ → Type 0
  EndsRun frames had left from to status =
      ((left ≡ had) × IsNotOpened file old new Write from to status) ⊎ RunsFile frames had left from to status

  -- the tree of the index of boxes that the file holds was written, with 64 frames
  pub record DumpsFile (from to : Outputs) (status : ℕ) : Type 0 where
    pub disk : FileDisk
    pub after : FileDisk
    pub between : Outputs
    pub uses : Uses file old new Write disk after between to
    pub dumps : DumpsDevice plane plane_class space space_class state 64 disk after from between status

  -- how a dump of a file may end
  abbrev pub EndsDump : Outputs → Outputs → ℕ → Type 0
  EndsDump from to status = IsNotOpened file old new Write from to status ⊎ DumpsFile from to status

  -- the index of boxes that the file holds was verified, with 64 frames; the file was opened to be read alone
  pub record VerifiesFile (from to : Outputs) (status : ℕ) : Type 0 where
    pub disk : FileDisk
    pub after : FileDisk
    pub between : Outputs
    pub uses : Uses file old new Read disk after between to
    pub verifies : VerifiesDevice plane plane_class space space_class state 64 disk after from between status

  -- how verifying a file may end
  abbrev pub EndsVerify : Outputs → Outputs → ℕ → Type 0
  EndsVerify from to status = IsNotOpened file old new Read from to status ⊎ VerifiesFile from to status

module _ {C E F : Type 0} (plane : Members Rectangle) (plane_class : Ghosts C Rectangle) (space : Members Solid) (space_class : Ghosts E Solid) (state : FileDisk → Device) where
  -- the index of boxes of an open device was migrated to the file, which had been extended for it
  pub record MigratesToFile (kind : Kind) (pages : ℕ) (file : List ℕ) (old new : Opener F) (frames : ℕ) (had read : FileDisk) (from to : Outputs) (status : ℕ) : Type 0 where
    pub disk : FileDisk
    pub after : FileDisk
    pub between : Outputs
    pub uses : Uses file old new (Create (sectors_of pages)) disk after between to
    pub room : sectors_of pages ≤ disk.sectors
    pub migrates : MigratesBoxes plane plane_class space space_class state state kind frames had read disk after from between status

  -- how that may end: of a file that couldn't be opened, with no call of the device
  abbrev pub EndsMove : Kind → ℕ → List ℕ → Opener F → Opener F → ℕ → FileDisk → FileDisk → Outputs → Outputs → ℕ → Type 0
  EndsMove kind pages file old new frames had read from to status =
      ((read ≡ had) × IsNotOpened file old new (Create (sectors_of pages)) from to status) ⊎ MigratesToFile kind pages file old new frames had read from to status

  -- what follows of a device that was opened to be read alone: of which boxes its index is was read, and that is migrated; or it holds none of the first version,
  -- which is reported, and no other file is opened
  pub record MigratesKind (file : List ℕ) (old new : Opener F) (frames : ℕ) (had read : FileDisk) (from to : Outputs) (status : ℕ) : Type 0 where
    pub kind : Kind
    pub pages : ℕ
    pub told : FileDisk
    pub finds : FindsOlder state had told (Ok (kind, pages))
    pub ends : EndsMove kind pages file old new frames told read from to status

  pub record HasNoOlder (old new : Opener F) (had read : FileDisk) (from to : Outputs) (status : ℕ) : Type 0 where
    pub why : Refusal
    pub finds : FindsNoneOlder state had read why
    pub unopened : new ≡ old
    pub told : Refuses why from to status

  abbrev pub FollowsOlder : List ℕ → Opener F → Opener F → ℕ → FileDisk → FileDisk → Outputs → Outputs → ℕ → Type 0
  FollowsOlder file old new frames had read from to status =
      MigratesKind file old new frames had read from to status ⊎ HasNoOlder old new had read from to status

  -- Two files: the first was opened to be read alone, and what followed was done before anything became of it. At last
  -- it is kept as the command left it, and nothing is done to it from then on; why a call of it failed is reported.
  pub record MigratesFiles (first second : List ℕ) (old new : Opener F) (frames : ℕ) (from to : Outputs) (status : ℕ) : Type 0 where
    pub disk : FileDisk
    pub after : FileDisk
    pub begun : Opener F
    pub ended : Opener F
    pub between : Outputs
    pub tries : Tries first Read (Ok disk.sectors) old begun
    pub opened : IsOpened (is_writable Read) disk
    pub unkept : begun.left ≡ old.left
    pub follows : FollowsOlder second begun ended frames disk after from between status
    pub leaves : Leaves first after ended new between.person to.person
    pub quiet : to.replies ≡ between.replies

  -- how a migration from one file to another may end
  abbrev pub EndsMigration : List ℕ → List ℕ → Opener F → Opener F → ℕ → Outputs → Outputs → ℕ → Type 0
  EndsMigration first second old new frames from to status =
      IsNotOpened first old new Read from to status ⊎ MigratesFiles first second old new frames from to status
