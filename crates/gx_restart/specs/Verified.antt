-- What the verification of a device says of its bytes: whether it would open, and what it holds.
use Rattle.std.specs.Prelude.{◌≡◌, ◌⊎◌, ◌≤◌, ◌<◌, ℕ, Bool, true, List, Some, Result, Ok, Err, length}
use Rattle.gx_disk.specs.declared.layout.TheConstants.{MIN_SECTORS}
use Rattle.gx_geom.specs.declared.refusal.Refusal.{Refusal}
use Rattle.gx_geom.specs.declared.refusal.Refusal.TheVariants.{Damaged, Memory}
use Rattle.gx_disk.specs.Device.{Device}
use Rattle.gx_disk.specs.declared.memory.MemDisk.{MemDisk}
use Rattle.gx_disk.specs.Sectors.{sector_of}
use Rattle.gx_durable.specs.Area.{area_of}
use Rattle.gx_found_log.specs.declared.found.FoundLog.{FoundLog}
use Rattle.gx_found_log.specs.Found.{HasUndamaged, IsFound}
use Rattle.gx_glog.specs.declared.parameters.Parameters.{Parameters}
use Rattle.gx_machine.specs.declared.entry.Entry.{Entry}
use Rattle.gx_machine.specs.Keys.{Members}
use Rattle.gx_machine.specs.Sets.{IsSetOf}
use Rattle.gx_node.specs.Reading.{Format, is_node}
use Rattle.gx_opening.specs.Formatted.{MaySettle, Says}
use Rattle.gx_opening.specs.Laid.{IsSpared}
use Rattle.gx_opening.specs.Sound.{AreSound}
use Rattle.gx_opening.specs.Shown.{HoldsDamaged}
use Rattle.gx_opening.specs.Standing.{IsFormatted, known_for, limits_of, reading}
use Rattle.gx_durable.specs.Classes.{class_of}
use Rattle.gx_recovery.specs.Analysis.{analysis, number_of}
use Rattle.gx_recovery.specs.Damage.{records_of}
use Rattle.gx_recovery.specs.Redo.{redone}
use Rattle.gx_recovery.specs.Standing.{stands_for}
use Rattle.gx_restart.specs.Beginning.{HasFailed, IsGoodLog}
use Rattle.gx_restart.specs.Copied.{IsCopy, memory_state}
use Rattle.gx_restart.specs.declared.verification.NotVerified.{NotVerified}
use Rattle.gx_restart.specs.declared.verification.Report.{Report}

-- what is answered, with the refusal alone
abbrev pub why_of : Result Report NotVerified → Result Report Refusal
why_of (Ok report) = Ok report
why_of (Err refused) = Err refused.why

module _ {B : Type 0} (shape : Members B) (is_key : B → Bool) (said : List ℕ → B) (f : Format B) where
  -- A device is formatted for an index of the class; its log is undamaged, and the pages after it are good for it and
  -- can be read. The report has the number of the log's last commit, the size of the set that it stands for, and the
  -- greatest page in use.
  pub record IsVerified (class : ℕ) (d : Device) (report : Report) : Type 0 where
    pub parameters : Parameters
    pub formatted : IsFormatted shape is_key said f class d parameters
    pub found : IsGoodLog shape is_key said f parameters d.seen
    pub set : List (Entry B)
    pub is : IsSetOf (class_of shape is_key (limits_of parameters)).keys
        (stands_for (known_for shape is_key said f parameters)
        (area_of (reading shape is_key said f) parameters.pages d.seen) (records_of found.log.bodies)) set
    pub commits : report.commits ≡ number_of (known_for shape is_key said f parameters) (records_of found.log.bodies)
    pub entries : report.entries ≡ length set
    pub used : report.used ≡ (analysis (known_for shape is_key said f parameters) (records_of found.log.bodies)).used

  -- It is formatted for one, and its log is damaged.
  pub record HasDamagedLog (class : ℕ) (d : Device) : Type 0 where
    pub parameters : Parameters
    pub formatted : IsFormatted shape is_key said f class d parameters
    pub damaged : HasUndamaged (known_for shape is_key said f parameters) (reading shape is_key said f) d.seen → ⊥

  -- It is formatted for one, and its log is found; but the pages as that leaves them aren't sound.
  pub record HasUnsoundPages (class : ℕ) (d : Device) : Type 0 where
    pub parameters : Parameters
    pub formatted : IsFormatted shape is_key said f class d parameters
    pub log : FoundLog (Entry B)
    pub found : IsFound (known_for shape is_key said f parameters) (reading shape is_key said f) d.seen log
    pub laid : List ℕ
    pub area : (p : ℕ) → area_of (reading shape is_key said f) parameters.pages laid p
        ≡ redone (area_of (reading shape is_key said f) parameters.pages d.seen) (records_of found.log.bodies) p
    pub unsound : AreSound (known_for shape is_key said f parameters) (reading shape is_key said f)
        (is_node f parameters.pages) log.analysis.told laid → ⊥

  -- why it isn't verified: what it is formatted for isn't an index of the class; its log or its pages are damaged; or so
  abbrev pub IsUnverifiedOr : (Refusal → Type 0) → ℕ → Device → Refusal → Type 0
  IsUnverifiedOr Fails class d why =
      MaySettle class d.sectors d.seen (Err why)
      ⊎ (((why ≡ Damaged) × (HasDamagedLog class d ⊎ HasUnsoundPages class d)) ⊎ Fails why)

  -- a copy in memory: a call of it failed, or memory was refused
  abbrev pub IsUnverifiedCopy : ℕ → Device → Refusal → Type 0
  IsUnverifiedCopy class d why = IsUnverifiedOr HasFailed class d why

  -- memory was refused, of a device that is formatted for an index of the class
  abbrev pub LacksThere : ℕ → Device → Refusal → Type 0
  LacksThere class d why = (why ≡ Memory) × ((p : Parameters) × IsFormatted shape is_key said f class d p)

  -- a device
  abbrev pub IsUnverified : ℕ → Device → Refusal → Type 0
  IsUnverified class d why = IsUnverifiedOr (LacksThere class d) class d why

  -- why a device isn't copied
  abbrev pub IsUncopied : ℕ → Device → Refusal → Type 0
  IsUncopied class d why = MaySettle class d.sectors d.seen (Err why) ⊎ LacksThere class d why

  -- a copy of a device that is formatted for an index of the class
  abbrev pub IsCopyOf : ℕ → Device → Device → Type 0
  IsCopyOf class d e = IsCopy d e × ((p : Parameters) × IsFormatted shape is_key said f class d p)

  -- a copy of a damaged device is returned as its opening left it, and is damaged
  abbrev pub HandsOut : ℕ → NotVerified → Type 0
  HandsOut class n = n.why ≡ Damaged → (copy : MemDisk) × ((n.copy ≡ Some copy) × HoldsDamaged shape is_key said f class (memory_state copy))

  -- What an opening left of a copy of a device that it refused as damaged: it reads as the device's first sectors,
  -- but for pages that the device's log gives.
  pub record IsDamagedCopy (d e : Device) : Type 0 where
    pub honest : e.honest ≡ true
    pub least : MIN_SECTORS ≤ e.sectors
    pub inside : e.sectors ≤ d.sectors
    pub spares : (p : Parameters) → Says d.seen p → (s : ℕ) → s < e.sectors
        → IsSpared (known_for shape is_key said f p) (reading shape is_key said f) d.seen s
        → sector_of e.seen s ≡ sector_of d.seen s
