-- A handle's device that is verified.
use Rattle.std.specs.Prelude.{◌≡◌, ◌≤◌, ◌<◌, ℕ, true, Result, Ok, Err, IfErr, IfOk}
use Rattle.gx_class.specs.Traits.{Traits}
use Rattle.gx_disk.specs.declared.layout.TheConstants.{LEAST_SECTORS}
use Rattle.gx_disk.specs.Device as disk
use Rattle.gx_disk.specs.Looks.{Looks}
use Rattle.gx_geom.specs.declared.refusal.Refusal.{Refusal}
use Rattle.gx_geom.specs.declared.refusal.Refusal.TheVariants.{BadParameter, TooSmall}
use Rattle.gx_machine.specs.Keys.{Members}
use Rattle.gx_opening.specs.Formatted.{Counted}
use Rattle.gx_queue_disk.specs.declared.disk.QueueDisk.{QueueDisk}
use Rattle.gx_restart.specs.Setting.{IsUnverifiedAs, IsVerifiedAs}
use Rattle.gx_restart.specs.declared.verification.Report.{Report}
use Rattle.gx_c.specs.Statuses.{resulted}
use Rattle.gx_c.specs.declared.verify.SentReport.{SentReport}

-- what C gets of a report, if there is one
abbrev pub sent_report : Result Report Refusal → SentReport → SentReport
sent_report (Ok report) had = record { commits = report.commits; entries = report.entries; used = report.used }
sent_report (Err why) had = had

-- A device was verified with so many frames, of which this is the status.
pub record VerifiesAs {B : Type 0} (shape : Members B) (traits : Traits B) (state : QueueDisk → disk.Device) (frames : ℕ) (had sent : SentReport)
    (old new : QueueDisk) (status : ℕ) : Type 0 where
  pub result : Result Report Refusal
  pub frames_are : ((16 ≤ frames) × (frames ≤ 4096) → ⊥) → (result ≡ Err BadParameter) × (new ≡ old)
  pub small : 16 ≤ frames → frames ≤ 4096 → (state old).sectors < LEAST_SECTORS → (result ≡ Err TooSmall) × (new ≡ old)
  pub counted : Counted 0 (state old) (state new) result
  pub looks : (state old).honest ≡ true → Looks (state old) (state new)
  pub verified : (state old).honest ≡ true → IfOk result (IsVerifiedAs shape traits (state old))
  pub refused : (state old).honest ≡ true → 16 ≤ frames → frames ≤ 4096 → LEAST_SECTORS ≤ (state old).sectors
      → IfErr result (IsUnverifiedAs shape traits (state old))
  pub sent_is : sent ≡ sent_report result had
  pub status_is : status ≡ resulted result
