-- What reads, changes and creations of a pool leave of its stamps, and of a log that is up.
use Rattle.std.specs.Prelude.{◌≡◌, ℕ, ◌+◌, ◌≤◌, Bool, true, List, [], ◌∷◌, ◌++◌}
use Rattle.gx_disk.specs.Device.{Device}
use Rattle.gx_page.specs.Contents.{Contents}
use Rattle.gx_glog.specs.State.{Log}
use Rattle.gx_pool.specs.State.{State, IsSound, IsWritable, NoneDirty}
use Rattle.gx_pool.specs.Edits.{changed}
use Rattle.gx_pool.specs.Bringing.{Brings, OnlyRead}
use Rattle.gx_pool.specs.Creating.{Creates}
use Rattle.gx_recovery.specs.Known.{Known, IsLawful}
use Rattle.gx_recovery.specs.Records.{Record}
use Rattle.gx_recovery.specs.Logged.{Logged, all_records, appended}
use Rattle.gx_durable.specs.Spelled.{Reading}
use Rattle.gx_durable.specs.Area.{is_given}
use Rattle.gx_durable.specs.Stamps.{Stamped, AllSaid, SaidBut, OnlyLater, AllPlaced}
use Rattle.gx_durable.specs.Standing.{Up}
use Rattle.gx_durable.specs.Calls.{GoesSafely}

-- stamps are still places of batches where what is dirty was so, or was changed as of the batch that fills
abbrev pub LaterStampsStay : (E P : Type 0) → Type 0
LaterStampsStay E P = (log : Log) (old new : State) (s : Logged E P) → new.gated ≡ old.gated → OnlyLater log.used old new → Stamped log old s → Stamped log new s

-- where nothing is dirty, each stamp is a place
abbrev pub CleanIsStamped : (E P : Type 0) → Type 0
CleanIsStamped E P = (log : Log) (frames : State) (s : Logged E P) → frames.gated + 1 ≡ log.gated → log.gated ≤ log.used → NoneDirty frames → Stamped log frames s

-- Where each place that is taken is gated and nothing fills, a dirty page is one that may be written: so where none is, none is dirty.
abbrev pub NoneWritableIsClean : (E P : Type 0) → Type 0
NoneWritableIsClean E P = (log : Log) (frames : State) (s : Logged E P) → Stamped log frames s → AllPlaced log frames → log.used ≡ log.gated → log.filling ≡ []
    → ((p : ℕ) → IsWritable frames p → ⊥) → NoneDirty frames

-- pages that are brought are clean
abbrev pub BringingIsClean : Type 0
BringingIsClean = (passes : Contents → Bool) (honest : Bool) (seen : List ℕ) (old new : State) (place : ℕ) → Brings passes honest seen old new → OnlyLater place old new

-- a page that is made, or changed, has the stamp of its batch or a later one
abbrev pub CreatingIsLater : Type 0
CreatingIsLater = (old new : State) (page level batch place : ℕ) → Creates old new page level batch → place ≤ batch → OnlyLater place old new

abbrev pub ChangeIsLater : Type 0
ChangeIsLater = (s : State) (page batch place : ℕ) (contents : Contents) → IsSound s → place ≤ batch → OnlyLater place s (changed s page batch contents)

-- Once the record of what was changed is appended, each dirty page is given by some record: this one, or one before it that a
-- small change is of.
abbrev pub RecordSays : (E P : Type 0) → Type 0
RecordSays E P = (changed : ℕ → Bool) (frames : State) (s : Logged E P) (r : Record E P) → ((p : ℕ) → changed p ≡ true → is_given (all_records s ++ r ∷ []) p ≡ true)
    → SaidBut changed frames s → AllSaid frames (appended r s)

-- A device carries after a call what it carried before, and at each moment within it what a crash may leave stands for a kept
-- set.
abbrev pub StaysUp : {E P : Type 0} → Known E P → Reading E P → Device → Device → Type 0
StaysUp {E} {P} k r d e = (log : Log) (bodies : List (List (Record E P))) (s : Logged E P) → IsLawful k → d.honest ≡ true
    → Up k r log d.sectors d.seen d.pending bodies s → Up k r log e.sectors e.seen e.pending bodies s × GoesSafely k r d e s s

-- so does one that was only read
abbrev pub ReadsStayUp : {E P : Type 0} → Known E P → Reading E P → Device → Device → Type 0
ReadsStayUp k r d e = OnlyRead d e → StaysUp k r d e
