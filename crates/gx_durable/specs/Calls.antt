-- What each call of a log and a pool keeps and returns.
use Rattle.std.specs.Prelude.{◌≡◌, ℕ, Bool, true, List, Result}
use Rattle.gx_geom.specs.declared.refusal.Refusal.{Refusal}
use Rattle.gx_disk.specs.Device.{Device}
use Rattle.gx_disk.specs.Moments.{Leaves}
use Rattle.gx_record.specs.Rec.{Rec}
use Rattle.gx_record.specs.Format.{HasKey}
use Rattle.gx_glog.specs.declared.filling.Appended.{Appended}
use Rattle.gx_glog.specs.declared.filling.Appended.TheVariants.{At, NoRoom}
use Rattle.gx_glog.specs.declared.stage.Stage.{Stage}
use Rattle.gx_glog.specs.State.{Log}
use Rattle.gx_pool.specs.State.{State}
use Rattle.gx_recovery.specs.Known.{Known, IsLawful}
use Rattle.gx_recovery.specs.Records.{Record}
use Rattle.gx_recovery.specs.Coming.{MayCome}
use Rattle.gx_recovery.specs.Logged.{Logged, all_records, appended}
use Rattle.gx_recovery.specs.Redo.{tree_of}
use Rattle.gx_durable.specs.Fitting.{PagesFit}
use Rattle.gx_durable.specs.Spelled.{Reading, record_read}
use Rattle.gx_durable.specs.Stamps.{Stamped, AllSaid, AllPlaced, NoneLater}
use Rattle.gx_durable.specs.Standing.{Up, Stands}
use Rattle.gx_durable.specs.Steps.{added, with_batch, stepped, bodies_stepped, GoesOn}

-- a log and a pool run on a device that carries a state: the log is up, and the pool's stamps are places of its batches
pub record Runs {E P : Type 0} (k : Known E P) (r : Reading E P) (log : Log) (frames : State) (d : Device) (bodies : List (List (Record E P))) (s : Logged E P) : Type 0 where
  pub up : Up k r log d.sectors d.seen d.pending bodies s
  pub stamped : Stamped log frames s

-- a call led from one state to another: no set changes, and at each moment within it what a crash may leave stands for a kept
-- set of the state before
pub record GoesSafely {E P : Type 0} (k : Known E P) (r : Reading E P) (d e : Device) (s t : Logged E P) : Type 0 where
  pub goes : GoesOn k s t
  pub leaves : Leaves (Stands k r s) d e

-- A record that may come was appended, on any device that the log is up on, and the pages after it can be read: the log is up there with it.
abbrev pub AppendStaysUp : {E P : Type 0} → Known E P → Reading E P → Rec → Log → Log → Appended → Type 0
AppendStaysUp {E} {P} k r x old new result = (sectors : ℕ) (seen : List ℕ) (pending : ℕ → Bool) (bodies : List (List (Record E P))) (s : Logged E P)
    → IsLawful k → HasKey r.key x → MayCome k s.area (all_records s) (record_read r x) → PagesFit r (tree_of k s.area (all_records (appended (record_read r x) s)))
    → Up k r old sectors seen pending bodies s → Up k r new sectors seen pending bodies (added result (record_read r x) s)

-- A page that no record gives as yet may be changed, but not when a batch begins.
abbrev pub AppendStaysStamped : {E P : Type 0} → Reading E P → Rec → Log → Log → Appended → Type 0
AppendStaysStamped {E} {P} r x old new result = (frames : State) (s : Logged E P) → Stamped old frames s → Stamped new frames (added result (record_read r x) s)

-- Each dirty page is of a batch that began or of the one that fills, also a page that was changed for the record that came.
abbrev pub AppendPlaces : Log → Log → Appended → Type 0
AppendPlaces old new (At place) = (frames : State) → NoneLater old.used frames → AllPlaced new frames
AppendPlaces old new NoRoom = (frames : State) → AllPlaced old frames → AllPlaced new frames

-- each dirty page still is
abbrev pub StaysPlaced : Log → Log → State → State → Type 0
StaysPlaced old new frames frames' = AllPlaced old frames → AllPlaced new frames'

-- what a step of the log makes of the state, also where it fails
pub record AfterStep {E P : Type 0} (k : Known E P) (r : Reading E P) (log : Log) (frames : State) (d e : Device) (bodies : List (List (Record E P))) (s t : Logged E P) (result : Result Stage Refusal) : Type 0 where
  pub runs : Runs k r log frames e (bodies_stepped result bodies t) (stepped result t)
  pub said : AllSaid frames (stepped result t)
  pub safely : GoesSafely k r d e s (stepped result t)

-- A step of the log, where each dirty page is given by some record.
abbrev pub StepKeepsRunning : {E P : Type 0} → Known E P → Reading E P → Log → Log → State → State → Device → Device → Result Stage Refusal → Type 0
StepKeepsRunning {E} {P} k r old new frames frames' d e result = (bodies : List (List (Record E P))) (s : Logged E P) → IsLawful k → d.honest ≡ true
    → Runs k r old frames d bodies s → AllSaid frames s → AfterStep k r new frames' d e bodies s (with_batch old.stage old.filling s) result
