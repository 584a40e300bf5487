-- A log that is found on an image: it is up to its turn, with later gates open too.
use Rattle.std.specs.Prelude.{◌≡◌, ℕ, ◌*◌, ◌<◌, ◌≤◌, Bool, true, false, List, length, Result, Ok, Err}
use Rattle.gx_geom.specs.declared.refusal.Refusal.{Refusal}
use Rattle.gx_disk.specs.declared.layout.TheConstants.{PAGES_AT}
use Rattle.gx_disk.specs.Device.{Device, IsImage}
use Rattle.gx_glog.specs.declared.extent.TheConstants.{PLACES}
use Rattle.gx_glog.specs.declared.stage.Stage.TheVariants.{Idle}
use Rattle.gx_glog.specs.declared.stage.Turn.{Turn}
use Rattle.gx_glog.specs.declared.stage.Turn.TheVariants as turn
use Rattle.gx_glog.specs.Layout.{selected_of, body_of, size_in, open_run}
use Rattle.gx_glog.specs.Reading.{IsSize}
use Rattle.gx_glog.specs.State.{Log, starting}
use Rattle.gx_glog.specs.Standing.{MayTurn}
use Rattle.gx_glog.specs.Cuts.{open_bodies}
use Rattle.gx_recovery.specs.Known.{Known, IsLawful}
use Rattle.gx_recovery.specs.Records.{Record}
use Rattle.gx_recovery.specs.Damage.{records_of, is_undamaged}
use Rattle.gx_recovery.specs.Logged.{Logged}
use Rattle.gx_recovery.specs.Renewal.{found}
use Rattle.gx_durable.specs.Spelled.{Reading}
use Rattle.gx_durable.specs.Bodies.{AreBodies}
use Rattle.gx_durable.specs.Area.{area_of, HasPages}
use Rattle.gx_durable.specs.Fitting.{AreGood}
use Rattle.gx_durable.specs.Head.{head_in}
use Rattle.gx_durable.specs.Standing.{MayRenew, Carries, Up, Stands}
use Rattle.gx_durable.specs.Steps.{turned, bodies_turned}
use Rattle.gx_durable.specs.Calls.{GoesSafely}
use Rattle.gx_durable.specs.Turns.{Until}

-- A log is up to its turn on a device: it may turn there, and the device carries this state. Nothing can be appended as yet.
pub record UpToTurn {E P : Type 0} (k : Known E P) (r : Reading E P) (log : Log) (sectors : ℕ) (seen : List ℕ) (pending : ℕ → Bool) (bodies : List (List (Record E P))) (s : Logged E P) : Type 0 where
  pub may_turn : MayTurn log seen pending
  pub carries : Carries k r log sectors seen pending bodies s

-- the log that starts behind an image's leading open gates
abbrev pub found_glog : List ℕ → Log
found_glog seen = starting (selected_of seen) (open_run seen (selected_of seen) 0 PLACES)

-- Of a synced device that says what is known of it, whose open bodies are undamaged, over a page area that is good for
-- them and can be read: the log that starts behind them is up to its turn, whatever the later gates are.
abbrev pub FoundIsUpToTurn : {E P : Type 0} → Known E P → Reading E P → Type 0
FoundIsUpToTurn {E} {P} k r = (sectors : ℕ) (seen : List ℕ) (pending : ℕ → Bool) (bodies : List (List (Record E P))) → ((n : ℕ) → pending n ≡ false) → 512 * PAGES_AT ≤ length seen
    → HasPages k.pages sectors → ((j : ℕ) → j < open_run seen (selected_of seen) 0 PLACES → IsSize (size_in (body_of seen (selected_of seen) j)))
    → AreBodies r (open_bodies seen) bodies → is_undamaged k bodies ≡ true → AreGood k r (area_of r k.pages seen) (records_of bodies) → head_in seen ≡ k.head
    → UpToTurn k r (found_glog seen) sectors seen pending bodies (found (area_of r k.pages seen) (records_of bodies))

-- a crash of it leaves a kept set too
abbrev pub ACrashBeforeTheTurn : {E P : Type 0} → Known E P → Reading E P → Type 0
ACrashBeforeTheTurn {E} {P} k r = IsLawful k → (log : Log) (sectors : ℕ) (seen : List ℕ) (pending : ℕ → Bool) (bodies : List (List (Record E P))) (s : Logged E P) (image : List ℕ)
    → UpToTurn k r log sectors seen pending bodies s → IsImage seen pending image → Stands k r s image

-- a log that is up, with nothing in flight, is up to its turn
abbrev pub UpMayTurn : {E P : Type 0} → Known E P → Reading E P → Type 0
UpMayTurn {E} {P} k r = (log : Log) (sectors : ℕ) (seen : List ℕ) (pending : ℕ → Bool) (bodies : List (List (Record E P))) (s : Logged E P) → log.stage ≡ Idle
    → Up k r log sectors seen pending bodies s → UpToTurn k r log sectors seen pending bodies s

-- a record that is put behind those of the head changes nothing of it, on any device
abbrev pub HeadStaysFound : {E P : Type 0} → Known E P → Reading E P → Log → Log → Type 0
HeadStaysFound {E} {P} k r old new = (sectors : ℕ) (seen : List ℕ) (pending : ℕ → Bool) (bodies : List (List (Record E P))) (s : Logged E P)
    → UpToTurn k r old sectors seen pending bodies s → UpToTurn k r new sectors seen pending bodies s

-- up to its turn, or up once the turn has ended
abbrev pub AfterCall : {E P : Type 0} → Known E P → Reading E P → Log → Device → List (List (Record E P)) → Logged E P → Result Turn Refusal → Type 0
AfterCall k r new e bodies s (Ok turn.Done) = Up k r new e.sectors e.seen e.pending bodies s
AfterCall k r new e bodies s (Ok turn.Closed) = UpToTurn k r new e.sectors e.seen e.pending bodies s
AfterCall k r new e bodies s (Ok turn.Body) = UpToTurn k r new e.sectors e.seen e.pending bodies s
AfterCall k r new e bodies s (Ok turn.BodySync) = UpToTurn k r new e.sectors e.seen e.pending bodies s
AfterCall k r new e bodies s (Ok turn.Gate) = UpToTurn k r new e.sectors e.seen e.pending bodies s
AfterCall k r new e bodies s (Ok turn.GateSync) = UpToTurn k r new e.sectors e.seen e.pending bodies s
AfterCall k r new e bodies s (Ok turn.Selector) = UpToTurn k r new e.sectors e.seen e.pending bodies s
AfterCall k r new e bodies s (Err refusal) = UpToTurn k r new e.sectors e.seen e.pending bodies s

-- what a step of a turn makes of the state that a log found, also where it fails
pub record AfterFirstTurn {E P : Type 0} (k : Known E P) (r : Reading E P) (new : Log) (d e : Device) (bodies : List (List (Record E P))) (s : Logged E P) (next : ℕ) (result : Result Turn Refusal) : Type 0 where
  pub stands : AfterCall k r new e (bodies_turned k next result bodies s) (turned k next result s) result
  pub goes_on : Until result (MayRenew k r new.flight e.sectors e.pending s)
  pub safely : GoesSafely k r d e s (turned k next result s)

-- A step of a turn of a log that is up to its turn, as one of a log that is up.
abbrev pub FirstTurnKeeps : {E P : Type 0} → Known E P → Reading E P → Log → Log → Device → Device → Result Turn Refusal → Type 0
FirstTurnKeeps {E} {P} k r old new d e result = (bodies : List (List (Record E P))) (s : Logged E P) → IsLawful k → d.honest ≡ true
    → UpToTurn k r old d.sectors d.seen d.pending bodies s → (may : MayRenew k r old.flight d.sectors d.pending s) → AfterFirstTurn k r new d e bodies s may.next result
