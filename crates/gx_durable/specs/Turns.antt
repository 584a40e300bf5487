-- What the calls of a turn to the other extent keep and return.
use Rattle.std.specs.Prelude.{◌≡◌, ℕ, Bool, true, List, [], ◌∷◌, ◌++◌, Result, Ok, Err}
use Rattle.gx_geom.specs.declared.refusal.Refusal.{Refusal}
use Rattle.gx_disk.specs.Device.{Device}
use Rattle.gx_record.specs.Rec.{Rec}
use Rattle.gx_record.specs.Format.{HasKey}
use Rattle.gx_glog.specs.declared.filling.Appended.{Appended}
use Rattle.gx_glog.specs.declared.filling.Appended.TheVariants.{At, NoRoom}
use Rattle.gx_glog.specs.declared.stage.Turn.{Turn}
use Rattle.gx_glog.specs.declared.stage.Turn.TheVariants as turn
use Rattle.gx_glog.specs.State.{Log}
use Rattle.gx_pool.specs.State.{State}
use Rattle.gx_recovery.specs.Known.{Known, IsLawful}
use Rattle.gx_recovery.specs.Records.{Record}
use Rattle.gx_recovery.specs.Logged.{Logged}
use Rattle.gx_durable.specs.Spelled.{Reading, record_read, AreRecords}
use Rattle.gx_durable.specs.Standing.{MayRenew, Up}
use Rattle.gx_durable.specs.Steps.{turned, bodies_turned}
use Rattle.gx_durable.specs.Calls.{Runs, GoesSafely}

-- a record was put behind those of the head, or there was no room for it
abbrev pub with_first : {E P : Type 0} → Appended → Record E P → List (Record E P) → List (Record E P)
with_first (At place) r head = head ++ r ∷ []
with_first NoRoom r head = head

abbrev pub HeadGrows : {E P : Type 0} → Reading E P → Rec → Log → Log → Appended → Type 0
HeadGrows {E} {P} r x old new result = (head : List (Record E P)) → HasKey r.key x → AreRecords r old.flight head → AreRecords r new.flight (with_first result (record_read r x) head)

-- A head that nothing is known of as yet changes nothing of a log that is up, on any device.
abbrev pub HeadStaysUp : {E P : Type 0} → Known E P → Reading E P → Log → Log → Type 0
HeadStaysUp {E} {P} k r old new = (sectors : ℕ) (seen : List ℕ) (pending : ℕ → Bool) (bodies : List (List (Record E P))) (s : Logged E P)
    → Up k r old sectors seen pending bodies s → Up k r new sectors seen pending bodies s

-- what a pool learns after a turn's call: after the last one the log goes on behind batch 0
abbrev pub told_turn : Turn → State → State
told_turn turn.Done frames = record frames { gated = 0 }
told_turn turn.Closed frames = frames
told_turn turn.Body frames = frames
told_turn turn.BodySync frames = frames
told_turn turn.Gate frames = frames
told_turn turn.GateSync frames = frames
told_turn turn.Selector frames = frames

-- the same of a call that may have failed
abbrev pub told_result : Result Turn Refusal → State → State
told_result (Ok call) frames = told_turn call frames
told_result (Err refusal) frames = frames

-- what holds as long as the turn hasn't ended
abbrev pub Until : Result Turn Refusal → Type 0 → Type 0
Until (Ok turn.Done) X = Unit {0}
Until (Ok turn.Closed) X = X
Until (Ok turn.Body) X = X
Until (Ok turn.BodySync) X = X
Until (Ok turn.Gate) X = X
Until (Ok turn.GateSync) X = X
Until (Ok turn.Selector) X = X
Until (Err refusal) X = X

-- what a step of a turn makes of the state, also where it fails
pub record AfterTurn {E P : Type 0} (k : Known E P) (r : Reading E P) (new : Log) (frames : State) (d e : Device) (bodies : List (List (Record E P))) (s : Logged E P) (next : ℕ) (result : Result Turn Refusal) : Type 0 where
  pub runs : Runs k r new frames e (bodies_turned k next result bodies s) (turned k next result s)
  pub goes_on : Until result (MayRenew k r new.flight e.sectors e.pending s)
  pub safely : GoesSafely k r d e s (turned k next result s)

-- A step of a turn whose head is the renewed log, where nothing fills and each page is written and settled.
abbrev pub TurnKeepsRunning : {E P : Type 0} → Known E P → Reading E P → Log → Log → State → State → Device → Device → Result Turn Refusal → Type 0
TurnKeepsRunning {E} {P} k r old new frames frames' d e result = (bodies : List (List (Record E P))) (s : Logged E P) → IsLawful k → d.honest ≡ true
    → Runs k r old frames d bodies s → (may : MayRenew k r old.flight d.sectors d.pending s) → AfterTurn k r new frames' d e bodies s may.next result
