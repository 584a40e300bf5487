-- What the flusher's calls do to pages with their log, and what they keep.
use Rattle.std.specs.Prelude.{◌≡◌, ◌⊎◌, ℕ, ◌+◌, ◌<◌, ◌≤◌, Bool, false, List, [], ◌∷◌, ◌++◌, length, Option, None, Some, Result, Ok, Err}
use Rattle.gx_geom.specs.declared.refusal.Refusal.{Refusal}
use Rattle.gx_machine.specs.declared.entry.Entry.{Entry}
use Rattle.gx_disk.specs.Device.{Device}
use Rattle.gx_page.specs.Contents.{Contents}
use Rattle.gx_record.specs.Rec.{Rec}
use Rattle.gx_record.specs.Rec as rec
use Rattle.gx_record.specs.Format.{spelling}
use Rattle.gx_glog.specs.declared.stage.Stage.{Stage}
use Rattle.gx_glog.specs.declared.stage.Stage.TheVariants.{Idle}
use Rattle.gx_glog.specs.declared.stage.Turn.{Turn}
use Rattle.gx_glog.specs.declared.stage.Turn.TheVariants.{Closed}
use Rattle.gx_glog.specs.State.{Log, turning}
use Rattle.gx_glog.specs.declared.extent.TheConstants.{BODY_ROOM}
use Rattle.gx_pool.specs.State.{State, IsWritable, NoneDirty, clean_count}
use Rattle.gx_node.specs.Reading.{Format}
use Rattle.gx_recovery.specs.Known.{Known, IsLawful}
use Rattle.gx_recovery.specs.Records.{Record}
use Rattle.gx_recovery.specs.Analysis.{analysis}
use Rattle.gx_recovery.specs.Coming.{MayCome}
use Rattle.gx_recovery.specs.Logged.{Logged, AgreesBeside, all_records, appended}
use Rattle.gx_recovery.specs.Renewal.{renewed}
use Rattle.gx_index_laws.specs.Classes.{Page}
use Rattle.gx_durable.specs.Spelled.{Reading, record_read, AreRecords}
use Rattle.gx_durable.specs.Area.{IsSettledBut, area_of}
use Rattle.gx_durable.specs.Standing.{MayRenew}
use Rattle.gx_durable.specs.Steps.{with_batch, stepped, bodies_stepped, turned, bodies_turned}
use Rattle.gx_durable.specs.Pages.{rewritten}
use Rattle.gx_durable.specs.Calls.{GoesSafely}
use Rattle.gx_durable.specs.Turns.{Until}
use Rattle.gx_events.specs.declared.outcome.Need.{Need}
use Rattle.gx_events.specs.declared.outcome.Need.TheVariants as need
use Rattle.gx_store.specs.declared.fault.StoreFault.{StoreFault}
use Rattle.gx_store.specs.declared.fault.StoreFault.TheVariants.{NoRoom, TooFewFrames, Device as DeviceFault, Damaged}
use Rattle.gx_store.specs.State.{Shelf}
use Rattle.gx_storage.specs.State.{Volume}
use Rattle.gx_storage.specs.Keeps.{Keeps, KeepsWith, ShowsTheLogs, Logs}

-- a page that may be written, since all its changes are in gated batches, none such being less; or there is none
abbrev pub IsLeastWritable : State → Option ℕ → Type 0
IsLeastWritable s None = (q : ℕ) → IsWritable s q → ⊥
IsLeastWritable s (Some p) = IsWritable s p × ((q : ℕ) → IsWritable s q → p ≤ q)

-- what gives a clean frame: the write of that page; and if there is none, the log's next call
abbrev pub frame_by : Option ℕ → Need
frame_by None = need.Log
frame_by (Some p) = need.Write p

-- what helps if frames are wanted: nothing if as many are clean by now, else what gives one
pub record HelpsFrames (s : State) (wanted : ℕ) (result : Option Need) : Type 0 where
  pub enough : wanted ≤ clean_count s → result ≡ None
  pub few : clean_count s < wanted → (least : Option ℕ) × IsLeastWritable s least × (result ≡ Some (frame_by least))

-- What helps after a fault: if the log had no room, its next call; if too few frames were clean, the event that frees
-- one; and nothing if the device fails or isn't honest.
abbrev pub Helps : {D : Type 0} → Shelf D → StoreFault → Option Need → Type 0
Helps s NoRoom result = result ≡ Some need.Log
Helps s (TooFewFrames wanted) result = HelpsFrames s.frames wanted result
Helps s DeviceFault result = result ≡ None
Helps s Damaged result = result ≡ None

-- the log has no room for a record: it doesn't fit, or a turn is under way
abbrev pub HasNoRoom : Rec → Log → Type 0
HasNoRoom x log = (BODY_ROOM < length log.filling + length (spelling x)) ⊎ (1 ≤ turning log.turn)

-- a record was appended and nothing else has changed, or there was no room for it and nothing has
abbrev pub Recorded : {D : Type 0} → Rec → Volume D → Volume D → Result (Unit {0}) StoreFault → Type 0
Recorded x v w (Ok done) = Logs x v.log w.log × (w ≡ record v { log = w.log })
Recorded x v w (Err fault) = (fault ≡ NoRoom) × HasNoRoom x v.log × (w ≡ v)

-- a record came after those of the head, or there was no room for it
pub record GoesInHead (x : Rec) (old new : Log) : Type 0 where
  pub still : old.turn ≡ Closed
  pub fits : length old.flight + length (spelling x) ≤ BODY_ROOM
  pub log : new ≡ record old { flight = old.flight ++ spelling x }

abbrev pub PutInHead : {D : Type 0} → Rec → Volume D → Volume D → Result (Unit {0}) StoreFault → Type 0
PutInHead x v w (Ok done) = GoesInHead x v.log w.log × (w ≡ record v { log = w.log })
PutInHead x v w (Err fault) = (fault ≡ NoRoom) × ((BODY_ROOM < length v.log.flight + length (spelling x)) ⊎ (1 ≤ turning v.log.turn)) × (w ≡ v)

-- the head's records are those of before and this one
abbrev pub HeadHas : {E P : Type 0} → Reading E P → Record E P → Log → Log → Type 0
HeadHas {E} {P} r x old new = (head : List (Record E P)) → AreRecords r old.flight head → AreRecords r new.flight (head ++ x ∷ [])

-- a record that neither gives a page nor changes one
abbrev pub GivesNoPage : Rec → Type 0
GivesNoPage (rec.Commit tx n) = Unit {0}
GivesNoPage (rec.End tx) = Unit {0}
GivesNoPage (rec.Pages counter used pages) = ⊥
GivesNoPage (rec.Write tx row key before after leaf image) = ⊥
GivesNoPage (rec.Counters n counter used next) = ⊥
GivesNoPage (rec.Note tx row key before leaf) = ⊥
GivesNoPage (rec.Bit tx row key before after leaf) = ⊥
GivesNoPage (rec.Add tx row key leaf) = ⊥
GivesNoPage (rec.Widen page slot key) = ⊥
GivesNoPage (rec.Sweep page slots) = ⊥

-- nothing is in flight or fills, a head was put, and no page is dirty
pub record ReadyToTurn {D : Type 0} (v : Volume D) : Type 0 where
  pub idle : v.log.stage ≡ Idle
  pub quiet : v.log.filling ≡ []
  pub head : 1 ≤ length v.log.flight
  pub clean : NoneDirty v.shelf.frames

module _ {B : Type 0} (k : Known (Entry B) (Page B)) (r : Reading (Entry B) (Page B)) (f : Format B) (passes : ℕ → Contents → Bool) where
  -- A call led from one state to another, which the volume keeps; no set changes, and at each moment within the call what a crash may
  -- leave stands for a kept set of the state before.
  pub record Becomes {D : Type 0} (d e : Device) (w : Volume D) (bodies : List (List (Record (Entry B) (Page B)))) (s t : Logged (Entry B) (Page B)) : Type 0 where
    pub keeps : Keeps k r f passes e w bodies t
    pub safely : GoesSafely k r d e s t

  -- a call that leaves the state
  abbrev pub KeepsOn : {D : Type 0} → Device → Device → Volume D → Volume D → Type 0
  KeepsOn d e v w = (bodies : List (List (Record (Entry B) (Page B)))) (s : Logged (Entry B) (Page B)) → IsLawful k → Keeps k r f passes d v bodies s → Becomes d e w bodies s s

  -- a step of the log: a batch may begin with it, and its gate's sync makes the batch durable
  abbrev pub StepsLog : {D : Type 0} → Device → Device → Volume D → Volume D → Result Stage Refusal → Type 0
  StepsLog d e v w result = (bodies : List (List (Record (Entry B) (Page B)))) (s : Logged (Entry B) (Page B)) → IsLawful k → Keeps k r f passes d v bodies s
      → Becomes d e w (bodies_stepped result bodies (with_batch v.log.stage v.log.filling s)) s (stepped result (with_batch v.log.stage v.log.filling s))

  -- The records are the same, over the page area that is read now, which is unchanged on each page that no gated record
  -- gives.
  pub record Rewrites {D : Type 0} (d e : Device) (w : Volume D) (bodies : List (List (Record (Entry B) (Page B)))) (s : Logged (Entry B) (Page B)) : Type 0 where
    pub keeps : Keeps k r f passes e w bodies (rewritten r k.pages e.seen s)
    pub beside : AgreesBeside s.gated s.area (area_of r k.pages e.seen)
    pub safely : GoesSafely k r d e s (rewritten r k.pages e.seen s)

  -- a page's write, or one that failed
  abbrev pub WritesGated : {D : Type 0} → Device → Device → Volume D → Volume D → Type 0
  WritesGated d e v w = (bodies : List (List (Record (Entry B) (Page B)))) (s : Logged (Entry B) (Page B)) → IsLawful k → v.log.turn ≡ Closed → Keeps k r f passes d v bodies s
      → Rewrites d e w bodies s

  -- A record that gives no page was appended: if it may come, the volume keeps the state with it; and if the tree
  -- that was shown is the log's, the tree that is shown is the log's with it. The device is unchanged.
  pub record KeepsRecord {D : Type 0} (d : Device) (v w : Volume D) (x : Rec) : Type 0 where
    pub keeps : (bodies : List (List (Record (Entry B) (Page B)))) (s : Logged (Entry B) (Page B)) → IsLawful k → MayCome k s.area (all_records s) (record_read r x)
        → Keeps k r f passes d v bodies s → Keeps k r f passes d w bodies (appended (record_read r x) s)
    pub with_tree : ShowsTheLogs k r f passes d v → KeepsWith k r f passes d d v w x

  -- Of a state that is kept, with pages that are settled and a head that is the log renewed, a turn may begin.
  abbrev pub MayTurn : {D : Type 0} → Device → Volume D → Type 0
  MayTurn d v = (bodies : List (List (Record (Entry B) (Page B)))) (s : Logged (Entry B) (Page B)) (next : ℕ) → Keeps k r f passes d v bodies s → IsSettledBut (λ p. false) d.sectors d.pending
      → (analysis k s.gated).next ≤ next → AreRecords r v.log.flight (renewed k next s.gated) → MayRenew k r v.log.flight d.sectors d.pending s

  -- What a step of a turn leaves: the state of before, or after the last call the renewed log alone; and until then the turn may go
  -- on.
  pub record HasTurned {D : Type 0} (d e : Device) (w : Volume D) (bodies : List (List (Record (Entry B) (Page B)))) (s : Logged (Entry B) (Page B)) (next : ℕ) (result : Result Turn Refusal) : Type 0 where
    pub keeps : Keeps k r f passes e w (bodies_turned k next result bodies s) (turned k next result s)
    pub goes_on : Until result (MayRenew k r w.log.flight e.sectors e.pending s)
    pub safely : GoesSafely k r d e s (turned k next result s)

  abbrev pub TurnsOn : {D : Type 0} → Device → Device → Volume D → Volume D → Result Turn Refusal → Type 0
  TurnsOn d e v w result = (bodies : List (List (Record (Entry B) (Page B)))) (s : Logged (Entry B) (Page B)) → IsLawful k → Keeps k r f passes d v bodies s
      → (may : MayRenew k r v.log.flight d.sectors d.pending s) → HasTurned d e w bodies s may.next result
