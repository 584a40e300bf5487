-- The outcomes of the flusher's events.
use Rattle.std.specs.Prelude.{ℕ, ◌≡◌, ◌+◌, Bool, true, false, Some, Result, Ok, Err, IfOk, MatchResult, List, [], ◌∷◌}
use Rattle.gx_geom.specs.declared.refusal.Refusal.{Refusal}
use Rattle.gx_geom.specs.declared.refusal.Refusal.TheVariants.{Device as DeviceRefusal, Failed}
use Rattle.gx_disk.specs.Device.{Device, Counts}
use Rattle.gx_glog.specs.declared.stage.Stage.{Stage}
use Rattle.gx_glog.specs.declared.stage.Stage.TheVariants.{Body, BodySync, Gate, GateSync, Idle}
use Rattle.gx_glog.specs.State.{Goes, calls_of}
use Rattle.gx_pool.specs.Marks.{is_gated}
use Rattle.gx_pool.specs.State.{Kept, kept, stamp_of}
use Rattle.gx_pool.specs.Writing.{WritesPage}
use Rattle.gx_events.specs.Happenings.{Happening, Works, Durable, Fails}
use Rattle.gx_durable.specs.Steps.{told_frames}
use Rattle.gx_events.specs.declared.outcome.Outcome.{Outcome}
use Rattle.gx_events.specs.declared.outcome.Outcome.TheVariants.{More, Nothing, Refused}
use Rattle.gx_phases.specs.Moves.{failed_state, synced_state}
use Rattle.gx_storage.specs.State.{Volume}
use Rattle.gx_engine.specs.States.{Parts}

-- an engine that a fault has ended refuses, and nothing changes
abbrev pub IsEnded : {B D : Type 0} → Parts B D → Parts B D → Outcome B → Type 0
IsEnded old new outcome = (outcome ≡ Refused Failed) × (new ≡ old)

-- what is noted of a log's call that was made
abbrev pub noted : {B D : Type 0} → Stage → Parts B D → Parts B D
noted Idle e = e
noted Body e = record e { in_flight = e.sessions.latest }
noted BodySync e = e
noted Gate e = e
noted GateSync e = record e { sessions = synced_state e.in_flight e.sessions }

-- and what it returns
abbrev pub log_outcome : {B : Type 0} → Stage → Outcome B
log_outcome Idle = Nothing
log_outcome Body = More
log_outcome BodySync = More
log_outcome Gate = More
log_outcome GateSync = More

-- the log's next call was made, or it failed, or nothing is logged
pub record LogGoes {D : Type 0} (d e : Device) (v w : Volume D) (result : Result Stage Refusal) : Type 0 where
  pub goes : Goes v.log w.log result
  pub counts : Counts (calls_of result) d e result
  pub only : w ≡ record v { log = w.log; shelf = record v.shelf { disk = w.shelf.disk; frames = told_frames result w.log v.shelf.frames } }

-- the outcome of that
abbrev pub LogComes : {B D : Type 0} → Parts B D → Parts B D → Outcome B → Result Stage Refusal → Type 0
LogComes old new outcome (Ok stage) = (outcome ≡ log_outcome stage) × (new ≡ noted stage (record old { volume = new.volume }))
LogComes old new outcome (Err why) = (outcome ≡ Refused DeviceRefusal) × (new ≡ record old { volume = new.volume; sessions = failed_state old.sessions })

-- a step of the log, by whether a fault has ended the engine and whether a checkpoint runs, whose calls the log's then are
abbrev pub LogSteps : {B D : Type 0} → Device → Device → Parts B D → Parts B D → Bool → Bool → Outcome B → Type 0
LogSteps d e old new true running outcome = IsEnded old new outcome
LogSteps d e old new false true outcome = (outcome ≡ Nothing) × (new ≡ old)
LogSteps d e old new false false outcome = (result : Result Stage Refusal) × LogGoes d e old.volume new.volume result × LogComes old new outcome result

-- the index's events that it is: a batch begins; its gate is synced, so that commits are durable up to this number; a fault
abbrev pub log_events : {B : Type 0} → Stage → ℕ → Outcome B → List (Happening B)
log_events Idle number More = Works ∷ []
log_events Body number More = []
log_events BodySync number More = []
log_events Gate number More = []
log_events GateSync number More = Durable number ∷ []
log_events Idle number (Refused DeviceRefusal) = Works ∷ Fails ∷ []
log_events Body number (Refused DeviceRefusal) = Fails ∷ []
log_events BodySync number (Refused DeviceRefusal) = Fails ∷ []
log_events Gate number (Refused DeviceRefusal) = Fails ∷ []
log_events GateSync number (Refused DeviceRefusal) = Fails ∷ []
log_events stage number other = []

-- a page may be written, and was, or that failed; or it may not
pub record PageGoes {D : Type 0} (page : ℕ) (d e : Device) (v w : Volume D) (result : Result Bool Refusal) : Type 0 where
  pub answer : IfOk result (λ written. written ≡ is_gated v.shelf.frames.gated (stamp_of (kept v.shelf.frames page)))
  pub idle : is_gated v.shelf.frames.gated (stamp_of (kept v.shelf.frames page)) ≡ false → (result ≡ Ok false) × (w ≡ v)
  pub written : (k : Kept) → kept v.shelf.frames page ≡ Some k → is_gated v.shelf.frames.gated k.stamp ≡ true → WritesPage d e v.shelf.frames w.shelf.frames page k result
  pub faults : MatchResult result (λ _. e.faults ≡ d.faults) (λ _. e.faults ≡ d.faults + 1)
  pub only : w ≡ record v { shelf = record v.shelf { disk = w.shelf.disk; frames = w.shelf.frames } }

-- the outcome of that
abbrev pub page_outcome : {B : Type 0} → Bool → Outcome B
page_outcome true = More
page_outcome false = Nothing

abbrev pub PageComes : {B D : Type 0} → Parts B D → Parts B D → Outcome B → Result Bool Refusal → Type 0
PageComes old new outcome (Ok written) = (outcome ≡ page_outcome written) × (new ≡ record old { volume = new.volume })
PageComes old new outcome (Err why) = (outcome ≡ Refused DeviceRefusal) × (new ≡ record old { volume = new.volume; sessions = failed_state old.sessions })

-- a page's write, by whether a fault has ended the engine
abbrev pub PageIsWritten : {B D : Type 0} → ℕ → Device → Device → Parts B D → Parts B D → Bool → Outcome B → Type 0
PageIsWritten page d e old new true outcome = IsEnded old new outcome
PageIsWritten page d e old new false outcome = (result : Result Bool Refusal) × PageGoes page d e old.volume new.volume result × PageComes old new outcome result

-- the index's events that it is: the page area is another, if it was written or may have been; a fault
abbrev pub page_events : {B : Type 0} → Outcome B → List (Happening B)
page_events More = Works ∷ []
page_events (Refused DeviceRefusal) = Works ∷ Fails ∷ []
page_events other = []
