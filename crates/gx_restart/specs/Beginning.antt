-- An engine that starts over the index that was found on a device.
use Rattle.std.specs.Prelude.{◌≡◌, ◌⊎◌, ℕ, ◌+◌, Bool, List, [], Result, Ok, Err}
use Rattle.gx_geom.specs.declared.refusal.Refusal.{Refusal}
use Rattle.gx_geom.specs.declared.refusal.Refusal.TheVariants.{Device as DeviceRefusal, Memory}
use Rattle.gx_disk.specs.Device.{Device}
use Rattle.gx_disk.specs.Moments.{Leaves}
use Rattle.gx_durable.specs.Area.{area_of}
use Rattle.gx_durable.specs.Fitting.{AreGood}
use Rattle.gx_events.specs.Engines.{stood}
use Rattle.gx_store.specs.Faults.{refusal_fails}
use Rattle.gx_engine.specs.declared.start.NotOpened.{NotOpened}
use Rattle.gx_engine.specs.declared.start.Start.{Start}
use Rattle.gx_engine.specs.Holds.{Holds}
use Rattle.gx_engine.specs.Starting.{cut_off}
use Rattle.gx_engine.specs.States.{Parts}
use Rattle.gx_found_log.specs.Found.{HasUndamaged}
use Rattle.gx_glog.specs.declared.parameters.Parameters.{Parameters}
use Rattle.gx_index_laws.specs.Classes.{Page}
use Rattle.gx_index_laws.specs.States as index
use Rattle.gx_index_laws.specs.States.{engine_of}
use Rattle.gx_machine.specs.declared.entry.Entry.{Entry}
use Rattle.gx_machine.specs.Keys.{Members}
use Rattle.gx_node.specs.Reading.{Format, is_node}
use Rattle.gx_opening.specs.declared.standing.Standing.{Standing}
use Rattle.gx_opening.specs.Standing.{known_for, limits_of, reading}
use Rattle.gx_durable.specs.Classes.{class_of}
use Rattle.gx_recovery.specs.Analysis.{analysis, number_of}
use Rattle.gx_recovery.specs.Damage.{records_of}
use Rattle.gx_recovery.specs.Records.{Record}
use Rattle.gx_recovery.specs.Standing.{stands_for}
use Rattle.gx_restart.specs.Keeping.{StandsForFound}

-- a device has as many sectors, and is as honest
abbrev pub IsSameDevice : Device → Device → Type 0
IsSameDevice old new = (new.sectors ≡ old.sectors) × (new.honest ≡ old.honest)

-- no call of the device has failed where an engine begins, and else as many as its refusal says
abbrev pub CountsOpening : {B D : Type 0} → (D → Device) → ℕ → Result (Parts B D) (NotOpened D) → Type 0
CountsOpening state before (Ok engine) = (state engine.volume.shelf.disk).faults ≡ before
CountsOpening state before (Err n) = (state n.disk).faults ≡ before + refusal_fails n.why

-- what an engine starts from is what was found
pub record StartsFrom {B : Type 0} (s : Standing B) (frames : ℕ) (start : Start B) : Type 0 where
  pub extent : start.extent ≡ s.log.extent
  pub bodies : start.bodies ≡ s.log.bodies
  pub pages : start.pages ≡ s.parameters.pages
  pub fanout : start.fanout ≡ s.parameters.most
  pub frames_are : start.frames ≡ frames
  pub commits : start.commits ≡ s.log.analysis.told.number
  pub counter : start.counter ≡ s.log.analysis.told.counter
  pub used : start.used ≡ s.log.analysis.told.used
  pub next : start.next ≡ s.log.analysis.told.next
  pub losers : cut_off start ≡ s.log.analysis.told.touched

-- a call of the device failed, or memory was refused
abbrev pub HasFailed : Refusal → Type 0
HasFailed why = (why ≡ DeviceRefusal) ⊎ (why ≡ Memory)

module _ {B : Type 0} (shape : Members B) (is_key : B → Bool) (said : List ℕ → B) (f : Format B) where
  -- The log of what is seen is undamaged, and the pages after it are good for it and can be read.
  pub record IsGoodLog (p : Parameters) (seen : List ℕ) : Type 0 where
    pub log : HasUndamaged (known_for shape is_key said f p) (reading shape is_key said f) seen
    pub good : AreGood (known_for shape is_key said f p) (reading shape is_key said f) (area_of (reading shape is_key said f) p.pages seen) (records_of log.bodies)

  -- an index has one set, and this number: those that a log keeps
  pub record HasFoundSet (p : Parameters) (seen : List ℕ) (log : HasUndamaged (known_for shape is_key said f p) (reading shape is_key said f) seen) (i : index.State B) : Type 0 where
    pub older : i.older ≡ []
    pub oldest : i.oldest ≡ number_of (known_for shape is_key said f p) (records_of log.bodies)
    pub stands : (e : Entry B) → stood (class_of shape is_key (limits_of p)).keys (engine_of (class_of shape is_key (limits_of p)) i) e
        ≡ stands_for (known_for shape is_key said f p) (area_of (reading shape is_key said f) p.pages seen) (records_of log.bodies) e

  -- An engine over a device holds an index that has the set which the log of what is seen keeps, under its number, and no other; and as many pages
  -- are in use as that log says.
  pub record HoldsFound {D : Type 0} (p : Parameters) (seen : List ℕ) (e : Device) (engine : Parts B D) : Type 0 where
    pub found : IsGoodLog p seen
    pub bodies : List (List (Record (Entry B) (Page B)))
    pub index : index.State B
    pub holds : Holds (class_of shape is_key (limits_of p)) (reading shape is_key said f) f (is_node f) e engine bodies index
    pub set : HasFoundSet p seen found.log index
    pub used : engine.volume.shelf.used ≡ (analysis (known_for shape is_key said f p) (records_of found.log.bodies)).used

  -- It begins so; and at each moment what a crash may leave stands for that set.
  pub record HasBegun {D : Type 0} (p : Parameters) (seen : List ℕ) (d e : Device) (engine : Parts B D) : Type 0 where
    pub holds : HoldsFound p seen e engine
    pub leaves : Leaves (StandsForFound shape is_key said f p seen) d e

  -- It didn't begin, and what a crash may leave still stands for that set.
  pub record HasNotBegun (p : Parameters) (seen : List ℕ) (d e : Device) (why : Refusal) : Type 0 where
    pub cause : HasFailed why
    pub leaves : Leaves (StandsForFound shape is_key said f p seen) d e
