-- What follows if pages are refused.
use Rattle.std.specs.Prelude.{ℕ, ◌≡◌, Bool, true, false, Option, None, Some}
use Rattle.gx_geom.specs.declared.refusal.Refusal.{Refusal}
use Rattle.gx_geom.specs.declared.refusal.Refusal.TheVariants.{Device as DeviceRefusal, Damaged as DamagedRefusal}
use Rattle.gx_machine.specs.declared.reply.Reply.TheVariants.{Refused as RefusedCall}
use Rattle.gx_disk.specs.Device.{Device}
use Rattle.gx_page.specs.Contents.{Contents}
use Rattle.gx_pool.specs.State.{kept, stamp_of}
use Rattle.gx_events.specs.declared.outcome.Need.{Need}
use Rattle.gx_events.specs.declared.outcome.Need.TheVariants as need
use Rattle.gx_events.specs.declared.outcome.Outcome.{Outcome}
use Rattle.gx_events.specs.declared.outcome.Outcome.TheVariants.{Replied, Help, Refused}
use Rattle.gx_phases.specs.Moves.{failed_state}
use Rattle.gx_store.specs.declared.fault.StoreFault.{StoreFault}
use Rattle.gx_store.specs.declared.fault.StoreFault.TheVariants as fault
use Rattle.gx_store.specs.Faults as faults
use Rattle.gx_store.specs.State.{Shelf}
use Rattle.gx_storage.specs.Flushing.{Helps}
use Rattle.gx_engine.specs.States.{Parts, runs}

-- what makes the log's next call: its own step, or a running checkpoint's
abbrev pub log_need : Bool → Need
log_need true = need.Checkpoint
log_need false = need.Log

-- the event that helps, by whether a checkpoint runs
abbrev pub need_of : Bool → Option Need → Need
need_of running None = log_need running
need_of running (Some need.Log) = log_need running
need_of running (Some (need.Write page)) = need.Write page
need_of running (Some need.Checkpoint) = log_need running

-- no room or no clean frame: another event can help
abbrev pub CanBeHelped : StoreFault → Type 0
CanBeHelped fault.NoRoom = Unit {0}
CanBeHelped (fault.TooFewFrames wanted) = Unit {0}
CanBeHelped fault.Device = ⊥
CanBeHelped fault.Damaged = ⊥

-- no page changed
abbrev pub StampsStay : {D : Type 0} → Shelf D → Shelf D → Type 0
StampsStay old new = (page : ℕ) → stamp_of (kept new.frames page) ≡ stamp_of (kept old.frames page)

-- pages were refused because the log had no room or no frame was clean, and this is what helps; no page changed
pub record IsHelp {D : Type 0} (passes : ℕ → Contents → Bool) (d e : Device) (running : Bool) (old new : Shelf D) (n : Need) : Type 0 where
  pub fault : StoreFault
  pub can : CanBeHelped fault
  pub why : faults.IsWhy passes d e old new fault
  pub help : Option Need
  pub helps : Helps new fault help
  pub is : n ≡ need_of running help
  pub stamps : StampsStay old new

-- that the log has no room is reported only if no checkpoint is due
abbrev pub IsEarly : StoreFault → Bool → Type 0
IsEarly fault.NoRoom due = due ≡ false
IsEarly (fault.TooFewFrames wanted) due = Unit {0}
IsEarly fault.Device due = Unit {0}
IsEarly fault.Damaged due = Unit {0}

-- What follows if pages were refused: the event that helps; or the engine has failed, and the outcome says so.
abbrev pub IsRefusedAs : {B D : Type 0} → (Refusal → Outcome B) → StoreFault → Parts B D → Parts B D → Outcome B → Type 0
IsRefusedAs told fault.NoRoom old new outcome = (found : Option Need) × Helps old.volume.shelf fault.NoRoom found × (outcome ≡ Help (need_of (runs old.checkpoint) found)) × (new ≡ old)
IsRefusedAs told (fault.TooFewFrames wanted) old new outcome =
    (found : Option Need) × Helps old.volume.shelf (fault.TooFewFrames wanted) found × (outcome ≡ Help (need_of (runs old.checkpoint) found)) × (new ≡ old)
IsRefusedAs told fault.Device old new outcome = (outcome ≡ told DeviceRefusal) × (new ≡ record old { sessions = failed_state old.sessions })
IsRefusedAs told fault.Damaged old new outcome = (outcome ≡ told DamagedRefusal) × (new ≡ record old { sessions = failed_state old.sessions })

-- in a session's move: its call ends with the refusal
abbrev pub IsRefused : {B D : Type 0} → StoreFault → Parts B D → Parts B D → Outcome B → Type 0
IsRefused fault old new outcome = IsRefusedAs (λ why. Replied (RefusedCall why)) fault old new outcome

-- in an event of no session
abbrev pub IsTurnedAway : {B D : Type 0} → StoreFault → Parts B D → Parts B D → Outcome B → Type 0
IsTurnedAway fault old new outcome = IsRefusedAs Refused fault old new outcome
