-- An event that is no session's never replies, over any device.
use Rattle.std.proofs.Common.{◌≡◌, ◌∙◌, ap, refl, inl, inr, ℕ, Bool, true, false, List}
use Rattle.std.specs.Prelude.{nat_le, Result, Ok, Err}
use Rattle.gx_index_laws.specs.declared.TheConstants.{CHECKPOINT_AT}
use Rattle.gx_geom.specs.declared.refusal.Refusal.{Refusal}
use Rattle.gx_machine.specs.declared.entry.Entry.{Entry}
use Rattle.gx_machine.specs.Keys.{Keys}
use Rattle.gx_disk.specs.Device.{Device}
use Rattle.gx_page.specs.Contents.{Contents}
use Rattle.gx_node.specs.Reading.{Format}
use Rattle.gx_store.specs.declared.fault.StoreFault.{StoreFault}
use Rattle.gx_glog.specs.declared.stage.Stage.{Stage}
use Rattle.gx_glog.specs.declared.stage.Stage.TheVariants as stage
use Rattle.gx_glog.specs.declared.stage.Turn.{Turn}
use Rattle.gx_recovery.specs.Known.{Known, Limits}
use Rattle.gx_index_laws.specs.Classes.{Page}
use Rattle.gx_durable.specs.Spelled.{Reading}
use Rattle.gx_events.specs.declared.event.Event.{Event}
use Rattle.gx_events.specs.declared.event.Event.TheVariants.{Ask, Move, LogStep, WritePage, CheckpointStep, Sweep}
use Rattle.gx_events.specs.declared.outcome.Outcome.{Outcome}
use Rattle.gx_events.specs.declared.outcome.Outcome.TheVariants.{Replied, More, Help, Nothing, Refused}
use Rattle.gx_events.specs.Work.{is_work, replied}
use Rattle.gx_engine.specs.Checkpoints.{CheckpointSteps, HeadComes, RunsOn, StepsFrom, StepsOff, SyncComes, TurnComes}
use Rattle.gx_engine.specs.Comes.{StepComes}
use Rattle.gx_engine.specs.Flushing.{LogComes, LogSteps, PageComes, PageIsWritten, log_outcome, page_outcome}
use Rattle.gx_engine.specs.States.{Parts, runs}
use Rattle.gx_engine.specs.Sweeping.{SweepComes, SweepsBy, SweepsPage, is_page}
use Rattle.gx_engine.specs.declared.checkpoint.Checkpoint.{Checkpoint}
use Rattle.gx_engine.specs.declared.checkpoint.Checkpoint.TheVariants.{Off, Running, Turning}

module _ {B D : Type 0} (d e : Device) (old new : Parts B D) (outcome : Outcome B) where
  -- what an outcome is, is quiet if that is
  as_that : (given : Outcome B) → outcome ≡ given → replied given ≡ 0 → replied outcome ≡ 0
  as_that given is quiet = ap (λ (o : Outcome B). replied o) is ∙ quiet

  stage_quiet : (s : Stage) → replied {B = B} (log_outcome s) ≡ 0
  stage_quiet stage.Idle = refl
  stage_quiet stage.Body = refl
  stage_quiet stage.BodySync = refl
  stage_quiet stage.Gate = refl
  stage_quiet stage.GateSync = refl

  log_quiet : (base : Parts B D) (result : Result Stage Refusal) → LogComes base new outcome result → replied outcome ≡ 0
  log_quiet base (Ok s) h = as_that (log_outcome s) h.0 (stage_quiet s)
  log_quiet base (Err why) h = as_that _ h.0 refl

  log_steps : (failed running : Bool) → LogSteps d e old new failed running outcome → replied outcome ≡ 0
  log_steps true running h = as_that _ h.0 refl
  log_steps false true h = as_that _ h.0 refl
  log_steps false false h = log_quiet old h.0 h.2

  written_quiet : (written : Bool) → replied {B = B} (page_outcome written) ≡ 0
  written_quiet true = refl
  written_quiet false = refl

  page_quiet : (base : Parts B D) (result : Result Bool Refusal) → PageComes base new outcome result → replied outcome ≡ 0
  page_quiet base (Ok written) h = as_that (page_outcome written) h.0 (written_quiet written)
  page_quiet base (Err why) h = as_that _ h.0 refl

  page_writes : (base : Parts B D) (page : ℕ) (failed : Bool) → PageIsWritten page d e base new failed outcome → replied outcome ≡ 0
  page_writes base page true h = as_that _ h.0 refl
  page_writes base page false h = page_quiet base h.0 h.2

  head_quiet : (base : Parts B D) (put : Result (Unit {0}) StoreFault) → HeadComes base new outcome put → replied outcome ≡ 0
  head_quiet base (Ok done) h = as_that _ h.0 refl
  head_quiet base (Err fault) h = as_that _ h.0 refl

  sync_quiet : (base : Parts B D) (result : Result (Unit {0}) Refusal) → SyncComes base new outcome result → replied outcome ≡ 0
  sync_quiet base (Ok done) h = head_quiet base h.0 h.1
  sync_quiet base (Err why) h = as_that _ h.0 refl

  runs_quiet : (base : Parts B D) → RunsOn d e base new outcome → replied outcome ≡ 0
  runs_quiet base (inl h) = log_quiet base h.result h.comes
  runs_quiet base (inr (inl (inl h))) = page_writes base h.page false h.writes
  runs_quiet base (inr (inl (inr h))) = as_that _ h.broken.0 refl
  runs_quiet base (inr (inr h)) = sync_quiet base h.result h.comes

  turn_quiet : (result : Result Turn Refusal) → TurnComes old new outcome result → replied outcome ≡ 0
  turn_quiet (Ok call) h = as_that _ h.0 refl
  turn_quiet (Err why) h = as_that _ h.0 refl

  off_quiet : (due : Bool) → StepsOff d e old new due outcome → replied outcome ≡ 0
  off_quiet false h = as_that _ h.0 refl
  off_quiet true h = runs_quiet (record old { checkpoint = Running }) h

  from_quiet : (at : Checkpoint) → StepsFrom d e old new at outcome → replied outcome ≡ 0
  from_quiet Off h = off_quiet (nat_le CHECKPOINT_AT old.volume.log.used) h
  from_quiet Running h = runs_quiet old h
  from_quiet Turning h = turn_quiet h.result h.comes

  checkpoint_steps : (failed : Bool) → CheckpointSteps d e old new failed outcome → replied outcome ≡ 0
  checkpoint_steps true h = as_that _ h.0 refl
  checkpoint_steps false h = from_quiet old.checkpoint h

module _ {B D : Type 0} (k : Keys B) (known : Limits → Known (Entry B) (Page B)) (r : Reading (Entry B) (Page B)) (f : Format B) (passes : ℕ → Contents → Bool) (IsKey : B → Type 0)
    (spelling : B → List ℕ) (key : ℕ) (d e : Device) (old new : Parts B D) where
  swept_quiet : (outcome : Outcome B) (page : ℕ) → SweepsPage k known r f passes page d e old new outcome → replied outcome ≡ 0
  swept_quiet (Replied x) page h = absurd h
  swept_quiet More page h = refl
  swept_quiet (Help need) page h = refl
  swept_quiet Nothing page h = refl
  swept_quiet (Refused why) page h = refl

  by_quiet : (outcome : Outcome B) (page : ℕ) (there : Bool) → SweepsBy k known r f passes there page d e old new outcome → replied outcome ≡ 0
  by_quiet outcome page true h = swept_quiet outcome page h
  by_quiet outcome page false h = as_that d e old new outcome _ h.0 refl

  sweep_quiet : (outcome : Outcome B) (page : ℕ) (failed : Bool) → SweepComes k known r f passes page d e old new failed outcome → replied outcome ≡ 0
  sweep_quiet outcome page true h = as_that d e old new outcome _ h.0 refl
  sweep_quiet outcome page false h = by_quiet outcome page (is_page page old) h

  pub work_is_quiet : (event : Event B) (outcome : Outcome B) → StepComes k known r f passes IsKey spelling key d e event old new outcome → is_work event ≡ true → replied outcome ≡ 0
  work_is_quiet (Ask s call) outcome h is = let no : ⊥ = cc in absurd no
  work_is_quiet (Move s) outcome h is = let no : ⊥ = cc in absurd no
  work_is_quiet LogStep outcome h is = log_steps d e old new outcome old.sessions.failed (runs old.checkpoint) h
  work_is_quiet (WritePage page) outcome h is = page_writes d e old new outcome old page old.sessions.failed h
  work_is_quiet CheckpointStep outcome h is = checkpoint_steps d e old new outcome old.sessions.failed h
  work_is_quiet (Sweep page) outcome h is = sweep_quiet outcome page old.sessions.failed h
