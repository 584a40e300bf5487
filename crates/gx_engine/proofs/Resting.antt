-- What checkpoint steps and log steps keep of the sessions, and what is left to do if there is nothing to do.
use Rattle.std.proofs.Common.{◌≡◌, inl, inr, Bool, true, false, [], refl, ap, sym, ◌∙◌, subst}
use Rattle.std.specs.Prelude.{nat_le, Ok, Err, Result, IfOk}
use Rattle.gx_geom.specs.declared.refusal.Refusal.{Refusal}
use Rattle.gx_disk.specs.Device.{Device}
use Rattle.gx_glog.specs.declared.stage.Stage.{Stage}
use Rattle.gx_glog.specs.declared.stage.Stage.TheVariants.{Idle, Body, BodySync, Gate, GateSync}
use Rattle.gx_glog.specs.State.{Log, GoesFrom, Made, begun}
use Rattle.gx_events.specs.declared.outcome.Outcome.{Outcome}
use Rattle.gx_events.specs.declared.outcome.Outcome.TheVariants as outcome
use Rattle.gx_index_laws.specs.declared.TheConstants.{CHECKPOINT_AT}
use Rattle.gx_engine.specs.declared.checkpoint.Checkpoint.{Checkpoint}
use Rattle.gx_engine.specs.declared.checkpoint.Checkpoint.TheVariants.{Off, Running, Turning}
use Rattle.gx_engine.specs.Checkpoints.{CheckpointSteps, HeadComes, IsQuiet, RunsOn, StepsFrom, StepsOff, SyncComes, TurnComes}
use Rattle.gx_engine.specs.Flushing.{LogComes, LogGoes, LogSteps, PageComes}
use Rattle.gx_phases.specs.States.{State as Sessions}
use Rattle.gx_engine.specs.declared.work.Work.{Work}
use Rattle.gx_engine.specs.States.{Parts, runs}
use Rattle.gx_engine.specs.Repeated.{GoesOn}
use Rattle.gx_engine.specs.Resting.{IsAtRest, KeepsSessions, WorksOff}

-- if the log has nothing to do, nothing is in flight or waits
nothing_made : (st : Stage) (due new : Log) → due.stage ≡ st → (st ≡ Idle → ⊥) → Made due new (Ok Idle) → ⊥
nothing_made st due new at busy made = busy (sym at ∙ sym made.0)

pub quiet_from : (st : Stage) (old new : Log) → old.stage ≡ st → GoesFrom st old new (Ok Idle) → (old.stage ≡ Idle) × (old.filling ≡ []) × (new ≡ old)
quiet_from Idle old new at (inl none) = (at, none.0, none.2)
quiet_from Idle old new at (inr begins) = absurd (nothing_made Body (begun old) new refl (λ no. cc) begins.1)
quiet_from Body old new at made = absurd (nothing_made Body old new at (λ no. cc) made)
quiet_from BodySync old new at made = absurd (nothing_made BodySync old new at (λ no. cc) made)
quiet_from Gate old new at made = absurd (nothing_made Gate old new at (λ no. cc) made)
quiet_from GateSync old new at made = absurd (nothing_made GateSync old new at (λ no. cc) made)

module _ {B D : Type 0} where
  pub keeps_all : (old new : Parts B D) → new ≡ old → KeepsSessions old new
  keeps_all old new same = subst (λ (x : Parts B D). KeepsSessions old x) (sym same) refl

  pub keeps_joined : (old middle new : Parts B D) → KeepsSessions old middle → KeepsSessions middle new → KeepsSessions old new
  keeps_joined old middle new first second =
      second ∙ ap (λ (x : Sessions B (Work B)). record x { durable = new.sessions.durable; failed = new.sessions.failed }) first

  is_kept : (old new other : Parts B D) → new ≡ other → KeepsSessions old other → KeepsSessions old new
  is_kept old new other same keeps = subst (λ (x : Parts B D). KeepsSessions old x) (sym same) keeps

  log_keeps : (old new : Parts B D) (given : Outcome B) (result : Result Stage Refusal) → LogComes old new given result → KeepsSessions old new
  log_keeps old new given (Ok Idle) comes = is_kept old new _ comes.1 refl
  log_keeps old new given (Ok Body) comes = is_kept old new _ comes.1 refl
  log_keeps old new given (Ok BodySync) comes = is_kept old new _ comes.1 refl
  log_keeps old new given (Ok Gate) comes = is_kept old new _ comes.1 refl
  log_keeps old new given (Ok GateSync) comes = is_kept old new _ comes.1 refl
  log_keeps old new given (Err why) comes = is_kept old new _ comes.1 refl

  pub page_keeps : (old new : Parts B D) (given : Outcome B) (result : Result Bool Refusal) → PageComes old new given result → KeepsSessions old new
  page_keeps old new given (Ok written) comes = is_kept old new _ comes.1 refl
  page_keeps old new given (Err why) comes = is_kept old new _ comes.1 refl

  head_keeps : (old new : Parts B D) (given : Outcome B) (put : _) → HeadComes old new given put → KeepsSessions old new
  head_keeps old new given (Ok done) comes = is_kept old new _ comes.1 refl
  head_keeps old new given (Err fault) comes = is_kept old new _ comes.1 refl

  sync_keeps : (old new : Parts B D) (given : Outcome B) (result : _) → SyncComes old new given result → KeepsSessions old new
  sync_keeps old new given (Ok done) comes = head_keeps old new given comes.0 comes.1
  sync_keeps old new given (Err why) comes = is_kept old new _ comes.1 refl

  turn_keeps : (old new : Parts B D) (given : Outcome B) (result : _) → TurnComes old new given result → KeepsSessions old new
  turn_keeps old new given (Ok call) comes = is_kept old new _ comes.1 refl
  turn_keeps old new given (Err why) comes = is_kept old new _ comes.1 refl

  runs_keeps : (d e : Device) (old new : Parts B D) (given : Outcome B) → RunsOn d e old new given → KeepsSessions old new
  runs_keeps d e old new given (inl gates) = log_keeps old new given gates.result gates.comes
  runs_keeps d e old new given (inr (inl (inl writes))) = page_keeps old new given writes.writes.0 writes.writes.2
  runs_keeps d e old new given (inr (inl (inr none))) = is_kept old new _ none.broken.1 refl
  runs_keeps d e old new given (inr (inr begins)) = sync_keeps old new given begins.result begins.comes

  off_keeps : (d e : Device) (old new : Parts B D) (due : Bool) (given : Outcome B) → StepsOff d e old new due given → KeepsSessions old new
  off_keeps d e old new false given comes = keeps_all old new comes.1
  off_keeps d e old new true given comes = runs_keeps d e (record old { checkpoint = Running }) new given comes

  from_keeps : (d e : Device) (old new : Parts B D) (at : Checkpoint) (given : Outcome B) → StepsFrom d e old new at given → KeepsSessions old new
  from_keeps d e old new Off given comes = off_keeps d e old new (nat_le CHECKPOINT_AT old.volume.log.used) given comes
  from_keeps d e old new Running given comes = runs_keeps d e old new given comes
  from_keeps d e old new Turning given comes = turn_keeps old new given comes.result comes.comes

  pub checkpoint_keeps : (d e : Device) (old new : Parts B D) (failed : Bool) (given : Outcome B) → CheckpointSteps d e old new failed given → KeepsSessions old new
  checkpoint_keeps d e old new true given comes = keeps_all old new comes.1
  checkpoint_keeps d e old new false given comes = from_keeps d e old new old.checkpoint given comes

  pub log_steps_keep : (d e : Device) (old new : Parts B D) (failed running : Bool) (given : Outcome B) → LogSteps d e old new failed running given → KeepsSessions old new
  log_steps_keep d e old new true running given comes = keeps_all old new comes.1
  log_steps_keep d e old new false true given comes = keeps_all old new comes.1
  log_steps_keep d e old new false false given comes = log_keeps old new given comes.0 comes.2

  -- Nothing is left to do.

  -- a step of the log that had nothing to do
  pub record RestsFrom (old new : Parts B D) : Type 0 where
    pub was : IsQuiet old.volume
    pub is : IsQuiet new.volume
    pub same : new ≡ record old { volume = new.volume }

  by_stage : (d e : Device) (old new : Parts B D) (result : Result Stage Refusal) → LogGoes d e old.volume new.volume result → LogComes old new outcome.Nothing result → RestsFrom old new
  by_stage d e old new (Ok Idle) goes comes =
      let q = quiet_from old.volume.log.stage old.volume.log new.volume.log refl goes.goes in
      record {
        was = record { idle = q.0; quiet = q.1 };
        is = record { idle = ap (λ l. l.stage) q.2 ∙ q.0; quiet = ap (λ l. l.filling) q.2 ∙ q.1 };
        same = comes.1;
      }
  by_stage d e old new (Ok Body) goes comes = let no : ⊥ = cc in absurd no
  by_stage d e old new (Ok BodySync) goes comes = let no : ⊥ = cc in absurd no
  by_stage d e old new (Ok Gate) goes comes = let no : ⊥ = cc in absurd no
  by_stage d e old new (Ok GateSync) goes comes = let no : ⊥ = cc in absurd no
  by_stage d e old new (Err why) goes comes = let no : ⊥ = cc in absurd no

  -- a checkpoint that runs has something to do
  head_works : (old new : Parts B D) (put : _) → HeadComes old new outcome.Nothing put → ⊥
  head_works old new (Ok done) comes = cc
  head_works old new (Err fault) comes = cc

  sync_works : (old new : Parts B D) (result : _) → SyncComes old new outcome.Nothing result → ⊥
  sync_works old new (Ok done) comes = head_works old new comes.0 comes.1
  sync_works old new (Err why) comes = cc

  turn_works : (old new : Parts B D) (result : _) → TurnComes old new outcome.Nothing result → ⊥
  turn_works old new (Ok call) comes = cc
  turn_works old new (Err why) comes = cc

  write_works : (old new : Parts B D) (result : Result Bool Refusal) (gated : Bool) → gated ≡ true → IfOk result (λ written. written ≡ gated)
      → PageComes old new outcome.Nothing result → ⊥
  write_works old new (Ok true) gated is answer comes = cc
  write_works old new (Ok false) gated is answer comes = let no : false ≡ true = answer ∙ is in cc
  write_works old new (Err why) gated is answer comes = cc

  runs_work : (d e : Device) (old new : Parts B D) → RunsOn d e old new outcome.Nothing → ⊥
  runs_work d e old new (inl gates) =
      gates.busy (by_stage d e old new gates.result gates.goes gates.comes).was
  runs_work d e old new (inr (inl (inl writes))) =
      write_works old new writes.writes.0 _ writes.least.0 writes.writes.1.answer writes.writes.2
  runs_work d e old new (inr (inl (inr none))) = let no : outcome.Nothing ≡ outcome.Refused _ = none.broken.0 in cc
  runs_work d e old new (inr (inr begins)) = sync_works old new begins.result begins.comes

  -- a checkpoint that had nothing to do
  pub record IsOff (old new : Parts B D) : Type 0 where
    pub off : old.checkpoint ≡ Off
    pub works : old.sessions.failed ≡ false
    pub same : new ≡ old

  off_rests : (d e : Device) (old new : Parts B D) (due : Bool) → StepsOff d e old new due outcome.Nothing → new ≡ old
  off_rests d e old new false comes = comes.1
  off_rests d e old new true comes = absurd (runs_work d e (record old { checkpoint = Running }) new comes)

  from_rests : (d e : Device) (old new : Parts B D) (at : Checkpoint) → StepsFrom d e old new at outcome.Nothing → (at ≡ Off) × (new ≡ old)
  from_rests d e old new Off comes = (refl, off_rests d e old new (nat_le CHECKPOINT_AT old.volume.log.used) comes)
  from_rests d e old new Running comes = absurd (runs_work d e old new comes)
  from_rests d e old new Turning comes = absurd (turn_works old new comes.result comes.comes)

  pub checkpoint_rests : (d e : Device) (old new : Parts B D) (failed : Bool) → old.sessions.failed ≡ failed → CheckpointSteps d e old new failed outcome.Nothing → IsOff old new
  checkpoint_rests d e old new true is comes = let no : ⊥ = cc in absurd no
  checkpoint_rests d e old new false is comes =
      let from = from_rests d e old new old.checkpoint comes in record { off = from.0; works = is; same = from.1 }

  log_works : (old new : Parts B D) (given : Outcome B) (result : Result Stage Refusal) → WorksOff old → GoesOn given → LogComes old new given result → WorksOff new
  log_works old new given (Ok Idle) was on comes =
      record { off = ap (λ x. x.checkpoint) comes.1 ∙ was.off; works = ap (λ x. x.sessions.failed) comes.1 ∙ was.works }
  log_works old new given (Ok Body) was on comes =
      record { off = ap (λ x. x.checkpoint) comes.1 ∙ was.off; works = ap (λ x. x.sessions.failed) comes.1 ∙ was.works }
  log_works old new given (Ok BodySync) was on comes =
      record { off = ap (λ x. x.checkpoint) comes.1 ∙ was.off; works = ap (λ x. x.sessions.failed) comes.1 ∙ was.works }
  log_works old new given (Ok Gate) was on comes =
      record { off = ap (λ x. x.checkpoint) comes.1 ∙ was.off; works = ap (λ x. x.sessions.failed) comes.1 ∙ was.works }
  log_works old new given (Ok GateSync) was on comes =
      record { off = ap (λ x. x.checkpoint) comes.1 ∙ was.off; works = ap (λ x. x.sessions.failed) comes.1 ∙ was.works }
  log_works old new given (Err why) was on comes = absurd (subst GoesOn comes.0 on)

  pub log_steps_work : (d e : Device) (old new : Parts B D) (failed running : Bool) (given : Outcome B) → old.sessions.failed ≡ failed → runs old.checkpoint ≡ running
      → WorksOff old → GoesOn given → LogSteps d e old new failed running given → WorksOff new
  log_steps_work d e old new true running given is run was on comes = absurd (subst GoesOn comes.0 on)
  log_steps_work d e old new false true given is run was on comes = absurd (subst GoesOn comes.0 on)
  log_steps_work d e old new false false given is run was on comes = log_works old new given comes.0 was on comes.2

  pub log_steps_rest : (d e : Device) (old new : Parts B D) (failed running : Bool) → old.sessions.failed ≡ failed → runs old.checkpoint ≡ running
      → WorksOff old → LogSteps d e old new failed running outcome.Nothing → IsAtRest new
  log_steps_rest d e old new true running is run was comes = let no : true ≡ false = sym is ∙ was.works in cc
  log_steps_rest d e old new false true is run was comes = let no : true ≡ false = sym run ∙ ap runs was.off in cc
  log_steps_rest d e old new false false is run was comes =
      let rests = by_stage d e old new comes.0 comes.1 comes.2 in
      record {
        works = ap (λ x. x.sessions.failed) rests.same ∙ was.works;
        off = ap (λ x. x.checkpoint) rests.same ∙ was.off;
        quiet = rests.is;
      }
