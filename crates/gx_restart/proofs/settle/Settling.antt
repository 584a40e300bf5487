-- What a settling leaves: the sessions are as before, and at its end nothing is left to do.
use Rattle.std.proofs.Common.{◌≡◌, ◌⊎◌, inl, inr, ℕ, Bool, true, false, List, [], ◌∷◌, refl, subst, sym}
use Rattle.std.specs.Prelude.{Ok, Err, OnOk, Result}
use Rattle.gx_geom.specs.declared.refusal.Refusal.{Refusal}
use Rattle.gx_class.specs.Traits.{traits_of}
use Rattle.gx_class.specs.declared.class.KeyClass.{Ghosts}
use Rattle.gx_disk.specs.Device.{Device}
use Rattle.gx_machine.specs.Keys.{Members}
use Rattle.gx_events.specs.declared.event.Event.{Event}
use Rattle.gx_events.specs.declared.event.Event.TheVariants.{LogStep, CheckpointStep}
use Rattle.gx_events.specs.declared.outcome.Outcome.{Outcome}
use Rattle.gx_events.specs.declared.outcome.Outcome.TheVariants as outcome
use Rattle.gx_engine.specs.States.{Parts, runs}
use Rattle.gx_engine.specs.Made.{AreMade, Makes}
use Rattle.gx_engine.specs.Repeated.{AreAgain, IsGoingOn, IsRepeated}
use Rattle.gx_engine.specs.Resting.{IsAtRest, KeepsSessions, WorksOff}
use Rattle.gx_restart.specs.Settled.{SettlesBy, SettlesOn}
use Rattle.gx_restart.specs.States.{State}
use Rattle.gx_engine.proofs.Resting.{checkpoint_keeps, checkpoint_rests, keeps_all, keeps_joined, log_steps_keep, log_steps_rest, log_steps_work}

-- a step of a checkpoint or of the log
abbrev IsPart : {B : Type 0} → Event B → Type 0
IsPart event = (event ≡ CheckpointStep) ⊎ (event ≡ LogStep)

module _ {C B D : Type 0} (shape : Members B) (proper : B → Bool) (said : List ℕ → B) (class : Ghosts C B) (state : D → Device) where
  abbrev made : Parts B D → Event B → Outcome B → Parts B D → Type 0
  made = Makes shape (traits_of proper said class) state

  one_keeps : (event : Event B) (old : Parts B D) (given : Outcome B) (new : Parts B D) → IsPart event → made old event given new → KeepsSessions old new
  one_keeps event old given new (inl is) one =
      checkpoint_keeps _ _ old new old.sessions.failed given (subst (λ (e : Event B). made old e given new) is one).comes
  one_keeps event old given new (inr is) one =
      log_steps_keep _ _ old new old.sessions.failed (runs old.checkpoint) given (subst (λ (e : Event B). made old e given new) is one).comes

  all_keep : (event : Event B) (steps : List (Event B × Outcome B)) (old new : Parts B D) → IsPart event → AreAgain event steps → AreMade made old steps new → KeepsSessions old new
  all_keep event [] old new part again are = keeps_all old new are
  all_keep event (step ∷ steps) old new part again are =
      keeps_joined old are.0 new (one_keeps event old step.1 are.0 part (subst (λ (e : Event B). made old e step.1 are.0) again.0.0 are.1))
      (all_keep event steps are.0 new part again.1 are.2)

  going_keeps : (event : Event B) (old : Parts B D) (count : ℕ) (new : Parts B D) → IsPart event → IsGoingOn made event old count new → KeepsSessions old new
  going_keeps event old count new part on = all_keep event on.steps old new part on.again on.made

  repeated_keeps : (event : Event B) (old : Parts B D) (last : Outcome B) (new : Parts B D) → IsPart event → IsRepeated made event old last new → KeepsSessions old new
  repeated_keeps event old last new part r =
      keeps_joined old r.middle new (going_keeps event old r.count r.middle part r.before) (one_keeps event r.middle last new part r.last_made)

  settles_on_keeps : (old : Parts B D) (result : Result (Unit {0}) Refusal) (new : Parts B D) → SettlesOn made old result new → KeepsSessions old new
  settles_on_keeps old (Ok done) new (middle, first, second) =
      keeps_joined old middle new (repeated_keeps CheckpointStep old outcome.Nothing middle (inl refl) first) (repeated_keeps LogStep middle outcome.Nothing new (inr refl) second)
  settles_on_keeps old (Err why) new (inl first) = repeated_keeps CheckpointStep old (outcome.Refused why) new (inl refl) first
  settles_on_keeps old (Err why) new (inr (middle, first, second)) =
      keeps_joined old middle new (repeated_keeps CheckpointStep old outcome.Nothing middle (inl refl) first) (repeated_keeps LogStep middle (outcome.Refused why) new (inr refl) second)

  pub settles_keeps : (ended : Bool) (old : State B D) (result : Result (Unit {0}) Refusal) (new : State B D) → SettlesBy made ended old result new → KeepsSessions old.engine new.engine
  settles_keeps true old result new s = subst (λ (x : State B D). KeepsSessions old.engine x.engine) (sym s.1) refl
  settles_keeps false old result new s = settles_on_keeps old.engine result new.engine s.0

  -- at the end nothing is left to do

  all_work : (steps : List (Event B × Outcome B)) (old new : Parts B D) → WorksOff old → AreAgain LogStep steps → AreMade made old steps new → WorksOff new
  all_work [] old new was again are = subst WorksOff (sym are) was
  all_work (step ∷ steps) old new was again are =
      all_work steps are.0 new
      (log_steps_work _ _ old are.0 old.sessions.failed (runs old.checkpoint) step.1 refl refl was again.0.1
      (subst (λ (e : Event B). made old e step.1 are.0) again.0.0 are.1).comes) again.1 are.2

  checkpoint_off : (old new : Parts B D) → IsRepeated made CheckpointStep old outcome.Nothing new → WorksOff new
  checkpoint_off old new r =
      let off = checkpoint_rests _ _ r.middle new r.middle.sessions.failed refl r.last_made.comes in
      subst WorksOff (sym off.same) (record { off = off.off; works = off.works })

  settled : (old middle new : Parts B D) → IsRepeated made CheckpointStep old outcome.Nothing middle → IsRepeated made LogStep middle outcome.Nothing new → IsAtRest new
  settled old middle new first second =
      log_steps_rest _ _ second.middle new second.middle.sessions.failed (runs second.middle.checkpoint) refl refl
      (all_work second.before.steps middle second.middle (checkpoint_off old middle first) second.before.again second.before.made) second.last_made.comes

  pub settles_rests_on : (old : Parts B D) (result : Result (Unit {0}) Refusal) (new : Parts B D) → SettlesOn made old result new → OnOk result (IsAtRest new)
  settles_rests_on old (Ok done) new (middle, first, second) = settled old middle new first second
  settles_rests_on old (Err why) new s = tt
