-- An event that has work to do does it, or is refused.
use Rattle.std.proofs.Common.{◌≡◌, ◌⊎◌, inl, inr, ℕ, ◌<◌, ◌≤◌, Bool, true, false, List, refl, ap, sym, ◌∙◌, subst, arith}
use Rattle.std.specs.Prelude.{nat_le, ◌||◌, Result, Ok, Err, IfOk}
use Rattle.gx_class.specs.Traits.{traits_of}
use Rattle.gx_class.specs.declared.class.KeyClass.{Ghosts}
use Rattle.gx_geom.specs.declared.refusal.Refusal.{Refusal}
use Rattle.gx_disk.specs.Device.{Device}
use Rattle.gx_glog.specs.declared.stage.Stage.{Stage}
use Rattle.gx_glog.specs.declared.stage.Stage.TheVariants.{Body, BodySync, Gate, GateSync, Idle}
use Rattle.gx_glog.specs.declared.stage.Turn.{Turn}
use Rattle.gx_glog.specs.State.{GoesFrom}
use Rattle.gx_machine.specs.Keys.{Members}
use Rattle.gx_store.specs.declared.fault.StoreFault.{StoreFault}
use Rattle.gx_events.specs.declared.outcome.Need.{Need}
use Rattle.gx_events.specs.declared.outcome.Need.TheVariants as need
use Rattle.gx_events.specs.declared.outcome.Outcome.{Outcome}
use Rattle.gx_events.specs.declared.outcome.Outcome.TheVariants.{More, Refused}
use Rattle.gx_index_laws.specs.declared.TheConstants.{CHECKPOINT_AT}
use Rattle.gx_engine.specs.declared.checkpoint.Checkpoint.{Checkpoint}
use Rattle.gx_engine.specs.declared.checkpoint.Checkpoint.TheVariants.{Off, Running, Turning}
use Rattle.gx_engine.specs.Checkpoints.{CheckpointSteps, HeadComes, IsQuiet, RunsOn, StepsFrom, StepsOff, SyncComes, TurnComes}
use Rattle.gx_engine.specs.Flushing.{LogComes, LogGoes, LogSteps, PageComes, PageIsWritten}
use Rattle.gx_engine.specs.States.{Parts, is_due, runs}
use Rattle.gx_engine.specs.Backlog.{backlog, fillings, flight_left, log_left}
use Rattle.gx_engine.specs.Helping.{DoesWork, HasWork, HelpComes, event_of}
use Rattle.gx_engine.specs.Made.{Makes}
use Rattle.gx_engine.specs.Repeated.{GoesOn}
use Rattle.gx_engine.proofs.Lessening.{checkpoint_less, log_step_less, written_less}
use Rattle.gx_engine.proofs.Resting.{quiet_from}

-- it did work, or was refused
abbrev Did : {B : Type 0} → Outcome B → Type 0
Did given = (given ≡ More) ⊎ ((why : Refusal) × (given ≡ Refused why))

module _ {B D : Type 0} where
  log_did : (old new : Parts B D) (given : Outcome B) (result : Result Stage Refusal) → (result ≡ Ok Idle → ⊥) → LogComes old new given result → Did given
  log_did old new given (Ok Idle) some comes = absurd (some refl)
  log_did old new given (Ok Body) some comes = inl comes.0
  log_did old new given (Ok BodySync) some comes = inl comes.0
  log_did old new given (Ok Gate) some comes = inl comes.0
  log_did old new given (Ok GateSync) some comes = inl comes.0
  log_did old new given (Err why) some comes = inr (_, comes.0)

  -- a call that wasn't made leaves nothing in flight and nothing that fills
  none_made : (d e : Device) (old new : Parts B D) (result : Result Stage Refusal) → LogGoes d e old.volume new.volume result → result ≡ Ok Idle → IsQuiet old.volume
  none_made d e old new result goes is =
      let q = quiet_from old.volume.log.stage old.volume.log new.volume.log refl (subst (λ (r : Result Stage Refusal). GoesFrom old.volume.log.stage old.volume.log new.volume.log r) is goes.goes) in
      record { idle = q.0; quiet = q.1 }

  quiet_rests : (old : Parts B D) → IsQuiet old.volume → log_left old.volume.log ≡ 0
  quiet_rests old q =
      let a : flight_left old.volume.log.stage ≡ 0 = ap flight_left q.idle in
      let b : fillings old.volume.log.filling ≡ 0 = ap fillings q.quiet in
      omega (arith, a, b)

  log_step_did : (d e : Device) (old new : Parts B D) (failed running : Bool) (given : Outcome B) → running ≡ false → 1 ≤ log_left old.volume.log → LogSteps d e old new failed running given
      → Did given
  log_step_did d e old new true running given off some comes = inr (_, comes.0)
  log_step_did d e old new false true given off some comes = let no : ⊥ = cc in absurd no
  log_step_did d e old new false false given off some comes =
      log_did old new given comes.0
      (λ none. (let rests = quiet_rests old (none_made d e old new comes.0 comes.1 none) in omega (arith, rests, some))) comes.2

  page_did : (old new : Parts B D) (given : Outcome B) (result : Result Bool Refusal) (gated : Bool) → gated ≡ true → IfOk result (λ written. written ≡ gated) → PageComes old new given result
      → Did given
  page_did old new given (Ok true) gated is answer comes = inl comes.0
  page_did old new given (Ok false) gated is answer comes = let no : false ≡ true = answer ∙ is in let none : ⊥ = cc in absurd none
  page_did old new given (Err why) gated is answer comes = inr (_, comes.0)

  write_did : (d e : Device) (old new : Parts B D) (page : ℕ) (failed : Bool) (given : Outcome B) → HasWork (need.Write page) old → PageIsWritten page d e old new failed given → Did given
  write_did d e old new page true given gated comes = inr (_, comes.0)
  write_did d e old new page false given gated comes = page_did old new given comes.0 _ gated comes.1.answer comes.2

  head_did : (old new : Parts B D) (given : Outcome B) (put : Result (Unit {0}) StoreFault) → HeadComes old new given put → Did given
  head_did old new given (Ok done) comes = inl comes.0
  head_did old new given (Err fault) comes = inr (_, comes.0)

  sync_did : (old new : Parts B D) (given : Outcome B) (result : Result (Unit {0}) Refusal) → SyncComes old new given result → Did given
  sync_did old new given (Ok done) comes = head_did old new given comes.0 comes.1
  sync_did old new given (Err why) comes = inr (_, comes.0)

  turn_did : (old new : Parts B D) (given : Outcome B) (result : Result Turn Refusal) → TurnComes old new given result → Did given
  turn_did old new given (Ok call) comes = inl comes.0
  turn_did old new given (Err why) comes = inr (_, comes.0)

  runs_did : (d e : Device) (old new : Parts B D) (given : Outcome B) → RunsOn d e old new given → Did given
  runs_did d e old new given (inl gates) = log_did old new given gates.result (λ none. gates.busy (none_made d e old new gates.result gates.goes none)) gates.comes
  runs_did d e old new given (inr (inl (inl writes))) = write_did d e old new writes.page false given writes.least.0 writes.writes
  runs_did d e old new given (inr (inl (inr none))) = inr (_, none.broken.0)
  runs_did d e old new given (inr (inr begins)) = sync_did old new given begins.result begins.comes

  off_did : (d e : Device) (old new : Parts B D) (due : Bool) (given : Outcome B) → due ≡ true → StepsOff d e old new due given → Did given
  off_did d e old new false given is comes = let no : ⊥ = cc in absurd no
  off_did d e old new true given is comes = runs_did d e (record old { checkpoint = Running }) new given comes

  from_did : (d e : Device) (old new : Parts B D) (at : Checkpoint) (given : Outcome B) → old.checkpoint ≡ at → is_due old ≡ true → StepsFrom d e old new at given → Did given
  from_did d e old new Off given is due comes =
      off_did d e old new (nat_le CHECKPOINT_AT old.volume.log.used) given (sym (ap (λ c. runs c || nat_le CHECKPOINT_AT old.volume.log.used) is) ∙ due) comes
  from_did d e old new Running given is due comes = runs_did d e old new given comes
  from_did d e old new Turning given is due comes = turn_did old new given comes.result comes.comes

  checkpoint_did : (d e : Device) (old new : Parts B D) (failed : Bool) (given : Outcome B) → is_due old ≡ true → CheckpointSteps d e old new failed given → Did given
  checkpoint_did d e old new true given due comes = inr (_, comes.0)
  checkpoint_did d e old new false given due comes = from_did d e old new old.checkpoint given refl due comes

  -- and what did work leaves less to flush
  work_by : (old new : Parts B D) (given : Outcome B) → (GoesOn given → backlog new < backlog old) → Did given → DoesWork given old new
  work_by old new given less (inl more) = inl (more, less (subst GoesOn (sym more) tt))
  work_by old new given less (inr refused) = inr refused

  pub helps_by : (d e : Device) (old new : Parts B D) (n : Need) (given : Outcome B) → HasWork n old → HelpComes d e n old new given → DoesWork given old new
  helps_by d e old new need.Log given work comes =
      work_by old new given (λ on. log_step_less d e old new old.sessions.failed (runs old.checkpoint) given refl on comes)
      (log_step_did d e old new old.sessions.failed (runs old.checkpoint) given work.0 work.1 comes)
  helps_by d e old new (need.Write page) given work comes =
      work_by old new given (λ on. written_less d e old new page old.sessions.failed given on comes) (write_did d e old new page old.sessions.failed given work comes)
  helps_by d e old new need.Checkpoint given work comes =
      work_by old new given (λ on. checkpoint_less d e old new old.sessions.failed given on comes) (checkpoint_did d e old new old.sessions.failed given work comes)

module _ {C B D : Type 0} (shape : Members B) (proper : B → Bool) (said : List ℕ → B) (class : Ghosts C B) (state : D → Device) where
  pub helps : (old new : Parts B D) (n : Need) (given : Outcome B) → HasWork n old → Makes shape (traits_of proper said class) state old (event_of n) given new → DoesWork given old new
  helps old new need.Log given work made = helps_by _ _ old new need.Log given work made.comes
  helps old new (need.Write page) given work made = helps_by _ _ old new (need.Write page) given work made.comes
  helps old new need.Checkpoint given work made = helps_by _ _ old new need.Checkpoint given work made.comes
