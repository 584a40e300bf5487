-- What each event came to, as events of an engine: the step that joins them.
use Rattle.std.proofs.Common.{◌≡◌, sym, refl, subst, inl, inr, ℕ, ◌-◌, Bool, true, false, ◌&&◌, List, [], ◌∷◌}
use Rattle.std.specs.Prelude.{Result, Ok, Err}
use Rattle.std.proofs.lemmas.Bool.{and_parts}
use Rattle.gx_geom.specs.declared.refusal.Refusal.{Refusal}
use Rattle.gx_geom.specs.declared.refusal.Refusal.TheVariants as refusal
use Rattle.gx_machine.specs.declared.call.Call.{Call}
use Rattle.gx_machine.specs.declared.call.Call.TheVariants.{Begin, Insert, Delete, Search, Commit, Abort}
use Rattle.gx_machine.specs.declared.reply.Reply.TheVariants as reply
use Rattle.gx_machine.specs.declared.reply.Asked.{Asked as Given}
use Rattle.gx_machine.specs.declared.reply.Asked.TheVariants as asked
use Rattle.gx_machine.specs.Keys.{Keys}
use Rattle.gx_machine.specs.Machine.{is_session}
use Rattle.gx_disk.specs.Device.{Device}
use Rattle.gx_glog.specs.declared.stage.Stage.{Stage}
use Rattle.gx_glog.specs.declared.stage.Stage.TheVariants.{Body, BodySync, Gate, GateSync, Idle}
use Rattle.gx_events.specs.Engines.{Engine}
use Rattle.gx_events.specs.Happenings as laws
use Rattle.gx_events.specs.declared.outcome.Need.TheVariants as need
use Rattle.gx_events.specs.declared.outcome.Outcome.{Outcome}
use Rattle.gx_events.specs.declared.outcome.Outcome.TheVariants.{Replied, More, Help, Nothing, Refused}
use Rattle.gx_events.specs.Steps.{IsAsk, IsMove, IsSync, IsWork}
use Rattle.gx_phases.specs.Asked.{AskedAt, AskedBy, Begun, IsAsked, asked_event, begins, event_by, finds_full, is_full}
use Rattle.gx_phases.specs.declared.phase.Phase.{Phase}
use Rattle.gx_phases.specs.declared.phase.Phase.TheVariants as phase
use Rattle.gx_phases.specs.States.{State, phase_at}
use Rattle.gx_engine.specs.declared.work.Work.{Work}
use Rattle.gx_engine.specs.declared.work.Work.TheVariants.{Rests}
use Rattle.gx_engine.specs.Asks.{outcome_of}
use Rattle.gx_engine.specs.Flushing.{LogComes, LogSteps, PageComes, PageIsWritten, log_events, log_outcome, page_events}
use Rattle.gx_engine.specs.Commits.{AcknowledgeBy, AcknowledgeComes, AreSealing, SealComes, acknowledge_events}
use Rattle.gx_engine.specs.States.{Parts}

-- An ask.
module _ {B : Type 0} (k : Keys B) (s : ℕ) (call : Call B) (old new : State B (Work B)) (given : Given B) where
  ask_by : (failed full : Bool) → (failed ≡ true → given ≡ asked.Now (reply.Refused refusal.Failed)) → (failed ≡ false → full ≡ true → given ≡ asked.Now (reply.Refused refusal.HistoryFull))
      → IsAsk s call failed (outcome_of given) (event_by failed full s call given ∷ [])
  ask_by true full ends spent =
      subst (λ (x : Given B). IsAsk s call true (outcome_of x) (laws.RefusesAsk s call refusal.Failed ∷ [])) (sym (ends refl)) (inr (inl (refl, refl, refl)))
  ask_by false true ends spent =
      subst (λ (x : Given B). IsAsk s call false (outcome_of x) (laws.RefusesAsk s call refusal.HistoryFull ∷ [])) (sym (spent refl refl)) (inr (inr (refl, refl)))
  ask_by false false ends spent = by given
    where
      by : (x : Given B) → IsAsk s call false (outcome_of x) (laws.Asks s call x ∷ [])
      by (asked.Now r) = inl refl
      by asked.Open = refl

  spent_at : (p : Phase B (Work B)) (c : Call B) → begins c p ≡ true → is_full old ≡ true → AskedAt k s c Rests p old given new → given ≡ asked.Now (reply.Refused refusal.HistoryFull)
  spent_at phase.Free Begin it full at = (subst (λ b. Begun b s old given new) full at).0
  spent_at phase.Free (Insert e) it full at = let no : ⊥ = cc in absurd no
  spent_at phase.Free (Delete e) it full at = let no : ⊥ = cc in absurd no
  spent_at phase.Free (Search q) it full at = let no : ⊥ = cc in absurd no
  spent_at phase.Free Commit it full at = let no : ⊥ = cc in absurd no
  spent_at phase.Free Abort it full at = let no : ⊥ = cc in absurd no
  spent_at phase.Working c it full at = let no : ⊥ = cc in absurd no
  spent_at (phase.Open pending on) c it full at = let no : ⊥ = cc in absurd no
  spent_at (phase.Undoing restored on) c it full at = let no : ⊥ = cc in absurd no
  spent_at (phase.Waiting number) c it full at = let no : ⊥ = cc in absurd no

  pub ask_is : IsAsked k s call Rests old given new → IsAsk s call old.failed (outcome_of given) (asked_event s call old given ∷ [])
  ask_is is =
      ask_by old.failed (finds_full s call old)
      (λ failed. (subst (λ b. AskedBy k s call Rests b (is_session s) old given new) failed is).0)
      (λ works full.
      let there = and_parts (is_session s) (begins call (phase_at (s - 1) old.phases) && is_full old) full in
      let both = and_parts (begins call (phase_at (s - 1) old.phases)) (is_full old) there.1 in
      spent_at (phase_at (s - 1) old.phases) call both.0 both.1
      (subst (λ b. AskedBy k s call Rests false b old given new) there.0 (subst (λ b. AskedBy k s call Rests b (is_session s) old given new) works is)))

-- The flusher's events.
module _ {B D : Type 0} (d e : Device) (old new : Parts B D) where
  more_is : (stage : Stage) (number : ℕ) → IsSync {B = B} false More (log_events stage number More)
  more_is Idle number = (refl, inr (inl refl))
  more_is Body number = (refl, inl refl)
  more_is BodySync number = (refl, inl refl)
  more_is Gate number = (refl, inl refl)
  more_is GateSync number = (refl, inr (inr (number, refl)))

  nothing_is : (stage : Stage) (number : ℕ) → log_events {B = B} stage number Nothing ≡ []
  nothing_is Idle number = refl
  nothing_is Body number = refl
  nothing_is BodySync number = refl
  nothing_is Gate number = refl
  nothing_is GateSync number = refl

  ended_is : (stage : Stage) (number : ℕ) → log_events {B = B} stage number (Refused refusal.Failed) ≡ []
  ended_is Idle number = refl
  ended_is Body number = refl
  ended_is BodySync number = refl
  ended_is Gate number = refl
  ended_is GateSync number = refl

  fault_is : (stage : Stage) (number : ℕ) → IsSync {B = B} false (Refused refusal.Device) (log_events stage number (Refused refusal.Device))
  fault_is Idle number = (refl, inr refl)
  fault_is Body number = (refl, inl refl)
  fault_is BodySync number = (refl, inl refl)
  fault_is Gate number = (refl, inl refl)
  fault_is GateSync number = (refl, inl refl)

  by_stage : (before after : Stage) (number : ℕ) → IsSync {B = B} false (log_outcome after) (log_events before number (log_outcome after))
  by_stage before Idle number = (refl, nothing_is before number)
  by_stage before Body number = more_is before number
  by_stage before BodySync number = more_is before number
  by_stage before Gate number = more_is before number
  by_stage before GateSync number = more_is before number

  stepped : (stage : Stage) (number : ℕ) (outcome : Outcome B) (result : Result Stage Refusal) → LogComes old new outcome result → IsSync false outcome (log_events stage number outcome)
  stepped stage number outcome (Ok after) comes = subst (λ (o : Outcome B). IsSync false o (log_events stage number o)) (sym comes.0) (by_stage stage after number)
  stepped stage number outcome (Err why) comes = subst (λ (o : Outcome B). IsSync false o (log_events stage number o)) (sym comes.0) (fault_is stage number)

  pub log_is : (failed running : Bool) (stage : Stage) (number : ℕ) (outcome : Outcome B) → LogSteps d e old new failed running outcome → IsSync failed outcome (log_events stage number outcome)
  log_is true running stage number outcome steps = subst (λ (o : Outcome B). IsSync true o (log_events stage number o)) (sym steps.0) (refl, ended_is stage number)
  log_is false true stage number outcome steps = subst (λ (o : Outcome B). IsSync false o (log_events stage number o)) (sym steps.0) (refl, nothing_is stage number)
  log_is false false stage number outcome steps = stepped stage number outcome steps.0 steps.2

  written : (outcome : Outcome B) (result : Result Bool Refusal) → PageComes old new outcome result → IsWork false outcome (page_events outcome)
  written outcome (Ok true) comes = subst (λ (o : Outcome B). IsWork false o (page_events o)) (sym comes.0) (refl, refl)
  written outcome (Ok false) comes = subst (λ (o : Outcome B). IsWork false o (page_events o)) (sym comes.0) (refl, refl)
  written outcome (Err why) comes = subst (λ (o : Outcome B). IsWork false o (page_events o)) (sym comes.0) (refl, inr refl)

  pub page_is : (failed : Bool) (page : ℕ) (outcome : Outcome B) → PageIsWritten page d e old new failed outcome → IsWork failed outcome (page_events outcome)
  page_is true page outcome writes = subst (λ (o : Outcome B). IsWork true o (page_events o)) (sym writes.0) (refl, refl)
  page_is false page outcome writes = written outcome writes.0 writes.2

-- The moves of a commit.
module _ {B D : Type 0} (s : ℕ) (old new : Parts B D) (engine : Engine B) (works : engine.failed ≡ false) where
  pub seal_is : (number : ℕ) (outcome : Outcome B) (events : List (laws.Happening B)) → SealComes s old new outcome → AreSealing s number outcome events → IsMove s engine outcome events
  seal_is number More events comes are = (works, (laws.Seals s are.0 number, are.1, refl))
  seal_is number (Help need.Log) events comes are = (works, are)
  seal_is number (Help need.Checkpoint) events comes are = (works, are)
  seal_is number (Help (need.Write page)) events comes are = absurd comes
  seal_is number (Replied r) events comes are = absurd comes
  seal_is number Nothing events comes are = absurd comes
  seal_is number (Refused why) events comes are = absurd comes

  acknowledged : (b : Bool) (number : ℕ) (outcome : Outcome B) → AcknowledgeBy b s number old new outcome → IsMove s engine outcome (acknowledge_events s outcome)
  acknowledged true number outcome comes =
      subst (λ (o : Outcome B). IsMove s engine o (acknowledge_events s o)) (sym comes.0) (laws.Acknowledges s number, inl refl, (refl, refl))
  acknowledged false number outcome comes =
      subst (λ (o : Outcome B). IsMove s engine o (acknowledge_events s o)) (sym comes.0) (works, refl)

  pub acknowledge_is : (number : ℕ) (outcome : Outcome B) → AcknowledgeComes s number old new outcome → IsMove s engine outcome (acknowledge_events s outcome)
  acknowledge_is number outcome comes = acknowledged _ number outcome comes
