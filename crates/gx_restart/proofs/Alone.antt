-- What events one after another are of an index, and of the machine that it is seen as.
use Rattle.std.proofs.Common.{◌≡◌, ◌≢◌, inl, inr, ℕ, Bool, true, false, List, [], ◌∷◌, ◌++◌, length, refl, ap, sym, ◌∙◌, subst}
use Rattle.std.specs.Prelude.{Result, Ok, Err}
use Rattle.std.proofs.lemmas.List.{length-map}
use Rattle.gx_geom.specs.declared.refusal.Refusal.{Refusal}
use Rattle.gx_geom.specs.declared.refusal.Refusal.TheVariants.{Damaged}
use Rattle.gx_class.specs.Traits.{traits_of}
use Rattle.gx_class.specs.declared.class.KeyClass.{Ghosts}
use Rattle.gx_machine.specs.declared.entry.Entry.{Entry}
use Rattle.gx_machine.specs.declared.call.Call.{Call}
use Rattle.gx_machine.specs.declared.reply.Reply.{Reply}
use Rattle.gx_machine.specs.Keys.{Members}
use Rattle.gx_machine.specs.Machine.{Machine}
use Rattle.gx_disk.specs.Device.{Device}
use Rattle.gx_disk.proofs.Leaving.{leaves_joined, leaves_weaker, nothing_leaves}
use Rattle.gx_page.specs.Contents.{Contents}
use Rattle.gx_node.specs.Reading.{Format, format_of, is_node}
use Rattle.gx_events.specs.Engines.{Engine, SeenAs, session_of}
use Rattle.gx_events.specs.Happenings as laws
use Rattle.gx_recovery.specs.Known.{Limits}
use Rattle.gx_recovery.specs.Records.{Record}
use Rattle.gx_index_laws.specs.Classes.{Class, IsLawful, Page}
use Rattle.gx_index_laws.specs.Happening.{AreHappening}
use Rattle.gx_index_laws.specs.States as index
use Rattle.gx_index_laws.specs.States.{engine_of}
use Rattle.gx_durable.specs.Spelled.{Reading}
use Rattle.gx_durable.specs.Classes.{class_of, reading_of}
use Rattle.gx_events.specs.declared.event.Event.{Event}
use Rattle.gx_events.specs.declared.event.Event.TheVariants.{Ask, Move, LogStep, WritePage, CheckpointStep, Sweep}
use Rattle.gx_events.specs.declared.outcome.Outcome.{Outcome}
use Rattle.gx_events.specs.declared.outcome.Outcome.TheVariants.{Nothing, Refused}
use Rattle.gx_events.specs.declared.driver.Next.TheVariants.{Run, Done}
use Rattle.gx_events.specs.Steps.{AreOf}
use Rattle.gx_engine.specs.Holds.{Holds}
use Rattle.gx_engine.specs.Running.{AreSteps, StandsForOne}
use Rattle.gx_engine.specs.States.{Parts}
use Rattle.gx_engine.proofs.Machines.{event_happens}
use Rattle.gx_engine.proofs.Running.{ran}
use Rattle.gx_restart.specs.Alone.{CallsAlone, HaveHappened, RunsAs, RunsOn}
use Rattle.gx_engine.specs.Driven.{AreDriven, IsDriven, IsGivenUp}
use Rattle.gx_engine.specs.Helping.{AskedEnds, HoldsIndex}
use Rattle.gx_restart.specs.Called.{CallsBy, CallsIndex, StepsBy}
use Rattle.gx_engine.specs.Made.{AreMade, Makes}
use Rattle.gx_restart.specs.Settled.{SettlesBy, SettlesOn}
use Rattle.gx_restart.specs.States.{State}
use Rattle.gx_restart.proofs.Driving.{called}
use Rattle.gx_engine.proofs.Making.{made_joined}
use Rattle.gx_engine.proofs.Repeating.{repeated_made}
use Rattle.gx_engine.proofs.Stepping.{steps_made}

-- no event of an index finds damage
unharmed_by : {B : Type 0} (e : Engine B) (event : Event B) (events : List (laws.Happening B)) → AreOf e event (Refused Damaged) events → ⊥
unharmed_by e (Ask s call) events of = of
unharmed_by e (Move s) events of = of
unharmed_by e LogStep events of = of
unharmed_by e (WritePage page) events of = of
unharmed_by e CheckpointStep events of = of
unharmed_by e (Sweep page) events of = of

unharmed : {B : Type 0} (e : Engine B) (event : Event B) (given : Outcome B) (events : List (laws.Happening B)) → AreOf e event given events → given ≢ Refused Damaged
unharmed e event given events of is = unharmed_by e event events (subst (λ x. AreOf e event x events) is of)

-- what happened, and then happened more, happened
pub happening_joined : {B : Type 0} (c : Class B) (i j k : index.State B) (first next : List (laws.Happening B)) → AreHappening c i first j → AreHappening c j next k
    → AreHappening c i (first ++ next) k
happening_joined c i j k [] next one other = subst (λ (x : _). AreHappening c x next k) one other
happening_joined c i j k (event ∷ first) next one other = (one.0, one.1, happening_joined c one.0 j k first next one.2 other)

module _ {B D : Type 0} (c : Class B) (lawful : IsLawful c) (r : Reading (Entry B) (Page B)) (f : Format B) (passes : ℕ → Contents → Bool) (state : D → Device) where
  abbrev at : Parts B D → Device
  at e = state e.volume.shelf.disk

  -- the events of an index are the machine's, too
  pub happened : (steps : List (Event B × Outcome B)) (old new : Parts B D) → AreSteps c r f passes state old steps new
      → (bodies : List (List (Record (Entry B) (Page B)))) (i : index.State B) → Holds c r f passes (at old) old bodies i
      → (m : Machine B) → SeenAs c.keys (engine_of c i) m → RunsAs c r f passes (at old) (at new) new i (λ n. HaveHappened c.keys m steps n)
  happened [] old new same bodies i h m seen =
      subst (λ (x : Parts B D). RunsAs c r f passes (at old) (at x) x i (λ n. HaveHappened c.keys m [] n)) (sym same) (record {
        ran = record {
          passed = [];
          events = [];
          bodies = bodies;
          index = i;
          happening = refl;
          holds = h;
          leaves = nothing_leaves (StandsForOne c r f passes []) (at old);
        };
        machine = m;
        seen = seen;
        runs = refl;
      })
  happened (step ∷ steps) old new (middle, one, others) bodies i h m seen =
      let stepped = one bodies i h in
      let first = stepped.led in
      let moved = event_happens c lawful i first.index h.whole step.0 step.1 stepped.events stepped.are first.happening m seen in
      let rest = happened steps middle new others first.bodies first.index first.holds moved.0 moved.2 in
      record {
        ran = record {
          passed = i ∷ rest.ran.passed;
          events = stepped.events ++ rest.ran.events;
          bodies = rest.ran.bodies;
          index = rest.ran.index;
          happening = happening_joined c i first.index rest.ran.index stepped.events rest.ran.events first.happening rest.ran.happening;
          holds = rest.ran.holds;
          leaves =
              leaves_joined (StandsForOne c r f passes (i ∷ rest.ran.passed)) (at old) (at middle) (at new)
              (leaves_weaker _ (StandsForOne c r f passes (i ∷ rest.ran.passed)) (at old) (at middle) (λ image stands. inl stands) first.leaves)
              (leaves_weaker (StandsForOne c r f passes rest.ran.passed) (StandsForOne c r f passes (i ∷ rest.ran.passed)) (at middle) (at new) (λ image stands. inr stands) rest.ran.leaves);
        };
        machine = rest.machine;
        seen = rest.seen;
        runs = (moved.0, unharmed (engine_of c i) step.0 step.1 stepped.events stepped.are, moved.1, rest.runs);
      }

  -- a call that is run to its end is asked alone
  pub alone : (s : ℕ) (call : Call B) (reply : Reply B) (steps : List (Event B × Outcome B)) (old new : Parts B D) → AreSteps c r f passes state old steps new
      → AreDriven s (Run (Ask s call)) steps (Done reply) → CallsAlone c r f passes state s call reply old new
  alone s call reply steps old new made driven bodies i h m seen =
      let all = happened steps old new made bodies i h m seen in
      let eight : length m.sessions ≡ 8 = ap length seen.sessions ∙ (length-map i.slots (session_of c.keys (engine_of c i).live) ∙ h.whole.sound.eight) in
      let shows = called c.keys s call m all.machine steps reply eight driven all.runs in
      record {
        ran = all.ran;
        machine = all.machine;
        seen = all.seen;
        runs = record { steps = shows.steps; runs = shows.runs; record_is = shows.items_are; in_call = shows.in_call };
      }

module _ {C B D : Type 0} (shape : Members B) (proper : B → Bool) (said : List ℕ → B) (class : Ghosts C B) (state : D → Device) (l : Limits) where
  abbrev makes : Parts B D → Event B → Outcome B → Parts B D → Type 0
  makes = Makes shape (traits_of proper said class) state

  abbrev Runs : Parts B D → Parts B D → Type 0
  Runs = RunsOn (class_of shape proper l) (reading_of said (format_of class)) (format_of class) (is_node (format_of class)) state

  -- what was made, as steps by an index's limits
  pub runs_made : (steps : List (Event B × Outcome B)) (old new : Parts B D) → AreMade makes old steps new → Runs old new
  runs_made steps old new made bodies i h = ran _ _ _ _ state steps old new (steps_made shape proper said class state l steps old new made) bodies i h

  pub runs_same : (old new : Parts B D) → new ≡ old → Runs old new
  runs_same old new same = runs_made [] old new same

  -- a call's events
  pub calls_run : (ended : Bool) (old : State B D) (s : ℕ) (call : Call B) (reply : Reply B) (new : State B D) → CallsBy makes ended old s call reply new → Runs old.engine new.engine
  calls_run true old s call reply new calls = runs_same old.engine new.engine (ap (λ x. x.engine) calls.1)
  calls_run false old s call reply new (inl calls) = runs_made calls.0.steps old.engine new.engine calls.0.made
  calls_run false old s call reply new (inr given_up) = runs_made given_up.0.1.steps old.engine new.engine given_up.0.1.made

  -- one event
  pub steps_run : (ended : Bool) (old : State B D) (event : Event B) (given : Outcome B) (new : State B D) → StepsBy makes ended old event given new → Runs old.engine new.engine
  steps_run true old event given new steps = runs_same old.engine new.engine (ap (λ x. x.engine) steps.1)
  steps_run false old event given new steps = runs_made ((event, given) ∷ []) old.engine new.engine (new.engine, steps.0, refl)

  -- the events of a settling
  settled_on : (old : Parts B D) (result : Result (Unit {0}) Refusal) (new : Parts B D) → SettlesOn makes old result new → (steps : List (Event B × Outcome B)) × AreMade makes old steps new
  settled_on old (Ok done) new (middle, first, second) =
      let one = repeated_made makes CheckpointStep old Nothing middle first in
      let two = repeated_made makes LogStep middle Nothing new second in
      (one.0 ++ two.0, made_joined makes one.0 two.0 old middle new one.1 two.1)
  settled_on old (Err why) new (inl first) = repeated_made makes CheckpointStep old (Refused why) new first
  settled_on old (Err why) new (inr (middle, first, second)) =
      let one = repeated_made makes CheckpointStep old Nothing middle first in
      let two = repeated_made makes LogStep middle (Refused why) new second in
      (one.0 ++ two.0, made_joined makes one.0 two.0 old middle new one.1 two.1)

  pub settled_by : (ended : Bool) (old : State B D) (result : Result (Unit {0}) Refusal) (new : State B D) → SettlesBy makes ended old result new → Runs old.engine new.engine
  settled_by true old result new s = runs_same old.engine new.engine (ap (λ x. x.engine) s.1)
  settled_by false old result new s = let all = settled_on old.engine result new.engine s.0 in runs_made all.0 old.engine new.engine all.1

  abbrev Alone : ℕ → Call B → Reply B → Parts B D → Parts B D → Type 0
  Alone = CallsAlone (class_of shape proper l) (reading_of said (format_of class)) (format_of class) (is_node (format_of class)) state

  called_alone : (old : Parts B D) (s : ℕ) (call : Call B) (reply : Reply B) (new : Parts B D) → IsDriven makes s (Ask s call) old reply new → IsLawful (class_of shape proper l)
      → Alone s call reply old new
  called_alone old s call reply new calls lawful =
      alone (class_of shape proper l) lawful (reading_of said (format_of class)) (format_of class) (is_node (format_of class)) state s call reply calls.steps old new
      (steps_made shape proper said class state l calls.steps old new calls.made) calls.driven

  -- a call that is not given up
  was_called : (ended : Bool) (old : State B D) (s : ℕ) (call : Call B) (reply : Reply B) (new : State B D) → ended ≡ false
      → (IsGivenUp makes s (Ask s call) old.engine new.engine → ⊥) → CallsBy makes ended old s call reply new
      → IsDriven makes s (Ask s call) old.engine reply new.engine × (new.ended ≡ false)
  was_called true old s call reply new was never calls = let no : ⊥ = cc in absurd no
  was_called false old s call reply new was never (inl calls) = calls
  was_called false old s call reply new was never (inr given_up) = absurd (never given_up.0)

  pub call_alone : (old : State B D) (s : ℕ) (call : Call B) (reply : Reply B) (new : State B D) → CallsIndex makes old s call reply new → old.ended ≡ false
      → AskedEnds shape (traits_of proper said class) state l → IsLawful (class_of shape proper l) → Alone s call reply old.engine new.engine
  call_alone old s call reply new calls was never lawful bodies i h =
      called_alone old.engine s call reply new.engine (was_called old.ended old s call reply new was (never old.engine new.engine s call bodies i h) calls).0 lawful bodies i h

  -- and the index goes on
  pub call_goes_on : (old : State B D) (s : ℕ) (call : Call B) (reply : Reply B) (new : State B D) → CallsIndex makes old s call reply new → old.ended ≡ false
      → AskedEnds shape (traits_of proper said class) state l → (bodies : List (List (Record (Entry B) (Page B)))) (i : index.State B) → HoldsIndex shape (traits_of proper said class) state l old.engine bodies i
      → new.ended ≡ false
  call_goes_on old s call reply new calls was never bodies i h =
      (was_called old.ended old s call reply new was (never old.engine new.engine s call bodies i h) calls).1
