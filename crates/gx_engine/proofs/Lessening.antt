-- Each step of the log and of a checkpoint that did work, and each page's write, leaves less to flush.
use Rattle.std.proofs.Common.{◌≡◌, inl, inr, ℕ, ◌+◌, ◌<◌, ◌≤◌, Bool, true, false, Option, None, Some, List, [], ◌∷◌, length, refl, ap, sym, ◌∙◌, subst, arith}
use Rattle.std.specs.Prelude.{nat_le, Result, Ok, Err}
use Rattle.std.proofs.lemmas.Bool.{leb-true, le-leb}
use Rattle.gx_geom.specs.declared.refusal.Refusal.{Refusal}
use Rattle.gx_class.specs.Traits.{traits_of}
use Rattle.gx_class.specs.declared.class.KeyClass.{Ghosts}
use Rattle.gx_machine.specs.Keys.{Members}
use Rattle.gx_disk.specs.Device.{Device}
use Rattle.gx_glog.specs.declared.stage.Stage.{Stage}
use Rattle.gx_glog.specs.declared.stage.Stage.TheVariants.{Body, BodySync, Gate, GateSync, Idle}
use Rattle.gx_glog.specs.declared.stage.Turn.{Turn}
use Rattle.gx_glog.specs.declared.stage.Turn.TheVariants as turn
use Rattle.gx_glog.specs.State.{Log, GoesFrom, Made, after, after_turn, begun, Turns}
use Rattle.gx_pool.specs.Marks.{is_gated}
use Rattle.gx_pool.specs.State.{Kept, State as Frames, dirty_count, kept, stamp_of}
use Rattle.gx_pool.proofs.Numbers.{clean_dirty_apart}
use Rattle.gx_pool.specs.declared.frames.TheConstants.{FRAMES}
use Rattle.gx_durable.specs.Steps.{told_frames}
use Rattle.gx_durable.specs.Turns.{told_result}
use Rattle.gx_store.specs.declared.fault.StoreFault.{StoreFault}
use Rattle.gx_index_laws.specs.declared.TheConstants.{CHECKPOINT_AT}
use Rattle.gx_storage.specs.State.{Volume}
use Rattle.gx_events.specs.declared.event.Event.{Event}
use Rattle.gx_events.specs.declared.event.Event.TheVariants.{CheckpointStep, LogStep}
use Rattle.gx_events.specs.declared.outcome.Outcome.{Outcome}
use Rattle.gx_engine.specs.declared.checkpoint.Checkpoint.{Checkpoint}
use Rattle.gx_engine.specs.declared.checkpoint.Checkpoint.TheVariants.{Off, Running, Turning}
use Rattle.gx_engine.specs.Checkpoints.{after_call, CheckpointSteps, HeadComes, RunsOn, StepsFrom, StepsOff, SyncComes, TurnsNext, TurnComes}
use Rattle.gx_engine.specs.Flushing.{LogComes, LogGoes, LogSteps, PageComes, PageGoes, PageIsWritten}
use Rattle.gx_engine.specs.States.{IsOrderly, Parts, runs}
use Rattle.gx_engine.specs.Backlog.{backlog, checkpoint_left, coming, fillings, flight_left, log_left, places, turn_left}
use Rattle.gx_engine.specs.Made.{AreMade, Makes}
use Rattle.gx_engine.specs.Repeated.{AreAgain, GoesOn, IsFlushing, IsGoingOn}

-- ---- the log

pub one_fills : (bytes : List ℕ) → 1 ≤ length bytes → fillings bytes ≡ 1
one_fills [] some = let no : ⊥ = omega (arith, some) in absurd no
one_fills (byte ∷ bytes) some = refl

few_fill : (bytes : List ℕ) → fillings bytes ≤ 1
few_fill [] = omega arith
few_fill (byte ∷ bytes) = omega arith

-- a call of the log was made
record LogLess (old new : Log) : Type 0 where
  less : log_left new + 1 ≤ log_left old
  same : places new ≡ places old

less_by : (old new next : Log) → new ≡ next → log_left next + 1 ≤ log_left old → places next ≡ places old → LogLess old new
less_by old new next is less same = subst (λ (l : Log). LogLess old l) (sym is) (record { less = less; same = same })

made_less : (st : Stage) (old new : Log) (made : Stage) → old.stage ≡ st → (st ≡ Idle → ⊥) → Made old new (Ok made) → LogLess old new
made_less Idle old new made at busy is = absurd (busy refl)
made_less Body old new made at busy is =
    let left : flight_left old.stage ≡ 4 = ap flight_left at in
    less_by old new (after Body old) (is.1 ∙ ap (λ s. after s old) at) (omega (arith, left)) refl
made_less BodySync old new made at busy is =
    let left : flight_left old.stage ≡ 3 = ap flight_left at in
    less_by old new (after BodySync old) (is.1 ∙ ap (λ s. after s old) at) (omega (arith, left)) refl
made_less Gate old new made at busy is =
    let left : flight_left old.stage ≡ 2 = ap flight_left at in
    less_by old new (after Gate old) (is.1 ∙ ap (λ s. after s old) at) (omega (arith, left)) refl
made_less GateSync old new made at busy is =
    let left : flight_left old.stage ≡ 1 = ap flight_left at in
    less_by old new (after GateSync old) (is.1 ∙ ap (λ s. after s old) at) (omega (arith, left)) refl

goes_less : (st : Stage) (old new : Log) (made : Stage) → old.stage ≡ st → (made ≡ Idle → ⊥) → GoesFrom st old new (Ok made) → LogLess old new
goes_less Idle old new made at did (inl none) = let is = none.1 in let same : made ≡ Idle = cc in absurd (did same)
goes_less Idle old new made at did (inr begins) =
    let left : flight_left old.stage ≡ 0 = ap flight_left at in
    let one : fillings old.filling ≡ 1 = one_fills old.filling begins.0 in
    less_by old new (after Body (begun old)) begins.1.1 (omega (arith, left, one)) (omega (arith, one))
goes_less Body old new made at did goes = made_less Body old new made at (λ no. cc) goes
goes_less BodySync old new made at did goes = made_less BodySync old new made at (λ no. cc) goes
goes_less Gate old new made at did goes = made_less Gate old new made at (λ no. cc) goes
goes_less GateSync old new made at did goes = made_less GateSync old new made at (λ no. cc) goes

-- ---- a checkpoint's part

turn_few : (t : Turn) → turn_left t ≤ 7
turn_few turn.Closed = omega arith
turn_few turn.Body = omega arith
turn_few turn.BodySync = omega arith
turn_few turn.Gate = omega arith
turn_few turn.GateSync = omega arith
turn_few turn.Selector = omega arith
turn_few turn.Done = omega arith

coming_few : (due : Bool) → coming due ≤ 9
coming_few true = omega arith
coming_few false = omega arith

checkpoint_few : (at : Checkpoint) (log : Log) → checkpoint_left at log ≤ 9
checkpoint_few Off log = coming_few (nat_le CHECKPOINT_AT (places log))
checkpoint_few Running log = omega arith
checkpoint_few Turning log = let few = turn_few log.turn in omega (arith, few)

flight_few : (st : Stage) → flight_left st ≤ 4
flight_few Idle = omega arith
flight_few Body = omega arith
flight_few BodySync = omega arith
flight_few Gate = omega arith
flight_few GateSync = omega arith

-- after a turn none is due: one place is taken
none_coming : (bytes : List ℕ) → coming (nat_le CHECKPOINT_AT (1 + fillings bytes)) ≡ 0
none_coming [] = refl
none_coming (byte ∷ bytes) = refl

due_by : (used more : ℕ) → nat_le CHECKPOINT_AT used ≡ true → coming (nat_le CHECKPOINT_AT (used + more)) ≡ 9
due_by used more due = let low = leb-true CHECKPOINT_AT used due in ap coming (le-leb CHECKPOINT_AT (used + more) (omega (arith, low)))

left_same : (at : Checkpoint) (old new : Log) → (at ≡ Turning → ⊥) → places new ≡ places old → checkpoint_left at new ≡ checkpoint_left at old
left_same Off old new still same = ap (λ n. coming (nat_le CHECKPOINT_AT n)) same
left_same Running old new still same = refl
left_same Turning old new still same = absurd (still refl)

off_of : (at : Checkpoint) → runs at ≡ false → at ≡ Off
off_of Off is = refl
off_of Running is = let no : ⊥ = cc in absurd no
off_of Turning is = let no : ⊥ = cc in absurd no

-- ---- an engine's

told_dirty : (result : Result Stage Refusal) (log : Log) (frames : Frames) → dirty_count (told_frames result log frames) ≡ dirty_count frames
told_dirty (Ok Idle) log frames = refl
told_dirty (Ok Body) log frames = refl
told_dirty (Ok BodySync) log frames = refl
told_dirty (Ok Gate) log frames = refl
told_dirty (Ok GateSync) log frames = refl
told_dirty (Err why) log frames = refl

turned_dirty : (call : Turn) (frames : Frames) → dirty_count (told_result (Ok call) frames) ≡ dirty_count frames
turned_dirty turn.Closed frames = refl
turned_dirty turn.Body frames = refl
turned_dirty turn.BodySync frames = refl
turned_dirty turn.Gate frames = refl
turned_dirty turn.GateSync frames = refl
turned_dirty turn.Selector frames = refl
turned_dirty turn.Done frames = refl

module _ {B D : Type 0} where
  abbrev dirty : Parts B D → ℕ
  dirty e = dirty_count e.volume.shelf.frames

  abbrev left : Parts B D → ℕ
  left e = checkpoint_left e.checkpoint e.volume.log

  pub few_left : (e : Parts B D) → dirty e ≤ FRAMES → backlog e < 8192
  few_left e few =
      let flight = flight_few e.volume.log.stage in
      let fill = few_fill e.volume.log.filling in
      let rest = checkpoint_few e.checkpoint e.volume.log in
      omega (arith, few, flight, fill, rest)

  -- the log's next call was made
  log_sums : (old new : Parts B D) (at : Checkpoint) → old.checkpoint ≡ at → (at ≡ Turning → ⊥) → new.checkpoint ≡ old.checkpoint
      → LogLess old.volume.log new.volume.log → dirty new ≡ dirty old → backlog new < backlog old
  log_sums old new at is still same log clean =
      let now : left new ≡ checkpoint_left at new.volume.log = ap (λ c. checkpoint_left c new.volume.log) (same ∙ is) in
      let was : left old ≡ checkpoint_left at old.volume.log = ap (λ c. checkpoint_left c old.volume.log) is in
      let rest = left_same at old.volume.log new.volume.log still log.same in
      let less = log.less in
      omega (arith, now, was, rest, less, clean)

  log_made : (d e : Device) (old new : Parts B D) (at : Checkpoint) (stage : Stage) → old.checkpoint ≡ at → (at ≡ Turning → ⊥) → (stage ≡ Idle → ⊥)
      → LogGoes d e old.volume new.volume (Ok stage) → new.checkpoint ≡ old.checkpoint → backlog new < backlog old
  log_made d e old new at stage is still did goes same =
      log_sums old new at is still same (goes_less old.volume.log.stage old.volume.log new.volume.log stage refl did goes.goes)
      (ap (λ (v : Volume D). dirty_count v.shelf.frames) goes.only ∙ told_dirty (Ok stage) new.volume.log old.volume.shelf.frames)

  log_less : (d e : Device) (old new : Parts B D) (at : Checkpoint) (given : Outcome B) (result : Result Stage Refusal) → old.checkpoint ≡ at → (at ≡ Turning → ⊥) → GoesOn given
      → LogGoes d e old.volume new.volume result → LogComes old new given result → backlog new < backlog old
  log_less d e old new at given (Ok Idle) is still on goes comes = absurd (subst GoesOn comes.0 on)
  log_less d e old new at given (Ok Body) is still on goes comes = log_made d e old new at Body is still (λ no. cc) goes (ap (λ x. x.checkpoint) comes.1)
  log_less d e old new at given (Ok BodySync) is still on goes comes = log_made d e old new at BodySync is still (λ no. cc) goes (ap (λ x. x.checkpoint) comes.1)
  log_less d e old new at given (Ok Gate) is still on goes comes = log_made d e old new at Gate is still (λ no. cc) goes (ap (λ x. x.checkpoint) comes.1)
  log_less d e old new at given (Ok GateSync) is still on goes comes = log_made d e old new at GateSync is still (λ no. cc) goes (ap (λ x. x.checkpoint) comes.1)
  log_less d e old new at given (Err why) is still on goes comes = absurd (subst GoesOn comes.0 on)

  -- a page was written
  fewer_by : (d e : Device) (old new : Parts B D) (page : ℕ) (x : Option Kept) (gated : Bool) → kept old.volume.shelf.frames page ≡ x
      → is_gated old.volume.shelf.frames.gated (stamp_of x) ≡ gated → PageGoes page d e old.volume new.volume (Ok true) → dirty new + 1 ≡ dirty old
  fewer_by d e old new page None true is gated goes = let no : ⊥ = cc in absurd no
  fewer_by d e old new page (Some x) true is gated goes = (goes.written x is gated).fewer
  fewer_by d e old new page x false is gated goes =
      let idle = (goes.idle (ap (λ y. is_gated old.volume.shelf.frames.gated (stamp_of y)) is ∙ gated)).0 in let no : ⊥ = cc in absurd no

  page_less : (d e : Device) (old new : Parts B D) (page : ℕ) (given : Outcome B) (result : Result Bool Refusal) → GoesOn given → PageGoes page d e old.volume new.volume result
      → PageComes old new given result → backlog new < backlog old
  page_less d e old new page given (Ok true) on goes comes =
      let fewer = fewer_by d e old new page (kept old.volume.shelf.frames page) (is_gated old.volume.shelf.frames.gated (stamp_of (kept old.volume.shelf.frames page))) refl refl goes in
      let log : new.volume.log ≡ old.volume.log = ap (λ (v : Volume D). v.log) goes.only in
      let same : log_left new.volume.log ≡ log_left old.volume.log = ap log_left log in
      let rest : left new ≡ left old = ap (λ c. checkpoint_left c new.volume.log) (ap (λ x. x.checkpoint) comes.1) ∙ ap (λ l. checkpoint_left old.checkpoint l) log in
      omega (arith, fewer, same, rest)
  page_less d e old new page given (Ok false) on goes comes = absurd (subst GoesOn comes.0 on)
  page_less d e old new page given (Err why) on goes comes = absurd (subst GoesOn comes.0 on)

  -- a turn begins
  head_less : (old new : Parts B D) (given : Outcome B) (put : Result (Unit {0}) StoreFault) → old.checkpoint ≡ Running → GoesOn given → HeadComes old new given put
      → backlog new < backlog old
  head_less old new given (Ok done) is on comes =
      let log : log_left new.volume.log ≡ log_left old.volume.log = ap (λ (x : Parts B D). log_left x.volume.log) comes.1 in
      let clean : dirty new ≡ dirty old = ap (λ (x : Parts B D). dirty x) comes.1 in
      let now : left new ≡ turn_left old.volume.log.turn = ap (λ (x : Parts B D). left x) comes.1 in
      let was : left old ≡ 8 = ap (λ c. checkpoint_left c old.volume.log) is in
      let few = turn_few old.volume.log.turn in
      omega (arith, log, clean, now, was, few)
  head_less old new given (Err fault) is on comes = absurd (subst GoesOn comes.0 on)

  sync_less : (old new : Parts B D) (given : Outcome B) (result : Result (Unit {0}) Refusal) → old.checkpoint ≡ Running → GoesOn given → SyncComes old new given result
      → backlog new < backlog old
  sync_less old new given (Ok done) is on comes = head_less old new given comes.0 is on comes.1
  sync_less old new given (Err why) is on comes = absurd (subst GoesOn comes.0 on)

  runs_less : (d e : Device) (old new : Parts B D) (given : Outcome B) → old.checkpoint ≡ Running → GoesOn given → RunsOn d e old new given → backlog new < backlog old
  runs_less d e old new given is on (inl gates) = log_less d e old new Running given gates.result is (λ no. cc) on gates.goes gates.comes
  runs_less d e old new given is on (inr (inl (inl writes))) = page_less d e old new writes.page given writes.writes.0 on writes.writes.1 writes.writes.2
  runs_less d e old new given is on (inr (inl (inr none))) = absurd (subst GoesOn none.broken.0 on)
  runs_less d e old new given is on (inr (inr begins)) = sync_less old new given begins.result is on begins.comes

  -- a turn's next call was made
  turn_sums : (old new : Parts B D) (log : Log) (at : Checkpoint) → new.volume.log ≡ log → new.checkpoint ≡ at → dirty new ≡ dirty old → log_left log ≡ log_left old.volume.log
      → checkpoint_left at log < left old → backlog new < backlog old
  turn_sums old new log at is now clean same less =
      let a : log_left new.volume.log ≡ log_left log = ap log_left is in
      let b : left new ≡ checkpoint_left at log = ap (λ c. checkpoint_left c new.volume.log) now ∙ ap (λ l. checkpoint_left at l) is in
      omega (arith, a, b, clean, same, less)

  turn_by : (t : Turn) (old new : Parts B D) (at : Checkpoint) → old.volume.log.turn ≡ t → old.checkpoint ≡ Turning → new.volume.log ≡ after_turn t old.volume.log → new.checkpoint ≡ at
      → dirty new ≡ dirty old → log_left (after_turn t old.volume.log) ≡ log_left old.volume.log → checkpoint_left at (after_turn t old.volume.log) + 1 ≤ turn_left t
      → backlog new < backlog old
  turn_by t old new at is from log now clean same less =
      let was : left old ≡ turn_left old.volume.log.turn = ap (λ c. checkpoint_left c old.volume.log) from in
      let here : turn_left old.volume.log.turn ≡ turn_left t = ap turn_left is in
      turn_sums old new (after_turn t old.volume.log) at log now clean same (omega (arith, was, here, less))

  turned_less : (t : Turn) (old new : Parts B D) → old.volume.log.turn ≡ t → old.checkpoint ≡ Turning → new.volume.log ≡ after_turn t old.volume.log
      → new.checkpoint ≡ after_call t → dirty new ≡ dirty old → backlog new < backlog old
  turned_less turn.Closed old new is from log now clean = turn_by turn.Closed old new Turning is from log now clean refl (omega arith)
  turned_less turn.Body old new is from log now clean = turn_by turn.Body old new Turning is from log now clean refl (omega arith)
  turned_less turn.BodySync old new is from log now clean = turn_by turn.BodySync old new Turning is from log now clean refl (omega arith)
  turned_less turn.Gate old new is from log now clean = turn_by turn.Gate old new Turning is from log now clean refl (omega arith)
  turned_less turn.GateSync old new is from log now clean = turn_by turn.GateSync old new Turning is from log now clean refl (omega arith)
  turned_less turn.Selector old new is from log now clean = turn_by turn.Selector old new Turning is from log now clean refl (omega arith)
  turned_less turn.Done old new is from log now clean =
      let none = none_coming old.volume.log.filling in turn_by turn.Done old new Off is from log now clean refl (omega (arith, none))

  turns_less : (d e : Device) (old new : Parts B D) (given : Outcome B) (result : Result Turn Refusal) → old.checkpoint ≡ Turning → GoesOn given
      → (next : TurnsNext d e old new given) → next.result ≡ result → TurnComes old new given result → backlog new < backlog old
  turns_less d e old new given (Err why) from on next is comes = absurd (subst GoesOn comes.0 on)
  turns_less d e old new given (Ok call) from on next is comes =
      let turns = subst (λ (r : Result Turn Refusal). Turns old.volume.log new.volume.log r) is next.turns in
      let frames : new.volume.shelf.frames ≡ told_result next.result old.volume.shelf.frames = ap (λ (v : Volume D). v.shelf.frames) next.only in
      let clean : dirty new ≡ dirty old = ap dirty_count frames ∙ ap (λ r. dirty_count (told_result r old.volume.shelf.frames)) is ∙ turned_dirty call old.volume.shelf.frames in
      turned_less old.volume.log.turn old new refl from turns.1 (ap (λ x. x.checkpoint) comes.1 ∙ ap after_call turns.0) clean

  off_less : (d e : Device) (old new : Parts B D) (due : Bool) (given : Outcome B) → old.checkpoint ≡ Off → nat_le CHECKPOINT_AT old.volume.log.used ≡ due → GoesOn given
      → StepsOff d e old new due given → backlog new < backlog old
  off_less d e old new false given is due on comes = absurd (subst GoesOn comes.0 on)
  off_less d e old new true given is due on comes =
      let less : backlog new < backlog (record old { checkpoint = Running }) = runs_less d e (record old { checkpoint = Running }) new given refl on comes in
      let was : left old ≡ coming (nat_le CHECKPOINT_AT (places old.volume.log)) = ap (λ c. checkpoint_left c old.volume.log) is in
      let nine = due_by old.volume.log.used (fillings old.volume.log.filling) due in
      omega (arith, less, was, nine)

  from_less : (d e : Device) (old new : Parts B D) (at : Checkpoint) (given : Outcome B) → old.checkpoint ≡ at → GoesOn given → StepsFrom d e old new at given → backlog new < backlog old
  from_less d e old new Off given is on comes = off_less d e old new (nat_le CHECKPOINT_AT old.volume.log.used) given is refl on comes
  from_less d e old new Running given is on comes = runs_less d e old new given is on comes
  from_less d e old new Turning given is on comes = turns_less d e old new given comes.result is on comes refl comes.comes

  pub checkpoint_less : (d e : Device) (old new : Parts B D) (failed : Bool) (given : Outcome B) → GoesOn given → CheckpointSteps d e old new failed given → backlog new < backlog old
  checkpoint_less d e old new true given on comes = absurd (subst GoesOn comes.0 on)
  checkpoint_less d e old new false given on comes = from_less d e old new old.checkpoint given refl on comes

  pub log_step_less : (d e : Device) (old new : Parts B D) (failed running : Bool) (given : Outcome B) → runs old.checkpoint ≡ running → GoesOn given
      → LogSteps d e old new failed running given → backlog new < backlog old
  log_step_less d e old new true running given is on comes = absurd (subst GoesOn comes.0 on)
  log_step_less d e old new false true given is on comes = absurd (subst GoesOn comes.0 on)
  log_step_less d e old new false false given is on comes = log_less d e old new Off given comes.0 (off_of old.checkpoint is) (λ no. cc) on comes.1 comes.2

  pub written_less : (d e : Device) (old new : Parts B D) (page : ℕ) (failed : Bool) (given : Outcome B) → GoesOn given → PageIsWritten page d e old new failed given
      → backlog new < backlog old
  written_less d e old new page true given on comes = absurd (subst GoesOn comes.0 on)
  written_less d e old new page false given on comes = page_less d e old new page given comes.0 on comes.1 comes.2

-- ---- steps of the log, and of a checkpoint, come to an end

-- no more pages have changes than there are frames
pub few_orderly : {B D : Type 0} (e : Parts B D) → IsOrderly e → dirty_count e.volume.shelf.frames ≤ FRAMES
few_orderly e order =
    let all = clean_dirty_apart e.volume.shelf.frames in
    let few = order.frames.sound.few in
    omega (arith, all, few)

module _ {C B D : Type 0} (shape : Members B) (proper : B → Bool) (said : List ℕ → B) (class : Ghosts C B) (state : D → Device) where
  abbrev makes : Parts B D → Event B → Outcome B → Parts B D → Type 0
  makes = Makes shape (traits_of proper said class) state

  one_less : (event : Event B) (old new : Parts B D) (given : Outcome B) → IsFlushing event → GoesOn given → makes old event given new → backlog new < backlog old
  one_less LogStep old new given flushes on one =
      log_step_less (state old.volume.shelf.disk) (state new.volume.shelf.disk) old new old.sessions.failed (runs old.checkpoint) given refl on one.comes
  one_less CheckpointStep old new given flushes on one =
      checkpoint_less (state old.volume.shelf.disk) (state new.volume.shelf.disk) old new old.sessions.failed given on one.comes
  one_less event old new given flushes on one = absurd flushes

  again_less : (event : Event B) (steps : List (Event B × Outcome B)) (old new : Parts B D) → IsFlushing event → AreAgain event steps → AreMade makes old steps new
      → backlog new + length steps ≤ backlog old
  again_less event [] old new flushes again made = let same : backlog new ≡ backlog old = ap backlog made in omega (arith, same)
  again_less event (step ∷ steps) old new flushes again made =
      let one = subst (λ (e : Event B). makes old e step.1 made.0) again.0.0 made.1 in
      let first = one_less event old made.0 step.1 flushes again.0.1 one in
      let rest = again_less event steps made.0 new flushes again.1 made.2 in
      omega (arith, first, rest)

  few_again : (event : Event B) (steps : List (Event B × Outcome B)) (old new : Parts B D) → IsFlushing event → AreAgain event steps → AreMade makes old steps new → length steps < 8192
  few_again event [] old new flushes again made = omega arith
  few_again event (step ∷ steps) old new flushes again made =
      let less = again_less event (step ∷ steps) old new flushes again made in
      let few = few_left old (few_orderly old made.1.order.0) in
      omega (arith, less, few)

  pub going_on_few : (event : Event B) (count : ℕ) (old new : Parts B D) → IsFlushing event → IsGoingOn makes event old count new → count < 8192
  going_on_few event count old new flushes on =
      let few = few_again event on.steps old new flushes on.again on.made in
      let many = on.many in
      omega (arith, few, many)
