-- What an event of an opening leaves of the sessions and of the device.
use Rattle.std.proofs.Common.{◌≡◌, inl, inr, ℕ, zero, suc, ◌+◌, ◌-◌, ◌<◌, ◌≤◌, Bool, true, false, ◌||◌, Option, None, Some, List, [], ◌∷◌, refl, ap, sym, ◌∙◌, subst, arith}
use Rattle.std.specs.Prelude.{nat_le, Result, Ok, Err, slice_set}
use Rattle.gx_index_laws.specs.declared.TheConstants.{CHECKPOINT_AT}
use Rattle.gx_geom.specs.declared.refusal.Refusal.{Refusal}
use Rattle.gx_geom.specs.declared.refusal.Refusal.TheVariants as refusal
use Rattle.gx_machine.specs.declared.entry.Entry.{Entry}
use Rattle.gx_machine.specs.declared.reply.Reply.TheVariants as reply
use Rattle.gx_machine.specs.Keys.{Keys}
use Rattle.gx_machine.specs.Machine.{is_session}
use Rattle.gx_disk.specs.Device.{Device, Counts}
use Rattle.gx_page.specs.Contents.{Contents}
use Rattle.gx_node.specs.Reading.{Format}
use Rattle.gx_recovery.specs.Known.{Known, Limits}
use Rattle.gx_index_laws.specs.Classes.{Page}
use Rattle.gx_durable.specs.Spelled.{Reading}
use Rattle.gx_tree.specs.declared.seek.Sought.{Sought}
use Rattle.gx_tree.specs.declared.seek.Sought.TheVariants.{Here, Right}
use Rattle.gx_glog.specs.declared.stage.Stage.{Stage}
use Rattle.gx_glog.specs.declared.stage.Stage.TheVariants.{Body, BodySync, Gate, GateSync, Idle}
use Rattle.gx_glog.specs.declared.stage.Turn.{Turn}
use Rattle.gx_pool.specs.Marks.{is_gated}
use Rattle.gx_pool.specs.State.{Kept, kept, stamp_of}
use Rattle.gx_pool.specs.Bringing.{OnlyRead}
use Rattle.gx_store.specs.State.{Shelf}
use Rattle.gx_storage.specs.Changes.{IsUnlogged, MarkIsLogged}
use Rattle.gx_storage.specs.State.{Volume}
use Rattle.gx_txn.specs.declared.note.Note.{Note}
use Rattle.gx_events.specs.declared.event.Event.{Event}
use Rattle.gx_events.specs.declared.event.Event.TheVariants.{Ask, Move, LogStep, WritePage, CheckpointStep, Sweep}
use Rattle.gx_events.specs.declared.outcome.Outcome.{Outcome}
use Rattle.gx_events.specs.declared.outcome.Outcome.TheVariants as outcome
use Rattle.gx_events.specs.declared.outcome.Need.TheVariants as need
use Rattle.gx_phases.specs.declared.phase.Phase.{Phase}
use Rattle.gx_phases.specs.declared.phase.Phase.TheVariants as phase
use Rattle.gx_phases.specs.Moves.{next_of}
use Rattle.gx_phases.specs.States.{State, phase_at}
use Rattle.gx_engine.specs.declared.checkpoint.Checkpoint.{Checkpoint}
use Rattle.gx_engine.specs.declared.checkpoint.Checkpoint.TheVariants.{Off, Running, Turning}
use Rattle.gx_engine.specs.declared.work.Work.{Work}
use Rattle.gx_engine.specs.declared.work.Work.TheVariants as work
use Rattle.gx_engine.specs.Checkpoints.{CheckpointSteps, HeadComes, RunsOn, StepsFrom, StepsOff, SyncComes, TurnComes}
use Rattle.gx_engine.specs.Comes.{MoveComes, MovesAt, MovesBy, StepComes}
use Rattle.gx_engine.specs.Flushing.{IsEnded, LogComes, LogGoes, LogSteps, PageComes, PageGoes, PageIsWritten}
use Rattle.gx_engine.specs.States.{Parts, is_due, runs}
use Rattle.gx_engine.specs.Stepping.{has_call}
use Rattle.gx_engine.specs.Undoing.{EndComes, RestoreComes, UndoBy, next_leaf, sought_state}
use Rattle.gx_engine.specs.Resting.{KeepsSessions, WorksOff}
use Rattle.gx_engine.proofs.Resting.{checkpoint_keeps, keeps_all, log_steps_keep, page_keeps}
use Rattle.gx_restart.specs.Undoing.{IsFreeAt, IsOfOpening, MayUndo, OnlyUndoes}

true_not : true ≡ false → ⊥
true_not bad = cc

-- the device failed, what was read is damaged, or a fault had come before
abbrev pub IsFault : Refusal → Type 0
IsFault refusal.Device = Unit {0}
IsFault refusal.Damaged = Unit {0}
IsFault refusal.Failed = Unit {0}
IsFault other = ⊥

-- an event that is no session's
abbrev pub IsFlush : {B : Type 0} → Event B → Type 0
IsFlush (Ask s call) = ⊥
IsFlush (Move s) = ⊥
IsFlush LogStep = Unit {0}
IsFlush (WritePage page) = Unit {0}
IsFlush CheckpointStep = Unit {0}
IsFlush (Sweep page) = ⊥

-- the session at a place isn't free
abbrev pub IsBusyAt : {B D : Type 0} → ℕ → Parts B D → Type 0
IsBusyAt place e = IsFreeAt place e → ⊥

-- what holds of the phase at a place, and of one that is put at another, holds of those with it
put_at : {B W : Type 0} (P : Phase B W → Type 0) (xs : List (Phase B W)) (i j : ℕ) (q : Phase B W) → (j ≡ i → P q) → P (phase_at j xs) → P (phase_at j (slice_set xs i q))
put_at P [] i j q own was = was
put_at P (x ∷ xs) zero zero q own was = own refl
put_at P (x ∷ xs) zero (suc j) q own was = was
put_at P (x ∷ xs) (suc i) zero q own was = was
put_at P (x ∷ xs) (suc i) (suc j) q own was = put_at P xs i j q (λ same. own (ap suc same)) was

freed_at : {B W : Type 0} (xs : List (Phase B W)) (i : ℕ) → phase_at i (slice_set xs i phase.Free) ≡ phase.Free
freed_at [] i = refl
freed_at (x ∷ xs) zero = refl
freed_at (x ∷ xs) (suc i) = freed_at xs i

-- A device has as many sectors and is as honest, and no fewer calls have failed.
pub record HasGoneOn (d e : Device) : Type 0 where
  pub sectors : e.sectors ≡ d.sectors
  pub honest : e.honest ≡ d.honest
  pub faults : d.faults ≤ e.faults

counted : {T E : Type 0} (made : ℕ) (d e : Device) (result : Result T E) → Counts made d e result → HasGoneOn d e
counted made d e (Ok x) counts = let same = counts.faults in record { sectors = counts.sectors; honest = counts.honest; faults = omega (arith, same) }
counted made d e (Err x) counts = let more = counts.faults in record { sectors = counts.sectors; honest = counts.honest; faults = omega (arith, more) }

rose : (d e : Device) → e.faults ≡ d.faults + 1 → d.faults < e.faults
rose d e more = omega (arith, more)

-- no checkpoint runs where an event need not wait for one
off_by : (checkpoint : Checkpoint) (full : Bool) → (runs checkpoint || full) ≡ false → checkpoint ≡ Off
off_by Off full is = refl
off_by Running full is = absurd (true_not is)
off_by Turning full is = absurd (true_not is)

gone_on : (d e f : Device) → HasGoneOn d e → HasGoneOn e f → HasGoneOn d f
gone_on d e f one other =
    let first = one.faults in
    let second = other.faults in
    record { sectors = other.sectors ∙ one.sectors; honest = other.honest ∙ one.honest; faults = omega (arith, first, second) }

module _ {B D : Type 0} (state : D → Device) where
  abbrev pub at : Parts B D → Device
  at e = state e.volume.shelf.disk

  same_device : (old new : Parts B D) → state old.volume.shelf.disk ≡ state new.volume.shelf.disk → HasGoneOn (at old) (at new)
  same_device old new same = subst (λ (d : Device). HasGoneOn (at old) d) same (record { sectors = refl; honest = refl; faults = omega arith })

  -- The device has only gone on; sessions undo at most, and those that were free are.
  pub record Stays (old new : Parts B D) : Type 0 where
    pub device : HasGoneOn (at old) (at new)
    pub undoes : OnlyUndoes new
    pub free : (place : ℕ) → IsFreeAt place old → IsFreeAt place new

  pub stays_same : (old new : Parts B D) → OnlyUndoes old → new ≡ old → Stays old new
  stays_same old new undoes same =
      subst (λ (x : Parts B D). Stays old x) (sym same) (record { device = same_device old old refl; undoes = undoes; free = λ place free. free })

  pub stays_joined : (old middle new : Parts B D) → Stays old middle → Stays middle new → Stays old new
  stays_joined old middle new one other = record {
    device = gone_on (at old) (at middle) (at new) one.device other.device;
    undoes = other.undoes;
    free = λ place free. other.free place (one.free place free);
  }

  -- the phases are as before
  with_phases : (old new : Parts B D) → OnlyUndoes old → new.sessions.phases ≡ old.sessions.phases → HasGoneOn (at old) (at new) → Stays old new
  with_phases old new undoes same device = record {
    device = device;
    undoes = λ place. subst (λ (x : List (Phase B (Work B))). MayUndo (phase_at place x)) (sym same) (undoes place);
    free = λ place free. ap (λ (x : List (Phase B (Work B))). phase_at place x) same ∙ free;
  }

  -- one is put
  with_one : (old new : Parts B D) (i : ℕ) (q : Phase B (Work B)) → OnlyUndoes old → MayUndo q → (phase_at i old.sessions.phases ≡ phase.Free → q ≡ phase.Free)
      → new.sessions.phases ≡ slice_set old.sessions.phases i q → HasGoneOn (at old) (at new) → Stays old new
  with_one old new i q undoes may free same device = record {
    device = device;
    undoes = λ place.
        subst (λ (x : List (Phase B (Work B))). MayUndo (phase_at place x)) (sym same) (put_at MayUndo old.sessions.phases i place q (λ is. may) (undoes place));
    free = λ place was.
        ap (λ (x : List (Phase B (Work B))). phase_at place x) same
        ∙ put_at (λ p. p ≡ phase.Free) old.sessions.phases i place q (λ is. free (sym (ap (λ n. phase_at n old.sessions.phases) is) ∙ was)) was;
  }

  -- a step of the log or of a checkpoint, or a page's write, which counts as a device call
  flushed : (old new : Parts B D) → OnlyUndoes old → KeepsSessions old new → HasGoneOn (at old) (at new) → Stays old new
  flushed old new undoes keeps device = with_phases old new undoes (ap (λ (x : State B (Work B)). x.phases) keeps) device

  log_stays : (old new : Parts B D) (failed running : Bool) (given : Outcome B) → OnlyUndoes old → LogSteps (at old) (at new) old new failed running given → Stays old new
  log_stays old new true running given undoes comes = stays_same old new undoes comes.1
  log_stays old new false true given undoes comes = stays_same old new undoes comes.1
  log_stays old new false false given undoes comes =
      flushed old new undoes (log_steps_keep (at old) (at new) old new false false given comes) (counted _ (at old) (at new) comes.0 comes.1.counts)

  page_device_by : (old new : Parts B D) (page : ℕ) (result : Result Bool Refusal) (x : Option Kept) (gated : Bool) → kept old.volume.shelf.frames page ≡ x
      → is_gated old.volume.shelf.frames.gated (stamp_of x) ≡ gated → PageGoes page (at old) (at new) old.volume new.volume result → HasGoneOn (at old) (at new)
  page_device_by old new page result None true is gated goes = let no : ⊥ = cc in absurd no
  page_device_by old new page result (Some x) true is gated goes = counted 1 (at old) (at new) result (goes.written x is gated).counts
  page_device_by old new page result x false is gated goes =
      let same = (goes.idle (ap (λ y. is_gated old.volume.shelf.frames.gated (stamp_of y)) is ∙ gated)).1 in
      same_device old new (ap (λ (v : Volume D). state v.shelf.disk) (sym same))

  page_device : (old new : Parts B D) (page : ℕ) (result : Result Bool Refusal) → PageGoes page (at old) (at new) old.volume new.volume result → HasGoneOn (at old) (at new)
  page_device old new page result goes =
      page_device_by old new page result (kept old.volume.shelf.frames page) (is_gated old.volume.shelf.frames.gated (stamp_of (kept old.volume.shelf.frames page))) refl refl goes

  page_stays : (old new : Parts B D) (page : ℕ) (failed : Bool) (given : Outcome B) → OnlyUndoes old → PageIsWritten page (at old) (at new) old new failed given → Stays old new
  page_stays old new page true given undoes comes = stays_same old new undoes comes.1
  page_stays old new page false given undoes comes =
      flushed old new undoes (page_keeps old new given comes.0 comes.2) (page_device old new page comes.0 comes.1)

  runs_device : (old new : Parts B D) (given : Outcome B) → RunsOn (at old) (at new) old new given → HasGoneOn (at old) (at new)
  runs_device old new given (inl gates) = counted _ (at old) (at new) gates.result gates.goes.counts
  runs_device old new given (inr (inl (inl writes))) = page_device old new writes.page writes.writes.0 writes.writes.1
  runs_device old new given (inr (inl (inr none))) = same_device old new (ap (λ (x : Parts B D). at x) (sym none.broken.1))
  runs_device old new given (inr (inr begins)) = counted 1 (at old) (at new) begins.result begins.counts

  off_device : (old new : Parts B D) (due : Bool) (given : Outcome B) → StepsOff (at old) (at new) old new due given → HasGoneOn (at old) (at new)
  off_device old new false given comes = same_device old new (ap (λ (x : Parts B D). at x) (sym comes.1))
  off_device old new true given comes = runs_device (record old { checkpoint = Running }) new given comes

  from_device : (old new : Parts B D) (was : Checkpoint) (given : Outcome B) → StepsFrom (at old) (at new) old new was given → HasGoneOn (at old) (at new)
  from_device old new Off given comes = off_device old new (nat_le CHECKPOINT_AT old.volume.log.used) given comes
  from_device old new Running given comes = runs_device old new given comes
  from_device old new Turning given comes = counted 1 (at old) (at new) comes.result comes.counts

  checkpoint_stays : (old new : Parts B D) (failed : Bool) (given : Outcome B) → OnlyUndoes old → CheckpointSteps (at old) (at new) old new failed given → Stays old new
  checkpoint_stays old new true given undoes comes = stays_same old new undoes comes.1
  checkpoint_stays old new false given undoes comes =
      flushed old new undoes (checkpoint_keeps (at old) (at new) old new false given comes) (from_device old new old.checkpoint given comes)

  busy_same : (place : ℕ) (old new : Parts B D) → new.sessions.phases ≡ old.sessions.phases → IsBusyAt place old → IsBusyAt place new
  busy_same place old new same busy = λ free. busy (sym (ap (λ (x : List (Phase B (Work B))). phase_at place x) same) ∙ free)

  still_busy : (s : ℕ) (old new : Parts B D) (q : Phase B (Work B)) → (q ≡ phase.Free → ⊥) → new.sessions.phases ≡ slice_set old.sessions.phases (s - 1) q → IsBusyAt (s - 1) old
      → IsBusyAt (s - 1) new
  still_busy s old new q not_free same busy =
      subst (λ (x : List (Phase B (Work B))). phase_at (s - 1) x ≡ phase.Free → ⊥) (sym same)
      (put_at (λ p. p ≡ phase.Free → ⊥) old.sessions.phases (s - 1) (s - 1) q (λ is. not_free) busy)

  -- a fault: a call of the device failed in this event, what was read is damaged, or one had come before
  abbrev pub Fails : Parts B D → Parts B D → Refusal → Type 0
  Fails old new refusal.Device = (at old).faults < (at new).faults
  Fails old new refusal.Damaged = Unit {0}
  Fails old new refusal.Failed = Unit {0}
  Fails old new other = ⊥

  pub fails_so : (old new : Parts B D) (why : Refusal) → Fails old new why → IsFault why
  fails_so old new refusal.Device fails = tt
  fails_so old new refusal.Damaged fails = tt
  fails_so old new refusal.Failed fails = tt
  fails_so old new other fails = absurd fails

  -- what a step of the log or of a checkpoint, or a page's write, comes to, by its outcome: it is refused by a fault, or none has come
  abbrev pub FlushEnds : Parts B D → Parts B D → Outcome B → Type 0
  FlushEnds old new (outcome.Refused why) = Fails old new why
  FlushEnds old new (outcome.Replied r) = ⊥
  FlushEnds old new outcome.More = new.sessions.failed ≡ old.sessions.failed
  FlushEnds old new (outcome.Help help) = ⊥
  FlushEnds old new outcome.Nothing = new.sessions.failed ≡ old.sessions.failed

  ends_so : (old new : Parts B D) (given other : Outcome B) → given ≡ other → FlushEnds old new other → FlushEnds old new given
  ends_so old new given other is ends = subst (λ (o : Outcome B). FlushEnds old new o) (sym is) ends

  log_ends : (old new : Parts B D) (given : Outcome B) (result : Result Stage Refusal) → LogGoes (at old) (at new) old.volume new.volume result → LogComes old new given result
      → FlushEnds old new given
  log_ends old new given (Ok Idle) goes comes = ends_so old new given _ comes.0 (ap (λ (x : Parts B D). x.sessions.failed) comes.1)
  log_ends old new given (Ok Body) goes comes = ends_so old new given _ comes.0 (ap (λ (x : Parts B D). x.sessions.failed) comes.1)
  log_ends old new given (Ok BodySync) goes comes = ends_so old new given _ comes.0 (ap (λ (x : Parts B D). x.sessions.failed) comes.1)
  log_ends old new given (Ok Gate) goes comes = ends_so old new given _ comes.0 (ap (λ (x : Parts B D). x.sessions.failed) comes.1)
  log_ends old new given (Ok GateSync) goes comes = ends_so old new given _ comes.0 (ap (λ (x : Parts B D). x.sessions.failed) comes.1)
  log_ends old new given (Err why) goes comes = ends_so old new given _ comes.0 (rose (at old) (at new) goes.counts.faults)

  page_ends : (old new : Parts B D) (page : ℕ) (given : Outcome B) (result : Result Bool Refusal) → PageGoes page (at old) (at new) old.volume new.volume result
      → PageComes old new given result → FlushEnds old new given
  page_ends old new page given (Ok true) goes comes = ends_so old new given _ comes.0 (ap (λ (x : Parts B D). x.sessions.failed) comes.1)
  page_ends old new page given (Ok false) goes comes = ends_so old new given _ comes.0 (ap (λ (x : Parts B D). x.sessions.failed) comes.1)
  page_ends old new page given (Err why) goes comes = ends_so old new given _ comes.0 (rose (at old) (at new) goes.faults)

  head_ends : (old new : Parts B D) (given : Outcome B) (put : _) → HeadComes old new given put → FlushEnds old new given
  head_ends old new given (Ok done) comes = ends_so old new given _ comes.0 (ap (λ (x : Parts B D). x.sessions.failed) comes.1)
  head_ends old new given (Err fault) comes = ends_so old new given _ comes.0 tt

  sync_ends : (old new : Parts B D) (given : Outcome B) (result : Result (Unit {0}) Refusal) → Counts 1 (at old) (at new) result → SyncComes old new given result → FlushEnds old new given
  sync_ends old new given (Ok done) counts comes = head_ends old new given comes.0 comes.1
  sync_ends old new given (Err why) counts comes = ends_so old new given _ comes.0 (rose (at old) (at new) counts.faults)

  turn_ends : (old new : Parts B D) (given : Outcome B) (result : Result Turn Refusal) → Counts 1 (at old) (at new) result → TurnComes old new given result → FlushEnds old new given
  turn_ends old new given (Ok call) counts comes = ends_so old new given _ comes.0 (ap (λ (x : Parts B D). x.sessions.failed) comes.1)
  turn_ends old new given (Err why) counts comes = ends_so old new given _ comes.0 (rose (at old) (at new) counts.faults)

  runs_end : (old new : Parts B D) (given : Outcome B) → RunsOn (at old) (at new) old new given → FlushEnds old new given
  runs_end old new given (inl gates) = log_ends old new given gates.result gates.goes gates.comes
  runs_end old new given (inr (inl (inl writes))) = page_ends old new writes.page given writes.writes.0 writes.writes.1 writes.writes.2
  runs_end old new given (inr (inl (inr none))) = ends_so old new given _ none.broken.0 tt
  runs_end old new given (inr (inr begins)) = sync_ends old new given begins.result begins.counts begins.comes

  off_end : (old new : Parts B D) (due : Bool) (given : Outcome B) → StepsOff (at old) (at new) old new due given → FlushEnds old new given
  off_end old new false given comes = ends_so old new given _ comes.0 (ap (λ (x : Parts B D). x.sessions.failed) comes.1)
  off_end old new true given comes = runs_end (record old { checkpoint = Running }) new given comes

  from_end : (old new : Parts B D) (was : Checkpoint) (given : Outcome B) → StepsFrom (at old) (at new) old new was given → FlushEnds old new given
  from_end old new Off given comes = off_end old new (nat_le CHECKPOINT_AT old.volume.log.used) given comes
  from_end old new Running given comes = runs_end old new given comes
  from_end old new Turning given comes = turn_ends old new given comes.result comes.counts comes.comes

  ended_so : (old new : Parts B D) (given : Outcome B) → IsEnded old new given → FlushEnds old new given
  ended_so old new given comes = ends_so old new given _ comes.0 tt

  checkpoint_end : (old new : Parts B D) (failed : Bool) (given : Outcome B) → CheckpointSteps (at old) (at new) old new failed given → FlushEnds old new given
  checkpoint_end old new true given comes = ended_so old new given comes
  checkpoint_end old new false given comes = from_end old new old.checkpoint given comes

  log_steps_end : (old new : Parts B D) (failed running : Bool) (given : Outcome B) → LogSteps (at old) (at new) old new failed running given → FlushEnds old new given
  log_steps_end old new true running given comes = ended_so old new given comes
  log_steps_end old new false true given comes = ends_so old new given _ comes.0 (ap (λ (x : Parts B D). x.sessions.failed) comes.1)
  log_steps_end old new false false given comes = log_ends old new given comes.0 comes.1 comes.2

  written_end : (old new : Parts B D) (page : ℕ) (failed : Bool) (given : Outcome B) → PageIsWritten page (at old) (at new) old new failed given → FlushEnds old new given
  written_end old new page true given comes = ended_so old new given comes
  written_end old new page false given comes = page_ends old new page given comes.0 comes.1 comes.2

  written_keeps : (old new : Parts B D) (page : ℕ) (failed : Bool) (given : Outcome B) → PageIsWritten page (at old) (at new) old new failed given → KeepsSessions old new
  written_keeps old new page true given comes = keeps_all old new comes.1
  written_keeps old new page false given comes = page_keeps old new given comes.0 comes.2

  -- what a move of a session comes to, by its outcome, where each session undoes at most
  abbrev pub MoveEnds : ℕ → Parts B D → Parts B D → Outcome B → Type 0
  MoveEnds s old new (outcome.Replied reply.Aborted) = IsFreeAt (s - 1) new × WorksOff new
  MoveEnds s old new (outcome.Replied (reply.Refused why)) = Fails old new why
  MoveEnds s old new (outcome.Replied other) = ⊥
  MoveEnds s old new outcome.More = (new.sessions.failed ≡ old.sessions.failed) × (IsBusyAt (s - 1) old → IsBusyAt (s - 1) new)
  MoveEnds s old new (outcome.Help help) = (new.sessions.failed ≡ old.sessions.failed) × (IsBusyAt (s - 1) old → IsBusyAt (s - 1) new)
  MoveEnds s old new outcome.Nothing = ⊥
  MoveEnds s old new (outcome.Refused refusal.BadSession) = is_session s ≡ false
  MoveEnds s old new (outcome.Refused refusal.NoCall) = IsFreeAt (s - 1) old × (new ≡ old)
  MoveEnds s old new (outcome.Refused other) = ⊥

  abbrev Moves : ℕ → Parts B D → Parts B D → Outcome B → Type 0
  Moves s old new given = Stays old new × MoveEnds s old new given

  module _ (k : Keys B) (known : Limits → Known (Entry B) (Page B)) (r : Reading (Entry B) (Page B)) (f : Format B) (passes : ℕ → Contents → Bool) (IsKey : B → Type 0)
      (spelling : B → List ℕ) (key : ℕ) where
    read_on : (old new : Parts B D) → OnlyRead (at old) (at new) → (at old).faults ≤ (at new).faults → HasGoneOn (at old) (at new)
    read_on old new read faults = record { sectors = read.sectors; honest = read.honest; faults = faults }

    unlogged_device : (old new : Parts B D) (was : Shelf D) → IsUnlogged known r f passes was (at old) (at new) old.volume new.volume → HasGoneOn (at old) (at new)
    unlogged_device old new was is = read_on old new (is.since 0).goes_on.device (is.since 0).goes_on.faults

    sought_device : (old new : Parts B D) (transaction : ℕ) (n : Note B) (leaf : ℕ) (sought : Sought)
        → MarkIsLogged known r f passes spelling key transaction n.entry leaf n.before (at old) (at new) old.volume new.volume sought → HasGoneOn (at old) (at new)
    sought_device old new transaction n leaf (Here slot before) is = read_on old new is.goes_on.device is.goes_on.faults
    sought_device old new transaction n leaf (Right next) is = unlogged_device old new _ is

    -- a session that undoes: with its next note restored, or sought further to the right
    sought_moves : (s : ℕ) (old new : Parts B D) (restored : ℕ) (n : Note B) (leaf : ℕ) (sought : Sought) → OnlyUndoes old → (phase_at (s - 1) old.sessions.phases ≡ phase.Free → ⊥)
        → HasGoneOn (at old) (at new) → new ≡ record old { volume = new.volume; sessions = sought_state s restored n leaf sought old.sessions } → Moves s old new outcome.More
    sought_moves s old new restored n leaf (Here slot before) undoes busy same is = (
      with_one old new (s - 1) (phase.Undoing (restored + 1) work.Rests) undoes tt (λ free. absurd (busy free)) (ap (λ (x : Parts B D). x.sessions.phases) is) same,
      (ap (λ (x : Parts B D). x.sessions.failed) is, still_busy s old new (phase.Undoing (restored + 1) work.Rests) (λ no. let bad : ⊥ = cc in bad) (ap (λ (x : Parts B D). x.sessions.phases) is)),
    )
    sought_moves s old new restored n leaf (Right next) undoes busy same is = (
      with_one old new (s - 1) (phase.Undoing restored (work.Seeks next)) undoes tt (λ free. absurd (busy free)) (ap (λ (x : Parts B D). x.sessions.phases) is) same,
      (ap (λ (x : Parts B D). x.sessions.failed) is, still_busy s old new (phase.Undoing restored (work.Seeks next)) (λ no. let bad : ⊥ = cc in bad) (ap (λ (x : Parts B D). x.sessions.phases) is)),
    )

    restore_moves : (s restored : ℕ) (n : Note B) (leaf : ℕ) (old new : Parts B D) (given : Outcome B) → OnlyUndoes old → (phase_at (s - 1) old.sessions.phases ≡ phase.Free → ⊥)
        → RestoreComes known r f passes IsKey k spelling key (at old) (at new) s restored n leaf old new given → Moves s old new given
    restore_moves s restored n leaf old new outcome.More undoes busy comes =
        sought_moves s old new restored n leaf comes.0 undoes busy (sought_device old new _ n leaf comes.0 comes.1.logged) comes.2
    restore_moves s restored n leaf old new (outcome.Help help) undoes busy comes =
        let same = unlogged_device old new _ comes.0 in
        let phases : new.sessions.phases ≡ old.sessions.phases = ap (λ (x : Parts B D). x.sessions.phases) comes.2 in
        (with_phases old new undoes phases same, (ap (λ (x : Parts B D). x.sessions.failed) comes.2, busy_same (s - 1) old new phases))
    restore_moves s restored n leaf old new (outcome.Replied (reply.Refused refusal.Device)) undoes busy comes =
        (with_phases old new undoes (ap (λ (x : Parts B D). x.sessions.phases) comes.2) (unlogged_device old new _ comes.0), comes.1)
    restore_moves s restored n leaf old new (outcome.Replied (reply.Refused refusal.Damaged)) undoes busy comes =
        (with_phases old new undoes (ap (λ (x : Parts B D). x.sessions.phases) comes.2) (unlogged_device old new _ comes.0), tt)
    restore_moves s restored n leaf old new other undoes busy comes = absurd comes

    end_moves : (s : ℕ) (old new : Parts B D) (given : Outcome B) → OnlyUndoes old → WorksOff old → EndComes s old new given → Moves s old new given
    end_moves s old new (outcome.Replied reply.Aborted) undoes works ended =
        let phases : new.sessions.phases ≡ slice_set old.sessions.phases (s - 1) phase.Free = ap (λ (x : Parts B D). x.sessions.phases) ended.is in (
          with_one old new (s - 1) phase.Free undoes tt (λ free. refl) phases (same_device old new (ap (λ (v : Volume D). state v.shelf.disk) (sym ended.volume))),
          (
            ap (λ (x : List (Phase B (Work B))). phase_at (s - 1) x) phases ∙ freed_at old.sessions.phases (s - 1),
            record { off = ap (λ (x : Parts B D). x.checkpoint) ended.is ∙ works.off; works = ap (λ (x : Parts B D). x.sessions.failed) ended.is ∙ works.works },
          ),
        )
    end_moves s old new (outcome.Help need.Log) undoes works comes =
        (stays_same old new undoes comes.1, (ap (λ (x : Parts B D). x.sessions.failed) comes.1, busy_same (s - 1) old new (ap (λ (x : Parts B D). x.sessions.phases) comes.1)))
    end_moves s old new other undoes works comes = absurd comes

    undo_by : (due : Bool) (next : Option ℕ) (s : ℕ) (old new : Parts B D) (given : Outcome B) → is_due old ≡ due → old.sessions.failed ≡ false → OnlyUndoes old
        → (phase_at (s - 1) old.sessions.phases ≡ phase.Free → ⊥) → UndoBy known r f passes IsKey k spelling key due next (at old) (at new) s old new given → Moves s old new given
    undo_by true next s old new given is works undoes busy comes =
        subst (λ (o : Outcome B). Moves s old new o) (sym comes.0)
        (stays_same old new undoes comes.1, (ap (λ (x : Parts B D). x.sessions.failed) comes.1, busy_same (s - 1) old new (ap (λ (x : Parts B D). x.sessions.phases) comes.1)))
    undo_by false None s old new given is works undoes busy comes =
        end_moves s old new given undoes (record { off = off_by old.checkpoint (nat_le CHECKPOINT_AT old.volume.log.used) is; works = works }) comes
    undo_by false (Some restored) s old new given is works undoes busy comes =
        restore_moves s restored comes.0 (next_leaf s old.sessions comes.0) old new given undoes busy comes.2

    -- by the phase that the session is in
    moves_at : (s : ℕ) (old new : Parts B D) (p : Phase B (Work B)) (given : Outcome B) → phase_at (s - 1) old.sessions.phases ≡ p → old.sessions.failed ≡ false → OnlyUndoes old → MayUndo p
        → MovesAt k known r f passes IsKey spelling key (at old) (at new) s old new p given → Moves s old new given
    moves_at s old new phase.Free given is works undoes may comes =
        subst (λ (o : Outcome B). Moves s old new o) (sym comes.0) (stays_same old new undoes comes.1, (is, comes.1))
    moves_at s old new (phase.Undoing restored work) given is works undoes may comes =
        undo_by (is_due old) (next_of s old.sessions) s old new given refl works undoes (λ free. let no : ⊥ = cc in no) comes
    moves_at s old new phase.Working given is works undoes may comes = absurd may
    moves_at s old new (phase.Open call work) given is works undoes may comes = absurd may
    moves_at s old new (phase.Waiting number) given is works undoes may comes = absurd may

    free_there : (p : Phase B (Work B)) → MayUndo p → has_call p ≡ false → p ≡ phase.Free
    free_there phase.Free may is = refl
    free_there (phase.Undoing restored work) may is = let no : true ≡ false = is in absurd (true_not no)
    free_there phase.Working may is = absurd may
    free_there (phase.Open call work) may is = absurd may
    free_there (phase.Waiting number) may is = absurd may

    moves_by : (there has failed : Bool) (s : ℕ) (old new : Parts B D) (given : Outcome B) → is_session s ≡ there → has_call (phase_at (s - 1) old.sessions.phases) ≡ has
        → old.sessions.failed ≡ failed → OnlyUndoes old → MovesBy k known r f passes IsKey spelling key (at old) (at new) there has failed s old new given → Moves s old new given
    moves_by false has failed s old new given at_session called fails undoes comes =
        subst (λ (o : Outcome B). Moves s old new o) (sym comes.0) (stays_same old new undoes comes.1, at_session)
    moves_by true false failed s old new given at_session called fails undoes comes =
        subst (λ (o : Outcome B). Moves s old new o) (sym comes.0)
        (stays_same old new undoes comes.1, (free_there (phase_at (s - 1) old.sessions.phases) (undoes (s - 1)) called, comes.1))
    moves_by true true true s old new given at_session called fails undoes comes =
        subst (λ (o : Outcome B). Moves s old new o) (sym comes.0) (stays_same old new undoes comes.1, tt)
    moves_by true true false s old new given at_session called fails undoes comes =
        moves_at s old new (phase_at (s - 1) old.sessions.phases) given refl fails undoes (undoes (s - 1)) comes

    pub move_comes : (s : ℕ) (old new : Parts B D) (given : Outcome B) → OnlyUndoes old → MoveComes k known r f passes IsKey spelling key (at old) (at new) s old new given
        → Moves s old new given
    move_comes s old new given undoes comes =
        moves_by (is_session s) (has_call (phase_at (s - 1) old.sessions.phases)) old.sessions.failed s old new given refl refl refl undoes comes

    -- a session that is free has no move to make
    pub unmoved : (s : ℕ) (old new : Parts B D) (given : Outcome B) → is_session s ≡ true → IsFreeAt (s - 1) old → MoveComes k known r f passes IsKey spelling key (at old) (at new) s old new given
        → (given ≡ outcome.Refused refusal.NoCall) × (new ≡ old)
    unmoved s old new given there free comes =
        let has : Bool = has_call (phase_at (s - 1) old.sessions.phases) in
        subst (λ b. MovesBy k known r f passes IsKey spelling key (at old) (at new) true b old.sessions.failed s old new given) (ap has_call free)
        (subst (λ b. MovesBy k known r f passes IsKey spelling key (at old) (at new) b has old.sessions.failed s old new given) there comes)

    pub step_stays : (event : Event B) (old new : Parts B D) (given : Outcome B) → IsOfOpening event → OnlyUndoes old
        → StepComes k known r f passes IsKey spelling key (at old) (at new) event old new given → Stays old new
    step_stays (Ask s call) old new given is undoes comes = absurd is
    step_stays (Move s) old new given is undoes comes = (move_comes s old new given undoes comes).0
    step_stays LogStep old new given is undoes comes = log_stays old new old.sessions.failed (runs old.checkpoint) given undoes comes
    step_stays (WritePage page) old new given is undoes comes = page_stays old new page old.sessions.failed given undoes comes
    step_stays CheckpointStep old new given is undoes comes = checkpoint_stays old new old.sessions.failed given undoes comes
    step_stays (Sweep page) old new given is undoes comes = absurd is

    abbrev Comes : Event B → Parts B D → Parts B D → Outcome B → Type 0
    Comes event old new given = StepComes k known r f passes IsKey spelling key (at old) (at new) event old new given

    pub flush_ends : (event : Event B) (old new : Parts B D) (given : Outcome B) → IsFlush event → Comes event old new given → FlushEnds old new given
    flush_ends (Ask s call) old new given is comes = absurd is
    flush_ends (Move s) old new given is comes = absurd is
    flush_ends LogStep old new given is comes = log_steps_end old new old.sessions.failed (runs old.checkpoint) given comes
    flush_ends (WritePage page) old new given is comes = written_end old new page old.sessions.failed given comes
    flush_ends CheckpointStep old new given is comes = checkpoint_end old new old.sessions.failed given comes
    flush_ends (Sweep page) old new given is comes = absurd is

    flush_keeps : (event : Event B) (old new : Parts B D) (given : Outcome B) → IsFlush event → Comes event old new given → KeepsSessions old new
    flush_keeps (Ask s call) old new given is comes = absurd is
    flush_keeps (Move s) old new given is comes = absurd is
    flush_keeps LogStep old new given is comes = log_steps_keep (at old) (at new) old new old.sessions.failed (runs old.checkpoint) given comes
    flush_keeps (WritePage page) old new given is comes = written_keeps old new page old.sessions.failed given comes
    flush_keeps CheckpointStep old new given is comes = checkpoint_keeps (at old) (at new) old new old.sessions.failed given comes
    flush_keeps (Sweep page) old new given is comes = absurd is

    pub flush_busy : (event : Event B) (old new : Parts B D) (given : Outcome B) (place : ℕ) → IsFlush event → Comes event old new given → IsBusyAt place old → IsBusyAt place new
    flush_busy event old new given place is comes = busy_same place old new (ap (λ (x : State B (Work B)). x.phases) (flush_keeps event old new given is comes))
