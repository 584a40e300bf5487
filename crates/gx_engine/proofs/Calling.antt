-- The calls that events make of the device, by what they come to.
use Rattle.std.proofs.Common.{◌≡◌, ◌∙◌, ap, sym, refl, subst, inl, inr, ℕ, ◌≤◌, Bool, true, false, Option, None, Some, Result, Ok, Err, IfOk, IfErr, OnErr, List, arith}
use Rattle.gx_geom.specs.declared.refusal.Refusal.{Refusal}
use Rattle.gx_geom.specs.declared.refusal.Refusal.TheVariants as refusal
use Rattle.gx_machine.specs.declared.call.Call.{Call}
use Rattle.gx_machine.specs.declared.entry.Entry.{Entry}
use Rattle.gx_machine.specs.declared.reply.Reply.TheVariants as reply
use Rattle.gx_machine.specs.Keys.{Keys}
use Rattle.gx_disk.specs.Device.{Device}
use Rattle.gx_glog.specs.declared.stage.Stage.{Stage}
use Rattle.gx_glog.specs.declared.stage.Stage.TheVariants.{Body, BodySync, Gate, GateSync, Idle}
use Rattle.gx_glog.specs.State.{calls_of}
use Rattle.gx_node.specs.Reading.{Format}
use Rattle.gx_page.specs.Contents.{Contents}
use Rattle.gx_pool.specs.Bringing.{OnlyRead}
use Rattle.gx_pool.specs.Marks.{is_gated}
use Rattle.gx_pool.specs.State.{Kept, kept, stamp_of}
use Rattle.gx_pool.proofs.Bringing.{only_read_joined, only_read_nothing}
use Rattle.gx_recovery.specs.Known.{Known, Limits}
use Rattle.gx_index_laws.specs.Classes.{Page}
use Rattle.gx_durable.specs.Spelled.{Reading}
use Rattle.gx_tree.specs.declared.descent.Descended.{Descended}
use Rattle.gx_tree.specs.declared.seek.Sought.{Sought}
use Rattle.gx_tree.specs.declared.seek.Sought.TheVariants.{Here, Right}
use Rattle.gx_txn.specs.declared.note.Note.{Note}
use Rattle.gx_events.specs.declared.outcome.Need.TheVariants as need
use Rattle.gx_events.specs.declared.outcome.Outcome.{Outcome}
use Rattle.gx_events.specs.declared.outcome.Outcome.TheVariants.{Replied, More, Help, Nothing, Refused}
use Rattle.gx_storage.specs.Changes.{DescentIsLogged, IsLoggedIf, IsUnlogged, MarkIsLogged, begun}
use Rattle.gx_record.specs.Rec.{Rec}
use Rattle.gx_storage.specs.Imaged.{is_imaged}
use Rattle.gx_storage.specs.Small.{mark_room}
use Rattle.gx_storage.specs.State.{Volume}
use Rattle.gx_storage.proofs.SmallWidens.{by_widened}
use Rattle.gx_storage.specs.Sweeping.{SweepIsLogged, SweepIsRefused}
use Rattle.gx_store.specs.declared.fault.StoreFault.{StoreFault}
use Rattle.gx_node.specs.declared.fault.StepFault.{StepFault}
use Rattle.gx_engine.specs.declared.checkpoint.Checkpoint.{Checkpoint}
use Rattle.gx_engine.specs.declared.checkpoint.Checkpoint.TheVariants.{Off, Running, Turning}
use Rattle.gx_engine.specs.Asks.{AskComes}
use Rattle.gx_engine.specs.Calls.{IsRead, MakesOne}
use Rattle.gx_engine.specs.Checkpoints.{CheckpointSteps, RunsOn, StepsFrom, StepsOff}
use Rattle.gx_engine.specs.Flushing.{LogGoes, LogSteps, PageGoes, PageIsWritten}
use Rattle.gx_engine.specs.Commits.{AcknowledgeBy, AcknowledgeComes, SealComes}
use Rattle.gx_engine.specs.States.{Parts}
use Rattle.gx_engine.specs.Undoing.{EndComes, RestoreComes, UndoBy, UndoComes}

module _ {B D : Type 0} (state : D → Device) where
  -- over the same device nothing was called
  pub same_read : (old new : Parts B D) → new.volume.shelf.disk ≡ old.volume.shelf.disk → IsRead state old new
  same_read old new same =
      subst (λ (x : D). OnlyRead (state old.volume.shelf.disk) (state x)) (sym same) (only_read_nothing (state old.volume.shelf.disk))

  -- one reading after another
  pub then_read : (old mid new : Parts B D) → IsRead state old mid → IsRead state mid new → IsRead state old new
  then_read old mid new first next =
      only_read_joined (state old.volume.shelf.disk) (state mid.volume.shelf.disk) (state new.volume.shelf.disk) first next

  -- and none after it
  pub read_so : (old mid new : Parts B D) → IsRead state old mid → new.volume ≡ mid.volume → IsRead state old new
  read_so old mid new first same =
      subst (λ (v : Volume D). OnlyRead (state old.volume.shelf.disk) (state v.shelf.disk)) (sym same) first

-- what storage's contracts say of a change, or of none
module _ {B D : Type 0} (known : Limits → Known (Entry B) (Page B)) (r : Reading (Entry B) (Page B)) (f : Format B) (passes : ℕ → Contents → Bool) (d e : Device) (v w : Volume D) where
  if_read : (size : ℕ) (x : Rec) (any : Bool) → IsLoggedIf known r f passes size d e v w x any → OnlyRead d e
  if_read size x true logged = logged.goes_on.device
  if_read size x false unlogged = (unlogged.since 0).goes_on.device

  pub changed_read : {T E : Type 0} (size : ℕ) (x : Rec) (any : T → Bool) (result : Result T E) → IfOk result (λ did. IsLoggedIf known r f passes size d e v w x (any did))
      → OnErr result (IsUnlogged known r f passes (begun v size) d e v w) → OnlyRead d e
  changed_read size x any (Ok did) logged unlogged = if_read size x (any did) logged
  changed_read size x any (Err fault) logged unlogged = (unlogged.since 0).goes_on.device

  -- of a step of a descent
  pub stepped_read : {E : Type 0} (spelling : B → List ℕ) (key page size : ℕ) (result : Result (Descended B) E)
      → IfOk result (DescentIsLogged known r f passes spelling key page d e v w) → OnErr result (IsUnlogged known r f passes (begun v size) d e v w) → OnlyRead d e
  stepped_read spelling key page size (Ok did) logged unlogged = by_widened _ _ (OnlyRead d e) (λ slot bound is. is.goes_on.device) (λ is. (is.since 0).goes_on.device) did logged
  stepped_read spelling key page size (Err fault) logged unlogged = (unlogged.since 0).goes_on.device

  -- the sweep of a leaf
  pub swept_read : (IsTest : (Entry B → Bool) → Type 0) (page : ℕ) (result : Result Bool (StepFault StoreFault)) → IfOk result (SweepIsLogged known r f passes IsTest d e v w page)
      → IfErr result (SweepIsRefused known r f passes IsTest d e v w page) → OnlyRead d e
  swept_read IsTest page (Ok any) logged refused = if_read _ _ any logged.logged
  swept_read IsTest page (Err fault) logged refused = (refused.unlogged.since 0).goes_on.device

  mark_read : (spelling : B → List ℕ) (key transaction : ℕ) (entry : Entry B) (page : ℕ) (marked : Bool) (sought : Sought)
      → MarkIsLogged known r f passes spelling key transaction entry page marked d e v w sought → OnlyRead d e
  mark_read spelling key transaction entry page marked (Here slot before) is = is.goes_on.device
  mark_read spelling key transaction entry page marked (Right next) is = (is.since 0).goes_on.device

  pub marked_read : {E : Type 0} (spelling : B → List ℕ) (key transaction : ℕ) (entry : Entry B) (page : ℕ) (marked : Bool) (result : Result Sought E)
      → IfOk result (MarkIsLogged known r f passes spelling key transaction entry page marked d e v w) → OnErr result (IsUnlogged known r f passes (begun v (mark_room (is_imaged v.imaged page) key)) d e v w) → OnlyRead d e
  marked_read spelling key transaction entry page marked (Ok sought) logged unlogged = mark_read spelling key transaction entry page marked sought logged
  marked_read spelling key transaction entry page marked (Err fault) logged unlogged = (unlogged.since 0).goes_on.device

module _ {B D : Type 0} (state : D → Device) (old new : Parts B D) where
  abbrev d : Device
  d = state old.volume.shelf.disk

  abbrev e : Device
  e = state new.volume.shelf.disk

  whole_read : {sessions : _} → new ≡ record old { sessions = sessions } → IsRead state old new
  whole_read same = same_read state old new (ap (λ (x : Parts B D). x.volume.shelf.disk) same)

  as_it_was : new ≡ old → IsRead state old new
  as_it_was same = same_read state old new (ap (λ (x : Parts B D). x.volume.shelf.disk) same)

  pub ask_read : (k : Keys B) (s : ℕ) (call : Call B) (o : Outcome B) → AskComes k s call old o new → IsRead state old new
  ask_read k s call (Replied r) comes = whole_read comes.1
  ask_read k s call More comes = whole_read comes.1
  ask_read k s call (Help n) comes = absurd comes
  ask_read k s call Nothing comes = absurd comes
  ask_read k s call (Refused why) comes = absurd comes

  pub seal_read : (s : ℕ) (o : Outcome B) → SealComes s old new o → IsRead state old new
  seal_read s More comes = same_read state old new (ap (λ (v : Volume D). v.shelf.disk) comes.1.volume)
  seal_read s (Help need.Log) comes = as_it_was comes.2
  seal_read s (Help need.Checkpoint) comes = as_it_was comes.1
  seal_read s (Help (need.Write page)) comes = absurd comes
  seal_read s (Replied r) comes = absurd comes
  seal_read s Nothing comes = absurd comes
  seal_read s (Refused why) comes = absurd comes

  acknowledged : (durable : Bool) (s number : ℕ) (o : Outcome B) → AcknowledgeBy durable s number old new o → IsRead state old new
  acknowledged true s number o comes = whole_read comes.1
  acknowledged false s number o comes = as_it_was comes.1

  pub acknowledge_read : (s number : ℕ) (o : Outcome B) → AcknowledgeComes s number old new o → IsRead state old new
  acknowledge_read s number o comes = acknowledged _ s number o comes

  -- an undo
  module _ (known : Limits → Known (Entry B) (Page B)) (r : Reading (Entry B) (Page B)) (f : Format B) (passes : ℕ → Contents → Bool) (IsKey : B → Type 0) (k : Keys B)
      (spelling : B → List ℕ) (key : ℕ) where
    sought_read : (t : ℕ) (n : Note B) (leaf : ℕ) (sought : Sought) → MarkIsLogged known r f passes spelling key t n.entry leaf n.before d e old.volume new.volume sought → OnlyRead d e
    sought_read t n leaf (Here slot before) logged = logged.goes_on.device
    sought_read t n leaf (Right next) unlogged = (unlogged.since 0).goes_on.device

    refused_read : (s restored : ℕ) (n : Note B) (leaf : ℕ) (why : Refusal) → RestoreComes known r f passes IsKey k spelling key d e s restored n leaf old new (Replied (reply.Refused why)) → OnlyRead d e
    refused_read s restored n leaf refusal.Device comes = (comes.0.since 0).goes_on.device
    refused_read s restored n leaf refusal.Damaged comes = (comes.0.since 0).goes_on.device
    refused_read s restored n leaf why comes = absurd comes

    restore_read : (s restored : ℕ) (n : Note B) (leaf : ℕ) (o : Outcome B) → RestoreComes known r f passes IsKey k spelling key d e s restored n leaf old new o → OnlyRead d e
    restore_read s restored n leaf More comes = sought_read _ n leaf comes.0 comes.1.logged
    restore_read s restored n leaf (Help n_) comes = (comes.0.since 0).goes_on.device
    restore_read s restored n leaf (Replied (reply.Refused why)) comes = refused_read s restored n leaf why comes
    restore_read s restored n leaf o comes = absurd comes

    end_read : (s : ℕ) (o : Outcome B) → EndComes s old new o → IsRead state old new
    end_read s (Replied reply.Aborted) comes = same_read state old new (ap (λ (v : Volume D). v.shelf.disk) comes.volume)
    end_read s (Help need.Log) comes = as_it_was comes.1
    end_read s o comes = absurd comes

    undo_by : (due : Bool) (next : Option ℕ) (s : ℕ) (o : Outcome B) → UndoBy known r f passes IsKey k spelling key due next d e s old new o → IsRead state old new
    undo_by true next s o comes = as_it_was comes.1
    undo_by false None s o comes = end_read s o comes
    undo_by false (Some restored) s o comes = restore_read s restored comes.0 _ o comes.2

    pub undo_read : (s : ℕ) (o : Outcome B) → UndoComes known r f passes IsKey k spelling key d e s old new o → IsRead state old new
    undo_read s o comes = undo_by _ _ s o comes

  -- one call at most
  few_same : new ≡ old → MakesOne d e
  few_same same =
      let calls : e.calls ≡ d.calls = ap (λ (x : Parts B D). (state x.volume.shelf.disk).calls) same in
      omega (arith, calls)

  few_sessions : {sessions : _} → new ≡ record old { sessions = sessions } → MakesOne d e
  few_sessions same =
      let calls : e.calls ≡ d.calls = ap (λ (x : Parts B D). (state x.volume.shelf.disk).calls) same in
      omega (arith, calls)

  log_call : (result : Result Stage Refusal) → calls_of result ≤ 1
  log_call (Ok Idle) = omega arith
  log_call (Ok Body) = omega arith
  log_call (Ok BodySync) = omega arith
  log_call (Ok Gate) = omega arith
  log_call (Ok GateSync) = omega arith
  log_call (Err why) = omega arith

  log_goes : (result : Result Stage Refusal) → LogGoes d e old.volume new.volume result → MakesOne d e
  log_goes result goes =
      let made = goes.counts.calls in
      let one = log_call result in
      omega (arith, made, one)

  pub log_calls : (failed running : Bool) (o : Outcome B) → LogSteps d e old new failed running o → MakesOne d e
  log_calls true running o steps = few_same steps.1
  log_calls false true o steps = few_same steps.1
  log_calls false false o steps = log_goes steps.0 steps.1

  page_goes : (page : ℕ) (result : Result Bool Refusal) → PageGoes page d e old.volume new.volume result → MakesOne d e
  page_goes page result goes = by (kept old.volume.shelf.frames page) refl
    where
      gated : (k : Kept) → kept old.volume.shelf.frames page ≡ Some k → (b : Bool) → is_gated old.volume.shelf.frames.gated k.stamp ≡ b → MakesOne d e
      gated k is true test = let made = (goes.written k is test).counts.calls in omega (arith, made)
      gated k is false shut =
          let same = (goes.idle (ap (λ x. is_gated old.volume.shelf.frames.gated (stamp_of x)) is ∙ shut)).1 in
          let calls : e.calls ≡ d.calls = ap (λ (v : Volume D). (state v.shelf.disk).calls) same in
          omega (arith, calls)

      by : (now : Option Kept) → kept old.volume.shelf.frames page ≡ now → MakesOne d e
      by (Some k) is = gated k is _ refl
      by None is =
          let same = (goes.idle (ap (λ x. is_gated old.volume.shelf.frames.gated (stamp_of x)) is)).1 in
          let calls : e.calls ≡ d.calls = ap (λ (v : Volume D). (state v.shelf.disk).calls) same in
          omega (arith, calls)

  pub page_calls : (page : ℕ) (failed : Bool) (o : Outcome B) → PageIsWritten page d e old new failed o → MakesOne d e
  page_calls page true o writes = few_same writes.1
  page_calls page false o writes = page_goes page writes.0 writes.1

-- a checkpoint's step
module _ {B D : Type 0} (state : D → Device) (new : Parts B D) where
  runs_on : (old : Parts B D) (o : Outcome B) → RunsOn (state old.volume.shelf.disk) (state new.volume.shelf.disk) old new o → MakesOne (state old.volume.shelf.disk) (state new.volume.shelf.disk)
  runs_on old o (inl gates) = log_goes state old new gates.result gates.goes
  runs_on old o (inr (inl (inl writes))) = page_calls state old new writes.page false o writes.writes
  runs_on old o (inr (inl (inr finds))) = few_sessions state old new finds.broken.1
  runs_on old o (inr (inr turns)) = let made = turns.counts.calls in omega (arith, made)

  steps_off : (old : Parts B D) (due : Bool) (o : Outcome B) → StepsOff (state old.volume.shelf.disk) (state new.volume.shelf.disk) old new due o
      → MakesOne (state old.volume.shelf.disk) (state new.volume.shelf.disk)
  steps_off old false o steps = few_same state old new steps.1
  steps_off old true o steps = runs_on (record old { checkpoint = Running }) o steps

  steps_from : (old : Parts B D) (at : Checkpoint) (o : Outcome B) → StepsFrom (state old.volume.shelf.disk) (state new.volume.shelf.disk) old new at o
      → MakesOne (state old.volume.shelf.disk) (state new.volume.shelf.disk)
  steps_from old Off o steps = steps_off old _ o steps
  steps_from old Running o steps = runs_on old o steps
  steps_from old Turning o steps = let made = steps.counts.calls in omega (arith, made)

  pub checkpoint_calls : (old : Parts B D) (failed : Bool) (o : Outcome B) → CheckpointSteps (state old.volume.shelf.disk) (state new.volume.shelf.disk) old new failed o
      → MakesOne (state old.volume.shelf.disk) (state new.volume.shelf.disk)
  checkpoint_calls old true o steps = few_same state old new steps.1
  checkpoint_calls old false o steps = steps_from old old.checkpoint o steps
