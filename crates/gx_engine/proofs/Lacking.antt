-- Only what looks for pairs is refused memory.
use Rattle.std.proofs.Common.{◌≡◌, ◌⊎◌, ◌∷◌, ◌++◌, [], inl, inr, ℕ, Bool, true, false, Option, None, Some, List, length, refl, ap, sym, ◌∙◌, subst, ⊎_elim}
use Rattle.std.specs.Prelude.{◌-◌, nat_le, nat_lt, if◌then◌else◌, Result, Ok, Err}
use Rattle.gx_geom.specs.declared.refusal.Refusal.{Refusal}
use Rattle.gx_geom.specs.declared.refusal.Refusal.TheVariants as refusal
use Rattle.gx_disk.specs.Device.{Device}
use Rattle.gx_glog.specs.declared.stage.Stage.{Stage}
use Rattle.gx_glog.specs.declared.stage.Stage.TheVariants as stage
use Rattle.gx_glog.specs.declared.stage.Turn.{Turn}
use Rattle.gx_index_laws.specs.declared.TheConstants.{CHECKPOINT_AT}
use Rattle.gx_machine.specs.declared.call.Call.{Call}
use Rattle.gx_machine.specs.declared.call.Call.TheVariants.{Abort, Begin, Commit, Delete, Insert, Search}
use Rattle.gx_machine.specs.declared.entry.Entry.{Entry}
use Rattle.gx_machine.specs.declared.limits.TheConstants.{MAX_CLAIMS, MAX_PREDICATES}
use Rattle.gx_machine.specs.declared.reply.Asked.{Asked}
use Rattle.gx_machine.specs.declared.reply.Asked.TheVariants as asked
use Rattle.gx_machine.specs.declared.reply.Reply.TheVariants as reply
use Rattle.gx_machine.specs.Keys.{Keys}
use Rattle.gx_machine.specs.Machine.{is_session}
use Rattle.gx_machine.specs.Sessions.{Locks, has_query, lock_for}
use Rattle.gx_machine.specs.Sets.{has, including}
use Rattle.gx_node.specs.Reading.{Format}
use Rattle.gx_page.specs.Contents.{Contents}
use Rattle.gx_recovery.specs.Known.{Known, Limits}
use Rattle.gx_durable.specs.Spelled.{Reading}
use Rattle.gx_index_laws.specs.Classes.{Page}
use Rattle.gx_txn.specs.Tables.{claims_in, held_by, least_in, locks_for}
use Rattle.gx_phases.specs.Asked.{AskedAt, AskedBy, AskedFree, AskedWorking, Begun, IsRefused, LockTaken, is_full}
use Rattle.gx_phases.specs.declared.phase.Phase.{Phase}
use Rattle.gx_phases.specs.declared.phase.Phase.TheVariants as phase
use Rattle.gx_phases.specs.Moves.{next_of}
use Rattle.gx_phases.specs.States.{State, phase_at}
use Rattle.gx_store.specs.declared.fault.StoreFault.{StoreFault}
use Rattle.gx_events.specs.declared.event.Event.{Event}
use Rattle.gx_events.specs.declared.event.Event.TheVariants.{Ask, Move, LogStep, WritePage, CheckpointStep, Sweep}
use Rattle.gx_events.specs.declared.outcome.Outcome.{Outcome}
use Rattle.gx_events.specs.declared.outcome.Outcome.TheVariants.{Replied, More, Help, Nothing, Refused}
use Rattle.gx_engine.specs.declared.checkpoint.Checkpoint.{Checkpoint}
use Rattle.gx_engine.specs.declared.checkpoint.Checkpoint.TheVariants.{Off, Running, Turning}
use Rattle.gx_engine.specs.declared.work.Work.{Work}
use Rattle.gx_engine.specs.declared.work.Work.TheVariants.{Rests}
use Rattle.gx_engine.specs.Asks.{AskComes, outcome_of}
use Rattle.gx_engine.specs.Checkpoints.{CheckpointSteps, HeadComes, RunsOn, StepsFrom, StepsOff, SyncComes, TurnComes, WritesDirty}
use Rattle.gx_engine.specs.Comes.{CallMoves, MoveComes, MovesAt, MovesBy, StepComes}
use Rattle.gx_engine.specs.Commits.{AcknowledgeBy}
use Rattle.gx_engine.specs.Flushing.{LogComes, LogSteps, PageComes, PageIsWritten}
use Rattle.gx_engine.specs.Lacking.{LacksOnlyThere, is_lack, is_memory, takes_memory}
use Rattle.gx_engine.specs.Repeated.{IsFlushing}
use Rattle.gx_engine.specs.Setting.{phase_in}
use Rattle.gx_engine.specs.States.{Parts, is_due, runs}
use Rattle.gx_engine.specs.Stepping.{has_call}
use Rattle.gx_engine.specs.Sweeping.{SweepComes, SweepsBy, is_page}
use Rattle.gx_engine.specs.Undoing.{UndoBy}
use Rattle.gx_engine.specs.Writes.{IsAtLook, is_looking}

-- what is given says nothing of memory
never : {B : Type 0} (outcome given : Outcome B) → outcome ≡ given → is_lack given ≡ false → is_lack outcome ≡ true → ⊥
never outcome given is not lacks = let says : is_lack outcome ≡ false = ap is_lack is ∙ not in cc

-- ---- asks

-- a lock isn't refused for lack of memory
abbrev NoMemory : {A : Type 0} → Result A Refusal → Type 0
NoMemory (Ok done) = Unit {0}
NoMemory (Err why) = is_memory why ≡ false

claimed : {A : Type 0} (there fits : Bool) (one other : A)
    → NoMemory (if there then Ok one else if fits then Ok other else Err refusal.ClaimsFull)
claimed true fits one other = tt
claimed false true one other = tt
claimed false false one other = refl

watched : {A : Type 0} (there fits : Bool) (one other : A)
    → NoMemory (if there then Ok one else if fits then Ok other else Err refusal.PredicatesFull)
watched true fits one other = tt
watched false true one other = tt
watched false false one other = refl

locks_taken : {B : Type 0} (k : Keys B) (call : Call B) (least : Option ℕ) (spent : ℕ) (locks : Locks B)
    → NoMemory (lock_for k call least spent locks)
locks_taken k call (Some other) spent locks = refl
locks_taken k Begin None spent locks = tt
locks_taken k (Insert e) None spent locks =
    claimed (has k e locks.claims) (nat_lt spent MAX_CLAIMS) locks (record locks { claims = including k e locks.claims })
locks_taken k (Delete e) None spent locks =
    claimed (has k e locks.claims) (nat_lt spent MAX_CLAIMS) locks (record locks { claims = including k e locks.claims })
locks_taken k (Search q) None spent locks =
    watched (has_query k q locks.predicates) (nat_lt (length locks.predicates) MAX_PREDICATES) locks
    (record locks { predicates = locks.predicates ++ q ∷ [] })
locks_taken k Commit None spent locks = tt
locks_taken k Abort None spent locks = tt

refuses : {B W : Type 0} (why : Refusal) (old new : State B W) (given : Asked B) → is_memory why ≡ false
    → IsRefused why old given new → is_lack (outcome_of given) ≡ true → ⊥
refuses why old new given not is lacks = never (outcome_of given) (Replied (reply.Refused why)) (ap outcome_of is.0) not lacks

locked : {B W : Type 0} (r : Result (Locks B) Refusal) (s : ℕ) (call : Call B) (work : W) (old new : State B W) (given : Asked B)
    → NoMemory r → LockTaken r s call work old given new → is_lack (outcome_of given) ≡ true → ⊥
locked (Ok locks) s call work old new given not is lacks = never (outcome_of given) More (ap outcome_of is.0) refl lacks
locked (Err why) s call work old new given not is lacks = refuses why old new given not is lacks

began : {B W : Type 0} (full : Bool) (s : ℕ) (old new : State B W) (given : Asked B) → Begun full s old given new
    → is_lack (outcome_of given) ≡ true → ⊥
began true s old new given is lacks = refuses refusal.HistoryFull old new given refl is lacks
began false s old new given is lacks = never (outcome_of given) (Replied reply.Ok) (ap outcome_of is.0) refl lacks

asked_free : {B W : Type 0} (s : ℕ) (call : Call B) (old new : State B W) (given : Asked B) → AskedFree s call old given new
    → is_lack (outcome_of given) ≡ true → ⊥
asked_free s Begin old new given is lacks = began (is_full old) s old new given is lacks
asked_free s (Insert e) old new given is lacks = refuses refusal.NoTransaction old new given refl is lacks
asked_free s (Delete e) old new given is lacks = refuses refusal.NoTransaction old new given refl is lacks
asked_free s (Search q) old new given is lacks = refuses refusal.NoTransaction old new given refl is lacks
asked_free s Commit old new given is lacks = refuses refusal.NoTransaction old new given refl is lacks
asked_free s Abort old new given is lacks = refuses refusal.NoTransaction old new given refl is lacks

asked_working : {B W : Type 0} (k : Keys B) (s : ℕ) (call : Call B) (work : W) (old new : State B W) (given : Asked B)
    → AskedWorking k s call work old given new → is_lack (outcome_of given) ≡ true → ⊥
asked_working k s Begin work old new given is lacks = refuses refusal.InTransaction old new given refl is lacks
asked_working k s (Insert e) work old new given is lacks =
    let none = locks_taken k (Insert e) (least_in k (Insert e) s 1 old.table) (claims_in old.table) (held_by s old.table).locks in
    locked (locks_for k (Insert e) s old.table) s (Insert e) work old new given none is lacks
asked_working k s (Delete e) work old new given is lacks =
    let none = locks_taken k (Delete e) (least_in k (Delete e) s 1 old.table) (claims_in old.table) (held_by s old.table).locks in
    locked (locks_for k (Delete e) s old.table) s (Delete e) work old new given none is lacks
asked_working k s (Search q) work old new given is lacks =
    let none = locks_taken k (Search q) (least_in k (Search q) s 1 old.table) (claims_in old.table) (held_by s old.table).locks in
    locked (locks_for k (Search q) s old.table) s (Search q) work old new given none is lacks
asked_working k s Commit work old new given is lacks = never (outcome_of given) More (ap outcome_of is.0) refl lacks
asked_working k s Abort work old new given is lacks = never (outcome_of given) More (ap outcome_of is.0) refl lacks

asked_at : {B W : Type 0} (k : Keys B) (s : ℕ) (call : Call B) (work : W) (p : Phase B W) (old new : State B W) (given : Asked B)
    → AskedAt k s call work p old given new → is_lack (outcome_of given) ≡ true → ⊥
asked_at k s call work phase.Free old new given is lacks = asked_free s call old new given is lacks
asked_at k s call work phase.Working old new given is lacks = asked_working k s call work old new given is lacks
asked_at k s call work (phase.Open pending on) old new given is lacks = refuses refusal.CallOpen old new given refl is lacks
asked_at k s call work (phase.Undoing restored on) old new given is lacks = refuses refusal.CallOpen old new given refl is lacks
asked_at k s call work (phase.Waiting number) old new given is lacks = refuses refusal.CallOpen old new given refl is lacks

asked_by : {B W : Type 0} (k : Keys B) (s : ℕ) (call : Call B) (work : W) (failed there : Bool) (old new : State B W) (given : Asked B)
    → AskedBy k s call work failed there old given new → is_lack (outcome_of given) ≡ true → ⊥
asked_by k s call work true there old new given is lacks = refuses refusal.Failed old new given refl is lacks
asked_by k s call work false false old new given is lacks = refuses refusal.BadSession old new given refl is lacks
asked_by k s call work false true old new given is lacks =
    asked_at k s call work (phase_at (s - 1) old.phases) old new given is lacks

ask_never : {B D : Type 0} (k : Keys B) (s : ℕ) (call : Call B) (old new : Parts B D) (outcome : Outcome B)
    → AskComes k s call old outcome new → is_lack outcome ≡ true → ⊥
ask_never k s call old new (Replied r) comes lacks =
    asked_by k s call Rests old.sessions.failed (is_session s) old.sessions new.sessions (asked.Now r) comes.0 lacks
ask_never k s call old new More comes lacks = cc
ask_never k s call old new (Help n) comes lacks = comes
ask_never k s call old new Nothing comes lacks = comes
ask_never k s call old new (Refused why) comes lacks = comes

-- ---- the flusher's events

log_never : {B D : Type 0} (old new : Parts B D) (outcome : Outcome B) (result : Result Stage Refusal)
    → LogComes old new outcome result → is_lack outcome ≡ true → ⊥
log_never old new outcome (Ok stage.Idle) comes lacks = never outcome Nothing comes.0 refl lacks
log_never old new outcome (Ok stage.Body) comes lacks = never outcome More comes.0 refl lacks
log_never old new outcome (Ok stage.BodySync) comes lacks = never outcome More comes.0 refl lacks
log_never old new outcome (Ok stage.Gate) comes lacks = never outcome More comes.0 refl lacks
log_never old new outcome (Ok stage.GateSync) comes lacks = never outcome More comes.0 refl lacks
log_never old new outcome (Err why) comes lacks = never outcome (Refused refusal.Device) comes.0 refl lacks

log_steps : {B D : Type 0} (d e : Device) (old new : Parts B D) (failed running : Bool) (outcome : Outcome B)
    → LogSteps d e old new failed running outcome → is_lack outcome ≡ true → ⊥
log_steps d e old new true running outcome comes lacks = never outcome (Refused refusal.Failed) comes.0 refl lacks
log_steps d e old new false true outcome comes lacks = never outcome Nothing comes.0 refl lacks
log_steps d e old new false false outcome comes lacks = log_never old new outcome comes.0 comes.2 lacks

page_never : {B D : Type 0} (old new : Parts B D) (outcome : Outcome B) (result : Result Bool Refusal)
    → PageComes old new outcome result → is_lack outcome ≡ true → ⊥
page_never old new outcome (Ok true) comes lacks = never outcome More comes.0 refl lacks
page_never old new outcome (Ok false) comes lacks = never outcome Nothing comes.0 refl lacks
page_never old new outcome (Err why) comes lacks = never outcome (Refused refusal.Device) comes.0 refl lacks

page_written : {B D : Type 0} (page : ℕ) (d e : Device) (old new : Parts B D) (failed : Bool) (outcome : Outcome B)
    → PageIsWritten page d e old new failed outcome → is_lack outcome ≡ true → ⊥
page_written page d e old new true outcome comes lacks = never outcome (Refused refusal.Failed) comes.0 refl lacks
page_written page d e old new false outcome comes lacks = page_never old new outcome comes.0 comes.2 lacks

head_never : {B D : Type 0} (old new : Parts B D) (outcome : Outcome B) (result : Result (Unit {0}) StoreFault)
    → HeadComes old new outcome result → is_lack outcome ≡ true → ⊥
head_never old new outcome (Ok done) comes lacks = never outcome More comes.0 refl lacks
head_never old new outcome (Err fault) comes lacks = never outcome (Refused refusal.Damaged) comes.0 refl lacks

sync_never : {B D : Type 0} (old new : Parts B D) (outcome : Outcome B) (result : Result (Unit {0}) Refusal)
    → SyncComes old new outcome result → is_lack outcome ≡ true → ⊥
sync_never old new outcome (Ok done) comes lacks = head_never old new outcome comes.0 comes.1 lacks
sync_never old new outcome (Err why) comes lacks = never outcome (Refused refusal.Device) comes.0 refl lacks

dirty_never : {B D : Type 0} (d e : Device) (old new : Parts B D) (outcome : Outcome B) → WritesDirty d e old new outcome
    → is_lack outcome ≡ true → ⊥
dirty_never d e old new outcome (inl next) lacks = page_written next.page d e old new false outcome next.writes lacks
dirty_never d e old new outcome (inr none) lacks = never outcome (Refused refusal.Damaged) none.broken.0 refl lacks

runs_never : {B D : Type 0} (d e : Device) (old new : Parts B D) (outcome : Outcome B) → RunsOn d e old new outcome
    → is_lack outcome ≡ true → ⊥
runs_never d e old new outcome (inl gates) lacks = log_never old new outcome gates.result gates.comes lacks
runs_never d e old new outcome (inr (inl writes)) lacks = dirty_never d e old new outcome writes lacks
runs_never d e old new outcome (inr (inr begins)) lacks = sync_never old new outcome begins.result begins.comes lacks

turn_never : {B D : Type 0} (old new : Parts B D) (outcome : Outcome B) (result : Result Turn Refusal)
    → TurnComes old new outcome result → is_lack outcome ≡ true → ⊥
turn_never old new outcome (Ok call) comes lacks = never outcome More comes.0 refl lacks
turn_never old new outcome (Err why) comes lacks = never outcome (Refused refusal.Device) comes.0 refl lacks

off_never : {B D : Type 0} (d e : Device) (old new : Parts B D) (due : Bool) (outcome : Outcome B)
    → StepsOff d e old new due outcome → is_lack outcome ≡ true → ⊥
off_never d e old new false outcome comes lacks = never outcome Nothing comes.0 refl lacks
off_never d e old new true outcome comes lacks = runs_never d e (record old { checkpoint = Running }) new outcome comes lacks

from_never : {B D : Type 0} (d e : Device) (old new : Parts B D) (at : Checkpoint) (outcome : Outcome B)
    → StepsFrom d e old new at outcome → is_lack outcome ≡ true → ⊥
from_never d e old new Off outcome comes lacks =
    off_never d e old new (nat_le CHECKPOINT_AT old.volume.log.used) outcome comes lacks
from_never d e old new Running outcome comes lacks = runs_never d e old new outcome comes lacks
from_never d e old new Turning outcome comes lacks = turn_never old new outcome comes.result comes.comes lacks

checkpoint_never : {B D : Type 0} (d e : Device) (old new : Parts B D) (failed : Bool) (outcome : Outcome B)
    → CheckpointSteps d e old new failed outcome → is_lack outcome ≡ true → ⊥
checkpoint_never d e old new true outcome comes lacks = never outcome (Refused refusal.Failed) comes.0 refl lacks
checkpoint_never d e old new false outcome comes lacks = from_never d e old new old.checkpoint outcome comes lacks

-- ---- moves, and sweeps

-- memory is named by one refusal alone
memory_is : (why : Refusal) → is_memory why ≡ true → why ≡ refusal.Memory
memory_is refusal.NoTransaction is = let no : ⊥ = cc in absurd no
memory_is refusal.InTransaction is = let no : ⊥ = cc in absurd no
memory_is refusal.Present is = let no : ⊥ = cc in absurd no
memory_is refusal.Absent is = let no : ⊥ = cc in absurd no
memory_is refusal.BadBox is = let no : ⊥ = cc in absurd no
memory_is refusal.PagesFull is = let no : ⊥ = cc in absurd no
memory_is refusal.ClaimsFull is = let no : ⊥ = cc in absurd no
memory_is refusal.PredicatesFull is = let no : ⊥ = cc in absurd no
memory_is refusal.Device is = let no : ⊥ = cc in absurd no
memory_is refusal.Failed is = let no : ⊥ = cc in absurd no
memory_is refusal.Damaged is = let no : ⊥ = cc in absurd no
memory_is refusal.NotFormatted is = let no : ⊥ = cc in absurd no
memory_is refusal.BadSession is = let no : ⊥ = cc in absurd no
memory_is refusal.CallOpen is = let no : ⊥ = cc in absurd no
memory_is refusal.TooSmall is = let no : ⊥ = cc in absurd no
memory_is refusal.BadParameter is = let no : ⊥ = cc in absurd no
memory_is refusal.NoCall is = let no : ⊥ = cc in absurd no
memory_is refusal.HistoryFull is = let no : ⊥ = cc in absurd no
memory_is refusal.OldVersion is = let no : ⊥ = cc in absurd no
memory_is (refusal.Busy s) is = let no : ⊥ = cc in absurd no
memory_is refusal.Memory is = refl

-- so a lack of memory is a reply, or a refusal
lack_is : {B : Type 0} (outcome : Outcome B) → is_lack outcome ≡ true
    → (outcome ≡ Replied (reply.Refused refusal.Memory)) ⊎ (outcome ≡ Refused refusal.Memory)
lack_is (Replied reply.Ok) is = let no : ⊥ = cc in absurd no
lack_is (Replied reply.Inserted) is = let no : ⊥ = cc in absurd no
lack_is (Replied reply.Deleted) is = let no : ⊥ = cc in absurd no
lack_is (Replied (reply.Found entries)) is = let no : ⊥ = cc in absurd no
lack_is (Replied (reply.Committed n)) is = let no : ⊥ = cc in absurd no
lack_is (Replied reply.Aborted) is = let no : ⊥ = cc in absurd no
lack_is (Replied (reply.Refused why)) is = inl (ap (λ w. Replied (reply.Refused w)) (memory_is why is))
lack_is More is = let no : ⊥ = cc in absurd no
lack_is (Help n) is = let no : ⊥ = cc in absurd no
lack_is Nothing is = let no : ⊥ = cc in absurd no
lack_is (Refused why) is = inr (ap (λ w. Refused w) (memory_is why is))

-- a write that is at its look by what the session's phase is
at_look : {B D : Type 0} (s : ℕ) (call : Call B) (work : Work B) (old : Parts B D) → phase_in s old ≡ phase.Open call work
    → IsAtLook s call old → is_looking work ≡ true
at_look s call work old at look =
    let same : phase.Open call look.work ≡ phase.Open call work = sym look.at ∙ at in
    let one : look.work ≡ work = cc in
    subst (λ w. is_looking w ≡ true) one look.looks

module _ {B D : Type 0} (k : Keys B) (known : Limits → Known (Entry B) (Page B)) (r : Reading (Entry B) (Page B)) (f : Format B)
    (passes : ℕ → Contents → Bool) (IsKey : B → Type 0) (spelling : B → List ℕ) (key : ℕ) (d e : Device) (old new : Parts B D) where
  call_replied : (s : ℕ) (call : Call B) (work : Work B) → phase_in s old ≡ phase.Open call work
      → CallMoves k known r f passes IsKey spelling key d e s old new call (Replied (reply.Refused refusal.Memory)) → takes_memory (phase.Open call work) ≡ true
  call_replied s Begin work at comes = let is = comes.0 in let no : ⊥ = cc in absurd no
  call_replied s (Insert entry) work at comes = at_look s (Insert entry) work old at comes.0
  call_replied s (Delete entry) work at comes = at_look s (Delete entry) work old at comes.0
  call_replied s (Search query) work at comes = refl
  call_replied s Commit work at comes = absurd comes
  call_replied s Abort work at comes = let is = comes.0 in let no : ⊥ = cc in absurd no

  undo_replied : (s : ℕ) (due : Bool) (next : Option ℕ) → UndoBy known r f passes IsKey k spelling key due next d e s old new (Replied (reply.Refused refusal.Memory))
      → ⊥
  undo_replied s true next comes = let is = comes.0 in cc
  undo_replied s false None comes = comes
  undo_replied s false (Some restored) comes = comes.2

  acknowledge_replied : (s number : ℕ) (durable : Bool) → AcknowledgeBy durable s number old new (Replied (reply.Refused refusal.Memory)) → ⊥
  acknowledge_replied s number true comes = let is = comes.0 in cc
  acknowledge_replied s number false comes = let is = comes.0 in cc

  phase_replied : (s : ℕ) (p : Phase B (Work B)) → phase_in s old ≡ p
      → MovesAt k known r f passes IsKey spelling key d e s old new p (Replied (reply.Refused refusal.Memory)) → takes_memory p ≡ true
  phase_replied s phase.Free at comes = let is = comes.0 in let no : ⊥ = cc in absurd no
  phase_replied s phase.Working at comes = let is = comes.0 in let no : ⊥ = cc in absurd no
  phase_replied s (phase.Open call work) at comes = call_replied s call work at comes
  phase_replied s (phase.Undoing restored work) at comes =
      absurd (undo_replied s (is_due old) (next_of s old.sessions) comes)
  phase_replied s (phase.Waiting number) at comes =
      absurd (acknowledge_replied s number (nat_le number old.sessions.durable) comes)

  move_replied : (s : ℕ) (there has failed : Bool)
      → MovesBy k known r f passes IsKey spelling key d e there has failed s old new (Replied (reply.Refused refusal.Memory)) → takes_memory (phase_in s old) ≡ true
  move_replied s false has failed comes = let is = comes.0 in let no : ⊥ = cc in absurd no
  move_replied s true false failed comes = let is = comes.0 in let no : ⊥ = cc in absurd no
  move_replied s true true true comes = let is = comes.0 in let no : ⊥ = cc in absurd no
  move_replied s true true false comes = phase_replied s (phase_in s old) refl comes

  call_refused : (s : ℕ) (call : Call B) → CallMoves k known r f passes IsKey spelling key d e s old new call (Refused refusal.Memory) → ⊥
  call_refused s Begin comes = let is = comes.0 in cc
  call_refused s (Insert entry) comes = comes
  call_refused s (Delete entry) comes = comes
  call_refused s (Search query) comes = comes
  call_refused s Commit comes = comes
  call_refused s Abort comes = let is = comes.0 in cc

  undo_refused : (s : ℕ) (due : Bool) (next : Option ℕ) → UndoBy known r f passes IsKey k spelling key due next d e s old new (Refused refusal.Memory)
      → ⊥
  undo_refused s true next comes = let is = comes.0 in cc
  undo_refused s false None comes = comes
  undo_refused s false (Some restored) comes = comes.2

  acknowledge_refused : (s number : ℕ) (durable : Bool) → AcknowledgeBy durable s number old new (Refused refusal.Memory) → ⊥
  acknowledge_refused s number true comes = let is = comes.0 in cc
  acknowledge_refused s number false comes = let is = comes.0 in cc

  phase_refused : (s : ℕ) (p : Phase B (Work B)) → MovesAt k known r f passes IsKey spelling key d e s old new p (Refused refusal.Memory) → ⊥
  phase_refused s phase.Free comes = let is = comes.0 in cc
  phase_refused s phase.Working comes = let is = comes.0 in cc
  phase_refused s (phase.Open call work) comes = call_refused s call comes
  phase_refused s (phase.Undoing restored work) comes = undo_refused s (is_due old) (next_of s old.sessions) comes
  phase_refused s (phase.Waiting number) comes = acknowledge_refused s number (nat_le number old.sessions.durable) comes

  move_refused : (s : ℕ) (there has failed : Bool)
      → MovesBy k known r f passes IsKey spelling key d e there has failed s old new (Refused refusal.Memory) → ⊥
  move_refused s false has failed comes = let is = comes.0 in cc
  move_refused s true false failed comes = let is = comes.0 in cc
  move_refused s true true true comes = let is = comes.0 in cc
  move_refused s true true false comes = phase_refused s (phase_in s old) comes

  move_lacks : (s : ℕ) (outcome : Outcome B) → MoveComes k known r f passes IsKey spelling key d e s old new outcome
      → (outcome ≡ Replied (reply.Refused refusal.Memory)) ⊎ (outcome ≡ Refused refusal.Memory)
      → takes_memory (phase_in s old) ≡ true
  move_lacks s outcome comes (inl is) =
      move_replied s (is_session s) (has_call (phase_in s old)) old.sessions.failed
      (subst (λ o. MoveComes k known r f passes IsKey spelling key d e s old new o) is comes)
  move_lacks s outcome comes (inr is) =
      absurd (move_refused s (is_session s) (has_call (phase_in s old)) old.sessions.failed
      (subst (λ o. MoveComes k known r f passes IsKey spelling key d e s old new o) is comes))

  swept_never : (page : ℕ) (there : Bool) (outcome : Outcome B) → SweepsBy k known r f passes there page d e old new outcome
      → (outcome ≡ Replied (reply.Refused refusal.Memory)) ⊎ (outcome ≡ Refused refusal.Memory) → ⊥
  swept_never page false outcome comes (inl is) = let nothing = comes.0 in cc
  swept_never page false outcome comes (inr is) = let nothing = comes.0 in cc
  swept_never page true outcome comes (inl is) =
      subst (λ o. SweepsBy k known r f passes true page d e old new o) is comes
  swept_never page true outcome comes (inr is) =
      let failed = subst (λ o. SweepsBy k known r f passes true page d e old new o) is comes in
      ⊎_elim (λ device. let no = device.0 in cc) (λ lies. let no = lies.0 in cc) failed.0

  sweep_never : (page : ℕ) (failed : Bool) (outcome : Outcome B) → SweepComes k known r f passes page d e old new failed outcome
      → is_lack outcome ≡ true → ⊥
  sweep_never page true outcome comes lacks = never outcome (Refused refusal.Failed) comes.0 refl lacks
  sweep_never page false outcome comes lacks = swept_never page (is_page page old) outcome comes (lack_is outcome lacks)

  -- Whatever its outcome, an event reports a lack of memory only if it may take some.
  pub step_lacks : (event : Event B) (outcome : Outcome B)
      → StepComes k known r f passes IsKey spelling key d e event old new outcome → LacksOnlyThere event old outcome
  step_lacks (Ask s call) outcome comes lacks = absurd (ask_never k s call old new outcome comes lacks)
  step_lacks (Move s) outcome comes lacks = move_lacks s outcome comes (lack_is outcome lacks)
  step_lacks LogStep outcome comes lacks =
      absurd (log_steps d e old new old.sessions.failed (runs old.checkpoint) outcome comes lacks)
  step_lacks (WritePage page) outcome comes lacks =
      absurd (page_written page d e old new old.sessions.failed outcome comes lacks)
  step_lacks CheckpointStep outcome comes lacks =
      absurd (checkpoint_never d e old new old.sessions.failed outcome comes lacks)
  step_lacks (Sweep page) outcome comes lacks =
      absurd (sweep_never page old.sessions.failed outcome comes lacks)

-- A step of the log, or of a checkpoint, is never refused for lack of memory.
pub flushing_never : {B D : Type 0} (event : Event B) (e : Parts B D) (why : Refusal) → IsFlushing event
    → LacksOnlyThere event e (Refused why) → why ≡ refusal.Memory → ⊥
flushing_never LogStep e why flushes lacks is = let took : false ≡ true = lacks (ap is_memory is) in cc
flushing_never CheckpointStep e why flushes lacks is = let took : false ≡ true = lacks (ap is_memory is) in cc
flushing_never (Ask s call) e why flushes lacks is = flushes
flushing_never (Move s) e why flushes lacks is = flushes
flushing_never (WritePage page) e why flushes lacks is = flushes
flushing_never (Sweep page) e why flushes lacks is = flushes
