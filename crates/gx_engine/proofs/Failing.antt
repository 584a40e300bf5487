-- As many calls of the device have failed as an event's outcome says.
use Rattle.std.proofs.Common.{◌≡◌, ◌∷◌, ◌++◌, [], inl, inr, ℕ, ◌+◌, Bool, true, false, Option, None, Some, length, refl, ap, sym, ◌∙◌, arith}
use Rattle.std.specs.Prelude.{◌-◌, nat_lt, if◌then◌else◌, Result, Ok, Err, MatchResult}
use Rattle.gx_geom.specs.declared.refusal.Refusal.{Refusal}
use Rattle.gx_geom.specs.declared.refusal.Refusal.TheVariants as refusal
use Rattle.gx_disk.specs.Device.{Device}
use Rattle.gx_glog.specs.declared.stage.Stage.{Stage}
use Rattle.gx_glog.specs.declared.stage.Stage.TheVariants as stage
use Rattle.gx_glog.specs.declared.stage.Turn.{Turn}
use Rattle.gx_machine.specs.declared.call.Call.{Call}
use Rattle.gx_machine.specs.declared.call.Call.TheVariants.{Abort, Begin, Commit, Delete, Insert, Search}
use Rattle.gx_machine.specs.declared.limits.TheConstants.{MAX_CLAIMS, MAX_PREDICATES}
use Rattle.gx_machine.specs.declared.reply.Asked.{Asked}
use Rattle.gx_machine.specs.declared.reply.Asked.TheVariants as asked
use Rattle.gx_machine.specs.declared.reply.Reply.{Reply}
use Rattle.gx_machine.specs.declared.reply.Reply.TheVariants as reply
use Rattle.gx_machine.specs.Keys.{Keys}
use Rattle.gx_machine.specs.Machine.{is_session}
use Rattle.gx_machine.specs.Sessions.{Locks, has_query, lock_for}
use Rattle.gx_machine.specs.Sets.{has, including}
use Rattle.gx_txn.specs.Tables.{claims_in, held_by, least_in, locks_for}
use Rattle.gx_phases.specs.Asked.{AskedAt, AskedBy, AskedFree, AskedWorking, Begun, IsRefused, LockTaken, is_full}
use Rattle.gx_phases.specs.declared.phase.Phase.{Phase}
use Rattle.gx_phases.specs.declared.phase.Phase.TheVariants as phase
use Rattle.gx_phases.specs.States.{State, phase_at}
use Rattle.gx_node.specs.declared.fault.SplitFault.{SplitFault}
use Rattle.gx_node.specs.declared.fault.SplitFault.TheVariants as split
use Rattle.gx_node.specs.declared.fault.StepFault.{StepFault}
use Rattle.gx_node.specs.declared.fault.StepFault.TheVariants as step
use Rattle.gx_node.specs.Owner.{split_fails, step_fails}
use Rattle.gx_store.specs.Faults.{refusal_fails, store_fails}
use Rattle.gx_store.specs.declared.fault.StoreFault.{StoreFault}
use Rattle.gx_events.specs.declared.event.Event.{Event}
use Rattle.gx_events.specs.declared.driver.Next.TheVariants.{Run, Done}
use Rattle.gx_events.specs.declared.outcome.Need.TheVariants as need
use Rattle.gx_events.specs.declared.outcome.Outcome.{Outcome}
use Rattle.gx_events.specs.declared.outcome.Outcome.TheVariants.{Replied, More, Help, Nothing, Refused}
use Rattle.gx_events.specs.Driven.{next_of}
use Rattle.gx_storage.specs.State.{Volume}
use Rattle.gx_engine.specs.declared.checkpoint.Checkpoint.{Checkpoint}
use Rattle.gx_engine.specs.declared.checkpoint.Checkpoint.TheVariants.{Off, Running, Turning}
use Rattle.gx_engine.specs.declared.work.Work.TheVariants.{Rests}
use Rattle.gx_engine.specs.Asks.{AskComes, outcome_of}
use Rattle.gx_engine.specs.Calls.{TellsAs, outcome_fails}
use Rattle.gx_engine.specs.Checkpoints.{CheckpointSteps, HeadComes, RunsOn, StepsFrom, StepsOff, SyncComes, TurnComes}
use Rattle.gx_engine.specs.Commits.{AcknowledgeBy, AcknowledgeComes, SealComes}
use Rattle.gx_engine.specs.Flushing.{LogComes, LogGoes, LogSteps, PageComes, PageGoes, PageIsWritten}
use Rattle.gx_engine.specs.States.{Parts}
use Rattle.gx_engine.specs.Undoing.{EndComes}

-- an outcome that says of no call that it failed, or of one
none : {B : Type 0} (before after : ℕ) (o given : Outcome B) → o ≡ given → outcome_fails given ≡ 0 → after ≡ before → after ≡ before + outcome_fails o
none before after o given is zero same = let says : outcome_fails o ≡ 0 = ap outcome_fails is ∙ zero in omega (arith, says, same)

one : {B : Type 0} (before after : ℕ) (o given : Outcome B) → o ≡ given → outcome_fails given ≡ 1 → after ≡ before + 1 → after ≡ before + outcome_fails o
one before after o given is single more = let says : outcome_fails o ≡ 1 = ap outcome_fails is ∙ single in omega (arith, says, more)

-- ---- asks

-- a lock isn't refused for a failed call
abbrev NoFault : {A : Type 0} → Result A Refusal → Type 0
NoFault (Ok done) = Unit {0}
NoFault (Err why) = refusal_fails why ≡ 0

claimed : {A : Type 0} (there fits : Bool) (one other : A) → NoFault (if there then Ok one else if fits then Ok other else Err refusal.ClaimsFull)
claimed true fits one other = tt
claimed false true one other = tt
claimed false false one other = refl

watched : {A : Type 0} (there fits : Bool) (one other : A) → NoFault (if there then Ok one else if fits then Ok other else Err refusal.PredicatesFull)
watched true fits one other = tt
watched false true one other = tt
watched false false one other = refl

locks_taken : {B : Type 0} (k : Keys B) (call : Call B) (least : Option ℕ) (spent : ℕ) (locks : Locks B) → NoFault (lock_for k call least spent locks)
locks_taken k call (Some other) spent locks = refl
locks_taken k Begin None spent locks = tt
locks_taken k (Insert e) None spent locks =
    claimed (has k e locks.claims) (nat_lt spent MAX_CLAIMS) locks (record locks { claims = including k e locks.claims })
locks_taken k (Delete e) None spent locks =
    claimed (has k e locks.claims) (nat_lt spent MAX_CLAIMS) locks (record locks { claims = including k e locks.claims })
locks_taken k (Search q) None spent locks =
    watched (has_query k q locks.predicates) (nat_lt (length locks.predicates) MAX_PREDICATES) locks (record locks { predicates = locks.predicates ++ q ∷ [] })
locks_taken k Commit None spent locks = tt
locks_taken k Abort None spent locks = tt

abbrev given_fails : {B : Type 0} → Asked B → ℕ
given_fails given = outcome_fails (outcome_of given)

refuses : {B W : Type 0} (why : Refusal) (old new : State B W) (given : Asked B) → refusal_fails why ≡ 0 → IsRefused why old given new → given_fails given ≡ 0
refuses why old new given not is = ap given_fails is.0 ∙ not

locked : {B W : Type 0} (r : Result (Locks B) Refusal) (s : ℕ) (call : Call B) (work : W) (old new : State B W) (given : Asked B)
    → NoFault r → LockTaken r s call work old given new → given_fails given ≡ 0
locked (Ok locks) s call work old new given not is = ap given_fails is.0
locked (Err why) s call work old new given not is = refuses why old new given not is

began : {B W : Type 0} (full : Bool) (s : ℕ) (old new : State B W) (given : Asked B) → Begun full s old given new → given_fails given ≡ 0
began true s old new given is = refuses refusal.HistoryFull old new given refl is
began false s old new given is = ap given_fails is.0

asked_free : {B W : Type 0} (s : ℕ) (call : Call B) (old new : State B W) (given : Asked B) → AskedFree s call old given new → given_fails given ≡ 0
asked_free s Begin old new given is = began (is_full old) s old new given is
asked_free s (Insert e) old new given is = refuses refusal.NoTransaction old new given refl is
asked_free s (Delete e) old new given is = refuses refusal.NoTransaction old new given refl is
asked_free s (Search q) old new given is = refuses refusal.NoTransaction old new given refl is
asked_free s Commit old new given is = refuses refusal.NoTransaction old new given refl is
asked_free s Abort old new given is = refuses refusal.NoTransaction old new given refl is

asked_working : {B W : Type 0} (k : Keys B) (s : ℕ) (call : Call B) (work : W) (old new : State B W) (given : Asked B)
    → AskedWorking k s call work old given new → given_fails given ≡ 0
asked_working k s Begin work old new given is = refuses refusal.InTransaction old new given refl is
asked_working k s (Insert e) work old new given is =
    let not = locks_taken k (Insert e) (least_in k (Insert e) s 1 old.table) (claims_in old.table) (held_by s old.table).locks in
    locked (locks_for k (Insert e) s old.table) s (Insert e) work old new given not is
asked_working k s (Delete e) work old new given is =
    let not = locks_taken k (Delete e) (least_in k (Delete e) s 1 old.table) (claims_in old.table) (held_by s old.table).locks in
    locked (locks_for k (Delete e) s old.table) s (Delete e) work old new given not is
asked_working k s (Search q) work old new given is =
    let not = locks_taken k (Search q) (least_in k (Search q) s 1 old.table) (claims_in old.table) (held_by s old.table).locks in
    locked (locks_for k (Search q) s old.table) s (Search q) work old new given not is
asked_working k s Commit work old new given is = ap given_fails is.0
asked_working k s Abort work old new given is = ap given_fails is.0

asked_at : {B W : Type 0} (k : Keys B) (s : ℕ) (call : Call B) (work : W) (p : Phase B W) (old new : State B W) (given : Asked B)
    → AskedAt k s call work p old given new → given_fails given ≡ 0
asked_at k s call work phase.Free old new given is = asked_free s call old new given is
asked_at k s call work phase.Working old new given is = asked_working k s call work old new given is
asked_at k s call work (phase.Open pending on) old new given is = refuses refusal.CallOpen old new given refl is
asked_at k s call work (phase.Undoing restored on) old new given is = refuses refusal.CallOpen old new given refl is
asked_at k s call work (phase.Waiting number) old new given is = refuses refusal.CallOpen old new given refl is

asked_by : {B W : Type 0} (k : Keys B) (s : ℕ) (call : Call B) (work : W) (failed there : Bool) (old new : State B W) (given : Asked B)
    → AskedBy k s call work failed there old given new → given_fails given ≡ 0
asked_by k s call work true there old new given is = refuses refusal.Failed old new given refl is
asked_by k s call work false false old new given is = refuses refusal.BadSession old new given refl is
asked_by k s call work false true old new given is = asked_at k s call work (phase_at (s - 1) old.phases) old new given is

module _ {B D : Type 0} (state : D → Device) (new : Parts B D) where
  abbrev faults : Parts B D → ℕ
  faults x = (state x.volume.shelf.disk).faults

  -- nothing changes, or what is no device's
  unchanged : (old : Parts B D) (o given : Outcome B) → o ≡ given → outcome_fails given ≡ 0 → new ≡ old → TellsAs state old new o
  unchanged old o given is zero same = none (faults old) (faults new) o given is zero (ap faults same)

  -- a call's count of faults
  abbrev Counted : {T E : Type 0} → Parts B D → Result T E → Type 0
  Counted old result = MatchResult result (λ _. faults new ≡ faults old) (λ _. faults new ≡ faults old + 1)

  pub ask_told : (old : Parts B D) (k : Keys B) (s : ℕ) (call : Call B) (o : Outcome B) → AskComes k s call old o new → TellsAs state old new o
  ask_told old k s call (Replied r) comes =
      none {B = B} (faults old) (faults new) (Replied r) (Replied r) refl
      (asked_by k s call Rests old.sessions.failed (is_session s) old.sessions new.sessions (asked.Now r) comes.0) (ap faults comes.1)
  ask_told old k s call More comes = none {B = B} (faults old) (faults new) More More refl refl (ap faults comes.1)
  ask_told old k s call (Help n) comes = absurd comes
  ask_told old k s call Nothing comes = absurd comes
  ask_told old k s call (Refused why) comes = absurd comes

  -- ---- the flusher's events

  log_told : (old : Parts B D) (o : Outcome B) (result : Result Stage Refusal) → LogGoes (state old.volume.shelf.disk) (state new.volume.shelf.disk) old.volume new.volume result
      → LogComes old new o result → TellsAs state old new o
  log_told old o (Ok stage.Idle) goes comes = none (faults old) (faults new) o Nothing comes.0 refl goes.counts.faults
  log_told old o (Ok stage.Body) goes comes = none (faults old) (faults new) o More comes.0 refl goes.counts.faults
  log_told old o (Ok stage.BodySync) goes comes = none (faults old) (faults new) o More comes.0 refl goes.counts.faults
  log_told old o (Ok stage.Gate) goes comes = none (faults old) (faults new) o More comes.0 refl goes.counts.faults
  log_told old o (Ok stage.GateSync) goes comes = none (faults old) (faults new) o More comes.0 refl goes.counts.faults
  log_told old o (Err why) goes comes = one (faults old) (faults new) o (Refused refusal.Device) comes.0 refl goes.counts.faults

  pub log_steps_told : (old : Parts B D) (failed running : Bool) (o : Outcome B)
      → LogSteps (state old.volume.shelf.disk) (state new.volume.shelf.disk) old new failed running o → TellsAs state old new o
  log_steps_told old true running o steps = unchanged old o (Refused refusal.Failed) steps.0 refl steps.1
  log_steps_told old false true o steps = unchanged old o Nothing steps.0 refl steps.1
  log_steps_told old false false o steps = log_told old o steps.0 steps.1 steps.2

  page_told : (old : Parts B D) (page : ℕ) (o : Outcome B) (result : Result Bool Refusal) → PageGoes page (state old.volume.shelf.disk) (state new.volume.shelf.disk) old.volume new.volume result
      → PageComes old new o result → TellsAs state old new o
  page_told old page o (Ok true) goes comes = none (faults old) (faults new) o More comes.0 refl goes.faults
  page_told old page o (Ok false) goes comes = none (faults old) (faults new) o Nothing comes.0 refl goes.faults
  page_told old page o (Err why) goes comes = one (faults old) (faults new) o (Refused refusal.Device) comes.0 refl goes.faults

  pub written_told : (old : Parts B D) (page : ℕ) (failed : Bool) (o : Outcome B)
      → PageIsWritten page (state old.volume.shelf.disk) (state new.volume.shelf.disk) old new failed o → TellsAs state old new o
  written_told old page true o writes = unchanged old o (Refused refusal.Failed) writes.0 refl writes.1
  written_told old page false o writes = page_told old page o writes.0 writes.1 writes.2

  head_told : (old : Parts B D) (o : Outcome B) (put : Result (Unit {0}) StoreFault) → faults new ≡ faults old → HeadComes old new o put → TellsAs state old new o
  head_told old o (Ok done) same comes = none (faults old) (faults new) o More comes.0 refl same
  head_told old o (Err fault) same comes = none (faults old) (faults new) o (Refused refusal.Damaged) comes.0 refl same

  sync_told : (old : Parts B D) (o : Outcome B) (result : Result (Unit {0}) Refusal) → Counted old result → SyncComes old new o result → TellsAs state old new o
  sync_told old o (Ok done) same comes = head_told old o comes.0 same comes.1
  sync_told old o (Err why) more comes = one (faults old) (faults new) o (Refused refusal.Device) comes.0 refl more

  runs_told : (old : Parts B D) (o : Outcome B) → RunsOn (state old.volume.shelf.disk) (state new.volume.shelf.disk) old new o → TellsAs state old new o
  runs_told old o (inl gates) = log_told old o gates.result gates.goes gates.comes
  runs_told old o (inr (inl (inl next))) = written_told old next.page false o next.writes
  runs_told old o (inr (inl (inr finds))) = none (faults old) (faults new) o (Refused refusal.Damaged) finds.broken.0 refl (ap faults finds.broken.1)
  runs_told old o (inr (inr begins)) = sync_told old o begins.result begins.counts.faults begins.comes

  turn_told : (old : Parts B D) (o : Outcome B) (result : Result Turn Refusal) → Counted old result → TurnComes old new o result → TellsAs state old new o
  turn_told old o (Ok call) same comes = none (faults old) (faults new) o More comes.0 refl same
  turn_told old o (Err why) more comes = one (faults old) (faults new) o (Refused refusal.Device) comes.0 refl more

  off_told : (old : Parts B D) (due : Bool) (o : Outcome B) → StepsOff (state old.volume.shelf.disk) (state new.volume.shelf.disk) old new due o → TellsAs state old new o
  off_told old false o steps = unchanged old o Nothing steps.0 refl steps.1
  off_told old true o steps = runs_told (record old { checkpoint = Running }) o steps

  from_told : (old : Parts B D) (at : Checkpoint) (o : Outcome B) → StepsFrom (state old.volume.shelf.disk) (state new.volume.shelf.disk) old new at o → TellsAs state old new o
  from_told old Off o steps = off_told old _ o steps
  from_told old Running o steps = runs_told old o steps
  from_told old Turning o steps = turn_told old o steps.result steps.counts.faults steps.comes

  pub checkpoint_told : (old : Parts B D) (failed : Bool) (o : Outcome B)
      → CheckpointSteps (state old.volume.shelf.disk) (state new.volume.shelf.disk) old new failed o → TellsAs state old new o
  checkpoint_told old true o steps = unchanged old o (Refused refusal.Failed) steps.0 refl steps.1
  checkpoint_told old false o steps = from_told old old.checkpoint o steps

  -- ---- moves that reach no device

  pub seal_told : (old : Parts B D) (s : ℕ) (o : Outcome B) → SealComes s old new o → TellsAs state old new o
  seal_told old s More comes = none {B = B} (faults old) (faults new) More More refl refl (ap (λ (v : Volume D). (state v.shelf.disk).faults) comes.1.volume)
  seal_told old s (Help need.Log) comes = unchanged old _ (Help need.Log) refl refl comes.2
  seal_told old s (Help need.Checkpoint) comes = unchanged old _ (Help need.Checkpoint) refl refl comes.1
  seal_told old s (Help (need.Write page)) comes = absurd comes
  seal_told old s (Replied r) comes = absurd comes
  seal_told old s Nothing comes = absurd comes
  seal_told old s (Refused why) comes = absurd comes

  acknowledged : (old : Parts B D) (durable : Bool) (s number : ℕ) (o : Outcome B) → AcknowledgeBy durable s number old new o → TellsAs state old new o
  acknowledged old true s number o comes = none (faults old) (faults new) o (Replied (reply.Committed number)) comes.0 refl (ap faults comes.1)
  acknowledged old false s number o comes = unchanged old o (Help _) comes.0 refl comes.1

  pub acknowledge_told : (old : Parts B D) (s number : ℕ) (o : Outcome B) → AcknowledgeComes s number old new o → TellsAs state old new o
  acknowledge_told old s number o comes = acknowledged old _ s number o comes

  pub end_told : (old : Parts B D) (s : ℕ) (o : Outcome B) → EndComes s old new o → TellsAs state old new o
  end_told old s (Replied reply.Aborted) comes =
      none {B = B} (faults old) (faults new) (Replied reply.Aborted) (Replied reply.Aborted) refl refl (ap (λ (v : Volume D). (state v.shelf.disk).faults) comes.volume)
  end_told old s (Help need.Log) comes = unchanged old _ (Help need.Log) refl refl comes.1
  end_told old s o comes = absurd comes

-- ---- events that a session's driver names

goes_on : {B : Type 0} (s : ℕ) (o : Outcome B) (event : Event B) → next_of s o ≡ Run event → outcome_fails o ≡ 0
goes_on s (Replied r) event is = let no : ⊥ = cc in absurd no
goes_on s More event is = refl
goes_on s (Help n) event is = refl
goes_on s Nothing event is = refl
goes_on s (Refused why) event is = let no : ⊥ = cc in absurd no

ends : {B : Type 0} (s : ℕ) (o : Outcome B) (r : Reply B) → next_of s o ≡ Done r → outcome_fails o ≡ outcome_fails (Replied r)
ends s (Replied q) r is = let same : q ≡ r = cc in ap (λ x. outcome_fails (Replied x)) same
ends s (Refused why) r is = let same : reply.Refused why ≡ r = cc in ap (λ x. outcome_fails (Replied x)) same
ends s More r is = let no : ⊥ = cc in absurd no
ends s (Help need.Log) r is = let no : ⊥ = cc in absurd no
ends s (Help (need.Write page)) r is = let no : ⊥ = cc in absurd no
ends s (Help need.Checkpoint) r is = let no : ⊥ = cc in absurd no
ends s Nothing r is = let no : ⊥ = cc in absurd no

module _ {B D : Type 0} (state : D → Device) (old middle new : Parts B D) where
  pub named_told : (s : ℕ) (o : Outcome B) (event : Event B) → next_of s o ≡ Run event → TellsAs state old middle More → TellsAs state middle new o → TellsAs state old new More
  named_told s o event is first next = let fails = goes_on s o event is in omega (arith, fails, first, next)

  pub done_told : (s : ℕ) (o : Outcome B) (r : Reply B) → next_of s o ≡ Done r → TellsAs state old middle More → TellsAs state middle new o → TellsAs state old new (Replied r)
  done_told s o r is first next = let fails = ends s o r is in omega (arith, fails, first, next)

  -- if none failed before
  pub then_told : (o : Outcome B) → (state middle.volume.shelf.disk).faults ≡ (state old.volume.shelf.disk).faults → TellsAs state middle new o → TellsAs state old new o
  then_told o same next = omega (arith, same, next)

  -- none fails later
  pub ends_told : (o : Outcome B) (n : ℕ) → (state middle.volume.shelf.disk).faults ≡ (state old.volume.shelf.disk).faults + n → new.volume ≡ middle.volume → outcome_fails o ≡ n
      → TellsAs state old new o
  ends_told o n first same is =
      let rests : (state new.volume.shelf.disk).faults ≡ (state middle.volume.shelf.disk).faults = ap (λ (v : Volume D). (state v.shelf.disk).faults) same in
      omega (arith, first, rests, is)

  -- pages were refused
  pub pages_told : (given : StepFault StoreFault) (fault : StoreFault) (o : Outcome B) → given ≡ step.Pages fault
      → (state middle.volume.shelf.disk).faults ≡ (state old.volume.shelf.disk).faults + step_fails store_fails given → new.volume ≡ middle.volume → outcome_fails o ≡ store_fails fault
      → TellsAs state old new o
  pages_told given fault o is first same says = ends_told o (step_fails store_fails given) first same (says ∙ sym (ap (λ (x : StepFault StoreFault). step_fails store_fails x) is))

  pub split_pages_told : (whole : SplitFault StoreFault) (given : StepFault StoreFault) (fault : StoreFault) (o : Outcome B) → whole ≡ split.Step given → given ≡ step.Pages fault
      → (state middle.volume.shelf.disk).faults ≡ (state old.volume.shelf.disk).faults + split_fails store_fails whole → new.volume ≡ middle.volume → outcome_fails o ≡ store_fails fault
      → TellsAs state old new o
  split_pages_told whole given fault o of is first same says =
      let all : split_fails store_fails whole ≡ store_fails fault =
      ap (λ (x : SplitFault StoreFault). split_fails store_fails x) of ∙ ap (λ (x : StepFault StoreFault). step_fails store_fails x) is in
      ends_told o (split_fails store_fails whole) first same (says ∙ sym all)

  -- what was refused for no failed call
  pub quiet_told : (n : ℕ) (o given : Outcome B) → n ≡ 0 → (state middle.volume.shelf.disk).faults ≡ (state old.volume.shelf.disk).faults + n → new.volume ≡ middle.volume
      → o ≡ given → outcome_fails given ≡ 0 → TellsAs state old new o
  quiet_told n o given zero first same is says = ends_told o n first same (ap outcome_fails is ∙ says ∙ sym zero)
