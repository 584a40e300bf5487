-- What each event comes to, as one step of the engine.
use Rattle.std.proofs.Common.{◌≡◌, ◌≢◌, ◌∙◌, sym, ap, refl, subst, inl, inr, ℕ, ◌-◌, ◌^◌, ◌+◌, ◌<◌, ◌≤◌, ◌⊎◌, Bool, true, false, Option, None, Some, List, [], ◌∷◌, arith}
use Rattle.gx_geom.specs.declared.refusal.Refusal.{Refusal}
use Rattle.gx_geom.specs.declared.refusal.Refusal.TheVariants as refusal
use Rattle.gx_machine.specs.declared.entry.Entry.{Entry}
use Rattle.gx_machine.specs.declared.query.Query.{Query}
use Rattle.gx_machine.specs.declared.call.Call.{Call}
use Rattle.gx_machine.specs.declared.call.Call.TheVariants.{Begin, Insert, Delete, Search, Commit, Abort}
use Rattle.gx_machine.specs.declared.reply.Reply.{Reply}
use Rattle.gx_machine.specs.declared.reply.Reply.TheVariants as reply
use Rattle.gx_machine.specs.declared.reply.Asked.TheVariants as asked
use Rattle.gx_machine.specs.Keys.{Keys}
use Rattle.gx_machine.specs.Machine.{is_session}
use Rattle.gx_disk.specs.Device.{Device}
use Rattle.gx_disk.proofs.Leaving.{nothing_leaves}
use Rattle.gx_disk.specs.declared.layout.TheConstants.{MAX_PAGES}
use Rattle.gx_page.specs.Contents.{Contents}
use Rattle.gx_node.specs.Reading.{Format}
use Rattle.gx_recovery.specs.Known.{Known, Limits}
use Rattle.gx_recovery.specs.Records.{Record}
use Rattle.gx_events.specs.Happenings as laws
use Rattle.gx_events.specs.Slots.{Slot, is_unanswered, slot_at}
use Rattle.gx_index_laws.proofs.Quiet.{as_it_is}
use Rattle.gx_index_laws.specs.Classes.{Class, IsLawful, Page, known_of}
use Rattle.gx_index_laws.specs.Happening as happening
use Rattle.gx_index_laws.specs.Happening.{AreHappening}
use Rattle.gx_index_laws.specs.Measures.{work_left}
use Rattle.gx_index_laws.specs.States as index
use Rattle.gx_index_laws.specs.States.{engine_of}
use Rattle.gx_index_laws.proofs.AskedCalls.{faulted}
use Rattle.gx_index_laws.proofs.Measuring.{left_below}
use Rattle.gx_durable.specs.Spelled.{Reading}
use Rattle.gx_durable.specs.Standing.{Stands}
use Rattle.gx_events.specs.declared.event.Event.TheVariants.{Ask, Move, LogStep, WritePage, CheckpointStep, Sweep}
use Rattle.gx_events.specs.declared.outcome.Need.TheVariants as need
use Rattle.gx_events.specs.declared.outcome.Outcome.{Outcome}
use Rattle.gx_events.specs.declared.outcome.Outcome.TheVariants.{Replied, More, Help, Nothing, Refused}
use Rattle.gx_events.specs.Steps.{IsAsk, IsMove, IsSync, IsWork}
use Rattle.gx_txn.specs.declared.note.Note.{Note}
use Rattle.gx_txn.specs.Tables.{Held}
use Rattle.gx_phases.specs.declared.phase.Phase.{Phase}
use Rattle.gx_phases.specs.declared.phase.Phase.TheVariants as phase
use Rattle.gx_phases.specs.Indexes as phases
use Rattle.gx_phases.specs.States.{IsKept, held_at, phase_at, slot_of}
use Rattle.gx_engine.specs.declared.work.Work.{Work}
use Rattle.gx_engine.specs.declared.work.Work.TheVariants.{Rests, Looks, Descends, Seeks}
use Rattle.gx_engine.specs.Asks.{AskComes, ask_events}
use Rattle.gx_engine.specs.Ending.{Spares, SparesSo}
use Rattle.gx_engine.specs.Flushing.{LogSteps, PageIsWritten, log_events, page_events}
use Rattle.gx_engine.specs.Holds.{CallIsAt, Holds, IsAt, Leads, LeadsSo, Led}
use Rattle.gx_engine.specs.Moves.{Lowers, MovesSo, left, left_by}
use Rattle.gx_engine.specs.Commits.{AcknowledgeBy, AcknowledgeComes, AreSealing, SealComes, acknowledge_events}
use Rattle.gx_engine.specs.Searches.{AreSearching, SearchComes}
use Rattle.gx_engine.specs.States.{Parts, is_due, runs}
use Rattle.gx_engine.specs.Stepping.{Steps, has_call}
use Rattle.gx_engine.specs.Sweeping.{HasFailed, SweepComes, SweepsBy, SweepsPage, is_page, sweep_events}
use Rattle.gx_engine.specs.Undoing.{AreUndoing, EndComes, RestoreComes, UndoBy, UndoComes}
use Rattle.gx_engine.specs.Writes.{AreWriting, WriteComes}
use Rattle.gx_engine.proofs.Flushing.{nothing_led}
use Rattle.gx_engine.proofs.Joining as joining
use Rattle.gx_engine.proofs.LookMoves.{put_there}
use Rattle.gx_engine.proofs.Serving.{slot_is}

-- a session's phase says whether it has a call
pub unanswered_is : {B : Type 0} (p : Phase B (Work B)) (h : Held B) → is_unanswered (slot_of p h) ≡ has_call p
unanswered_is phase.Free h = refl
unanswered_is phase.Working h = refl
unanswered_is (phase.Open call work) h = refl
unanswered_is (phase.Undoing restored work) h = refl
unanswered_is (phase.Waiting number) h = refl

-- a fault of the device isn't that of an engine that had failed
not_failed : refusal.Device ≢ refusal.Failed
not_failed same = cc

module _ {B D : Type 0} (c : Class B) (r : Reading (Entry B) (Page B)) (f : Format B) (passes : ℕ → Contents → Bool) (d e : Device) (old new : Parts B D) where
  -- nothing happened, and yet the engine has failed: that can't be
  had_failed : old.sessions.failed ≡ false → new.sessions.failed ≡ true
      → (bodies : List (List (Record (Entry B) (Page B)))) (i : index.State B) → Holds c r f passes d old bodies i → (events : List (laws.Happening B)) → events ≡ []
      → Led c r f passes d e new i events → ⊥
  had_failed works failed bodies i h events none led =
      let same : led.index ≡ i = subst (λ (xs : List (laws.Happening B)). AreHappening c i xs led.index) none led.happening in
      let was : i.failed ≡ false = h.sessions.failed ∙ works in
      let now : led.index.failed ≡ true = led.holds.sessions.failed ∙ failed in
      let never : true ≡ false = sym now ∙ ap (λ (j : index.State B). j.failed) same ∙ was in
      cc

  -- The moves of a session's call, of an engine that hasn't failed and holds an index.
  module _ (works : old.sessions.failed ≡ false) (s : ℕ) (bodies : List (List (Record (Entry B) (Page B)))) (i : index.State B) (h : Holds c r f passes d old bodies i) where
    still_works : (engine_of c i).failed ≡ false
    still_works = h.sessions.failed ∙ works

    -- a search
    search_refused : (query : Query B) (why : Refusal) → SearchComes passes d e s query old new (Replied (reply.Refused why))
        → (events : List (laws.Happening B)) → AreSearching s query (Replied (reply.Refused why)) events → Led c r f passes d e new i events
        → IsMove s (engine_of c i) (Replied (reply.Refused why)) events
    search_refused query refusal.Memory comes events are led = (laws.Closes s (Search query) refusal.Memory, are, (refl, refl, refl))
    search_refused query refusal.Device comes events are led = (laws.RefusesCall s refusal.Device, inl are, (refl, refl, λ same. absurd (not_failed same)))
    search_refused query refusal.Damaged comes events are led = absurd (had_failed works (ap (λ (x : Parts B D). x.sessions.failed) comes) bodies i h events are led)
    search_refused query why comes events are led = absurd comes

    search_replied : (query : Query B) (given : Reply B) → SearchComes passes d e s query old new (Replied given)
        → (events : List (laws.Happening B)) → AreSearching s query (Replied given) events → Led c r f passes d e new i events → IsMove s (engine_of c i) (Replied given) events
    search_replied query (reply.Found entries) comes events are led = (laws.Finds s query entries, are, (refl, refl))
    search_replied query (reply.Refused why) comes events are led = search_refused query why comes events are led
    search_replied query given comes events are led = absurd comes

    pub search_is : (query : Query B) (outcome : Outcome B) → SearchComes passes d e s query old new outcome
        → (events : List (laws.Happening B)) → AreSearching s query outcome events → Led c r f passes d e new i events → IsMove s (engine_of c i) outcome events
    search_is query (Replied given) comes events are led = search_replied query given comes events are led
    search_is query More comes events are led = (still_works, (laws.Works, are, tt))
    search_is query (Help n) comes events are led = (still_works, are)
    search_is query other comes events are led = absurd comes

    -- an insert
    insert_refused : (k : Keys B) (key : ℕ) (entry : Entry B) (why : Refusal) → WriteComes k f passes key d e s (Insert entry) old new (Replied (reply.Refused why))
        → (events : List (laws.Happening B)) → AreWriting s (Insert entry) (Replied (reply.Refused why)) events → Led c r f passes d e new i events
        → IsMove s (engine_of c i) (Replied (reply.Refused why)) events
    insert_refused k key entry refusal.Present comes events are led = (laws.FindsPresent s entry, inl are, (refl, refl))
    insert_refused k key entry refusal.Absent comes events are led = let same : ◌≡◌ {A = Call B} (Insert entry) (Delete comes.0) = comes.1 in let no : ⊥ = cc in absurd no
    insert_refused k key entry refusal.Memory comes events are led = (laws.Closes s (Insert entry) refusal.Memory, inl are, (refl, refl, refl))
    insert_refused k key entry refusal.PagesFull comes events are led = (laws.Closes s (Insert entry) refusal.PagesFull, inl are, (refl, refl, refl))
    insert_refused k key entry refusal.Device comes events are led = (laws.RefusesCall s refusal.Device, inl are, (refl, refl, λ same. absurd (not_failed same)))
    insert_refused k key entry refusal.Damaged comes events are led = absurd (had_failed works (ap (λ (x : Parts B D). x.sessions.failed) comes) bodies i h events are led)
    insert_refused k key entry why comes events are led = absurd comes

    insert_replied : (k : Keys B) (key : ℕ) (entry : Entry B) (given : Reply B) → WriteComes k f passes key d e s (Insert entry) old new (Replied given)
        → (events : List (laws.Happening B)) → AreWriting s (Insert entry) (Replied given) events → Led c r f passes d e new i events → IsMove s (engine_of c i) (Replied given) events
    insert_replied k key entry reply.Inserted comes events are led = (laws.Inserts s entry, inl are, (refl, refl))
    insert_replied k key entry reply.Deleted comes events are led = let same : ◌≡◌ {A = Call B} (Insert entry) (Delete comes.0.entry) = comes.1 in let no : ⊥ = cc in absurd no
    insert_replied k key entry (reply.Refused why) comes events are led = insert_refused k key entry why comes events are led
    insert_replied k key entry given comes events are led = absurd comes

    pub insert_is : (k : Keys B) (key : ℕ) (entry : Entry B) (outcome : Outcome B) → WriteComes k f passes key d e s (Insert entry) old new outcome
        → (events : List (laws.Happening B)) → AreWriting s (Insert entry) outcome events → Led c r f passes d e new i events → IsMove s (engine_of c i) outcome events
    insert_is k key entry (Replied given) comes events are led = insert_replied k key entry given comes events are led
    insert_is k key entry More comes events are led = (still_works, (laws.Works, are, tt))
    insert_is k key entry (Help n) comes events are led = (still_works, are)
    insert_is k key entry other comes events are led = absurd comes

    -- a delete
    delete_refused : (k : Keys B) (key : ℕ) (entry : Entry B) (why : Refusal) → WriteComes k f passes key d e s (Delete entry) old new (Replied (reply.Refused why))
        → (events : List (laws.Happening B)) → AreWriting s (Delete entry) (Replied (reply.Refused why)) events → Led c r f passes d e new i events
        → IsMove s (engine_of c i) (Replied (reply.Refused why)) events
    delete_refused k key entry refusal.Present comes events are led = let same : ◌≡◌ {A = Call B} (Delete entry) (Insert comes.0) = comes.1 in let no : ⊥ = cc in absurd no
    delete_refused k key entry refusal.Absent comes events are led = (laws.FindsAbsent s entry, are, (refl, refl))
    delete_refused k key entry refusal.Memory comes events are led = (laws.Closes s (Delete entry) refusal.Memory, inl are, (refl, refl, refl))
    delete_refused k key entry refusal.PagesFull comes events are led =
        let same : ◌≡◌ {A = Call B} (Delete entry) (Insert comes.0.splits.entry) = comes.0.splits.inserts in let no : ⊥ = cc in absurd no
    delete_refused k key entry refusal.Device comes events are led = (laws.RefusesCall s refusal.Device, inl are, (refl, refl, λ same. absurd (not_failed same)))
    delete_refused k key entry refusal.Damaged comes events are led = absurd (had_failed works (ap (λ (x : Parts B D). x.sessions.failed) comes) bodies i h events are led)
    delete_refused k key entry why comes events are led = absurd comes

    delete_replied : (k : Keys B) (key : ℕ) (entry : Entry B) (given : Reply B) → WriteComes k f passes key d e s (Delete entry) old new (Replied given)
        → (events : List (laws.Happening B)) → AreWriting s (Delete entry) (Replied given) events → Led c r f passes d e new i events → IsMove s (engine_of c i) (Replied given) events
    delete_replied k key entry reply.Inserted comes events are led = let same : ◌≡◌ {A = Call B} (Delete entry) (Insert comes.0.entry) = comes.1 in let no : ⊥ = cc in absurd no
    delete_replied k key entry reply.Deleted comes events are led = (laws.Deletes s entry, inl are, (refl, refl))
    delete_replied k key entry (reply.Refused why) comes events are led = delete_refused k key entry why comes events are led
    delete_replied k key entry given comes events are led = absurd comes

    pub delete_is : (k : Keys B) (key : ℕ) (entry : Entry B) (outcome : Outcome B) → WriteComes k f passes key d e s (Delete entry) old new outcome
        → (events : List (laws.Happening B)) → AreWriting s (Delete entry) outcome events → Led c r f passes d e new i events → IsMove s (engine_of c i) outcome events
    delete_is k key entry (Replied given) comes events are led = delete_replied k key entry given comes events are led
    delete_is k key entry More comes events are led = (still_works, (laws.Works, are, tt))
    delete_is k key entry (Help n) comes events are led = (still_works, are)
    delete_is k key entry other comes events are led = absurd comes

    -- an abort
    module _ (known : Limits → Known (Entry B) (Page B)) (IsKey : B → Type 0) (k : Keys B) (spelling : B → List ℕ) (key : ℕ)
        (events : List (laws.Happening B)) (led : Led c r f passes d e new i events) where
      undo_refused : (restored leaf : ℕ) (n : Note B) (why : Refusal) → RestoreComes known r f passes IsKey k spelling key d e s restored n leaf old new (Replied (reply.Refused why))
          → AreUndoing s old.sessions (Replied (reply.Refused why)) events → IsMove s (engine_of c i) (Replied (reply.Refused why)) events
      undo_refused restored leaf n refusal.Device comes are = (laws.RefusesCall s refusal.Device, inl are, (refl, refl, λ same. absurd (not_failed same)))
      undo_refused restored leaf n refusal.Damaged comes are = absurd (had_failed works (ap (λ (x : Parts B D). x.sessions.failed) comes.2) bodies i h events are led)
      undo_refused restored leaf n why comes are = absurd comes

      undo_replied : (restored leaf : ℕ) (n : Note B) (given : Reply B) → RestoreComes known r f passes IsKey k spelling key d e s restored n leaf old new (Replied given)
          → AreUndoing s old.sessions (Replied given) events → IsMove s (engine_of c i) (Replied given) events
      undo_replied restored leaf n (reply.Refused why) comes are = undo_refused restored leaf n why comes are
      undo_replied restored leaf n given comes are = absurd comes

      more_undone : AreUndoing s old.sessions More events → IsMove s (engine_of c i) More events
      more_undone (inl are) = (still_works, (laws.Works, are, tt))
      more_undone (inr are) = (still_works, (laws.Undoes s are.0.entry, are.2, refl))

      restore_is : (restored leaf : ℕ) (n : Note B) (outcome : Outcome B) → RestoreComes known r f passes IsKey k spelling key d e s restored n leaf old new outcome
          → AreUndoing s old.sessions outcome events → IsMove s (engine_of c i) outcome events
      restore_is restored leaf n (Replied given) comes are = undo_replied restored leaf n given comes are
      restore_is restored leaf n More comes are = more_undone are
      restore_is restored leaf n (Help wanted) comes are = (still_works, are)
      restore_is restored leaf n other comes are = absurd comes

      end_is : (outcome : Outcome B) → EndComes s old new outcome → AreUndoing s old.sessions outcome events → IsMove s (engine_of c i) outcome events
      end_is (Replied reply.Aborted) comes are = (laws.EndsUndo s, inl are, (refl, refl))
      end_is (Help need.Log) comes are = (still_works, are)
      end_is other comes are = absurd comes

      undo_by : (due : Bool) (next : Option ℕ) (outcome : Outcome B) → UndoBy known r f passes IsKey k spelling key due next d e s old new outcome
          → AreUndoing s old.sessions outcome events → IsMove s (engine_of c i) outcome events
      undo_by true next outcome comes are =
          subst (λ (o : Outcome B). AreUndoing s old.sessions o events → IsMove s (engine_of c i) o events) (sym comes.0) (λ none. (still_works, none)) are
      undo_by false None outcome comes are = end_is outcome comes are
      undo_by false (Some restored) outcome comes are = restore_is restored _ comes.0 outcome comes.2 are

      pub undo_is : (outcome : Outcome B) → UndoComes known r f passes IsKey k spelling key d e s old new outcome
          → AreUndoing s old.sessions outcome events → IsMove s (engine_of c i) outcome events
      undo_is outcome comes are = undo_by (is_due old) _ outcome comes are

  -- A move whose events are given by a relation is a step.
  pub moves_step : (s : ℕ) (outcome : Outcome B) (AreSo : List (laws.Happening B) → Type 0) → MovesSo c r f passes d e s old new outcome AreSo
      → ((bodies : List (List (Record (Entry B) (Page B)))) (i : index.State B) → Holds c r f passes d old bodies i → (events : List (laws.Happening B)) → AreSo events
      → Led c r f passes d e new i events → IsMove s (engine_of c i) outcome events)
      → Steps c r f passes d e (Move s) old new outcome
  moves_step s outcome AreSo moves are bodies i h =
      let m = moves bodies i h in
      record { events = m.0; are = are bodies i h m.0 m.1 m.2.led; led = m.2.led; lowers = m.2.lowers }

  pub search_steps : old.sessions.failed ≡ false → (s : ℕ) (query : Query B) (outcome : Outcome B) → SearchComes passes d e s query old new outcome
      → MovesSo c r f passes d e s old new outcome (AreSearching s query outcome) → Steps c r f passes d e (Move s) old new outcome
  search_steps works s query outcome comes moves =
      moves_step s outcome (AreSearching s query outcome) moves (λ bodies i h events are led. search_is works s bodies i h query outcome comes events are led)

  pub insert_steps : old.sessions.failed ≡ false → (s : ℕ) (k : Keys B) (key : ℕ) (entry : Entry B) (outcome : Outcome B) → WriteComes k f passes key d e s (Insert entry) old new outcome
      → MovesSo c r f passes d e s old new outcome (AreWriting s (Insert entry) outcome) → Steps c r f passes d e (Move s) old new outcome
  insert_steps works s k key entry outcome comes moves =
      moves_step s outcome (AreWriting s (Insert entry) outcome) moves (λ bodies i h events are led. insert_is works s bodies i h k key entry outcome comes events are led)

  pub delete_steps : old.sessions.failed ≡ false → (s : ℕ) (k : Keys B) (key : ℕ) (entry : Entry B) (outcome : Outcome B) → WriteComes k f passes key d e s (Delete entry) old new outcome
      → MovesSo c r f passes d e s old new outcome (AreWriting s (Delete entry) outcome) → Steps c r f passes d e (Move s) old new outcome
  delete_steps works s k key entry outcome comes moves =
      moves_step s outcome (AreWriting s (Delete entry) outcome) moves (λ bodies i h events are led. delete_is works s bodies i h k key entry outcome comes events are led)

  pub undo_steps : old.sessions.failed ≡ false → (s : ℕ) (known : Limits → Known (Entry B) (Page B)) (IsKey : B → Type 0) (k : Keys B) (spelling : B → List ℕ) (key : ℕ) (outcome : Outcome B)
      → UndoComes known r f passes IsKey k spelling key d e s old new outcome
      → MovesSo c r f passes d e s old new outcome (AreUndoing s old.sessions outcome) → Steps c r f passes d e (Move s) old new outcome
  undo_steps works s known IsKey k spelling key outcome comes moves =
      moves_step s outcome (AreUndoing s old.sessions outcome) moves
      (λ bodies i h events are led. undo_is works s bodies i h known IsKey k spelling key events led outcome comes are)

  -- a commit is sealed
  module _ (lawful : 4 ≤ c.rules.most → IsLawful c) (kept : IsKept c.keys old.sessions) (s : ℕ) (is : is_session s ≡ true) (works : old.sessions.failed ≡ false)
      (pages : old.volume.shelf.pages ≤ MAX_PAGES) (most : old.volume.most ≤ 100) where
    -- a commit that is asked rests
    commit_rests : (work : Work B) (its : index.Work B) → CallIsAt Commit work its → work ≡ Rests
    commit_rests Rests its at = refl
    commit_rests (Looks look) its at = absurd at.1
    commit_rests (Descends parent item) its at = absurd at
    commit_rests (Seeks leaf) its at = absurd at

    seal_lowers : (work : Work B) → phase_at (s - 1) old.sessions.phases ≡ phase.Open Commit work
        → (bodies : List (List (Record (Entry B) (Page B)))) (i : index.State B) → Holds c r f passes d old bodies i
        → (outcome : Outcome B) → SealComes s old new outcome → (events : List (laws.Happening B)) (led : Led c r f passes d e new i events)
        → Lowers c r f passes s outcome old new i led.index
    seal_lowers work at bodies i h More comes events led =
        let l = lawful h.some in
        let rests = commit_rests work (i.work s) (subst (λ (p : Phase B (Work B)). IsAt c.keys p (held_at (s - 1) old.sessions.table).notes (i.work s) (i.restored s)) at (h.at s is)) in
        let before : left c r f passes s old i ≡ 2 ^ 39 = ap (λ (p : Phase B (Work B)). left_by p (work_left c i s)) (at ∙ ap (λ (w : Work B). phase.Open Commit w) rests) in
        let now : phase_at (s - 1) new.sessions.phases ≡ phase.Waiting (old.sessions.latest + 1) =
        ap (λ (x : Parts B D). phase_at (s - 1) x.sessions.phases) comes.1.is ∙ put_there c.keys old.sessions kept s is (phase.Waiting (old.sessions.latest + 1)) in
        let after : left c r f passes s new led.index ≡ work_left c led.index s = ap (λ (p : Phase B (Work B)). left_by p (work_left c led.index s)) now in
        let few = h.keeps.pages in
        let small = h.most in
        let below = left_below c l led.index led.holds.whole (omega (arith, few, pages)) (omega (arith, small, most)) s in
        subst (λ (m : ℕ). left c r f passes s new led.index < m) (sym before) (subst (λ (m : ℕ). m < 2 ^ 39) (sym after) below)
    seal_lowers work at bodies i h (Replied given) comes events led = tt
    seal_lowers work at bodies i h (Help n) comes events led = tt
    seal_lowers work at bodies i h Nothing comes events led = tt
    seal_lowers work at bodies i h (Refused why) comes events led = tt

    pub seal_steps : (work : Work B) → phase_at (s - 1) old.sessions.phases ≡ phase.Open Commit work → (outcome : Outcome B) → SealComes s old new outcome
        → LeadsSo c r f passes d e old new (AreSealing s (old.sessions.latest + 1) outcome) → Steps c r f passes d e (Move s) old new outcome
    seal_steps work at outcome comes leads bodies i h =
        let m = leads bodies i h in
        record {
          events = m.0;
          are = joining.seal_is s old new (engine_of c i) (h.sessions.failed ∙ works) (old.sessions.latest + 1) outcome m.0 comes m.1;
          led = m.2;
          lowers = seal_lowers work at bodies i h outcome comes m.0 m.2;
        }

  -- a commit is acknowledged, or waits
  acknowledged_lowers : (s number : ℕ) (durable : Bool) (outcome : Outcome B) → AcknowledgeBy durable s number old new outcome → (i j : index.State B) → Lowers c r f passes s outcome old new i j
  acknowledged_lowers s number true outcome comes i j = subst (λ (o : Outcome B). Lowers c r f passes s o old new i j) (sym comes.0) tt
  acknowledged_lowers s number false outcome comes i j = subst (λ (o : Outcome B). Lowers c r f passes s o old new i j) (sym comes.0) tt

  pub acknowledge_steps : old.sessions.failed ≡ false → (s number : ℕ) (outcome : Outcome B) → AcknowledgeComes s number old new outcome
      → Leads c r f passes d e old new (acknowledge_events s outcome) → Steps c r f passes d e (Move s) old new outcome
  acknowledge_steps works s number outcome comes leads bodies i h =
      let led = leads bodies i h in
      record {
        events = acknowledge_events s outcome;
        are = joining.acknowledge_is s old new (engine_of c i) (h.sessions.failed ∙ works) number outcome comes;
        led = led;
        lowers = acknowledged_lowers s number _ outcome comes i led.index;
      }

  -- an ask
  pub ask_steps : (s : ℕ) (call : Call B) (outcome : Outcome B) → AskComes c.keys s call old outcome new
      → Leads c r f passes d e old new (ask_events s call old.sessions outcome) → Steps c r f passes d e (Ask s call) old new outcome
  ask_steps s call (Replied given) comes leads bodies i h =
      let is = joining.ask_is c.keys s call old.sessions new.sessions (asked.Now given) comes.0 in
      record {
        events = ask_events s call old.sessions (Replied given);
        are = subst (λ (failed : Bool). IsAsk s call failed (Replied given) (ask_events s call old.sessions (Replied given))) (sym h.sessions.failed) is;
        led = leads bodies i h;
        lowers = tt;
      }
  ask_steps s call More comes leads bodies i h =
      let is = joining.ask_is c.keys s call old.sessions new.sessions asked.Open comes.0 in
      record {
        events = ask_events s call old.sessions More;
        are = subst (λ (failed : Bool). IsAsk s call failed More (ask_events s call old.sessions More)) (sym h.sessions.failed) is;
        led = leads bodies i h;
        lowers = tt;
      }
  ask_steps s call other comes leads bodies i h = absurd comes

  -- the log's next call
  pub log_steps : (outcome : Outcome B) → LogSteps d e old new old.sessions.failed (runs old.checkpoint) outcome
      → Spares c r f passes d e old new (log_events old.volume.log.stage old.in_flight outcome) → Steps c r f passes d e LogStep old new outcome
  log_steps outcome steps leads bodies i h =
      let events = log_events old.volume.log.stage old.in_flight outcome in
      let now = leads bodies i h in
      let is = joining.log_is d e old new old.sessions.failed (runs old.checkpoint) old.volume.log.stage old.in_flight outcome steps in
      record { events = events; are = subst (λ (failed : Bool). IsSync failed outcome events) (sym h.sessions.failed) is; led = now.led; lowers = now.spares }

  -- a page's write
  pub page_steps : (page : ℕ) (outcome : Outcome B) → PageIsWritten page d e old new old.sessions.failed outcome
      → Spares c r f passes d e old new (page_events outcome) → Steps c r f passes d e (WritePage page) old new outcome
  page_steps page outcome writes leads bodies i h =
      let now = leads bodies i h in
      let is = joining.page_is d e old new old.sessions.failed page outcome writes in
      record {
        events = page_events outcome;
        are = subst (λ (failed : Bool). IsWork failed outcome (page_events outcome)) (sym h.sessions.failed) is;
        led = now.led;
        lowers = now.spares;
      }

  -- the sweep of a leaf
  module _ (k : Keys B) (known : Limits → Known (Entry B) (Page B)) (page : ℕ) (bodies : List (List (Record (Entry B) (Page B)))) (i : index.State B)
      (h : Holds c r f passes d old bodies i) where
    sweep_failed : old.sessions.failed ≡ false → (Lies : Type 0) (why : Refusal) → HasFailed Lies d e old new why → Led c r f passes d e new i (sweep_events (Refused why))
        → IsWork {B = B} false (Refused why) (sweep_events (Refused why))
    sweep_failed works Lies why (inl device, is) led =
        subst (λ (x : Refusal). IsWork {B = B} false (Refused x) (sweep_events (Refused x))) (sym device.0) (refl, inl refl)
    sweep_failed works Lies why (inr lies, is) led =
        absurd (had_failed works (ap (λ (x : Parts B D). x.sessions.failed) is) bodies i h (sweep_events (Refused why))
        (ap (λ (x : Refusal). sweep_events {B = B} (Refused x)) lies.0) led)

    page_is : old.sessions.failed ≡ false → (outcome : Outcome B) → SweepsPage k known r f passes page d e old new outcome
        → Led c r f passes d e new i (sweep_events outcome) → IsWork false outcome (sweep_events outcome)
    page_is is More comes led = (refl, refl)
    page_is is Nothing comes led = (refl, refl)
    page_is is (Help n) comes led = (refl, refl)
    page_is is (Refused why) comes led = sweep_failed is _ why comes led
    page_is is (Replied given) comes led = absurd comes

    sweep_by : old.sessions.failed ≡ false → (there : Bool) (outcome : Outcome B) → SweepsBy k known r f passes there page d e old new outcome
        → Led c r f passes d e new i (sweep_events outcome) → IsWork false outcome (sweep_events outcome)
    sweep_by is true outcome comes led = page_is is outcome comes led
    sweep_by is false outcome comes led = subst (λ (o : Outcome B). IsWork false o (sweep_events o)) (sym comes.0) (refl, refl)

    sweep_is : (failed : Bool) → old.sessions.failed ≡ failed → (outcome : Outcome B) → SweepComes k known r f passes page d e old new failed outcome
        → Led c r f passes d e new i (sweep_events outcome) → IsWork failed outcome (sweep_events outcome)
    sweep_is true is outcome comes led = subst (λ (o : Outcome B). IsWork true o (sweep_events o)) (sym comes.0) (refl, refl)
    sweep_is false is outcome comes led = sweep_by is (is_page page old) outcome comes led

  pub sweep_steps : (k : Keys B) (known : Limits → Known (Entry B) (Page B)) (page : ℕ) (outcome : Outcome B) → SweepComes k known r f passes page d e old new old.sessions.failed outcome
      → Leads c r f passes d e old new (sweep_events outcome) → Steps c r f passes d e (Sweep page) old new outcome
  sweep_steps k known page outcome comes leads bodies i h =
      let led = leads bodies i h in
      record {
        events = sweep_events outcome;
        are = subst (λ (failed : Bool). IsWork failed outcome (sweep_events outcome)) (sym h.sessions.failed) (sweep_is k known page bodies i h old.sessions.failed refl outcome comes led);
        led = led;
        lowers = tt;
      }

  -- a step of a checkpoint
  pub checkpoint_steps : (outcome : Outcome B) → SparesSo c r f passes d e old new (IsSync old.sessions.failed outcome) → Steps c r f passes d e CheckpointStep old new outcome
  checkpoint_steps outcome leads bodies i h =
      let m = leads bodies i h in
      record { events = m.0; are = subst (λ (failed : Bool). IsSync failed outcome m.0) (sym h.sessions.failed) m.1; led = m.2.led; lowers = m.2.spares }

-- A move that is refused: nothing changes.
module _ {B D : Type 0} (c : Class B) (r : Reading (Entry B) (Page B)) (f : Format B) (passes : ℕ → Contents → Bool) (d : Device) (old : Parts B D) (s : ℕ) where
  -- there is no such session
  pub no_session_steps : is_session s ≡ false → Steps c r f passes d d (Move s) old old (Refused refusal.BadSession)
  no_session_steps none bodies i h = record { events = []; are = (none, refl); led = nothing_led c r f passes d old bodies i h; lowers = tt }

  module _ (kept : IsKept c.keys old.sessions) (is : is_session s ≡ true) where
    slot_tells : (i : index.State B) → phases.AreOf old.sessions i → is_unanswered (slot_at s i.slots) ≡ has_call (phase_at (s - 1) old.sessions.phases)
    slot_tells i of =
        ap (λ (x : Slot B). is_unanswered x) (slot_is c.keys old.sessions i kept of s is) ∙ unanswered_is (phase_at (s - 1) old.sessions.phases) (held_at (s - 1) old.sessions.table)

    -- it has no call
    pub no_call_steps : has_call (phase_at (s - 1) old.sessions.phases) ≡ false → Steps c r f passes d d (Move s) old old (Refused refusal.NoCall)
    no_call_steps none bodies i h =
        record { events = []; are = (is, slot_tells i h.sessions ∙ none, refl); led = nothing_led c r f passes d old bodies i h; lowers = tt }

    -- a call that no ask leaves open
    never_begins : (call : Call B) → (call ≡ Begin) ⊎ (call ≡ Abort) → (work : Work B) (its : index.Work B) → CallIsAt call work its → ⊥
    never_begins call (inl begin) Rests its at = subst (λ (x : Call B). CallIsAt x Rests its) begin at
    never_begins call (inl begin) (Looks look) its at = (subst (λ (x : Call B). CallIsAt x (Looks look) its) begin at).1
    never_begins call (inl begin) (Descends parent item) its at = subst (λ (x : Call B). CallIsAt x (Descends parent item) its) begin at
    never_begins call (inl begin) (Seeks leaf) its at = subst (λ (x : Call B). CallIsAt x (Seeks leaf) its) begin at
    never_begins call (inr abort) Rests its at = subst (λ (x : Call B). CallIsAt x Rests its) abort at
    never_begins call (inr abort) (Looks look) its at = (subst (λ (x : Call B). CallIsAt x (Looks look) its) abort at).1
    never_begins call (inr abort) (Descends parent item) its at = subst (λ (x : Call B). CallIsAt x (Descends parent item) its) abort at
    never_begins call (inr abort) (Seeks leaf) its at = subst (λ (x : Call B). CallIsAt x (Seeks leaf) its) abort at

    pub never_steps : (call : Call B) → (call ≡ Begin) ⊎ (call ≡ Abort) → (work : Work B) → phase_at (s - 1) old.sessions.phases ≡ phase.Open call work
        → (e : Device) (new : Parts B D) (outcome : Outcome B) → Steps c r f passes d e (Move s) old new outcome
    never_steps call never work at e new outcome bodies i h =
        absurd (never_begins call never work (i.work s)
        (subst (λ (p : Phase B (Work B)). IsAt c.keys p (held_at (s - 1) old.sessions.table).notes (i.work s) (i.restored s)) at (h.at s is)))

    -- a fault had ended the engine: its call meets that
    pub ended_steps : (4 ≤ c.rules.most → IsLawful c) → old.sessions.failed ≡ true → has_call (phase_at (s - 1) old.sessions.phases) ≡ true
        → Steps c r f passes d d (Move s) old old (Replied (reply.Refused refusal.Failed))
    ended_steps lawful failed some bodies i h =
        let j : index.State B = happening.failed_state i in
        let same : i ≡ j = ap (λ (b : Bool). record i { failed = b }) (h.sessions.failed ∙ failed) in
        let unanswered = slot_tells i h.sessions ∙ some in
        let now = faulted c (lawful h.some) i h.whole (laws.RefusesCall s refusal.Failed) (unanswered, as_it_is (engine_of c j)) refl in
        record {
          events = laws.RefusesCall s refusal.Failed ∷ [];
          are = (laws.RefusesCall s refusal.Failed, inl refl, (refl, refl, λ it. h.sessions.failed ∙ failed));
          led = record { bodies = bodies; index = i; happening = (j, now, same); holds = h; leaves = nothing_leaves (Stands (known_of c) r i.log) d };
          lowers = tt;
        }
