-- A checkpoint's turn as an index's events.
use Rattle.std.proofs.Common.{◌≡◌, ◌≢◌, ◌∙◌, sym, ap, refl, subst, inl, inr, ℕ, ◌+◌, ◌-◌, ◌≤◌, Bool, true, false, List, [], ◌∷◌, ◌++◌, Result, Ok, Err, arith}
use Rattle.std.proofs.lemmas.List.{append-nil}
use Rattle.std.specs.Prelude.{None}
use Rattle.gx_geom.specs.declared.refusal.Refusal.{Refusal}
use Rattle.gx_geom.specs.declared.refusal.Refusal.TheVariants.{Device as DeviceRefusal, Failed}
use Rattle.gx_machine.specs.declared.entry.Entry.{Entry}
use Rattle.gx_disk.specs.Device.{Device}
use Rattle.gx_disk.specs.Moments.{Leaves}
use Rattle.gx_page.specs.Contents.{Contents}
use Rattle.gx_node.specs.Reading.{Format}
use Rattle.gx_glog.specs.declared.stage.Stage.{Stage}
use Rattle.gx_glog.specs.declared.stage.Stage.TheVariants.{Body, BodySync, Gate, GateSync, Idle}
use Rattle.gx_glog.specs.declared.stage.Turn.{Turn}
use Rattle.gx_glog.specs.declared.stage.Turn.TheVariants as turn
use Rattle.gx_glog.specs.State.{Log}
use Rattle.gx_glog.specs.State as glog
use Rattle.gx_pool.specs.State.{NoneDirty}
use Rattle.gx_recovery.specs.Known.{Known}
use Rattle.gx_recovery.specs.Records.{Record, Touch}
use Rattle.gx_recovery.specs.Analysis.{analysis, number_of}
use Rattle.gx_recovery.specs.Logged.{Logged, all_records, durable, gate_synced, latest}
use Rattle.gx_recovery.specs.Renewal.{renewed}
use Rattle.gx_recovery.proofs.Renewals.{same_number, same_touched}
use Rattle.gx_events.specs.Happenings.{Happening, Works, Fails}
use Rattle.gx_index_laws.specs.Classes.{Class, IsLawful, Page, known_of, tree_in}
use Rattle.gx_index_laws.specs.States as index
use Rattle.gx_index_laws.specs.Happening as happening
use Rattle.gx_index_laws.specs.Happening.{Happens}
use Rattle.gx_index_laws.proofs.AskedCalls.{faulted}
use Rattle.gx_index_laws.proofs.Logging.{new_tree, renews}
use Rattle.gx_index_laws.proofs.Meanwhile.{renewed_stays}
use Rattle.gx_index_laws.proofs.Quiet.{as_it_is}
use Rattle.gx_index_laws.proofs.Standing.{known_lawful}
use Rattle.gx_durable.specs.Spelled.{Reading, AreRecords}
use Rattle.gx_durable.specs.Standing.{MayRenew, Stands}
use Rattle.gx_durable.proofs.Stamping.{none_writable}
use Rattle.gx_events.specs.declared.outcome.Outcome.{Outcome}
use Rattle.gx_events.specs.declared.outcome.Outcome.TheVariants.{More, Nothing, Refused}
use Rattle.gx_events.specs.Steps.{IsSync}
use Rattle.gx_phases.specs.Moves.{failed_state}
use Rattle.gx_phases.specs.States.{phase_at}
use Rattle.gx_storage.specs.Flushing.{HasTurned, IsLeastWritable, StepsLog, TurnsOn}
use Rattle.gx_storage.specs.Keeps.{Keeps}
use Rattle.gx_storage.specs.State.{Volume}
use Rattle.gx_engine.specs.declared.checkpoint.Checkpoint.{Checkpoint}
use Rattle.gx_engine.specs.declared.checkpoint.Checkpoint.TheVariants.{Off, Running, Turning}
use Rattle.gx_engine.specs.Checkpoints.{IsQuiet, after_call}
use Rattle.gx_engine.specs.Flushing.{PageComes, PageIsWritten, log_events, log_outcome, noted, page_events}
use Rattle.gx_engine.specs.Ending.{Spared, Spares, SparesSo}
use Rattle.gx_engine.specs.Holds.{Holds, KnowsFlight, MayRenewBy}
use Rattle.gx_engine.specs.Moves.{left_by}
use Rattle.gx_engine.specs.Noted.{AreTold}
use Rattle.gx_engine.specs.States.{Parts}
use Rattle.gx_engine.proofs.Flushing.{log_fails, log_made, nothing_spared}

-- the events that a turn's call is
abbrev pub call_events : {B : Type 0} → Turn → List (Happening B)
call_events turn.Done = Works ∷ []
call_events turn.Closed = []
call_events turn.Body = []
call_events turn.BodySync = []
call_events turn.Gate = []
call_events turn.GateSync = []
call_events turn.Selector = []

module _ {B D : Type 0} (c : Class B) (l : IsLawful c) (r : Reading (Entry B) (Page B)) (f : Format B) (passes : ℕ → Contents → Bool)
    (d e : Device) (old : Parts B D) (w : Volume D) (bodies : List (List (Record (Entry B) (Page B)))) (i : index.State B) (h : Holds c r f passes d old bodies i)
    (same_most : w.most ≡ old.volume.most) where
  abbrev k : Known (Entry B) (Page B)
  k = known_of c

  -- a fault that nothing else comes with
  pub fault_led : Keeps k r f passes e w bodies i.log → Leaves (Stands k r i.log) d e → Spared c r f passes d e old (record old { volume = w; sessions = failed_state old.sessions }) i (Fails ∷ [])
  fault_led keeps leaves =
      let now = faulted c l i h.whole Fails (as_it_is (index.engine_of c (happening.failed_state i))) refl in
      record {
        led = record {
          bodies = bodies;
          index = happening.failed_state i;
          happening = (happening.failed_state i, now, refl);
          holds = record {
            most = same_most ∙ h.most;
            some = h.some;
            keeps = keeps;
            whole = now.whole;
            sessions = record { slots = h.sessions.slots; transactions = h.sessions.transactions; next = h.sessions.next; oldest = h.sessions.oldest; failed = refl };
            at = h.at;
            told = h.told;
            latest = h.latest;
            flying = λ works. absurd (let never : true ≡ false = works in cc);
            bare = λ works. absurd (let never : true ≡ false = works in cc);
            turns = λ works. absurd (let never : true ≡ false = works in cc);
          };
          leaves = leaves;
        };
        same = refl;
        spares = λ s. refl;
      }

  -- the checkpoint turns, of a log that is quiet
  pub turns_led : w.log.stage ≡ Idle → MayRenewBy k r i.next w.log.flight e.sectors e.pending i.log → Keeps k r f passes e w bodies i.log → Leaves (Stands k r i.log) d e
      → Spared c r f passes d e old (record old { volume = w; checkpoint = Turning }) i []
  turns_led idle by keeps leaves = record {
    led = record {
      bodies = bodies;
      index = i;
      happening = refl;
      holds = record {
        most = same_most ∙ h.most;
        some = h.some;
        keeps = keeps;
        whole = h.whole;
        sessions = h.sessions;
        at = h.at;
        told = h.told;
        latest = h.latest;
        flying = λ works. subst (λ (x : Stage). KnowsFlight x old.in_flight (durable k (gate_synced i.log))) (sym idle) tt;
        bare = λ works calm. absurd (calm refl);
        turns = λ works turning. by;
      };
      leaves = leaves;
    };
    same = refl;
    spares = λ s. refl;
  }

  -- The log is renewed.
  module _ (may : MayRenew k r old.volume.log.flight d.sectors d.pending i.log) (begun : may.next ≤ i.next) where
    abbrev new_log : Logged (Entry B) (Page B)
    new_log = record i.log { gated = renewed k may.next i.log.gated }

    abbrev turned_index : index.State B
    turned_index = record i { log = new_log }

    none_else : (xs : List (Record (Entry B) (Page B))) → xs ++ (i.log.flight ++ i.log.filling) ≡ xs
    none_else xs =
        ap (λ (x : List (Record (Entry B) (Page B))). xs ++ (x ++ i.log.filling)) may.no_flight
        ∙ ap (λ (x : List (Record (Entry B) (Page B))). xs ++ x) may.no_filling ∙ append-nil xs

    turned_now : Happens c i Works turned_index
    turned_now = renews c l i h.whole may.no_flight may.no_filling may.written may.next may.covers begun

    touched_still : (analysis k (all_records new_log)).touched ≡ (analysis k (all_records i.log)).touched
    touched_still =
        ap (λ (x : List (Record (Entry B) (Page B))). (analysis k x).touched) (none_else (renewed k may.next i.log.gated))
        ∙ same_touched k (known_lawful c l) may.next i.log.area i.log.gated h.whole.healthy.gated
        ∙ sym (ap (λ (x : List (Record (Entry B) (Page B))). (analysis k x).touched) (none_else i.log.gated))

    number_still : latest k new_log ≡ latest k i.log
    number_still =
        ap (number_of k) (none_else (renewed k may.next i.log.gated))
        ∙ same_number k (known_lawful c l) may.next i.log.area i.log.gated h.whole.healthy.gated
        ∙ sym (ap (number_of k) (none_else i.log.gated))

    pub renewed_led : w.log.stage ≡ Idle → w.log.flight ≡ [] → Keeps k r f passes e w (renewed k may.next i.log.gated ∷ []) new_log → Leaves (Stands k r i.log) d e
        → Spared c r f passes d e old (record old { volume = w; checkpoint = Off }) i (Works ∷ [])
    renewed_led idle none keeps leaves = record {
      led = record {
        bodies = renewed k may.next i.log.gated ∷ [];
        index = turned_index;
        happening = (turned_index, turned_now, refl);
        holds = record {
          most = same_most ∙ h.most;
          some = h.some;
          keeps = keeps;
          whole = turned_now.whole;
          sessions = record { slots = h.sessions.slots; transactions = h.sessions.transactions; next = h.sessions.next; oldest = h.sessions.oldest; failed = h.sessions.failed };
          at = h.at;
          told = subst (λ (xs : List (Touch (Entry B))). AreTold old.sessions xs) (sym touched_still) h.told;
          latest = h.latest ∙ sym number_still;
          flying = λ works. subst (λ (x : Stage). KnowsFlight x old.in_flight (durable k (gate_synced new_log))) (sym idle) tt;
          bare = λ works calm at. none;
          turns = λ works turning. absurd (let no : ◌≡◌ {A = Checkpoint} Off Turning = turning in cc);
        };
        leaves = leaves;
      };
      same = ap tree_in (new_tree c l i h.whole may.no_flight may.no_filling may.written may.next);
      spares = λ s. ap (λ (n : ℕ). left_by (phase_at (s - 1) old.sessions.phases) n) (renewed_stays c l i h.whole may.no_flight may.no_filling may.written may.next s);
    }

    -- the turn goes on with the same head
    pub renews_by : (head : List ℕ) → head ≡ old.volume.log.flight → MayRenew k r head e.sectors e.pending i.log → MayRenewBy k r i.next head e.sectors e.pending i.log
    renews_by head same now = record {
      may = record {
        no_flight = may.no_flight;
        no_filling = may.no_filling;
        written = may.written;
        settled = now.settled;
        next = may.next;
        covers = may.covers;
        head_is = subst (λ (x : List ℕ). AreRecords r x (renewed k may.next i.log.gated)) (sym same) may.head_is;
      };
      begun = begun;
    }

    abbrev IsLed : Turn → Type 0
    IsLed call = Spared c r f passes d e old (record old { volume = w; checkpoint = after_call call }) i (call_events call)

    -- by the call that was made
    pub call_led : (call : Turn) → old.volume.log.stage ≡ Idle → w.log ≡ glog.after_turn call old.volume.log → HasTurned k r f passes d e w bodies i.log may.next (Ok call) → IsLed call
    call_led turn.Done idle log t = renewed_led (ap (λ (x : Log). x.stage) log ∙ idle) (ap (λ (x : Log). x.flight) log) t.keeps t.safely.leaves
    call_led turn.Closed idle log t = turns_led (ap (λ (x : Log). x.stage) log ∙ idle) (renews_by w.log.flight (ap (λ (x : Log). x.flight) log) t.goes_on) t.keeps t.safely.leaves
    call_led turn.Body idle log t = turns_led (ap (λ (x : Log). x.stage) log ∙ idle) (renews_by w.log.flight (ap (λ (x : Log). x.flight) log) t.goes_on) t.keeps t.safely.leaves
    call_led turn.BodySync idle log t = turns_led (ap (λ (x : Log). x.stage) log ∙ idle) (renews_by w.log.flight (ap (λ (x : Log). x.flight) log) t.goes_on) t.keeps t.safely.leaves
    call_led turn.Gate idle log t = turns_led (ap (λ (x : Log). x.stage) log ∙ idle) (renews_by w.log.flight (ap (λ (x : Log). x.flight) log) t.goes_on) t.keeps t.safely.leaves
    call_led turn.GateSync idle log t = turns_led (ap (λ (x : Log). x.stage) log ∙ idle) (renews_by w.log.flight (ap (λ (x : Log). x.flight) log) t.goes_on) t.keeps t.safely.leaves
    call_led turn.Selector idle log t = turns_led (ap (λ (x : Log). x.stage) log ∙ idle) (renews_by w.log.flight (ap (λ (x : Log). x.flight) log) t.goes_on) t.keeps t.safely.leaves

-- the events of a turn's call are those of an event by which commits may become durable
call_sync : {B : Type 0} (call : Turn) → IsSync {B = B} false More (call_events call)
call_sync turn.Done = (refl, inr (inl refl))
call_sync turn.Closed = (refl, inl refl)
call_sync turn.Body = (refl, inl refl)
call_sync turn.BodySync = (refl, inl refl)
call_sync turn.Gate = (refl, inl refl)
call_sync turn.GateSync = (refl, inl refl)
call_sync turn.Selector = (refl, inl refl)

-- so are those of the log's call, and of a page's write
more_sync : {B : Type 0} (stage : Stage) (number : ℕ) → IsSync {B = B} false More (log_events stage number More)
more_sync Idle number = (refl, inr (inl refl))
more_sync Body number = (refl, inl refl)
more_sync BodySync number = (refl, inl refl)
more_sync Gate number = (refl, inl refl)
more_sync GateSync number = (refl, inr (inr (number, refl)))

nothing_sync : {B : Type 0} (stage : Stage) (number : ℕ) → IsSync {B = B} false Nothing (log_events stage number Nothing)
nothing_sync Idle number = (refl, refl)
nothing_sync Body number = (refl, refl)
nothing_sync BodySync number = (refl, refl)
nothing_sync Gate number = (refl, refl)
nothing_sync GateSync number = (refl, refl)

pub log_sync : (B : Type 0) (stage done : Stage) (number : ℕ) → IsSync {B = B} false (log_outcome done) (log_events stage number (log_outcome done))
log_sync B stage Idle number = nothing_sync stage number
log_sync B stage Body number = more_sync stage number
log_sync B stage BodySync number = more_sync stage number
log_sync B stage Gate number = more_sync stage number
log_sync B stage GateSync number = more_sync stage number

pub fault_sync : {B : Type 0} (stage : Stage) (number : ℕ) → IsSync {B = B} false (Refused DeviceRefusal) (log_events stage number (Refused DeviceRefusal))
fault_sync Idle number = (refl, inr refl)
fault_sync Body number = (refl, inl refl)
fault_sync BodySync number = (refl, inl refl)
fault_sync Gate number = (refl, inl refl)
fault_sync GateSync number = (refl, inl refl)

module _ {B D : Type 0} (page : ℕ) (d e : Device) (old new : Parts B D) (outcome : Outcome B) where
  abbrev Syncs : Outcome B → Type 0
  Syncs o = IsSync false o (page_events o)

  written_sync : (result : Result Bool Refusal) → PageComes old new outcome result → Syncs outcome
  written_sync (Ok true) comes = subst Syncs (sym comes.0) (refl, inr (inl refl))
  written_sync (Ok false) comes = subst Syncs (sym comes.0) (refl, refl)
  written_sync (Err why) comes = subst Syncs (sym comes.0) (refl, inr refl)

  written_by : (failed : Bool) → failed ≡ false → PageIsWritten page d e old new failed outcome → PageIsWritten page d e old new false outcome
  written_by true works is = absurd (let no : true ≡ false = works in cc)
  written_by false works is = is

  -- an engine that works writes a page
  pub page_written : old.sessions.failed ≡ false → PageIsWritten page d e old new old.sessions.failed outcome → PageIsWritten page d e old new false outcome
  page_written works is = written_by old.sessions.failed works is

  pub page_sync : PageIsWritten page d e old new false outcome → IsSync false outcome (page_events outcome)
  page_sync is = written_sync is.0 is.2

  pub page_leads : (c : Class B) (r : Reading (Entry B) (Page B)) (f : Format B) (passes : ℕ → Contents → Bool) → PageIsWritten page d e old new false outcome
      → Spares c r f passes d e old new (page_events outcome) → SparesSo c r f passes d e old new (IsSync false outcome)
  page_leads c r f passes is leads bodies i h = (page_events outcome, page_sync is, leads bodies i h)

module _ {B D : Type 0} (c : Class B) (r : Reading (Entry B) (Page B)) (f : Format B) (passes : ℕ → Contents → Bool) (d e : Device) (old : Parts B D) where
  -- with a quiet log some dirty page may be written
  pub some_writable : (new : Parts B D) (outcome : Outcome B) → IsQuiet old.volume → (NoneDirty old.volume.shelf.frames → ⊥) → IsLeastWritable old.volume.shelf.frames None
      → SparesSo c r f passes d e old new (IsSync false outcome)
  some_writable new outcome quiet dirty none bodies i h =
      let log : Log = old.volume.log in
      let places : log.used ≡ log.gated + glog.in_flight log.stage = h.keeps.runs.up.on.sound.places in
      let all_gated : log.used ≡ log.gated = (let still : glog.in_flight log.stage ≡ 0 = ap glog.in_flight quiet.idle in omega (arith, places, still)) in
      absurd (dirty (none_writable (Entry B) (Page B) log old.volume.shelf.frames i.log h.keeps.runs.stamped h.keeps.placed all_gated quiet.quiet none))

  module _ (lawful : 4 ≤ c.rules.most → IsLawful c) (w : Volume D) (works : old.sessions.failed ≡ false) (most : w.most ≡ old.volume.most) where
    -- the log's next call while the checkpoint runs
    pub gate_leads : old.checkpoint ≢ Turning → (done : Stage) → glog.Goes old.volume.log w.log (Ok done) → StepsLog (known_of c) r f passes d e old.volume w (Ok done)
        → SparesSo c r f passes d e old (noted done (record old { volume = w })) (IsSync false (log_outcome done))
    gate_leads calm done goes steps bodies i h =
        (log_events old.volume.log.stage old.in_flight (log_outcome done), log_sync B old.volume.log.stage done old.in_flight, log_made c lawful r f passes d e old w works most calm done goes steps bodies i h)

    pub gate_fails : old.checkpoint ≢ Turning → (why : Refusal) → glog.Goes old.volume.log w.log (Err why) → StepsLog (known_of c) r f passes d e old.volume w (Err why)
        → SparesSo c r f passes d e old (record old { volume = w; sessions = failed_state old.sessions }) (IsSync false (Refused DeviceRefusal))
    gate_fails calm why goes steps bodies i h =
        (log_events old.volume.log.stage old.in_flight (Refused DeviceRefusal), fault_sync old.volume.log.stage old.in_flight, log_fails c lawful r f passes d e old w works most calm why goes steps bodies i h)

    -- the turn's next call
    pub turn_leads : old.checkpoint ≡ Turning → old.volume.log.stage ≡ Idle → (call : Turn) → glog.Turns old.volume.log w.log (Ok call) → TurnsOn (known_of c) r f passes d e old.volume w (Ok call)
        → SparesSo c r f passes d e old (record old { volume = w; checkpoint = after_call call }) (IsSync false More)
    turn_leads turning idle call turns on bodies i h =
        let l = lawful h.some in
        let by = h.turns works turning in (
          call_events call,
          call_sync call,
          call_led c l r f passes d e old w bodies i h most by.may by.begun call idle (turns.1 ∙ ap (λ (x : Turn). glog.after_turn x old.volume.log) (sym turns.0)) (on bodies i.log (known_lawful c l) h.keeps by.may),
        )

    pub turn_fails : old.checkpoint ≡ Turning → (why : Refusal) → TurnsOn (known_of c) r f passes d e old.volume w (Err why)
        → SparesSo c r f passes d e old (record old { volume = w; sessions = failed_state old.sessions }) (IsSync false (Refused DeviceRefusal))
    turn_fails turning why on bodies i h =
        let l = lawful h.some in
        let t = on bodies i.log (known_lawful c l) h.keeps (h.turns works turning).may in
        (Fails ∷ [], (refl, inl refl), fault_led c l r f passes d e old w bodies i h most t.keeps t.safely.leaves)

-- a checkpoint that runs doesn't turn as yet
pub running_is_calm : (x : Checkpoint) → x ≡ Running → x ≢ Turning
running_is_calm x running turns = (let no : ◌≡◌ {A = Checkpoint} Running Turning = sym running ∙ turns in cc)

-- A checkpoint is begun: so it is as if it ran before.
module _ {B D : Type 0} (c : Class B) (r : Reading (Entry B) (Page B)) (f : Format B) (passes : ℕ → Contents → Bool) (d e : Device) (old : Parts B D) (off : old.checkpoint ≡ Off) where
  running_holds : (bodies : List (List (Record (Entry B) (Page B)))) (i : index.State B) → Holds c r f passes d old bodies i → Holds c r f passes d (record old { checkpoint = Running }) bodies i
  running_holds bodies i h = record {
    most = h.most;
    some = h.some;
    keeps = h.keeps;
    whole = h.whole;
    sessions = h.sessions;
    at = h.at;
    told = h.told;
    latest = h.latest;
    flying = h.flying;
    bare = λ works calm. h.bare works (λ turns. (let no : ◌≡◌ {A = Checkpoint} Off Turning = sym off ∙ turns in cc));
    turns = λ works turning. absurd (let no : ◌≡◌ {A = Checkpoint} Running Turning = turning in cc);
  }

  pub begun_leads : (new : Parts B D) (AreSo : List (Happening B) → Type 0) → SparesSo c r f passes d e (record old { checkpoint = Running }) new AreSo → SparesSo c r f passes d e old new AreSo
  begun_leads new AreSo leads bodies i h =
      let led = leads bodies i (running_holds bodies i h) in
      (led.0, led.1, record { led = led.2.led; same = led.2.same; spares = led.2.spares })

-- nothing was to be done; or a fault had ended the engine
module _ {B D : Type 0} (c : Class B) (r : Reading (Entry B) (Page B)) (f : Format B) (passes : ℕ → Contents → Bool) (d : Device) (old : Parts B D) where
  pub rests_so : SparesSo c r f passes d d old old (IsSync false Nothing)
  rests_so bodies i h = ([], (refl, refl), nothing_spared c r f passes d old bodies i h)

  pub ended_so : (failed : Bool) → failed ≡ true → SparesSo c r f passes d d old old (IsSync failed (Refused Failed))
  ended_so failed is bodies i h = ([], (is, refl), nothing_spared c r f passes d old bodies i h)

-- the same of an engine that works
pub sync_works : {B D : Type 0} (c : Class B) (r : Reading (Entry B) (Page B)) (f : Format B) (passes : ℕ → Contents → Bool) (d e : Device) (old new : Parts B D) (outcome : Outcome B) (failed : Bool)
    → failed ≡ false → SparesSo c r f passes d e old new (IsSync false outcome) → SparesSo c r f passes d e old new (IsSync failed outcome)
sync_works c r f passes d e old new outcome failed works leads bodies i h =
    let led = leads bodies i h in
    (led.0, subst (λ (b : Bool). IsSync b outcome led.0) (sym works) led.1, led.2)
