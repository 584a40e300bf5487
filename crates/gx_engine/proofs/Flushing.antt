-- The flusher's events as an index's.
use Rattle.std.proofs.Common.{◌≡◌, ◌≢◌, ◌∙◌, sym, ap, refl, subst, inl, inr, ℕ, ◌-◌, ◌≤◌, Bool, drop, true, false, List, [], ◌∷◌, ◌++◌, length, Result, Ok, Err, append_assoc, arith}
use Rattle.std.proofs.lemmas.List.{append-nil}
use Rattle.gx_geom.specs.declared.refusal.Refusal.{Refusal}
use Rattle.gx_geom.specs.declared.refusal.Refusal.TheVariants.{Device as DeviceRefusal, Failed}
use Rattle.gx_machine.specs.declared.entry.Entry.{Entry}
use Rattle.gx_disk.specs.Device.{Device}
use Rattle.gx_disk.proofs.Leaving.{nothing_leaves}
use Rattle.gx_page.specs.Contents.{Contents}
use Rattle.gx_node.specs.Reading.{Format}
use Rattle.gx_glog.specs.declared.stage.Stage.{Stage}
use Rattle.gx_glog.specs.declared.stage.Stage.TheVariants.{Body, BodySync, Gate, GateSync, Idle}
use Rattle.gx_glog.specs.State.{Log, GoesFrom, Made}
use Rattle.gx_glog.specs.State as glog
use Rattle.gx_glog.specs.declared.stage.Turn.TheVariants.{Closed}
use Rattle.gx_recovery.specs.Known.{Known}
use Rattle.gx_recovery.specs.Records.{Record}
use Rattle.gx_recovery.specs.Analysis.{analysis, number_of}
use Rattle.gx_recovery.specs.Redo.{tree_of}
use Rattle.gx_recovery.specs.Logged.{Logged, all_records, begun, durable, gate_synced, latest}
use Rattle.gx_recovery.proofs.States.{tree_agrees}
use Rattle.gx_events.specs.Happenings.{Works, Durable, Fails}
use Rattle.gx_index_laws.specs.Classes.{Class, IsLawful, Page, known_of, tree_in}
use Rattle.gx_index_laws.specs.States as index
use Rattle.gx_index_laws.specs.Whole.{IsWhole}
use Rattle.gx_index_laws.specs.Happening as happening
use Rattle.gx_index_laws.specs.Happening.{Happens}
use Rattle.gx_index_laws.proofs.AskedCalls.{faulted}
use Rattle.gx_index_laws.proofs.Logging.{begins, synced, writes_pages}
use Rattle.gx_index_laws.proofs.Meanwhile.{begun_stays, synced_stays, written_stays}
use Rattle.gx_index_laws.proofs.Quiet.{as_it_is}
use Rattle.gx_index_laws.proofs.Standing.{known_lawful}
use Rattle.gx_durable.specs.Area.{area_of}
use Rattle.gx_durable.specs.Pages.{rewritten}
use Rattle.gx_durable.specs.Spelled.{Reading}
use Rattle.gx_durable.specs.Standing.{Stands}
use Rattle.gx_durable.specs.Steps.{bodies_stepped, stepped, with_batch}
use Rattle.gx_events.specs.declared.outcome.Outcome.TheVariants.{Nothing, Refused}
use Rattle.gx_phases.specs.Indexes.{AreOf}
use Rattle.gx_phases.specs.Moves.{failed_state, synced_state}
use Rattle.gx_phases.specs.States.{phase_at}
use Rattle.gx_storage.specs.Flushing.{Becomes, Rewrites, StepsLog, WritesGated}
use Rattle.gx_storage.specs.Keeps.{Keeps}
use Rattle.gx_storage.specs.State.{Volume}
use Rattle.gx_storage.proofs.Calling.{rests_none}
use Rattle.gx_engine.specs.declared.checkpoint.Checkpoint.TheVariants.{Turning}
use Rattle.gx_engine.specs.Ending.{Spared, Spares}
use Rattle.gx_engine.specs.Moves.{left_by}
use Rattle.gx_engine.specs.States.{Parts}
use Rattle.gx_engine.specs.Flushing.{log_events, log_outcome, noted}
use Rattle.gx_engine.specs.Noted.{AreTold}
use Rattle.gx_engine.specs.Holds.{AreAt, Holds, KnowsFlight, Leads}

-- the commits up to the last one of a log without a batch in flight are those of its gated records with those that fill
all_in_flight : {E P : Type 0} (k : Known E P) (s : Logged E P) → s.flight ≡ [] → latest k s ≡ durable k (gate_synced (begun s))
all_in_flight {E} {P} k s none = ap (λ (x : List (Record E P)). number_of k (s.gated ++ (x ++ s.filling))) none

-- the start of a batch and a gate's sync don't change the records
begun_records : {E P : Type 0} (s : Logged E P) → s.flight ≡ [] → all_records (begun s) ≡ all_records s
begun_records {E} {P} s none =
    ap (λ (x : List (Record E P)). s.gated ++ x) (append-nil s.filling) ∙ sym (ap (λ (x : List (Record E P)). s.gated ++ (x ++ s.filling)) none)

synced_records : {E P : Type 0} (s : Logged E P) → all_records (gate_synced s) ≡ all_records s
synced_records s = append_assoc s.gated s.flight s.filling

-- a gate's sync adds no record
all_gated : {E P : Type 0} (k : Known E P) (s : Logged E P) → latest k (gate_synced s) ≡ latest k s
all_gated k s = ap (number_of k) (append_assoc s.gated s.flight s.filling)

all_begun : {E P : Type 0} (k : Known E P) (s : Logged E P) → s.flight ≡ [] → latest k (begun s) ≡ latest k s
all_begun {E} {P} k s none =
    ap (λ (x : List (Record E P)). number_of k (s.gated ++ x)) (append-nil s.filling) ∙ sym (ap (λ (x : List (Record E P)). number_of k (s.gated ++ (x ++ s.filling))) none)

module _ {B D : Type 0} (c : Class B) (l : IsLawful c) (r : Reading (Entry B) (Page B)) (f : Format B) (passes : ℕ → Contents → Bool)
    (d e : Device) (old : Parts B D) (w : Volume D) (bodies : List (List (Record (Entry B) (Page B)))) (i : index.State B) (h : Holds c r f passes d old bodies i)
    (same_most : w.most ≡ old.volume.most) (calm : old.checkpoint ≢ Turning) where
  abbrev k : Known (Entry B) (Page B)
  k = known_of c

  most : w.most ≡ c.rules.most
  most = same_most ∙ h.most

  -- what an engine leads to whose fault is met with the index at this
  failed_holds : (now : List (List (Record (Entry B) (Page B)))) (j : index.State B) → IsWhole c j → AreOf old.sessions j → AreAt c.keys old.sessions j → AreTold old.sessions (analysis k (all_records j.log)).touched → old.sessions.latest ≡ latest k j.log
      → Keeps k r f passes e w now j.log → Holds c r f passes e (record old { volume = w; sessions = failed_state old.sessions }) now (happening.failed_state j)
  failed_holds now j whole of at told last keeps = record {
    most = most;
    some = h.some;
    keeps = keeps;
    whole = (faulted c l j whole Fails (as_it_is (index.engine_of c (happening.failed_state j))) refl).whole;
    sessions = record { slots = of.slots; transactions = of.transactions; next = of.next; oldest = of.oldest; failed = refl };
    at = at;
    told = told;
    latest = last;
    flying = λ works. absurd (let never : true ≡ false = works in cc);
    bare = λ works. absurd (let never : true ≡ false = works in cc);
    turns = λ works. absurd (let never : true ≡ false = works in cc);
  }

  fails_now : (j : index.State B) → IsWhole c j → Happens c j Fails (happening.failed_state j)
  fails_now j whole = faulted c l j whole Fails (as_it_is (index.engine_of c (happening.failed_state j))) refl

  -- the log goes on without an event
  quiet : Becomes k r f passes d e w bodies i.log i.log → (old.sessions.failed ≡ false → KnowsFlight w.log.stage old.in_flight (durable k (gate_synced i.log)))
      → (w.log.stage ≡ Idle → w.log.flight ≡ []) → Spared c r f passes d e old (record old { volume = w }) i []
  quiet b flying none = record {
    led = record {
      bodies = bodies;
      index = i;
      happening = refl;
      holds = record { most = most; some = h.some; keeps = b.keeps; whole = h.whole; sessions = h.sessions; at = h.at; told = h.told; latest = h.latest; flying = flying; bare = λ works calm idle. none idle; turns = λ works turning. absurd (calm turning) };
      leaves = b.safely.leaves;
    };
    same = refl;
    spares = λ s. refl;
  }

  fails : Becomes k r f passes d e w bodies i.log i.log → Spared c r f passes d e old (record old { volume = w; sessions = failed_state old.sessions }) i (Fails ∷ [])
  fails b = record {
    led = record {
      bodies = bodies;
      index = happening.failed_state i;
      happening = (happening.failed_state i, fails_now i h.whole, refl);
      holds = failed_holds bodies i h.whole h.sessions h.at h.told h.latest b.keeps;
      leaves = b.safely.leaves;
    };
    same = refl;
    spares = λ s. refl;
  }

  -- a batch begins
  module _ (none : i.log.flight ≡ []) (b : Becomes k r f passes d e w bodies i.log (begun i.log)) where
    flight_known : w.log.stage ≡ BodySync → KnowsFlight w.log.stage old.sessions.latest (durable k (gate_synced (begun i.log)))
    flight_known stage =
        subst (λ (x : Stage). KnowsFlight x old.sessions.latest (durable k (gate_synced (begun i.log)))) (sym stage) (h.latest ∙ all_in_flight k i.log none)

    abbrev with_flight : index.State B
    with_flight = record i { log = begun i.log }

    begun_now : Happens c i Works with_flight
    begun_now = begins c l i h.whole none

    its_sessions : AreOf old.sessions with_flight
    its_sessions = record { slots = h.sessions.slots; transactions = h.sessions.transactions; next = h.sessions.next; oldest = h.sessions.oldest; failed = h.sessions.failed }

    begun_tree : index.tree_now c with_flight ≡ index.tree_now c i
    begun_tree = ap (λ (rs : List (Record (Entry B) (Page B))). tree_in (tree_of k i.log.area rs)) (begun_records i.log none)

    told_still : AreTold old.sessions (analysis k (all_records (begun i.log))).touched
    told_still = subst (λ (rs : List (Record (Entry B) (Page B))). AreTold old.sessions (analysis k rs).touched) (sym (begun_records i.log none)) h.told

    last : old.sessions.latest ≡ latest k (begun i.log)
    last = h.latest ∙ sym (all_begun k i.log none)

    begins_batch : w.log.stage ≡ BodySync → Spared c r f passes d e old (record old { volume = w; in_flight = old.sessions.latest }) i (Works ∷ [])
    begins_batch stage = record {
      led = record {
        bodies = bodies;
        index = with_flight;
        happening = (with_flight, begun_now, refl);
        holds = record {
          most = most;
          some = h.some;
          keeps = b.keeps;
          whole = begun_now.whole;
          sessions = its_sessions;
          at = h.at;
          told = told_still;
          latest = last;
          flying = λ works. flight_known stage;
          bare = λ works calm idle. (let no : BodySync ≡ Idle = sym stage ∙ idle in cc);
          turns = λ works turning. absurd (calm turning);
        };
        leaves = b.safely.leaves;
      };
      same = begun_tree;
      spares = λ s. ap (λ (n : ℕ). left_by (phase_at (s - 1) old.sessions.phases) n) (begun_stays c i none s);
    }

    fails_in_batch : Spared c r f passes d e old (record old { volume = w; sessions = failed_state old.sessions }) i (Works ∷ Fails ∷ [])
    fails_in_batch = record {
      led = record {
        bodies = bodies;
        index = happening.failed_state with_flight;
        happening = (with_flight, begun_now, (happening.failed_state with_flight, fails_now with_flight begun_now.whole, refl));
        holds = failed_holds bodies with_flight begun_now.whole its_sessions h.at told_still last b.keeps;
        leaves = b.safely.leaves;
      };
      same = begun_tree;
      spares = λ s. ap (λ (n : ℕ). left_by (phase_at (s - 1) old.sessions.phases) n) (begun_stays c i none s);
    }

  -- the gate of the batch in flight is synced
  abbrev gated_index : index.State B
  gated_index = record i {
    log = gate_synced i.log;
    older = drop (durable k (gate_synced i.log) - i.oldest) i.older;
    oldest = durable k (gate_synced i.log);
  }

  gates : (now : List (List (Record (Entry B) (Page B)))) → old.sessions.failed ≡ false → old.in_flight ≡ durable k (gate_synced i.log) → w.log.stage ≡ Idle → w.log.flight ≡ []
      → Becomes k r f passes d e w now i.log (gate_synced i.log) → Spared c r f passes d e old (record old { volume = w; sessions = synced_state old.in_flight old.sessions }) i (Durable old.in_flight ∷ [])
  gates now works number idle none b =
      let made = synced c l i h.whole (h.sessions.failed ∙ works) in
      record {
        led = record {
          bodies = now;
          index = gated_index;
          happening = (gated_index, subst (λ n. Happens c i (Durable n) gated_index) (sym number) made, refl);
          holds = record {
            most = most;
            some = h.some;
            keeps = b.keeps;
            whole = made.whole;
            sessions = record { slots = h.sessions.slots; transactions = h.sessions.transactions; next = h.sessions.next; oldest = sym number; failed = h.sessions.failed };
            at = h.at;
            told = subst (λ (rs : List (Record (Entry B) (Page B))). AreTold old.sessions (analysis k rs).touched) (sym (synced_records i.log)) h.told;
            latest = h.latest ∙ sym (all_gated k i.log);
            flying = λ works. subst (λ (x : Stage). KnowsFlight x old.in_flight (durable k (gate_synced (gate_synced i.log)))) (sym idle) tt;
            bare = λ works calm idle. none;
            turns = λ works turning. absurd (calm turning);
          };
          leaves = b.safely.leaves;
        };
        same = ap (λ (rs : List (Record (Entry B) (Page B))). tree_in (tree_of k i.log.area rs)) (synced_records i.log);
        spares = λ s. ap (λ (n : ℕ). left_by (phase_at (s - 1) old.sessions.phases) n) (synced_stays c i (drop (durable k (gate_synced i.log) - i.oldest) i.older) (durable k (gate_synced i.log)) s);
      }

  -- a page is written: the page area is another
  module _ (b : Rewrites k r f passes d e w bodies i.log) (same_log : w.log ≡ old.volume.log) where
    abbrev with_area : index.State B
    with_area = record i { log = rewritten r k.pages e.seen i.log }

    written_now : Happens c i Works with_area
    written_now = writes_pages c l i h.whole (area_of r k.pages e.seen) b.beside

    area_sessions : AreOf old.sessions with_area
    area_sessions = record { slots = h.sessions.slots; transactions = h.sessions.transactions; next = h.sessions.next; oldest = h.sessions.oldest; failed = h.sessions.failed }

    area_tree : index.tree_now c with_area ≡ index.tree_now c i
    area_tree = ap tree_in (tree_agrees k (known_lawful c l) i.log.gated (i.log.flight ++ i.log.filling) i.log.area (area_of r k.pages e.seen) b.beside)

    writes : Spared c r f passes d e old (record old { volume = w }) i (Works ∷ [])
    writes = record {
      led = record {
        bodies = bodies;
        index = with_area;
        happening = (with_area, written_now, refl);
        holds = record {
          most = most;
          some = h.some;
          keeps = b.keeps;
          whole = written_now.whole;
          sessions = area_sessions;
          at = h.at;
          told = h.told;
          latest = h.latest;
          flying = λ works. subst (λ (x : Log). KnowsFlight x.stage old.in_flight (durable k (gate_synced i.log))) (sym same_log) (h.flying works);
          bare = λ works calm idle. ap (λ (x : Log). x.flight) same_log ∙ h.bare works calm (sym (ap (λ (x : Log). x.stage) same_log) ∙ idle);
          turns = λ works turning. absurd (calm turning);
        };
        leaves = b.safely.leaves;
      };
      same = area_tree;
      spares = λ s. ap (λ (n : ℕ). left_by (phase_at (s - 1) old.sessions.phases) n) (written_stays c i l (area_of r k.pages e.seen) b.beside s);
    }

    write_fails : Spared c r f passes d e old (record old { volume = w; sessions = failed_state old.sessions }) i (Works ∷ Fails ∷ [])
    write_fails = record {
      led = record {
        bodies = bodies;
        index = happening.failed_state with_area;
        happening = (with_area, written_now, (happening.failed_state with_area, fails_now with_area written_now.whole, refl));
        holds = failed_holds bodies with_area written_now.whole area_sessions h.at h.told h.latest b.keeps;
        leaves = b.safely.leaves;
      };
      same = area_tree;
      spares = λ s. ap (λ (n : ℕ). left_by (phase_at (s - 1) old.sessions.phases) n) (written_stays c i l (area_of r k.pages e.seen) b.beside s);
    }

-- An event of an engine that a fault has ended, and one that did nothing.
pub nothing_led : {B D : Type 0} (c : Class B) (r : Reading (Entry B) (Page B)) (f : Format B) (passes : ℕ → Contents → Bool) (d : Device) (old : Parts B D) → Leads c r f passes d d old old []
nothing_led c r f passes d old bodies i h = record { bodies = bodies; index = i; happening = refl; holds = h; leaves = nothing_leaves (Stands (known_of c) r i.log) d }

-- it leaves the tree, and each session's call as much
module _ {B D : Type 0} (c : Class B) (r : Reading (Entry B) (Page B)) (f : Format B) (passes : ℕ → Contents → Bool) (d : Device) (old : Parts B D) where
  pub nothing_spared : Spares c r f passes d d old old []
  unfolding nothing_led
  nothing_spared bodies i h = record { led = nothing_led c r f passes d old bodies i h; same = refl; spares = λ s. refl }

  -- so does a step of the log that a fault had ended, and one that had nothing to do
  pub ended_spared : (stage : Stage) (number : ℕ) → Spares c r f passes d d old old (log_events stage number (Refused Failed))
  ended_spared Idle number = nothing_spared
  ended_spared Body number = nothing_spared
  ended_spared BodySync number = nothing_spared
  ended_spared Gate number = nothing_spared
  ended_spared GateSync number = nothing_spared

  pub idle_spared : (stage : Stage) (number : ℕ) → Spares c r f passes d d old old (log_events stage number Nothing)
  idle_spared Idle number = nothing_spared
  idle_spared Body number = nothing_spared
  idle_spared BodySync number = nothing_spared
  idle_spared Gate number = nothing_spared
  idle_spared GateSync number = nothing_spared

-- A step of the log.
module _ {B D : Type 0} (c : Class B) (l : IsLawful c) (r : Reading (Entry B) (Page B)) (f : Format B) (passes : ℕ → Contents → Bool)
    (d e : Device) (old : Parts B D) (w : Volume D) (bodies : List (List (Record (Entry B) (Page B)))) (i : index.State B) (h : Holds c r f passes d old bodies i)
    (works : old.sessions.failed ≡ false) (same_most : w.most ≡ old.volume.most) (calm : old.checkpoint ≢ Turning) where
  -- by the outcome of the log's call
  abbrev Comes : Stage → List ℕ → Result Stage Refusal → Type 0
  Comes stage filling result =
      Becomes (known_of c) r f passes d e w (bodies_stepped result bodies (with_batch stage filling i.log)) i.log (stepped result (with_batch stage filling i.log))

  abbrev IsLed : Stage → Result Stage Refusal → Type 0
  IsLed stage (Ok done) = Spared c r f passes d e old (noted done (record old { volume = w })) i (log_events stage old.in_flight (log_outcome done))
  IsLed stage (Err why) = Spared c r f passes d e old (record old { volume = w; sessions = failed_state old.sessions }) i (log_events stage old.in_flight (Refused DeviceRefusal))

  -- the call that is due was made, as this one
  is_made : (stage done due : Stage) (filling : List ℕ) → done ≡ due → (Comes stage filling (Ok due) → IsLed stage (Ok due)) → Comes stage filling (Ok done) → IsLed stage (Ok done)
  is_made stage done due filling same leads b =
      subst (λ (x : Stage). IsLed stage (Ok x)) (sym same) (leads (subst (λ (x : Stage). Comes stage filling (Ok x)) same b))

  abbrev number : ℕ
  number = durable (known_of c) (gate_synced i.log)

  known : (stage : Stage) → old.volume.log.stage ≡ stage → KnowsFlight stage old.in_flight number
  known stage is = subst (λ (x : Stage). KnowsFlight x old.in_flight number) is (h.flying works)

  -- the stage after the call that was due
  stage_after : (stage : Stage) → old.volume.log.stage ≡ stage → w.log ≡ glog.done old.volume.log → w.log.stage ≡ (glog.after stage old.volume.log).stage
  stage_after stage is made = ap (λ (x : Log). x.stage) made ∙ ap (λ (x : Stage). (glog.after x old.volume.log).stage) is

  -- what is in flight after the call that was due
  flight_after : (stage : Stage) → old.volume.log.stage ≡ stage → w.log ≡ glog.done old.volume.log → w.log.flight ≡ (glog.after stage old.volume.log).flight
  flight_after stage is made = ap (λ (x : Log). x.flight) made ∙ ap (λ (x : Stage). (glog.after x old.volume.log).flight) is

  flies_yet : (stage : Stage) → w.log.stage ≡ stage → stage ≢ Idle → w.log.stage ≡ Idle → w.log.flight ≡ []
  flies_yet stage at busy idle = absurd (busy (sym at ∙ idle))

  known_at : (stage : Stage) → w.log.stage ≡ stage → KnowsFlight stage old.in_flight number → KnowsFlight w.log.stage old.in_flight number
  known_at stage is knows = subst (λ (x : Stage). KnowsFlight x old.in_flight number) (sym is) knows

  led_in_flight : (stage : Stage) → old.volume.log.stage ≡ stage → (filling : List ℕ) → (result : Result Stage Refusal) → Made old.volume.log w.log result → Comes stage filling result
      → stage ≢ Idle → IsLed stage result
  led_in_flight Idle is filling result made b busy = absurd (busy refl)
  led_in_flight Body is filling result made b busy = absurd (known Body is)
  led_in_flight BodySync is filling (Ok done) made b busy =
      is_made BodySync done BodySync filling (made.0 ∙ is) (λ b. quiet c l r f passes d e old w bodies i h same_most calm b (λ works. known_at Gate (stage_after BodySync is made.1) (known BodySync is)) (flies_yet Gate (stage_after BodySync is made.1) (λ no. cc))) b
  led_in_flight Gate is filling (Ok done) made b busy =
      is_made Gate done Gate filling (made.0 ∙ is) (λ b. quiet c l r f passes d e old w bodies i h same_most calm b (λ works. known_at GateSync (stage_after Gate is made.1) (known Gate is)) (flies_yet GateSync (stage_after Gate is made.1) (λ no. cc))) b
  led_in_flight GateSync is filling (Ok done) made b busy =
      is_made GateSync done GateSync filling (made.0 ∙ is) (λ b. gates c l r f passes d e old w bodies i h same_most calm _ works (known GateSync is) (stage_after GateSync is made.1) (flight_after GateSync is made.1) b) b
  led_in_flight BodySync is filling (Err why) made b busy = fails c l r f passes d e old w bodies i h same_most calm b
  led_in_flight Gate is filling (Err why) made b busy = fails c l r f passes d e old w bodies i h same_most calm b
  led_in_flight GateSync is filling (Err why) made b busy = fails c l r f passes d e old w bodies i h same_most calm b

  led_idle : old.volume.log.stage ≡ Idle → (filling : List ℕ) → old.volume.log.filling ≡ filling → (result : Result Stage Refusal) → GoesFrom Idle old.volume.log w.log result → Comes Idle filling result
      → IsLed Idle result
  led_idle is [] empty result (inl rests) b =
      subst (λ (x : Result Stage Refusal). Comes Idle [] x → IsLed Idle x) (sym rests.1)
      (λ b. quiet c l r f passes d e old w bodies i h same_most calm b (λ works. known_at Idle (ap (λ (x : Log). x.stage) rests.2 ∙ is) tt)
      (λ idle. ap (λ (x : Log). x.flight) rests.2 ∙ h.bare works calm is)) b
  led_idle is [] empty result (inr takes) b = absurd (let none : length old.volume.log.filling ≡ 0 = ap length empty in omega (arith, none, takes.0))
  led_idle is (byte ∷ bytes) empty result (inl rests) b = absurd (let both : ◌≡◌ {A = List ℕ} [] (byte ∷ bytes) = sym rests.0 ∙ empty in cc)
  led_idle is (byte ∷ bytes) empty (Ok done) (inr takes) b =
      is_made Idle done Body (byte ∷ bytes) takes.1.0
      (λ b. begins_batch c l r f passes d e old w bodies i h same_most calm (rests_none (known_of c) r old.volume.log d bodies i.log h.keeps.runs.up is) b (ap (λ (x : Log). x.stage) takes.1.1)) b
  led_idle is (byte ∷ bytes) empty (Err why) (inr takes) b =
      fails_in_batch c l r f passes d e old w bodies i h same_most calm (rests_none (known_of c) r old.volume.log d bodies i.log h.keeps.runs.up is) b

  led_from : (stage : Stage) → old.volume.log.stage ≡ stage → (filling : List ℕ) → old.volume.log.filling ≡ filling → (result : Result Stage Refusal) → GoesFrom stage old.volume.log w.log result → Comes stage filling result
      → IsLed stage result
  led_from Idle is filling fills result goes b = led_idle is filling fills result goes b
  led_from Body is filling fills result goes b = led_in_flight Body is filling result goes b (λ no. cc)
  led_from BodySync is filling fills result goes b = led_in_flight BodySync is filling result goes b (λ no. cc)
  led_from Gate is filling fills result goes b = led_in_flight Gate is filling result goes b (λ no. cc)
  led_from GateSync is filling fills result goes b = led_in_flight GateSync is filling result goes b (λ no. cc)

  log_led : (result : Result Stage Refusal) → glog.Goes old.volume.log w.log result → Comes old.volume.log.stage old.volume.log.filling result → IsLed old.volume.log.stage result
  log_led result goes b = led_from old.volume.log.stage refl old.volume.log.filling refl result goes b

-- The same as what an event leads to, whatever index the engine held.
module _ {B D : Type 0} (c : Class B) (lawful : 4 ≤ c.rules.most → IsLawful c) (r : Reading (Entry B) (Page B)) (f : Format B) (passes : ℕ → Contents → Bool)
    (d e : Device) (old : Parts B D) (w : Volume D) where
  pub log_made : old.sessions.failed ≡ false → w.most ≡ old.volume.most → old.checkpoint ≢ Turning → (done : Stage) → glog.Goes old.volume.log w.log (Ok done) → StepsLog (known_of c) r f passes d e old.volume w (Ok done)
      → Spares c r f passes d e old (noted done (record old { volume = w })) (log_events old.volume.log.stage old.in_flight (log_outcome done))
  log_made works most calm done goes steps bodies i h =
      log_led c (lawful h.some) r f passes d e old w bodies i h works most calm (Ok done) goes (steps bodies i.log (known_lawful c (lawful h.some)) h.keeps)

  pub log_fails : old.sessions.failed ≡ false → w.most ≡ old.volume.most → old.checkpoint ≢ Turning → (why : Refusal) → glog.Goes old.volume.log w.log (Err why) → StepsLog (known_of c) r f passes d e old.volume w (Err why)
      → Spares c r f passes d e old (record old { volume = w; sessions = failed_state old.sessions }) (log_events old.volume.log.stage old.in_flight (Refused DeviceRefusal))
  log_fails works most calm why goes steps bodies i h =
      log_led c (lawful h.some) r f passes d e old w bodies i h works most calm (Err why) goes (steps bodies i.log (known_lawful c (lawful h.some)) h.keeps)

  module _ (most : w.most ≡ old.volume.most) (calm : old.checkpoint ≢ Turning) (log : w.log ≡ old.volume.log) (closed : old.volume.log.turn ≡ Closed) (gated : WritesGated (known_of c) r f passes d e old.volume w) where
    pub page_made : Spares c r f passes d e old (record old { volume = w }) (Works ∷ [])
    page_made bodies i h = writes c (lawful h.some) r f passes d e old w bodies i h most calm (gated bodies i.log (known_lawful c (lawful h.some)) closed h.keeps) log

    pub page_fails : Spares c r f passes d e old (record old { volume = w; sessions = failed_state old.sessions }) (Works ∷ Fails ∷ [])
    page_fails bodies i h = write_fails c (lawful h.some) r f passes d e old w bodies i h most calm (gated bodies i.log (known_lawful c (lawful h.some)) closed h.keeps) log

-- what is noted leaves pages and log
pub noted_volume : {B D : Type 0} (stage : Stage) (e : Parts B D) → (noted stage e).volume ≡ e.volume
noted_volume Idle e = refl
noted_volume Body e = refl
noted_volume BodySync e = refl
noted_volume Gate e = refl
noted_volume GateSync e = refl
