-- An engine that holds an index whose log an event has made longer by a record.
use Rattle.std.proofs.Common.{◌≡◌, ◌≢◌, ◌∙◌, sym, ap, subst, ℕ, Bool, false, List, length, arith}
use Rattle.gx_machine.specs.declared.entry.Entry.{Entry}
use Rattle.gx_disk.specs.Device.{Device}
use Rattle.gx_disk.specs.Moments.{Leaves}
use Rattle.gx_page.specs.Contents.{Contents}
use Rattle.gx_node.specs.Reading.{Format}
use Rattle.gx_glog.specs.State.{Log}
use Rattle.gx_glog.specs.declared.stage.Stage.{Stage}
use Rattle.gx_recovery.specs.Logged as logged
use Rattle.gx_recovery.specs.Logged.{Logged, appended}
use Rattle.gx_recovery.specs.Records.{Record}
use Rattle.gx_events.specs.Happenings.{Happening}
use Rattle.gx_index_laws.specs.Classes.{Class, Page, known_of}
use Rattle.gx_index_laws.specs.Happening.{AreHappening}
use Rattle.gx_index_laws.specs.States as index
use Rattle.gx_index_laws.specs.Whole.{IsWhole}
use Rattle.gx_durable.specs.Spelled.{Reading}
use Rattle.gx_durable.specs.Standing.{Stands}
use Rattle.gx_phases.specs.States.{State}
use Rattle.gx_storage.specs.Keeps.{Keeps, StaysSame}
use Rattle.gx_storage.specs.State.{Volume}
use Rattle.gx_engine.specs.declared.checkpoint.Checkpoint.TheVariants.{Turning}
use Rattle.gx_engine.specs.declared.work.Work.{Work}
use Rattle.gx_engine.specs.Holds.{Holds, KnowsFlight, Led, MayRenewBy, Sits}
use Rattle.gx_engine.specs.States.{Parts}
use Rattle.gx_engine.proofs.Serving.{FliesOn, StaysSettled, renews_still}

module _ {B D : Type 0} (c : Class B) (r : Reading (Entry B) (Page B)) (f : Format B) (passes : ℕ → Contents → Bool) (d e : Device) (old : Parts B D)
    (bodies : List (List (Record (Entry B) (Page B)))) (i : index.State B) (h : Holds c r f passes d old bodies i) (calm : old.checkpoint ≢ Turning)
    (w : Volume D) (most : w.most ≡ old.volume.most) (flies : FliesOn old.volume.log w.log) (leaves : Leaves (Stands (known_of c) r i.log) d e)
    (x : Record (Entry B) (Page B)) (keeps : Keeps (known_of c) r f passes e w bodies (appended x i.log)) where
  -- these events happened, and no commit
  unfoldable pub grown_led : (events : List (Happening B)) (j : index.State B) → AreHappening c i events j → IsWhole c j → j.log ≡ appended x i.log → length j.older ≡ length i.older → j.oldest ≡ i.oldest
      → (new : State B (Work B)) → Sits c new j → new.latest ≡ old.sessions.latest → (new.failed ≡ false → old.sessions.failed ≡ false)
      → Led c r f passes d e (record old { volume = w; sessions = new }) i events
  grown_led events j are whole log older oldest new sits latest working_yet = record {
    bodies = bodies;
    index = j;
    happening = are;
    holds = record {
      most = most ∙ h.most;
      some = h.some;
      keeps = subst (λ (y : Logged (Entry B) (Page B)). Keeps (known_of c) r f passes e w bodies y) (sym log) keeps;
      whole = whole;
      sessions = sits.of;
      at = sits.at;
      told = sits.told;
      latest =
          (let now = whole.sets.last in
          let before = h.whole.sets.last in
          let same = h.latest in
          omega (arith, now, before, same, older, oldest, latest));
      flying = λ works.
          subst (λ (y : Logged (Entry B) (Page B)). KnowsFlight w.log.stage old.in_flight (logged.durable (known_of c) (logged.gate_synced y))) (sym log)
          (subst (λ (y : Stage). KnowsFlight y old.in_flight (logged.durable (known_of c) (logged.gate_synced i.log))) (sym flies.stage) (h.flying (working_yet works)));
      bare = λ works calm idle. flies.flight ∙ h.bare (working_yet works) calm (sym flies.stage ∙ idle);
      turns = λ works turning. absurd (calm turning);
    };
    leaves = leaves;
  }

-- an index has the log of another, and the same next transaction's number
abbrev pub SameLog : {B : Type 0} → index.State B → index.State B → Type 0
SameLog {B} i j = ◌≡◌ {A = Logged (Entry B) (Page B) × ℕ} (j.log, j.next) (i.log, i.next)

-- The same of an event that logs nothing: its pages may have been read.
module _ {B D : Type 0} (c : Class B) (r : Reading (Entry B) (Page B)) (f : Format B) (passes : ℕ → Contents → Bool) (d e : Device) (old : Parts B D)
    (bodies : List (List (Record (Entry B) (Page B)))) (i : index.State B) (h : Holds c r f passes d old bodies i)
    (w : Volume D) (most : w.most ≡ old.volume.most) (log : w.log ≡ old.volume.log) (settled : StaysSettled d e) (stays : StaysSame (known_of c) r f passes d e w bodies i.log) where
  unfoldable pub stayed_led : (events : List (Happening B)) (j : index.State B) → AreHappening c i events j → IsWhole c j → SameLog i j → (new : State B (Work B)) → Sits c new j
      → new.latest ≡ old.sessions.latest → (new.failed ≡ false → old.sessions.failed ≡ false) → Led c r f passes d e (record old { volume = w; sessions = new }) i events
  stayed_led events j are whole as_it_was new sits latest working_yet =
      let same : j.log ≡ i.log = ap (λ (x : Logged (Entry B) (Page B) × ℕ). x.0) as_it_was in
      let next : j.next ≡ i.next = ap (λ (x : Logged (Entry B) (Page B) × ℕ). x.1) as_it_was in record {
        bodies = bodies;
        index = j;
        happening = are;
        holds = record {
          most = most ∙ h.most;
          some = h.some;
          keeps = subst (λ (x : Logged (Entry B) (Page B)). Keeps (known_of c) r f passes e w bodies x) (sym same) stays.keeps;
          whole = whole;
          sessions = sits.of;
          at = sits.at;
          told = sits.told;
          latest = latest ∙ h.latest ∙ ap (λ (x : Logged (Entry B) (Page B)). logged.latest (known_of c) x) (sym same);
          flying = λ works.
              subst (λ (x : Logged (Entry B) (Page B)). KnowsFlight w.log.stage old.in_flight (logged.durable (known_of c) (logged.gate_synced x))) (sym same)
              (subst (λ (x : Log). KnowsFlight x.stage old.in_flight (logged.durable (known_of c) (logged.gate_synced i.log))) (sym log) (h.flying (working_yet works)));
          bare = λ works calm idle. ap (λ (x : Log). x.flight) log ∙ h.bare (working_yet works) calm (sym (ap (λ (x : Log). x.stage) log) ∙ idle);
          turns = λ works turning.
              let by = renews_still (known_of c) r i.next j.next old.volume.log.flight d e i.log settled (omega (arith, next)) (h.turns (working_yet works) turning) in
              subst (λ (x : Logged (Entry B) (Page B)). MayRenewBy (known_of c) r j.next w.log.flight e.sectors e.pending x) (sym same)
              (subst (λ (x : Log). MayRenewBy (known_of c) r j.next x.flight e.sectors e.pending i.log) (sym log) by);
        };
        leaves = stays.leaves;
      }
