-- A step of the log keeps it up.
use Rattle.std.proofs.Common.{◌≡◌, ◌∙◌, sym, ap, refl, subst, inl, inr, ℕ, ◌+◌, ◌*◌, ◌<◌, ◌≤◌, List, [], ◌∷◌, ◌++◌, length, Result, Ok, Err, arith}
use Rattle.gx_geom.specs.declared.refusal.Refusal.{Refusal}
use Rattle.gx_disk.specs.declared.layout.TheConstants.{LOG_AT, LOG_SECTORS}
use Rattle.gx_disk.specs.Device.{Device, Elapses, Touches}
use Rattle.gx_disk.specs.Moments.{Leaves}
use Rattle.gx_disk.proofs.Leaving.{call_leaves}
use Rattle.gx_glog.specs.declared.extent.TheConstants.{BODY_SECTORS, PLACES}
use Rattle.gx_glog.specs.declared.extent.Extent.{Extent}
use Rattle.gx_glog.specs.declared.stage.Stage.{Stage}
use Rattle.gx_glog.specs.declared.stage.Stage.TheVariants.{Body, BodySync, Gate, GateSync, Idle}
use Rattle.gx_glog.specs.Layout.{gates_of, bodies_of, body_of, records_in}
use Rattle.gx_glog.specs.Bodies.{HasRecords}
use Rattle.gx_glog.specs.State.{Log, in_flight, turning, begun, after, Made, Goes, GoesFrom}
use Rattle.gx_glog.specs.Standing.{Flies}
use Rattle.gx_glog.specs.Steps.{CallFor, CallOf, Calls, Keeps}
use Rattle.gx_glog.specs.Tails.{tail_of}
use Rattle.gx_glog.proofs.Gates.{placed}
use Rattle.gx_glog.proofs.Stepping.{room_left}
use Rattle.gx_glog.proofs.Keeping.{touched_kept, rested_kept, body_kept}
use Rattle.gx_glog.specs.Cuts.{bodies_in}
use Rattle.gx_recovery.specs.Known.{Known, IsLawful}
use Rattle.gx_recovery.specs.Records.{Record}
use Rattle.gx_recovery.specs.Coming.{MayComeAll}
use Rattle.gx_recovery.specs.Logged.{Logged, IsHealthy, gate_synced}
use Rattle.gx_recovery.specs.Logged as logged
use Rattle.gx_recovery.proofs.States.{coming_first}
use Rattle.gx_recovery.proofs.Lives.{begun_healthy, synced_healthy}
use Rattle.gx_recovery.proofs.Bodies.{batch_undamaged}
use Rattle.gx_recovery.proofs.DamageItems.{records_append}
use Rattle.gx_durable.specs.Spelled.{Reading, AreRecords}
use Rattle.gx_durable.specs.Bodies.{AreBodies}
use Rattle.gx_durable.specs.Area.{is_given}
use Rattle.gx_durable.specs.Standing.{batch_of, Carries, Up, Stands}
use Rattle.gx_durable.specs.Steps.{with_batch, stepped, bodies_stepped, GoesOn}
use Rattle.gx_durable.proofs.Fitting.{begun_fit, synced_fit}
use Rattle.gx_durable.proofs.Heads.{touched_head}
use Rattle.gx_durable.proofs.BodyLists.{bodies_more, bodies_same, body_adds}
use Rattle.gx_durable.proofs.Crashes.{batch_flies, crash_leaves, stands_before}
use Rattle.gx_durable.proofs.Moving.{area_elsewhere, settled_elsewhere, given_fewer, goes_nowhere, goes_joined, begun_goes, synced_goes}
use Rattle.gx_durable.proofs.Spellings.{one_way, none_are}

-- a call of a batch in flight leaves the bodies before it
call_bodies : {T : Type 0} → (stage : Stage) (extent : Extent) (n sectors : ℕ) (flight : List ℕ) (before now : Device) (result : Result T Refusal) → in_flight stage ≡ 1 → n < PLACES
    → Calls stage extent n sectors flight before now result → (j : ℕ) → j < n → body_of now.seen extent j ≡ body_of before.seen extent j
call_bodies Idle extent n sectors flight before now result flying few calls j less = absurd (omega arith)
call_bodies Body extent n sectors flight before now result flying few calls j less =
    body_kept before.seen now.seen before.pending now.pending extent j
    (λ s within. touched_kept (bodies_of extent + BODY_SECTORS * n) sectors s before now calls.3.touches (inl (omega (arith, within.below))))
call_bodies BodySync extent n sectors flight before now result flying few calls j less =
    body_kept before.seen now.seen before.pending now.pending extent j (λ s within. rested_kept s before now calls.rests)
call_bodies Gate extent n sectors flight before now result flying few calls j less =
    body_kept before.seen now.seen before.pending now.pending extent j
    (λ s within. touched_kept (gates_of extent + n) 1 s before now calls.2.touches (inr (let at = placed extent in omega (arith, at.bodies, within.from))))
call_bodies GateSync extent n sectors flight before now result flying few calls j less =
    body_kept before.seen now.seen before.pending now.pending extent j (λ s within. rested_kept s before now calls.rests)

-- and the gate's sync leaves the body in flight too
synced_body : {T : Type 0} → (stage : Stage) (extent : Extent) (n sectors : ℕ) (flight : List ℕ) (before now : Device) (result : Result T Refusal) → stage ≡ GateSync
    → Calls stage extent n sectors flight before now result → body_of now.seen extent n ≡ body_of before.seen extent n
synced_body Idle extent n sectors flight before now result is calls = cc
synced_body Body extent n sectors flight before now result is calls = cc
synced_body BodySync extent n sectors flight before now result is calls = cc
synced_body Gate extent n sectors flight before now result is calls = cc
synced_body GateSync extent n sectors flight before now result is calls =
    body_kept before.seen now.seen before.pending now.pending extent n (λ s within. rested_kept s before now calls.rests)

-- what a step finds: a batch in flight or about to be, whose state the device carries
pub record Due {E P : Type 0} (k : Known E P) (r : Reading E P) (due : Log) (before : Device) (bodies : List (List (Record E P))) (s : Logged E P) : Type 0 where
  pub carries : Carries k r due before.sectors before.seen before.pending bodies s
  pub flying : in_flight due.stage ≡ 1
  pub still : turning due.turn ≡ 0
  pub places : due.used ≡ due.gated + 1
  pub few : due.gated < PLACES
  pub body : due.stage ≡ GateSync → HasRecords due.flight (body_of before.seen due.extent due.gated)

module _ {E P : Type 0} (k : Known E P) (l : IsLawful k) (r : Reading E P) (due : Log) (before now : Device) (bodies : List (List (Record E P))) (s : Logged E P)
    (d : Due k r due before bodies s) (touches : Touches LOG_AT LOG_SECTORS before now) where
  flight_is : AreRecords r due.flight s.flight
  flight_is = let A : List ℕ → Type 0 = λ bytes. AreRecords r bytes s.flight in subst A (batch_flies due.stage due.flight d.flying) d.carries.told.flight

  -- how many sectors of its body are written
  abbrev sectors : ℕ
  sectors = tail_of due.tails due.extent due.gated

  -- the batch is still in flight
  goes_flying : (stage : Stage) (tails : List ℕ) → in_flight stage ≡ 1 → bodies_in now.seen due.extent due.gated ≡ bodies_in before.seen due.extent due.gated
      → Carries k r (record due { stage = stage; tails = tails }) before.sectors now.seen now.pending bodies s
  goes_flying stage tails flying same = record {
    told = record {
      gated_bodies = (let B : List (List ℕ) → Type 0 = λ b. AreBodies r b bodies in subst B (sym same) d.carries.told.gated_bodies);
      gated = d.carries.told.gated;
      flight = (let A : List ℕ → Type 0 = λ bytes. AreRecords r bytes s.flight in subst A (sym (batch_flies stage due.flight flying)) flight_is);
      filling = d.carries.told.filling;
    };
    undamaged = d.carries.undamaged;
    healthy = d.carries.healthy;
    fit = d.carries.fit;
    has_pages = d.carries.has_pages;
    head = touched_head k.head LOG_AT LOG_SECTORS before now (omega arith) touches d.carries.head;
    area = λ p. d.carries.area p ∙ sym (area_elsewhere r k.pages before.sectors d.carries.has_pages LOG_AT LOG_SECTORS before now (omega arith) touches p);
    settled = settled_elsewhere LOG_AT LOG_SECTORS before.sectors before now (omega arith) touches (is_given s.gated) d.carries.settled;
    turn = λ turns. absurd (omega (arith, d.still));
  }

  -- its gate is synced
  goes_gated : bodies_in now.seen due.extent due.gated ≡ bodies_in before.seen due.extent due.gated → records_in (body_of now.seen due.extent due.gated) ≡ due.flight
      → Carries k r (record due { gated = due.used; stage = Idle; flight = [] }) before.sectors now.seen now.pending (bodies ++ s.flight ∷ []) (gate_synced s)
  goes_gated same last =
      let B : List (List ℕ) → Type 0 = λ b. AreBodies r b (bodies ++ s.flight ∷ []) in
      let C : List (Record E P) → Type 0 = λ x. MayComeAll k s.area x s.flight in
      let all : bodies_in now.seen due.extent due.used ≡ bodies_in before.seen due.extent due.gated ++ due.flight ∷ [] = bodies_more now.seen due.extent due.gated due.used d.places ∙ rw (same, last) refl in
      record {
        told = record {
          gated_bodies = subst B (sym all) (body_adds r (bodies_in before.seen due.extent due.gated) due.flight bodies s.flight d.carries.told.gated_bodies flight_is);
          gated = records_append k bodies s.flight ∙ ap (λ (x : List (Record E P)). x ++ s.flight) d.carries.told.gated;
          flight = none_are r;
          filling = d.carries.told.filling;
        };
        undamaged = batch_undamaged k l s.area bodies s.flight d.carries.undamaged
            (subst C (sym d.carries.told.gated) (coming_first k l s.area s.gated s.flight s.filling d.carries.healthy.coming));
        healthy = synced_healthy k l s d.carries.healthy;
        fit = synced_fit k r s d.carries.fit;
        has_pages = d.carries.has_pages;
        head = touched_head k.head LOG_AT LOG_SECTORS before now (omega arith) touches d.carries.head;
        area = λ p. d.carries.area p ∙ sym (area_elsewhere r k.pages before.sectors d.carries.has_pages LOG_AT LOG_SECTORS before now (omega arith) touches p);
        settled = λ p t is unnamed within.
            settled_elsewhere LOG_AT LOG_SECTORS before.sectors before now (omega arith) touches (is_given s.gated) d.carries.settled p t is (given_fewer s.gated s.flight p unnamed) within;
        turn = λ turns. absurd (omega (arith, d.still));
      }

  by_stage : (stage : Stage) → stage ≡ due.stage → CallFor stage due before now (Ok stage)
      → Carries k r (after stage due) before.sectors now.seen now.pending (bodies_stepped (Ok stage) bodies s) (stepped (Ok stage) s)
  by_stage Idle is calls = absurd (let none : in_flight Idle ≡ in_flight due.stage = ap in_flight is in omega (arith, d.flying))
  by_stage Body is calls =
      goes_flying BodySync due.tails refl (bodies_same now.seen before.seen due.extent due.gated (call_bodies Body due.extent due.gated sectors due.flight before now (Ok Body) refl d.few calls))
  by_stage BodySync is calls =
      goes_flying Gate (after BodySync due).tails refl (bodies_same now.seen before.seen due.extent due.gated (call_bodies BodySync due.extent due.gated sectors due.flight before now (Ok BodySync) refl d.few calls))
  by_stage Gate is calls =
      goes_flying GateSync due.tails refl (bodies_same now.seen before.seen due.extent due.gated (call_bodies Gate due.extent due.gated sectors due.flight before now (Ok Gate) refl d.few calls))
  by_stage GateSync is calls =
      goes_gated (bodies_same now.seen before.seen due.extent due.gated (call_bodies GateSync due.extent due.gated sectors due.flight before now (Ok GateSync) refl d.few calls))
      (ap records_in (synced_body GateSync due.extent due.gated sectors due.flight before now (Ok GateSync) refl calls) ∙ (d.body (sym is)).bytes)

  -- the call that was due was made, or failed
  pub made_carries : (new : Log) (result : Result Stage Refusal) → Made due new result → CallFor {T = Stage} due.stage due before now result
      → Carries k r new before.sectors now.seen now.pending (bodies_stepped result bodies s) (stepped result s)
  made_carries new (Ok stage) made calls =
      let L : Log → Type 0 = λ x. Carries k r x before.sectors now.seen now.pending (bodies_stepped (Ok stage) bodies s) (stepped (Ok stage) s) in
      let M : Stage → Type 0 = λ t. CallFor {T = Stage} t due before now (Ok stage) in
      let goes : new ≡ after stage due = made.1 ∙ ap (λ t. after t due) (sym made.0) in
      subst L (sym goes) (by_stage stage made.0 (subst M (sym made.0) calls))
  made_carries new (Err refusal) made calls =
      let L : Log → Type 0 = λ x. Carries k r x before.sectors now.seen now.pending bodies s in
      subst L (sym made.1)
      (goes_flying due.stage due.tails d.flying (bodies_same now.seen before.seen due.extent due.gated (call_bodies due.stage due.extent due.gated sectors due.flight before now (Err refusal) d.flying d.few calls)))

calls_were : (stage : Stage) (due new : Log) (before now : Device) → new ≡ after stage due → CallFor {T = Stage} stage new before now (Ok stage)
    → CallFor {T = Stage} stage due before now (Ok stage)
calls_were Idle due new before now is calls = tt
calls_were Body due new before now is calls = let C : Log → Type 0 = λ x. CallFor {T = Stage} Body x before now (Ok Body) in subst C is calls
calls_were BodySync due new before now is calls = calls
calls_were Gate due new before now is calls = let C : Log → Type 0 = λ x. CallFor {T = Stage} Gate x before now (Ok Gate) in subst C is calls
calls_were GateSync due new before now is calls = calls

-- which call it was, by the batch that was due
call_was : (due new : Log) (before now : Device) (result : Result Stage Refusal) → Made due new result → CallOf new before now result
    → CallFor {T = Stage} due.stage due before now result
call_was due new before now (Ok stage) made calls =
    let M : Stage → Type 0 = λ t. CallFor {T = Stage} t due before now (Ok stage) in
    subst M made.0 (calls_were stage due new before now (made.1 ∙ ap (λ t. after t due) (sym made.0)) calls)
call_was due new before now (Err refusal) made calls =
    let C : Log → Type 0 = λ x. CallFor {T = Stage} x.stage x before now (Err refusal) in subst C made.1 calls

module _ {E P : Type 0} (k : Known E P) (l : IsLawful k) (r : Reading E P) (old new : Log) (before now : Device) (bodies : List (List (Record E P))) (s : Logged E P) where
  -- what the device carries where nothing was done
  rests_carries : now ≡ before → new ≡ old → Carries k r old before.sectors before.seen before.pending bodies s → Carries k r new before.sectors now.seen now.pending bodies s
  rests_carries rests same c =
      let L : Log → Type 0 = λ x. Carries k r x before.sectors now.seen now.pending bodies s in
      let D : Device → Type 0 = λ x. Carries k r old before.sectors x.seen x.pending bodies s in
      subst L (sym same) (subst D (sym rests) c)

  module _ (up : Up k r old before.sectors before.seen before.pending bodies s) where
    pub none_flies : old.stage ≡ Idle → s.flight ≡ []
    none_flies idle =
        let A : Stage → Type 0 = λ t. AreRecords r (batch_of t old.flight) s.flight in
        one_way r [] s.flight [] (subst A idle up.carries.told.flight) (none_are r)

    begun_carries : old.stage ≡ Idle → Carries k r (begun old) before.sectors before.seen before.pending bodies (logged.begun s)
    begun_carries idle = record {
      told = record { gated_bodies = up.carries.told.gated_bodies; gated = up.carries.told.gated; flight = up.carries.told.filling; filling = none_are r };
      undamaged = up.carries.undamaged;
      healthy = begun_healthy k s up.carries.healthy (none_flies idle);
      fit = begun_fit k r s (none_flies idle) up.carries.fit;
      has_pages = up.carries.has_pages;
      head = up.carries.head;
      area = up.carries.area;
      settled = up.carries.settled;
      turn = λ turns. absurd (omega arith);
    }

    due_begun : old.stage ≡ Idle → 1 ≤ length old.filling → Due k r (begun old) before bodies (logged.begun s)
    due_begun idle some =
        let rests : in_flight old.stage ≡ 0 = ap in_flight idle in
        let room : old.used < PLACES = room_left old.used old.filling some up.on.sound.room in
        record {
          carries = begun_carries idle;
          flying = refl;
          still = refl;
          places = omega (arith, up.on.sound.places);
          few = omega (arith, up.on.sound.places);
          body = λ is. absurd cc;
        }

    due_flying : in_flight old.stage ≡ 1 → Due k r old before bodies s
    due_flying flying = record {
      carries = up.carries;
      flying = flying;
      still = omega (arith, up.on.sound.one);
      places = omega (arith, up.on.sound.places);
      few = omega (arith, up.on.sound.places, up.on.sound.few);
      body = λ is. (let F : Stage → Type 0 = λ t. Flies t old.extent old.gated old.flight before.seen before.pending in (subst F is up.on.flight).0);
    }

    step_carries : (stage : Stage) (filling : List ℕ) (result : Result Stage Refusal) → stage ≡ old.stage → filling ≡ old.filling → GoesFrom stage old new result → CallOf new before now result
        → (result ≡ Ok Idle → now ≡ before) → Touches LOG_AT LOG_SECTORS before now
        → Carries k r new before.sectors now.seen now.pending (bodies_stepped result bodies (with_batch stage filling s)) (stepped result (with_batch stage filling s))
    step_carries Idle [] result is fills (inl (none, idle, same)) call rests touches =
        let R : Result Stage Refusal → Type 0 = λ x. Carries k r new before.sectors now.seen now.pending (bodies_stepped x bodies s) (stepped x s) in
        subst R (sym idle) (rests_carries (rests idle) same up.carries)
    step_carries Idle [] result is fills (inr (some, made)) call rests touches = absurd (let none : 0 ≡ length old.filling = ap length fills in omega arith)
    step_carries Idle (byte ∷ bytes) result is fills (inl (none, idle, same)) call rests touches = absurd (let never : byte ∷ bytes ≡ [] = fills ∙ none in cc)
    step_carries Idle (byte ∷ bytes) result is fills (inr (some, made)) call rests touches =
        made_carries k l r (begun old) before now bodies (logged.begun s) (due_begun (sym is) some) touches new result made (call_was (begun old) new before now result made call)
    step_carries Body filling result is fills made call rests touches =
        made_carries k l r old before now bodies s (due_flying (ap in_flight (sym is))) touches new result made (call_was old new before now result made call)
    step_carries BodySync filling result is fills made call rests touches =
        made_carries k l r old before now bodies s (due_flying (ap in_flight (sym is))) touches new result made (call_was old new before now result made call)
    step_carries Gate filling result is fills made call rests touches =
        made_carries k l r old before now bodies s (due_flying (ap in_flight (sym is))) touches new result made (call_was old new before now result made call)
    step_carries GateSync filling result is fills made call rests touches =
        made_carries k l r old before now bodies s (due_flying (ap in_flight (sym is))) touches new result made (call_was old new before now result made call)

    -- a step of the log keeps it up
    pub step_up : (result : Result Stage Refusal) → now.sectors ≡ before.sectors → Goes old new result → CallOf new before now result → (result ≡ Ok Idle → now ≡ before) → Keeps old new before now result
        → Up k r new now.sectors now.seen now.pending (bodies_stepped result bodies (with_batch old.stage old.filling s)) (stepped result (with_batch old.stage old.filling s))
    step_up result sectors goes call rests keeps =
        let S : ℕ → Type 0 = λ n. Carries k r new n now.seen now.pending (bodies_stepped result bodies (with_batch old.stage old.filling s)) (stepped result (with_batch old.stage old.filling s)) in
        record { on = keeps.on; carries = subst S (sym sectors) (step_carries old.stage old.filling result refl refl goes call rests keeps.touches) }

    batch_goes : (stage : Stage) (filling : List ℕ) → stage ≡ old.stage → GoesOn k s (with_batch stage filling s)
    batch_goes Idle [] is = goes_nowhere k s
    batch_goes Idle (byte ∷ bytes) is = begun_goes k s up.carries.healthy (none_flies (sym is))
    batch_goes Body filling is = goes_nowhere k s
    batch_goes BodySync filling is = goes_nowhere k s
    batch_goes Gate filling is = goes_nowhere k s
    batch_goes GateSync filling is = goes_nowhere k s

    batch_healthy : (stage : Stage) (filling : List ℕ) → stage ≡ old.stage → IsHealthy k (with_batch stage filling s)
    batch_healthy Idle [] is = up.carries.healthy
    batch_healthy Idle (byte ∷ bytes) is = begun_healthy k s up.carries.healthy (none_flies (sym is))
    batch_healthy Body filling is = up.carries.healthy
    batch_healthy BodySync filling is = up.carries.healthy
    batch_healthy Gate filling is = up.carries.healthy
    batch_healthy GateSync filling is = up.carries.healthy

    result_goes : (result : Result Stage Refusal) (t : Logged E P) → IsHealthy k t → GoesOn k t (stepped result t)
    result_goes (Ok Idle) t h = goes_nowhere k t
    result_goes (Ok Body) t h = goes_nowhere k t
    result_goes (Ok BodySync) t h = goes_nowhere k t
    result_goes (Ok Gate) t h = goes_nowhere k t
    result_goes (Ok GateSync) t h = synced_goes k l t h
    result_goes (Err refusal) t h = goes_nowhere k t

    -- and what it makes of the kept sets
    pub step_goes : (result : Result Stage Refusal) → GoesOn k s (stepped result (with_batch old.stage old.filling s))
    step_goes result =
        let t : Logged E P = with_batch old.stage old.filling s in
        goes_joined k s t (stepped result t) (batch_goes old.stage old.filling refl) (result_goes result t (batch_healthy old.stage old.filling refl))

-- within a call after which a log is up, each image stands for a kept set of the state before
pub call_stands : {E P : Type 0} → (k : Known E P) (l : IsLawful k) (r : Reading E P) (new : Log) (before now : Device) (bodies : List (List (Record E P))) (s t : Logged E P)
    → Elapses before now → GoesOn k s t → Up k r new now.sectors now.seen now.pending bodies t → Leaves (Stands k r s) before now
call_stands k l r new before now bodies s t time goes up =
    call_leaves (Stands k r s) before now time
    (λ image may. stands_before k r s t image goes (crash_leaves k r l new now.sectors now.seen now.pending bodies t image up may))
