-- What each device call of a batch keeps.
use Rattle.std.proofs.Common.{◌≡◌, ◌∙◌, sym, ap, refl, ◌⊎◌, inl, inr, ⊎_elim, ℕ, ◌+◌, ◌*◌, ◌<◌, ◌≤◌, ◌==◌, List, [], length, take, drop, true, false, Bool, Result, Ok, Err, subst, below_more, arith}
use Rattle.std.proofs.lemmas.Bool.{cases_lt}
use Rattle.std.specs.Prelude.{slice_index}
use Rattle.gx_geom.specs.declared.refusal.Refusal.{Refusal}
use Rattle.gx_disk.specs.declared.layout.TheConstants.{LOG_AT, LOG_SECTORS}
use Rattle.gx_disk.specs.Sectors.{span_of, put, IsWithin}
use Rattle.gx_disk.specs.Device.{Device, MayLeave, Elapses, Touches, Writes, Syncs, IsWritten}
use Rattle.gx_disk.specs.Moments.{Leaves}
use Rattle.gx_disk.proofs.Leaving.{call_leaves, leaves_weaker, nothing_leaves, rested_touches}
use Rattle.gx_disk.proofs.Spans.{put_back}
use Rattle.gx_glog.specs.declared.extent.TheConstants.{BODY_SECTORS, PLACES}
use Rattle.gx_glog.specs.declared.extent.Extent.{Extent}
use Rattle.gx_glog.specs.declared.stage.Stage.{Stage}
use Rattle.gx_glog.specs.declared.stage.Stage.TheVariants.{Body, BodySync, Gate, GateSync, Idle}
use Rattle.gx_glog.specs.declared.stage.Turn.{Turn}
use Rattle.gx_glog.specs.declared.stage.Turn.TheVariants as turn
use Rattle.gx_glog.specs.Layout.{gates_of, bodies_of, is_open, body_of, size_in}
use Rattle.gx_glog.specs.Cuts.{bodies_in, open_bodies, joined, gated_bodies, AreBodiesOf, ShowsBodies, GatesBodies}
use Rattle.gx_glog.specs.Reading.{IsSize}
use Rattle.gx_glog.specs.Bodies.{HasRecords, IsBody, IsOpenGate}
use Rattle.gx_glog.specs.State.{Log, IsSound, in_flight, turning, begun, done, Made}
use Rattle.gx_glog.specs.Standing.{IsGate, IsBodySettled, IsSelected, HasBatches, On, gated_of, Shows, IsKept}
use Rattle.gx_glog.specs.Steps.{CallFor, Gates, Keeps}
use Rattle.gx_glog.specs.Tails.{HasTail, HaveTails, place_of, sectors_of, tail_of, trimmed}
use Rattle.gx_glog.proofs.Cuts.{joined_bodies, shown_bytes, gates_bytes}
use Rattle.gx_glog.proofs.Gates.{placed, bodies_more}
use Rattle.gx_glog.proofs.Images.{closed_log, either_log, image_gate, image_selects, selected_shows_bodies}
use Rattle.gx_glog.proofs.Keeping.{touched_kept, gate_kept, body_settled, records_kept, selected_kept, batches_kept, gated_kept, on_kept, bodies_stay, rested_kept, rested_leaves, touched_wider}
use Rattle.gx_glog.proofs.Tails.{are_set, are_widened, body_tail, body_whole, gates_apart, have_set, have_widened, set_there, tails_kept, tails_written, touched_more, widened_covers}

abbrev pub log_at : Turn → Extent → ℕ → ℕ → Stage → List ℕ → List ℕ → List ℕ → Log
log_at turn extent used gated stage flight filling tails = record { extent = extent; used = used; gated = gated; stage = stage; turn = turn; flight = flight; filling = filling; tails = tails }

-- a log without a turn
abbrev pub log_with : Extent → ℕ → ℕ → Stage → List ℕ → List ℕ → List ℕ → Log
log_with = log_at turn.Closed

-- what a step does to the bodies, and leaves on the device
pub record Moves (old new : Log) (before now : Device) (result : Result Stage Refusal) : Type 0 where
  pub on : On new now.seen now.pending
  pub gated : GatesBodies (gated_bodies old before.seen) old.flight (gated_bodies new now.seen) result
  pub moments : Leaves (ShowsBodies old.stage (gated_bodies old before.seen) old.flight) before now
  pub touches : Touches LOG_AT LOG_SECTORS before now
  pub time : Elapses before now

-- the body's write
module _ (extent : Extent) (used gated : ℕ) (flight filling tails bytes : List ℕ) (before now : Device) (result : Result Stage Refusal)
    (sound : IsSound (log_with extent used gated Body flight filling tails)) (has : HasBatches extent gated used before.seen before.pending) (gate : IsGate false before.seen before.pending extent gated)
    (selected : IsSelected extent before.seen before.pending) (have : HaveTails tails before.seen before.pending) (is_body : IsBody flight bytes)
    (writes : Writes (bodies_of extent + BODY_SECTORS * gated) (tail_of tails extent gated) (take (512 * tail_of tails extent gated) bytes) before now result) where
  place_touches : Touches (bodies_of extent + BODY_SECTORS * gated) BODY_SECTORS before now
  place_touches = touched_more (bodies_of extent + BODY_SECTORS * gated) (tail_of tails extent gated) BODY_SECTORS before now (sound.tails.within (place_of extent gated)) writes.touches

  body_tails : HaveTails tails now.seen now.pending
  body_tails = tails_written tails extent gated before now sound.tails (omega (arith, sound.places, sound.few)) writes.touches have

  gates_stay : (k : ℕ) → k < PLACES → IsKept before.seen now.seen before.pending now.pending (gates_of extent + k)
  gates_stay k below = let at = placed extent in touched_kept (bodies_of extent + BODY_SECTORS * gated) BODY_SECTORS (gates_of extent + k) before now place_touches (inl (omega (arith, at.bodies)))

  earlier_stay : (k : ℕ) → k < gated → (s : ℕ) → IsWithin (bodies_of extent + BODY_SECTORS * k) BODY_SECTORS s → IsKept before.seen now.seen before.pending now.pending s
  earlier_stay k less s within = touched_kept (bodies_of extent + BODY_SECTORS * gated) BODY_SECTORS s before now place_touches (inl (omega (arith, within.below)))

  body_batches : HasBatches extent gated used now.seen now.pending
  body_batches =
      batches_kept before.seen now.seen before.pending now.pending extent gated used place_touches.size (λ k which below. gates_stay k below) earlier_stay (omega (arith, sound.places, sound.few)) has

  body_selected : IsSelected extent now.seen now.pending
  body_selected =
      let at = placed extent in
      selected_kept before.seen now.seen before.pending now.pending extent (touched_kept (bodies_of extent + BODY_SECTORS * gated) BODY_SECTORS 2 before now place_touches (inl (omega (arith, at.bodies, at.from)))) selected

  body_gate : IsGate false now.seen now.pending extent gated
  body_gate = gate_kept before.seen now.seen before.pending now.pending false extent gated (gates_stay gated (omega (arith, sound.places, sound.few))) gate

  body_same_batches : bodies_in now.seen extent gated ≡ bodies_in before.seen extent gated
  body_same_batches = gated_kept before.seen now.seen before.pending now.pending extent gated earlier_stay

  body_moments : Leaves (λ image. open_bodies image ≡ bodies_in before.seen extent gated) before now
  body_moments =
      call_leaves (λ image. open_bodies image ≡ bodies_in before.seen extent gated) before now writes.time
      (λ image may. closed_log now.seen now.pending extent gated used image body_batches may (image_selects extent now.seen now.pending image body_selected may) (omega (arith, sound.places, sound.few))
      (λ less. image_gate false now.seen now.pending extent gated image body_gate may) ∙ body_same_batches)

  body_touches : Touches LOG_AT LOG_SECTORS before now
  body_touches = let at = placed extent in touched_wider (bodies_of extent + BODY_SECTORS * gated) BODY_SECTORS before now (omega (arith, at.bodies, at.from)) (omega (arith, at.to, sound.places, sound.few)) place_touches

  body_reads : IsWritten (bodies_of extent + BODY_SECTORS * gated) (tail_of tails extent gated) (take (512 * tail_of tails extent gated) bytes) before now → IsBody flight (body_of now.seen extent gated)
  body_reads written =
      body_whole tails extent gated flight bytes before now sound.tails (omega (arith, sound.places, sound.few)) (sound.batch (omega arith)) is_body has.size have written

body_made : (extent : Extent) (used gated : ℕ) (flight filling tails : List ℕ) (before now : Device) → On (log_with extent used gated Body flight filling tails) before.seen before.pending
    → CallFor Body (log_with extent used gated Body flight filling tails) before now (Ok Body) → Moves (log_with extent used gated Body flight filling tails) (log_with extent used gated BodySync flight filling tails) before now (Ok Body)
body_made extent used gated flight filling tails before now on (bytes, is_body, few, writes) = record {
  on = record {
    sound = record { places = on.sound.places; few = on.sound.few; one = on.sound.one; some = on.sound.some; fits = on.sound.fits; filled = on.sound.filled; room = on.sound.room; tails = on.sound.tails; batch = on.sound.batch; head = on.sound.head };
    batches = body_batches extent used gated flight filling tails bytes before now (Ok Body) on.sound on.batches on.flight on.turn on.tails is_body writes;
    flight = (
      body_gate extent used gated flight filling tails bytes before now (Ok Body) on.sound on.batches on.flight on.turn on.tails is_body writes,
      body_reads extent used gated flight filling tails bytes before now (Ok Body) on.sound on.batches on.flight on.turn on.tails is_body writes writes.written,
    );
    turn = body_selected extent used gated flight filling tails bytes before now (Ok Body) on.sound on.batches on.flight on.turn on.tails is_body writes;
    quiet = on.quiet;
    tails = body_tails extent used gated flight filling tails bytes before now (Ok Body) on.sound on.batches on.flight on.turn on.tails is_body writes;
  };
  gated = body_same_batches extent used gated flight filling tails bytes before now (Ok Body) on.sound on.batches on.flight on.turn on.tails is_body writes;
  moments = body_moments extent used gated flight filling tails bytes before now (Ok Body) on.sound on.batches on.flight on.turn on.tails is_body writes;
  touches = body_touches extent used gated flight filling tails bytes before now (Ok Body) on.sound on.batches on.flight on.turn on.tails is_body writes;
  time = writes.time;
}

body_failed : (extent : Extent) (used gated : ℕ) (flight filling tails : List ℕ) (before now : Device) (refusal : Refusal) → On (log_with extent used gated Body flight filling tails) before.seen before.pending
    → CallFor {T = Stage} Body (log_with extent used gated Body flight filling tails) before now (Err refusal) → Moves (log_with extent used gated Body flight filling tails) (log_with extent used gated Body flight filling tails) before now (Err refusal)
body_failed extent used gated flight filling tails before now refusal on (bytes, is_body, few, writes) = record {
  on = record {
    sound = on.sound;
    batches = body_batches extent used gated flight filling tails bytes before now (Err refusal) on.sound on.batches on.flight on.turn on.tails is_body writes;
    flight = body_gate extent used gated flight filling tails bytes before now (Err refusal) on.sound on.batches on.flight on.turn on.tails is_body writes;
    turn = body_selected extent used gated flight filling tails bytes before now (Err refusal) on.sound on.batches on.flight on.turn on.tails is_body writes;
    quiet = on.quiet;
    tails = body_tails extent used gated flight filling tails bytes before now (Err refusal) on.sound on.batches on.flight on.turn on.tails is_body writes;
  };
  gated = body_same_batches extent used gated flight filling tails bytes before now (Err refusal) on.sound on.batches on.flight on.turn on.tails is_body writes;
  moments = body_moments extent used gated flight filling tails bytes before now (Err refusal) on.sound on.batches on.flight on.turn on.tails is_body writes;
  touches = body_touches extent used gated flight filling tails bytes before now (Err refusal) on.sound on.batches on.flight on.turn on.tails is_body writes;
  time = writes.time;
}

-- the gate's write
module _ (extent : Extent) (used gated : ℕ) (flight filling tails bytes : List ℕ) (before now : Device) (result : Result Stage Refusal)
    (sound : IsSound (log_with extent used gated Gate flight filling tails)) (has : HasBatches extent gated used before.seen before.pending)
    (body : HasRecords flight (body_of before.seen extent gated)) (settled : IsBodySettled before.pending extent gated)
    (selected : IsSelected extent before.seen before.pending) (is_gate : IsOpenGate bytes) (writes : Writes (gates_of extent + gated) 1 bytes before now result) where
  others_stay : (k : ℕ) → (k < gated) ⊎ (used ≤ k) → k < PLACES → IsKept before.seen now.seen before.pending now.pending (gates_of extent + k)
  others_stay k (inl less) below = touched_kept (gates_of extent + gated) 1 (gates_of extent + k) before now writes.touches (inl (omega arith))
  others_stay k (inr from) below = touched_kept (gates_of extent + gated) 1 (gates_of extent + k) before now writes.touches (inr (omega (arith, sound.places)))

  all_bodies_stay : (k s : ℕ) → IsWithin (bodies_of extent + BODY_SECTORS * k) BODY_SECTORS s → IsKept before.seen now.seen before.pending now.pending s
  all_bodies_stay k s within =
      let at = placed extent in
      touched_kept (gates_of extent + gated) 1 s before now writes.touches (inr (omega (arith, at.bodies, within.from, sound.places, sound.few)))

  gate_batches : HasBatches extent gated used now.seen now.pending
  gate_batches =
      batches_kept before.seen now.seen before.pending now.pending extent gated used writes.touches.size others_stay (λ k less s within. all_bodies_stay k s within) (omega (arith, sound.places, sound.few)) has

  gate_selected : IsSelected extent now.seen now.pending
  gate_selected =
      let at = placed extent in
      selected_kept before.seen now.seen before.pending now.pending extent (touched_kept (gates_of extent + gated) 1 2 before now writes.touches (inl (omega (arith, at.from)))) selected

  gate_tails : HaveTails tails before.seen before.pending → HaveTails tails now.seen now.pending
  gate_tails have =
      tails_kept before.seen now.seen before.pending now.pending tails
      (λ other s within. touched_kept (gates_of extent + gated) 1 s before now writes.touches (gates_apart extent other gated 1 s (omega (arith, sound.places, sound.few)) within)) have

  gate_body : HasRecords flight (body_of now.seen extent gated)
  gate_body = records_kept before.seen now.seen before.pending now.pending extent gated flight (all_bodies_stay gated) body

  gate_settled : IsBodySettled now.pending extent gated
  gate_settled = body_settled before.seen now.seen before.pending now.pending extent gated (all_bodies_stay gated) settled

  gate_same_batches : bodies_in now.seen extent gated ≡ bodies_in before.seen extent gated
  gate_same_batches = gated_kept before.seen now.seen before.pending now.pending extent gated (λ k less s within. all_bodies_stay k s within)

  gate_moments : Leaves (AreBodiesOf (bodies_in before.seen extent gated) flight) before now
  gate_moments =
      let P : List (List ℕ) → Type 0 = λ (bodies : List (List ℕ)). (image : List ℕ) → MayLeave now image → AreBodiesOf bodies flight image in
      call_leaves (AreBodiesOf (bodies_in before.seen extent gated) flight) before now writes.time
      (subst P gate_same_batches (λ image may. either_log now.seen now.pending extent gated used image gate_batches may (image_selects extent now.seen now.pending image gate_selected may) flight (omega (arith, sound.places, sound.few)) (omega (arith, sound.places)) gate_body gate_settled))

  gate_touches : Touches LOG_AT LOG_SECTORS before now
  gate_touches = let at = placed extent in touched_wider (gates_of extent + gated) 1 before now (omega (arith, at.from)) (omega (arith, at.bodies, at.to, sound.places, sound.few)) writes.touches

  gate_opens : IsWritten (gates_of extent + gated) 1 bytes before now → is_open now.seen extent gated ≡ true
  unfolding is_open span_of
  gate_opens written =
      let at = placed extent in
      let fits : 512 * (gates_of extent + gated) + length bytes ≤ length before.seen = omega (arith, at.bodies, at.to, is_gate.whole, has.size, sound.places, sound.few) in
      let back : take (length bytes) (drop (512 * (gates_of extent + gated)) (put (512 * (gates_of extent + gated)) bytes before.seen)) ≡ bytes = put_back (512 * (gates_of extent + gated)) bytes before.seen fits in
      let reads : take 512 (drop (512 * (gates_of extent + gated)) now.seen) ≡ bytes =
      ap (λ n. take n (drop (512 * (gates_of extent + gated)) now.seen)) (sym is_gate.whole) ∙ ap (λ seen. take (length bytes) (drop (512 * (gates_of extent + gated)) seen)) written.seen ∙ back in
      ap (λ sector. slice_index sector 0 == 0xA7) reads ∙ ap (λ byte. byte == 0xA7) is_gate.opens

gate_made : (extent : Extent) (used gated : ℕ) (flight filling tails : List ℕ) (before now : Device) → On (log_with extent used gated Gate flight filling tails) before.seen before.pending
    → CallFor Gate (log_with extent used gated Gate flight filling tails) before now (Ok Gate) → Moves (log_with extent used gated Gate flight filling tails) (log_with extent used gated GateSync flight filling tails) before now (Ok Gate)
gate_made extent used gated flight filling tails before now on (bytes, is_gate, writes) = record {
  on = record {
    sound = record { places = on.sound.places; few = on.sound.few; one = on.sound.one; some = on.sound.some; fits = on.sound.fits; filled = on.sound.filled; room = on.sound.room; tails = on.sound.tails; batch = on.sound.batch; head = on.sound.head };
    batches = gate_batches extent used gated flight filling tails bytes before now (Ok Gate) on.sound on.batches on.flight.0 on.flight.1 on.turn is_gate writes;
    flight = (
      gate_body extent used gated flight filling tails bytes before now (Ok Gate) on.sound on.batches on.flight.0 on.flight.1 on.turn is_gate writes,
      gate_settled extent used gated flight filling tails bytes before now (Ok Gate) on.sound on.batches on.flight.0 on.flight.1 on.turn is_gate writes,
      gate_opens extent used gated flight filling tails bytes before now (Ok Gate) on.sound on.batches on.flight.0 on.flight.1 on.turn is_gate writes writes.written,
    );
    turn = gate_selected extent used gated flight filling tails bytes before now (Ok Gate) on.sound on.batches on.flight.0 on.flight.1 on.turn is_gate writes;
    quiet = on.quiet;
    tails = gate_tails extent used gated flight filling tails bytes before now (Ok Gate) on.sound on.batches on.flight.0 on.flight.1 on.turn is_gate writes on.tails;
  };
  gated = gate_same_batches extent used gated flight filling tails bytes before now (Ok Gate) on.sound on.batches on.flight.0 on.flight.1 on.turn is_gate writes;
  moments = gate_moments extent used gated flight filling tails bytes before now (Ok Gate) on.sound on.batches on.flight.0 on.flight.1 on.turn is_gate writes;
  touches = gate_touches extent used gated flight filling tails bytes before now (Ok Gate) on.sound on.batches on.flight.0 on.flight.1 on.turn is_gate writes;
  time = writes.time;
}

gate_failed : (extent : Extent) (used gated : ℕ) (flight filling tails : List ℕ) (before now : Device) (refusal : Refusal) → On (log_with extent used gated Gate flight filling tails) before.seen before.pending
    → CallFor {T = Stage} Gate (log_with extent used gated Gate flight filling tails) before now (Err refusal) → Moves (log_with extent used gated Gate flight filling tails) (log_with extent used gated Gate flight filling tails) before now (Err refusal)
gate_failed extent used gated flight filling tails before now refusal on (bytes, is_gate, writes) = record {
  on = record {
    sound = on.sound;
    batches = gate_batches extent used gated flight filling tails bytes before now (Err refusal) on.sound on.batches on.flight.0 on.flight.1 on.turn is_gate writes;
    flight = (
      gate_body extent used gated flight filling tails bytes before now (Err refusal) on.sound on.batches on.flight.0 on.flight.1 on.turn is_gate writes,
      gate_settled extent used gated flight filling tails bytes before now (Err refusal) on.sound on.batches on.flight.0 on.flight.1 on.turn is_gate writes,
    );
    turn = gate_selected extent used gated flight filling tails bytes before now (Err refusal) on.sound on.batches on.flight.0 on.flight.1 on.turn is_gate writes;
    quiet = on.quiet;
    tails = gate_tails extent used gated flight filling tails bytes before now (Err refusal) on.sound on.batches on.flight.0 on.flight.1 on.turn is_gate writes on.tails;
  };
  gated = gate_same_batches extent used gated flight filling tails bytes before now (Err refusal) on.sound on.batches on.flight.0 on.flight.1 on.turn is_gate writes;
  moments = gate_moments extent used gated flight filling tails bytes before now (Err refusal) on.sound on.batches on.flight.0 on.flight.1 on.turn is_gate writes;
  touches = gate_touches extent used gated flight filling tails bytes before now (Err refusal) on.sound on.batches on.flight.0 on.flight.1 on.turn is_gate writes;
  time = writes.time;
}

-- a sync: nothing reads otherwise, so what is on the device stays on it
module _ (log : Log) (before now : Device) (result : Result Stage Refusal) (on : On log before.seen before.pending) (syncs : Syncs before now result) where
  synced_on : On log now.seen now.pending
  synced_on = on_kept before.seen now.seen before.pending now.pending log (rested_leaves before now syncs.rests) on

  synced_gated : gated_bodies log now.seen ≡ gated_bodies log before.seen
  synced_gated = bodies_stay before.seen now.seen before.pending now.pending log (rested_leaves before now syncs.rests) on

  synced_moments : IsSelected log.extent before.seen before.pending → Leaves (ShowsBodies log.stage (gated_bodies log before.seen) log.flight) before now
  synced_moments selected =
      let P : List (List ℕ) → Type 0 = λ (bodies : List (List ℕ)). (image : List ℕ) → MayLeave now image → ShowsBodies log.stage bodies log.flight image in
      let still : IsSelected log.extent now.seen now.pending = selected_kept before.seen now.seen before.pending now.pending log.extent (rested_kept 2 before now syncs.rests) selected in
      call_leaves (ShowsBodies log.stage (gated_bodies log before.seen) log.flight) before now syncs.time
      (subst P synced_gated (λ image may. selected_shows_bodies log now.seen now.pending image synced_on may (image_selects log.extent now.seen now.pending image still may)))

  synced_touches : Touches LOG_AT LOG_SECTORS before now
  synced_touches = touched_wider 8 0 before now (omega arith) (omega arith) (rested_touches 8 before now syncs.rests)

sync_failed : (log : Log) (before now : Device) (refusal : Refusal) → On log before.seen before.pending → IsSelected log.extent before.seen before.pending → Syncs {T = Stage} {E = Refusal} before now (Err refusal) → Moves log log before now (Err refusal)
sync_failed log before now refusal on selected syncs = record {
  on = synced_on log before now (Err refusal) on syncs;
  gated = synced_gated log before now (Err refusal) on syncs;
  moments = synced_moments log before now (Err refusal) on syncs selected;
  touches = synced_touches log before now (Err refusal) on syncs;
  time = syncs.time;
}

body_synced : (extent : Extent) (used gated : ℕ) (flight filling tails : List ℕ) (before now : Device) → On (log_with extent used gated BodySync flight filling tails) before.seen before.pending
    → CallFor BodySync (log_with extent used gated BodySync flight filling tails) before now (Ok BodySync) → Moves (log_with extent used gated BodySync flight filling tails) (log_with extent used gated Gate flight filling (trimmed extent gated (sectors_of flight) tails)) before now (Ok BodySync)
body_synced extent used gated flight filling tails before now on syncs =
    let log = log_with extent used gated BodySync flight filling tails in
    let there : On log now.seen now.pending = synced_on log before now (Ok BodySync) on syncs in
    let below : gated < PLACES = omega (arith, on.sound.places, on.sound.few) in
    let few : sectors_of flight ≤ BODY_SECTORS = omega (arith, on.sound.fits) in
    let tail : HasTail (sectors_of flight) extent gated now.seen now.pending = body_tail extent gated flight now.seen now.pending on.sound.fits there.flight.1 syncs.settled in
    record {
      on = record {
        sound = record { places = on.sound.places; few = on.sound.few; one = on.sound.one; some = on.sound.some; fits = on.sound.fits; filled = on.sound.filled; room = on.sound.room; tails = are_set tails on.sound.tails extent gated (sectors_of flight) below few; batch = λ some. omega (arith, set_there tails on.sound.tails extent gated (sectors_of flight) below); head = λ some. absurd (omega arith) };
        batches = there.batches;
        flight = (there.flight.1.has, λ s within. syncs.settled s);
        turn = there.turn;
        quiet = there.quiet;
        tails = have_set tails on.sound.tails extent gated (sectors_of flight) below now.seen now.pending there.tails tail;
      };
      gated = synced_gated log before now (Ok BodySync) on syncs;
      moments = synced_moments log before now (Ok BodySync) on syncs on.turn;
      touches = synced_touches log before now (Ok BodySync) on syncs;
      time = syncs.time;
    }

-- the batch in flight joins those that are gated
joined_batch : (extent : Extent) (used gated : ℕ) (flight seen : List ℕ) (pending : ℕ → Bool) → used ≡ gated + 1 → IsSize (length flight) → IsGate true seen pending extent gated → IsBodySettled pending extent gated
    → HasRecords flight (body_of seen extent gated) → HasBatches extent gated used seen pending → HasBatches extent used used seen pending
joined_batch extent used gated flight seen pending places fits gate settled body has =
    let P : ℕ → Type 0 = λ n. HasBatches extent n used seen pending in
    let size : IsSize (size_in (body_of seen extent gated)) = (let S : ℕ → Type 0 = IsSize in subst S (sym body.size) fits) in
    let more : HasBatches extent (gated + 1) used seen pending = record {
      size = has.size;
      opened = below_more (λ k. IsGate true seen pending extent k) gated has.opened gate;
      bodies = below_more (λ k. IsBodySettled pending extent k) gated has.bodies settled;
      sizes = below_more (λ k. IsSize (size_in (body_of seen extent k))) gated has.sizes size;
      closed = has.closed;
    } in
    subst P (sym places) more

gate_synced : (extent : Extent) (used gated : ℕ) (flight filling tails : List ℕ) (before now : Device) → On (log_with extent used gated GateSync flight filling tails) before.seen before.pending
    → CallFor GateSync (log_with extent used gated GateSync flight filling tails) before now (Ok GateSync) → Moves (log_with extent used gated GateSync flight filling tails) (log_with extent used used Idle [] filling tails) before now (Ok GateSync)
gate_synced extent used gated flight filling tails before now on syncs =
    let log = log_with extent used gated GateSync flight filling tails in
    let there : On log now.seen now.pending = synced_on log before now (Ok GateSync) on syncs in
    let places : used ≡ gated + 1 = on.sound.places in
    let fits : IsSize (length flight) = (omega (arith, on.sound.some), omega (arith, on.sound.fits)) in
    let gate : IsGate true now.seen now.pending extent gated = record { reads = there.flight.2; settled = syncs.settled (gates_of extent + gated) } in
    let same : bodies_in now.seen extent gated ≡ bodies_in before.seen extent gated = synced_gated log before now (Ok GateSync) on syncs in
    record {
      on = record {
        sound = record { places = omega arith; few = on.sound.few; one = omega arith; some = omega arith; fits = omega arith; filled = on.sound.filled; room = on.sound.room; tails = on.sound.tails; batch = λ some. absurd (omega arith); head = λ some. absurd (omega arith) };
        batches = joined_batch extent used gated flight now.seen now.pending places fits gate there.flight.1 there.flight.0 there.batches;
        flight = tt;
        turn = there.turn;
        quiet = there.quiet;
        tails = there.tails;
      };
      gated = ap (bodies_in now.seen extent) places ∙ bodies_more extent gated now.seen ∙ rw (same, there.flight.0.bytes) refl;
      moments = synced_moments log before now (Ok GateSync) on syncs on.turn;
      touches = synced_touches log before now (Ok GateSync) on syncs;
      time = syncs.time;
    }

-- a call that was made, by its stage
pub made_keeps : (stage : Stage) (extent : Extent) (used gated : ℕ) (flight filling tails : List ℕ) (before now : Device) → in_flight stage ≡ 1 → On (log_with extent used gated stage flight filling tails) before.seen before.pending
    → CallFor stage (log_with extent used gated stage flight filling tails) before now (Ok stage)
    → Moves (log_with extent used gated stage flight filling tails) (done (log_with extent used gated stage flight filling tails)) before now (Ok stage)
made_keeps Idle extent used gated flight filling tails before now flies on calls = absurd (omega arith)
made_keeps Body extent used gated flight filling tails before now flies on calls = body_made extent used gated flight filling tails before now on calls
made_keeps BodySync extent used gated flight filling tails before now flies on calls = body_synced extent used gated flight filling tails before now on calls
made_keeps Gate extent used gated flight filling tails before now flies on calls = gate_made extent used gated flight filling tails before now on calls
made_keeps GateSync extent used gated flight filling tails before now flies on calls = gate_synced extent used gated flight filling tails before now on calls

-- a call that failed, by its stage
pub failed_keeps : (stage : Stage) (extent : Extent) (used gated : ℕ) (flight filling tails : List ℕ) (before now : Device) (refusal : Refusal) → in_flight stage ≡ 1
    → On (log_with extent used gated stage flight filling tails) before.seen before.pending → CallFor {T = Stage} stage (log_with extent used gated stage flight filling tails) before now (Err refusal)
    → Moves (log_with extent used gated stage flight filling tails) (log_with extent used gated stage flight filling tails) before now (Err refusal)
failed_keeps Idle extent used gated flight filling tails before now refusal flies on calls = absurd (omega arith)
failed_keeps Body extent used gated flight filling tails before now refusal flies on calls = body_failed extent used gated flight filling tails before now refusal on calls
failed_keeps BodySync extent used gated flight filling tails before now refusal flies on calls = sync_failed (log_with extent used gated BodySync flight filling tails) before now refusal on on.turn calls
failed_keeps Gate extent used gated flight filling tails before now refusal flies on calls = gate_failed extent used gated flight filling tails before now refusal on calls
failed_keeps GateSync extent used gated flight filling tails before now refusal flies on calls = sync_failed (log_with extent used gated GateSync flight filling tails) before now refusal on on.turn calls

-- if a record waits for a batch, there is a place for it
pub room_left : (used : ℕ) (filling : List ℕ) → 1 ≤ length filling → (PLACES ≤ used → filling ≡ []) → used < PLACES
room_left used filling some room = ⊎_elim (λ less. less) (λ full. absurd (let none : length filling ≡ 0 = ap length (room full) in omega arith)) (cases_lt used PLACES)

-- a batch begins if there is a place for it
pub begun_on : (extent : Extent) (used gated : ℕ) (flight filling tails seen : List ℕ) (pending : ℕ → Bool) → 1 ≤ length filling → On (log_with extent used gated Idle flight filling tails) seen pending
    → On (begun (log_with extent used gated Idle flight filling tails)) seen pending
begun_on extent used gated flight filling tails seen pending some on =
    let fewer : used < PLACES = room_left used filling some on.sound.room in
    let below : gated < PLACES = omega (arith, on.sound.places) in
    let few : sectors_of filling ≤ BODY_SECTORS = omega (arith, on.sound.filled) in
    record {
      sound = record {
        places = omega (arith, on.sound.places);
        few = omega arith;
        one = omega arith;
        some = omega arith;
        fits = on.sound.filled;
        filled = omega arith;
        room = λ full. refl;
        tails = are_widened tails on.sound.tails extent gated (sectors_of filling) below few;
        batch = λ some. widened_covers tails on.sound.tails extent gated (sectors_of filling) below;
        head = λ some. absurd (omega arith);
      };
      batches = record {
        size = on.batches.size;
        opened = on.batches.opened;
        bodies = on.batches.bodies;
        sizes = on.batches.sizes;
        closed = λ k from below. on.batches.closed k (omega arith) below;
      };
      flight = on.batches.closed gated (omega (arith, on.sound.places)) (omega (arith, on.sound.places));
      turn = on.turn;
      quiet = λ turns. refl;
      tails = have_widened tails on.sound.tails extent gated (sectors_of filling) below seen pending on.tails;
    }

-- what the first call of a new batch keeps
pub begun_keeps : (extent : Extent) (used gated : ℕ) (flight filling tails : List ℕ) (new : Log) (before now : Device) (result : Result Stage Refusal)
    → Made (begun (log_with extent used gated Idle flight filling tails)) new result
    → Moves (begun (log_with extent used gated Idle flight filling tails)) new before now result → Moves (log_with extent used gated Idle flight filling tails) new before now result
begun_keeps extent used gated flight filling tails new before now (Ok Body) made keeps = record { on = keeps.on; gated = keeps.gated; moments = keeps.moments; touches = keeps.touches; time = keeps.time }
begun_keeps extent used gated flight filling tails new before now (Ok BodySync) made keeps = record { on = keeps.on; gated = keeps.gated; moments = keeps.moments; touches = keeps.touches; time = keeps.time }
begun_keeps extent used gated flight filling tails new before now (Ok Gate) made keeps = record { on = keeps.on; gated = keeps.gated; moments = keeps.moments; touches = keeps.touches; time = keeps.time }
begun_keeps extent used gated flight filling tails new before now (Ok GateSync) made keeps = let other : GateSync ≡ Body = made.0 in cc
begun_keeps extent used gated flight filling tails new before now (Ok Idle) made keeps = record { on = keeps.on; gated = keeps.gated; moments = keeps.moments; touches = keeps.touches; time = keeps.time }
begun_keeps extent used gated flight filling tails new before now (Err refusal) made keeps = record { on = keeps.on; gated = keeps.gated; moments = keeps.moments; touches = keeps.touches; time = keeps.time }

-- if nothing is logged and nothing is in flight, nothing changes
pub idle_keeps : (t : Turn) (extent : Extent) (used gated : ℕ) (flight filling tails : List ℕ) (d : Device) → On (log_at t extent used gated Idle flight filling tails) d.seen d.pending
    → Moves (log_at t extent used gated Idle flight filling tails) (log_at t extent used gated Idle flight filling tails) d d (Ok Idle)
idle_keeps t extent used gated flight filling tails d on = record {
  on = on;
  gated = refl;
  moments = nothing_leaves (ShowsBodies Idle (bodies_in d.seen extent gated) flight) d;
  touches = record { size = refl; bytes = λ s out. refl; settled = λ s out was. was };
  time = record { later = omega arith; only = λ from image le left. inl left; keeps = λ from image le left. left };
}

-- no turn is under way if a batch is in flight
pub none_turns : (t : Turn) → turning t ≡ 0 → t ≡ turn.Closed
none_turns turn.Closed none = refl
none_turns turn.Body none = absurd (omega arith)
none_turns turn.BodySync none = absurd (omega arith)
none_turns turn.Gate none = absurd (omega arith)
none_turns turn.GateSync none = absurd (omega arith)
none_turns turn.Selector none = absurd (omega arith)
none_turns turn.Done none = absurd (omega arith)

-- what a call that was made keeps
call_moves : (log new : Log) (stage : Stage) (before now : Device) → in_flight log.stage ≡ 1 → stage ≡ log.stage → new ≡ done log → CallFor log.stage log before now (Ok stage)
    → On log before.seen before.pending → Moves log new before now (Ok stage)
call_moves log new stage before now flies made goes calls on =
    let at : Turn → Log = λ t. log_at t log.extent log.used log.gated log.stage log.flight log.filling log.tails in
    let P : Stage → Type 0 = λ s. CallFor log.stage log before now (Ok s) → Moves log (done log) before now (Ok s) in
    let Q : Log → Type 0 = λ l. Moves log l before now (Ok stage) in
    let R : Turn → Type 0 = λ t. On (at t) before.seen before.pending → CallFor log.stage log before now (Ok log.stage) → Moves (at t) (done (at t)) before now (Ok log.stage) in
    let still : log.turn ≡ turn.Closed = none_turns log.turn (omega (arith, on.sound.one)) in
    subst Q (sym goes) (subst P (sym made) (subst R (sym still) (λ on'. made_keeps log.stage log.extent log.used log.gated log.flight log.filling log.tails before now flies on') on) calls)

-- and one that failed
call_stays : (log new : Log) (refusal : Refusal) (before now : Device) → in_flight log.stage ≡ 1 → new ≡ log → CallFor {T = Stage} log.stage log before now (Err refusal)
    → On log before.seen before.pending → Moves log new before now (Err refusal)
call_stays log new refusal before now flies goes calls on =
    let at : Turn → Log = λ t. log_at t log.extent log.used log.gated log.stage log.flight log.filling log.tails in
    let Q : Log → Type 0 = λ l. Moves log l before now (Err refusal) in
    let R : Turn → Type 0 = λ t. On (at t) before.seen before.pending → Moves (at t) (at t) before now (Err refusal) in
    let still : log.turn ≡ turn.Closed = none_turns log.turn (omega (arith, on.sound.one)) in
    subst Q (sym goes) (subst R (sym still) (λ on'. failed_keeps log.stage log.extent log.used log.gated log.flight log.filling log.tails before now refusal flies on' calls) on)

-- nor if a record waits for a batch
waiting_still : (t : Turn) (filling : List ℕ) → 1 ≤ length filling → (1 ≤ turning t → filling ≡ []) → t ≡ turn.Closed
waiting_still t filling some quiet =
    none_turns t (⊎_elim (λ (none : turning t < 1). omega arith) (λ (turns : 1 ≤ turning t). absurd (let none : length filling ≡ 0 = ap length (quiet turns) in omega arith)) (cases_lt (turning t) 1))

first_of_idle : (stage : Stage) (extent : Extent) (used gated : ℕ) (flight filling tails : List ℕ) (begins new : Log) (before now : Device) (result : Result Stage Refusal) → stage ≡ Idle
    → begins ≡ begun (log_with extent used gated stage flight filling tails) → 1 ≤ length filling → Made begins new result
    → (On begins before.seen before.pending → Moves begins new before now result)
    → On (log_with extent used gated stage flight filling tails) before.seen before.pending → Moves (log_with extent used gated stage flight filling tails) new before now result
first_of_idle Idle extent used gated flight filling tails begins new before now result idle is some made keeps on =
    let M : Log → Type 0 = λ l. Made l new result in
    let K : Log → Type 0 = λ l. On l before.seen before.pending → Moves l new before now result in
    begun_keeps extent used gated flight filling tails new before now result (subst M is made)
    (subst K is keeps (begun_on extent used gated flight filling tails before.seen before.pending some on))
first_of_idle Body extent used gated flight filling tails begins new before now result idle is some made keeps on = cc
first_of_idle BodySync extent used gated flight filling tails begins new before now result idle is some made keeps on = cc
first_of_idle Gate extent used gated flight filling tails begins new before now result idle is some made keeps on = cc
first_of_idle GateSync extent used gated flight filling tails begins new before now result idle is some made keeps on = cc

-- what the first call of a new batch keeps of a log with none in flight
first_moves : (log begins new : Log) (before now : Device) (result : Result Stage Refusal) → log.stage ≡ Idle → begins ≡ begun log → 1 ≤ length log.filling → Made begins new result
    → (On begins before.seen before.pending → Moves begins new before now result) → On log before.seen before.pending → Moves log new before now result
first_moves log begins new before now result idle is some made keeps on =
    let at : Turn → Log = λ t. log_at t log.extent log.used log.gated log.stage log.flight log.filling log.tails in
    let R : Turn → Type 0 = λ t. On (at t) before.seen before.pending → Moves (at t) new before now result in
    subst R (sym (waiting_still log.turn log.filling some on.quiet))
    (first_of_idle log.stage log.extent log.used log.gated log.flight log.filling log.tails begins new before now result idle is some made keeps) on

-- what it says of bodies it says of their bytes
keeps_of : (old new : Log) (before now : Device) (result : Result Stage Refusal) → Moves old new before now result → Keeps old new before now result
keeps_of old new before now result moves =
    let was : joined (gated_bodies old before.seen) ≡ gated_of old before.seen = joined_bodies before.seen old.extent old.gated in
    let is : joined (gated_bodies new now.seen) ≡ gated_of new now.seen = joined_bodies now.seen new.extent new.gated in
    let P : List ℕ → Type 0 = λ gated. Gates gated old.flight (gated_of new now.seen) result in
    let Q : List ℕ → Type 0 = λ gated. Gates (joined (gated_bodies old before.seen)) old.flight gated result in
    let R : List ℕ → Type 0 = λ gated. Leaves (Shows old.stage gated old.flight) before now in
    record {
      on = moves.on;
      gated = subst P was (subst Q is (gates_bytes (gated_bodies old before.seen) old.flight (gated_bodies new now.seen) result moves.gated));
      moments = subst R was (leaves_weaker (ShowsBodies old.stage (gated_bodies old before.seen) old.flight) (Shows old.stage (joined (gated_bodies old before.seen)) old.flight) before now (shown_bytes old.stage (gated_bodies old before.seen) old.flight) moves.moments);
      bodies = record { gated = moves.gated; moments = moves.moments };
      touches = moves.touches;
      time = moves.time;
    }

moves_of : (old new : Log) (before now : Device) (result : Result Stage Refusal) → Keeps old new before now result → Moves old new before now result
moves_of old new before now result keeps = record { on = keeps.on; gated = keeps.bodies.gated; moments = keeps.bodies.moments; touches = keeps.touches; time = keeps.time }

-- what a call that was made keeps
pub call_made : (log new : Log) (stage : Stage) (before now : Device) → in_flight log.stage ≡ 1 → stage ≡ log.stage → new ≡ done log → CallFor log.stage log before now (Ok stage)
    → On log before.seen before.pending → Keeps log new before now (Ok stage)
call_made log new stage before now flies made goes calls on = keeps_of log new before now (Ok stage) (call_moves log new stage before now flies made goes calls on)

-- and one that failed
pub call_failed : (log new : Log) (refusal : Refusal) (before now : Device) → in_flight log.stage ≡ 1 → new ≡ log → CallFor {T = Stage} log.stage log before now (Err refusal)
    → On log before.seen before.pending → Keeps log new before now (Err refusal)
call_failed log new refusal before now flies goes calls on = keeps_of log new before now (Err refusal) (call_stays log new refusal before now flies goes calls on)

-- what the first call of a new batch keeps of a log with none in flight
pub first_keeps : (log begins new : Log) (before now : Device) (result : Result Stage Refusal) → log.stage ≡ Idle → begins ≡ begun log → 1 ≤ length log.filling → Made begins new result
    → (On begins before.seen before.pending → Keeps begins new before now result) → On log before.seen before.pending → Keeps log new before now result
first_keeps log begins new before now result idle is some made keeps on =
    keeps_of log new before now result (first_moves log begins new before now result idle is some made (λ on'. moves_of begins new before now result (keeps on')) on)

-- what a step keeps that makes no call
pub nothing_keeps : (log : Log) (d : Device) → log.stage ≡ Idle → On log d.seen d.pending → Keeps log log d d (Ok Idle)
nothing_keeps log d idle on =
    let at : Stage → Log = λ stage. log_at log.turn log.extent log.used log.gated stage log.flight log.filling log.tails in
    let R : Stage → Type 0 = λ stage. On (at stage) d.seen d.pending → Moves (at stage) (at stage) d d (Ok Idle) in
    keeps_of log log d d (Ok Idle) (subst R (sym idle) (idle_keeps log.turn log.extent log.used log.gated log.flight log.filling log.tails d) on)
