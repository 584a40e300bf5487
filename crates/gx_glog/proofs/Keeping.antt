-- What is known of a log's sectors stays if they are kept.
use Rattle.std.proofs.Common.{◌≡◌, ◌∙◌, sym, ap, refl, ◌⊎◌, inl, inr, ℕ, ◌+◌, ◌*◌, ◌<◌, ◌≤◌, List, ◌++◌, length, true, false, Bool, subst, length-append, arith}
use Rattle.gx_disk.specs.declared.layout.TheConstants.{LOG_AT, LOG_SECTORS, PAGES_AT}
use Rattle.gx_disk.specs.Sectors.{IsWithin, IsOutside}
use Rattle.gx_disk.specs.Device.{Device, Touches, Rests}
use Rattle.gx_glog.specs.declared.extent.TheConstants.{BODY_ROOM, BODY_SECTORS, EXTENT_SECTORS, PLACES}
use Rattle.gx_glog.specs.declared.extent.Extent.{Extent}
use Rattle.gx_glog.specs.declared.stage.Stage.{Stage}
use Rattle.gx_glog.specs.declared.stage.Stage.TheVariants.{Body, BodySync, Gate, GateSync, Idle}
use Rattle.gx_glog.specs.declared.stage.Turn.{Turn}
use Rattle.gx_glog.specs.declared.stage.Turn.TheVariants as turn
use Rattle.gx_glog.specs.Layout.{gates_of, bodies_of, other_of, body_of, size_in}
use Rattle.gx_glog.specs.Cuts.{bodies_in, joined, gated_bodies}
use Rattle.gx_glog.specs.Reading.{IsSize}
use Rattle.gx_glog.specs.declared.filling.Appended.{Appended}
use Rattle.gx_glog.specs.declared.filling.Appended.TheVariants.{At, NoRoom}
use Rattle.gx_glog.specs.Appending.{Appends}
use Rattle.gx_glog.specs.Bodies.{HasRecords, IsBody}
use Rattle.gx_glog.specs.State.{Log, IsSound, in_flight, starting, turning}
use Rattle.gx_glog.specs.Standing.{IsGate, IsBodySettled, IsSelected, HasBatches, HasRun, ReadsClosed, HasFirst, HasHead, Flies, Leads, On, MayTurn, gated_of, IsKept, IsOfLog, LeavesLog}
use Rattle.gx_glog.specs.Turning.{PutsFirst}
use Rattle.gx_glog.proofs.Gates.{placed, gate_same, selector_same, body_same, bodies_same}
use Rattle.gx_glog.proofs.Cuts.{joined_bodies}
use Rattle.gx_glog.proofs.Tails.{KeptBodies, are_unknown, tails_kept, unknown_have}

-- a sector that a call doesn't touch is kept
pub touched_kept : (first n s : ℕ) (old new : Device) → Touches first n old new → IsOutside first n s → IsKept old.seen new.seen old.pending new.pending s
touched_kept first n s old new touches out = record { bytes = touches.bytes s out; settled = touches.settled s out }

-- a call that touches nothing keeps each sector
pub rested_kept : (s : ℕ) (old new : Device) → Rests old new → IsKept old.seen new.seen old.pending new.pending s
rested_kept s old new rests = record { bytes = rw rests.seen refl; settled = rests.settled s }

module _ (seen seen' : List ℕ) (pending pending' : ℕ → Bool) where
  pub gate_kept : (state : Bool) (extent : Extent) (k : ℕ) → IsKept seen seen' pending pending' (gates_of extent + k) → IsGate state seen pending extent k → IsGate state seen' pending' extent k
  gate_kept state extent k kept gate = record { reads = gate_same extent k seen' seen kept.bytes ∙ gate.reads; settled = kept.settled gate.settled }

  pub body_kept : (extent : Extent) (k : ℕ) → ((s : ℕ) → IsWithin (bodies_of extent + BODY_SECTORS * k) BODY_SECTORS s → IsKept seen seen' pending pending' s) → body_of seen' extent k ≡ body_of seen extent k
  body_kept extent k kept = body_same extent k seen' seen (λ s within. (kept s within).bytes)

  pub body_settled : (extent : Extent) (k : ℕ) → ((s : ℕ) → IsWithin (bodies_of extent + BODY_SECTORS * k) BODY_SECTORS s → IsKept seen seen' pending pending' s) → IsBodySettled pending extent k → IsBodySettled pending' extent k
  body_settled extent k kept settled s within = (kept s within).settled (settled s within)

  -- a body that is kept has its records
  pub records_kept : (extent : Extent) (k : ℕ) (records : List ℕ) → ((s : ℕ) → IsWithin (bodies_of extent + BODY_SECTORS * k) BODY_SECTORS s → IsKept seen seen' pending pending' s)
      → HasRecords records (body_of seen extent k) → HasRecords records (body_of seen' extent k)
  records_kept extent k records kept has =
      let P : List ℕ → Type 0 = λ body. HasRecords records body in
      subst P (sym (body_kept extent k kept)) has

  -- and reads as it did to its end
  pub whole_kept : (extent : Extent) (k : ℕ) (records : List ℕ) → ((s : ℕ) → IsWithin (bodies_of extent + BODY_SECTORS * k) BODY_SECTORS s → IsKept seen seen' pending pending' s)
      → IsBody records (body_of seen extent k) → IsBody records (body_of seen' extent k)
  whole_kept extent k records kept is =
      let P : List ℕ → Type 0 = λ body. IsBody records body in
      subst P (sym (body_kept extent k kept)) is

  -- gated batches stay if their gates and bodies, and the gates of the free places, are kept
  pub batches_kept : (extent : Extent) (gated used : ℕ) → length seen' ≡ length seen
      → ((k : ℕ) → (k < gated) ⊎ (used ≤ k) → k < PLACES → IsKept seen seen' pending pending' (gates_of extent + k))
      → ((k : ℕ) → k < gated → (s : ℕ) → IsWithin (bodies_of extent + BODY_SECTORS * k) BODY_SECTORS s → IsKept seen seen' pending pending' s)
      → gated ≤ PLACES → HasBatches extent gated used seen pending → HasBatches extent gated used seen' pending'
  batches_kept extent gated used size gates bodies few has = record {
    size = omega (arith, size, has.size);
    opened = λ k less. gate_kept true extent k (gates k (inl less) (omega arith)) (has.opened k less);
    bodies = λ k less. body_settled extent k (bodies k less) (has.bodies k less);
    sizes = λ k less. (let P : List ℕ → Type 0 = λ body. IsSize (size_in body) in subst P (sym (body_kept extent k (bodies k less))) (has.sizes k less));
    closed = λ k from below. gate_kept false extent k (gates k (inr from) below) (has.closed k from below);
  }

  -- the gated bodies read as before if they are kept
  pub gated_kept : (extent : Extent) (n : ℕ) → ((k : ℕ) → k < n → (s : ℕ) → IsWithin (bodies_of extent + BODY_SECTORS * k) BODY_SECTORS s → IsKept seen seen' pending pending' s)
      → bodies_in seen' extent n ≡ bodies_in seen extent n
  gated_kept extent n kept = bodies_same extent n seen' seen (λ k less. body_kept extent k (kept k less))

  -- an extent stays selected if the selector is kept
  pub selected_kept : (extent : Extent) → IsKept seen seen' pending pending' 2 → IsSelected extent seen pending → IsSelected extent seen' pending'
  selected_kept extent kept selected = record { reads = selector_same seen' seen kept.bytes ∙ selected.reads; settled = kept.settled selected.settled }

  -- the sectors of an extent are kept
  abbrev pub KeptExtent : Extent → Type 0
  KeptExtent extent = (s : ℕ) → IsWithin (gates_of extent) EXTENT_SECTORS s → IsKept seen seen' pending pending' s

  pub extent_gate : (extent : Extent) → KeptExtent extent → (k : ℕ) → k < PLACES → IsKept seen seen' pending pending' (gates_of extent + k)
  extent_gate extent kept k below = kept (gates_of extent + k) (record { from = omega arith; below = omega arith })

  pub extent_body : (extent : Extent) → KeptExtent extent → (k : ℕ) → k < PLACES → (s : ℕ) → IsWithin (bodies_of extent + BODY_SECTORS * k) BODY_SECTORS s → IsKept seen seen' pending pending' s
  extent_body extent kept k below s within = let at = placed extent in kept s (record { from = omega (arith, at.bodies, within.from); below = omega (arith, at.bodies, within.below) })

  -- what is known of an extent whose sectors are kept
  pub extent_batches : (extent : Extent) (gated used : ℕ) → length seen' ≡ length seen → KeptExtent extent → gated ≤ PLACES → HasBatches extent gated used seen pending → HasBatches extent gated used seen' pending'
  extent_batches extent gated used size kept few has =
      batches_kept extent gated used size (λ k which below. extent_gate extent kept k below) (λ k less. extent_body extent kept k (omega arith)) few has

  pub extent_run : (extent : Extent) (run : ℕ) → length seen' ≡ length seen → KeptExtent extent → run ≤ PLACES → HasRun extent run seen pending → HasRun extent run seen' pending'
  extent_run extent run size kept few has = record {
    size = omega (arith, size, has.size);
    opened = λ k less. gate_kept true extent k (extent_gate extent kept k (omega arith)) (has.opened k less);
    bodies = λ k less. body_settled extent k (extent_body extent kept k (omega arith)) (has.bodies k less);
    sizes = λ k less. (let P : List ℕ → Type 0 = λ body. IsSize (size_in body) in subst P (sym (body_kept extent k (extent_body extent kept k (omega arith)))) (has.sizes k less));
    ends = λ less. gate_kept false extent run (extent_gate extent kept run less) (has.ends less);
  }

  pub extent_gated : (extent : Extent) (n : ℕ) → KeptExtent extent → n ≤ PLACES → bodies_in seen' extent n ≡ bodies_in seen extent n
  extent_gated extent n kept few = gated_kept extent n (λ k less. extent_body extent kept k (omega arith))

  pub closed_kept : (extent : Extent) → ((k : ℕ) → k < PLACES → IsKept seen seen' pending pending' (gates_of extent + k)) → ReadsClosed extent seen → ReadsClosed extent seen'
  closed_kept extent kept closed k below = gate_same extent k seen' seen (kept k below).bytes ∙ closed k below

  pub first_kept : (extent : Extent) (head : List ℕ) → ((k : ℕ) → 1 ≤ k → k < PLACES → IsKept seen seen' pending pending' (gates_of extent + k))
      → ((s : ℕ) → IsWithin (bodies_of extent + BODY_SECTORS * 0) BODY_SECTORS s → IsKept seen seen' pending pending' s) → HasFirst extent head seen pending → HasFirst extent head seen' pending'
  first_kept extent head gates body has = record {
    records = records_kept extent 0 head body has.records;
    body = body_settled extent 0 body has.body;
    closed = λ k from below. gate_kept false extent k (gates k from below) (has.closed k from below);
  }

  pub head_kept : (extent : Extent) (head : List ℕ) → length seen' ≡ length seen → KeptExtent extent → HasHead extent head seen pending → HasHead extent head seen' pending'
  head_kept extent head size kept has = record {
    batches = extent_batches extent 1 1 size kept (omega arith) has.batches;
    records = records_kept extent 0 head (extent_body extent kept 0 (omega arith)) has.records;
  }

  pub leads_kept : length seen' ≡ length seen → IsKept seen seen' pending pending' 2 → (turn : Turn) (from to : Extent) (head : List ℕ) → KeptExtent to → Leads turn from to head seen pending → Leads turn from to head seen' pending'
  leads_kept size selector turn.Closed from to head kept leads = selected_kept from selector leads
  leads_kept size selector turn.Body from to head kept leads = (selected_kept from selector leads.0, closed_kept to (extent_gate to kept) leads.1)
  leads_kept size selector turn.BodySync from to head kept leads = (
    selected_kept from selector leads.0,
    closed_kept to (extent_gate to kept) leads.1,
    whole_kept to 0 head (extent_body to kept 0 (omega arith)) leads.2,
  )
  leads_kept size selector turn.Gate from to head kept leads =
      (selected_kept from selector leads.0, first_kept to head (λ k some below. extent_gate to kept k below) (extent_body to kept 0 (omega arith)) leads.1)
  leads_kept size selector turn.GateSync from to head kept leads = (
    selected_kept from selector leads.0,
    first_kept to head (λ k some below. extent_gate to kept k below) (extent_body to kept 0 (omega arith)) leads.1,
    gate_same to 0 seen' seen (extent_gate to kept 0 (omega arith)).bytes ∙ leads.2,
  )
  leads_kept size selector turn.Selector from to head kept leads = head_kept to head size kept leads
  leads_kept size selector turn.Done from to head kept leads = (head_kept to head size kept leads.0, selector_same seen' seen selector.bytes ∙ leads.1)

  -- the log's own sectors
  extent_is_of_log : (extent : Extent) → LeavesLog seen seen' pending pending' → KeptExtent extent
  extent_is_of_log extent leaves s within = let at = placed extent in leaves.kept s (inr (omega (arith, at.from, within.from), omega (arith, at.bodies, at.to, within.below)))

  gate_is_of_log : (extent : Extent) (k : ℕ) → k < PLACES → IsOfLog (gates_of extent + k)
  gate_is_of_log extent k below = let at = placed extent in inr (omega (arith, at.from, at.to, at.bodies), omega (arith, at.to, at.bodies))

  body_is_of_log : (extent : Extent) (k s : ℕ) → k < PLACES → IsWithin (bodies_of extent + BODY_SECTORS * k) BODY_SECTORS s → IsOfLog s
  body_is_of_log extent k s below within = let at = placed extent in inr (omega (arith, at.from, at.bodies, within.from), omega (arith, at.to, within.below))

  bodies_are_of_log : LeavesLog seen seen' pending pending' → KeptBodies seen seen' pending pending'
  bodies_are_of_log leaves extent s within =
      let at = placed extent in leaves.kept s (inr (omega (arith, at.from, at.bodies, within.from), omega (arith, at.to, within.below)))

  flies_kept : LeavesLog seen seen' pending pending' → (stage : Stage) (extent : Extent) (k : ℕ) (flight : List ℕ) → k + in_flight stage ≤ PLACES → Flies stage extent k flight seen pending → Flies stage extent k flight seen' pending'
  flies_kept leaves Idle extent k flight few flies = tt
  flies_kept leaves Body extent k flight few flies = gate_kept false extent k (leaves.kept (gates_of extent + k) (gate_is_of_log extent k (omega arith))) flies
  flies_kept leaves BodySync extent k flight few flies = (
    gate_kept false extent k (leaves.kept (gates_of extent + k) (gate_is_of_log extent k (omega arith))) flies.0,
    whole_kept extent k flight (λ s within. leaves.kept s (body_is_of_log extent k s (omega arith) within)) flies.1,
  )
  flies_kept leaves Gate extent k flight few flies = (
    records_kept extent k flight (λ s within. leaves.kept s (body_is_of_log extent k s (omega arith) within)) flies.0,
    body_settled extent k (λ s within. leaves.kept s (body_is_of_log extent k s (omega arith) within)) flies.1,
  )
  flies_kept leaves GateSync extent k flight few flies = (
    records_kept extent k flight (λ s within. leaves.kept s (body_is_of_log extent k s (omega arith) within)) flies.0,
    body_settled extent k (λ s within. leaves.kept s (body_is_of_log extent k s (omega arith) within)) flies.1,
    gate_same extent k seen' seen (leaves.kept (gates_of extent + k) (gate_is_of_log extent k (omega arith))).bytes ∙ flies.2,
  )

  -- a log stays on a device whose log sectors are kept
  pub on_kept : (log : Log) → LeavesLog seen seen' pending pending' → On log seen pending → On log seen' pending'
  on_kept log leaves on = record {
    sound = on.sound;
    batches =
        extent_batches log.extent log.gated log.used leaves.size (extent_is_of_log log.extent leaves) (omega (arith, on.sound.places, on.sound.few)) on.batches;
    flight = flies_kept leaves log.stage log.extent log.gated log.flight (omega (arith, on.sound.places, on.sound.few)) on.flight;
    turn = leads_kept leaves.size (leaves.kept 2 (inl refl)) log.turn log.extent (other_of log.extent) log.flight (extent_is_of_log (other_of log.extent) leaves) on.turn;
    quiet = on.quiet;
    tails = tails_kept seen seen' pending pending' log.tails (bodies_are_of_log leaves) on.tails;
  }

  -- and has the same bodies, and so the same records
  pub bodies_stay : (log : Log) → LeavesLog seen seen' pending pending' → On log seen pending → gated_bodies log seen' ≡ gated_bodies log seen
  bodies_stay log leaves on =
      extent_gated log.extent log.gated (extent_is_of_log log.extent leaves) (omega (arith, on.sound.places, on.sound.few))

  records_stay : (log : Log) → gated_bodies log seen' ≡ gated_bodies log seen → gated_of log seen' ≡ gated_of log seen
  records_stay log same = sym (joined_bodies seen' log.extent log.gated) ∙ ap joined same ∙ joined_bodies seen log.extent log.gated

  pub gated_stays : (log : Log) → LeavesLog seen seen' pending pending' → On log seen pending → gated_of log seen' ≡ gated_of log seen
  gated_stays log leaves on = records_stay log (bodies_stay log leaves on)

  -- the same of a log that may turn
  pub may_turn_kept : (log : Log) → LeavesLog seen seen' pending pending' → MayTurn log seen pending → MayTurn log seen' pending'
  may_turn_kept log leaves may = record {
    sound = may.sound;
    idle = may.idle;
    run = extent_run log.extent log.gated leaves.size (extent_is_of_log log.extent leaves) (omega (arith, may.sound.places, may.sound.few)) may.run;
    turn = leads_kept leaves.size (leaves.kept 2 (inl refl)) log.turn log.extent (other_of log.extent) log.flight (extent_is_of_log (other_of log.extent) leaves) may.turn;
    quiet = may.quiet;
    tails = tails_kept seen seen' pending pending' log.tails (bodies_are_of_log leaves) may.tails;
  }

  pub run_bodies_stay : (log : Log) → LeavesLog seen seen' pending pending' → MayTurn log seen pending → gated_bodies log seen' ≡ gated_bodies log seen
  run_bodies_stay log leaves may =
      extent_gated log.extent log.gated (extent_is_of_log log.extent leaves) (omega (arith, may.sound.places, may.sound.few))

  pub run_stays : (log : Log) → LeavesLog seen seen' pending pending' → MayTurn log seen pending → gated_of log seen' ≡ gated_of log seen
  run_stays log leaves may = records_stay log (run_bodies_stay log leaves may)

-- a call elsewhere leaves the log's sectors
pub touched_leaves : (first n : ℕ) (old new : Device) → ((s : ℕ) → IsOfLog s → IsOutside first n s) → Touches first n old new → LeavesLog old.seen new.seen old.pending new.pending
touched_leaves first n old new out touches = record { size = touches.size; kept = λ s of_log. touched_kept first n s old new touches (out s of_log) }

-- a read or a sync leaves them
pub rested_leaves : (old new : Device) → Rests old new → LeavesLog old.seen new.seen old.pending new.pending
rested_leaves old new rests = record { size = rw rests.seen refl; kept = λ s of_log. rested_kept s old new rests }

outside_narrower : (first n s : ℕ) → 8 ≤ first → first + n ≤ PAGES_AT → IsOutside LOG_AT LOG_SECTORS s → IsOutside first n s
outside_narrower first n s from to (inl below) = inl (omega arith)
outside_narrower first n s from to (inr above) = inr (omega arith)

-- what lies within the log's part is touched there alone
pub touched_wider : (first n : ℕ) (old new : Device) → 8 ≤ first → first + n ≤ PAGES_AT → Touches first n old new → Touches LOG_AT LOG_SECTORS old new
touched_wider first n old new from to touches = record {
  size = touches.size;
  bytes = λ s out. touches.bytes s (outside_narrower first n s from to out);
  settled = λ s out. touches.settled s (outside_narrower first n s from to out);
}

starting_sound : (extent : Extent) (used : ℕ) → used ≤ PLACES → IsSound (starting extent used)
starting_sound extent used few = record {
  places = omega arith;
  few = few;
  one = omega arith;
  some = omega arith;
  fits = omega arith;
  filled = omega arith;
  room = λ full. refl;
  tails = are_unknown;
  batch = λ some. absurd (omega arith);
  head = λ some. absurd (omega arith);
}

-- a log with nothing logged
pub start_on : (extent : Extent) (used : ℕ) (seen : List ℕ) (pending : ℕ → Bool) → used ≤ PLACES → IsSelected extent seen pending → HasBatches extent used used seen pending
    → On (starting extent used) seen pending
start_on extent used seen pending few selected has = record {
  sound = starting_sound extent used few;
  batches = has;
  flight = tt;
  turn = selected;
  quiet = λ turns. refl;
  tails = unknown_have seen pending;
}

-- if later gates may be open
pub start_may_turn : (extent : Extent) (used : ℕ) (seen : List ℕ) (pending : ℕ → Bool) → used ≤ PLACES → IsSelected extent seen pending → HasRun extent used seen pending
    → MayTurn (starting extent used) seen pending
start_may_turn extent used seen pending few selected has = record {
  sound = starting_sound extent used few;
  idle = refl;
  run = has;
  turn = selected;
  quiet = λ turns. refl;
  tails = unknown_have seen pending;
}

-- the batches of a log with nothing in flight are a run
run_of : (extent : Extent) (gated used : ℕ) (seen : List ℕ) (pending : ℕ → Bool) → used ≡ gated → HasBatches extent gated used seen pending → HasRun extent gated seen pending
run_of extent gated used seen pending places has = record { size = has.size; opened = has.opened; bodies = has.bodies; sizes = has.sizes; ends = λ less. has.closed gated (omega arith) less }

pub on_may_turn : (log : Log) (seen : List ℕ) (pending : ℕ → Bool) → log.stage ≡ Idle → On log seen pending → MayTurn log seen pending
on_may_turn log seen pending idle on = record {
  sound = on.sound;
  idle = idle;
  run = (let none : in_flight log.stage ≡ 0 = ap in_flight idle in run_of log.extent log.gated log.used seen pending (omega (arith, on.sound.places)) on.batches);
  turn = on.turn;
  quiet = on.quiet;
  tails = on.tails;
}

-- a log that has a record more that fills is sound
append_sound : (log : Log) (bytes : List ℕ) → log.used < PLACES → length log.filling + length bytes ≤ BODY_ROOM → IsSound log → IsSound (record log { filling = log.filling ++ bytes })
append_sound log bytes place fits sound = record {
  places = sound.places;
  few = sound.few;
  one = sound.one;
  some = sound.some;
  fits = sound.fits;
  filled = omega (arith, length-append log.filling bytes);
  room = λ full. absurd (omega arith);
  tails = sound.tails;
  batch = sound.batch;
  head = sound.head;
}

none_turns_closed : (t : Turn) → t ≡ turn.Closed → turning t ≡ 0
none_turns_closed t still = ap turning still

-- a log with a record more that fills
pub append_on : (log : Log) (bytes seen : List ℕ) (pending : ℕ → Bool) → log.turn ≡ turn.Closed → log.used < PLACES → length log.filling + length bytes ≤ BODY_ROOM → On log seen pending
    → On (record log { filling = log.filling ++ bytes }) seen pending
append_on log bytes seen pending still place fits on = record {
  sound = append_sound log bytes place fits on.sound;
  batches = on.batches;
  flight = on.flight;
  turn = on.turn;
  quiet = λ turns. absurd (omega (arith, none_turns_closed log.turn still));
  tails = on.tails;
}

append_may_turn : (log : Log) (bytes seen : List ℕ) (pending : ℕ → Bool) → log.turn ≡ turn.Closed → log.used < PLACES → length log.filling + length bytes ≤ BODY_ROOM → MayTurn log seen pending
    → MayTurn (record log { filling = log.filling ++ bytes }) seen pending
append_may_turn log bytes seen pending still place fits may = record {
  sound = append_sound log bytes place fits may.sound;
  idle = may.idle;
  run = may.run;
  turn = may.turn;
  quiet = λ turns. absurd (omega (arith, none_turns_closed log.turn still));
  tails = may.tails;
}

-- what an append keeps, whatever it returns
pub append_keeps_on : (bytes : List ℕ) (old new : Log) (answer : Appended) (seen : List ℕ) (pending : ℕ → Bool) → old.used < PLACES → Appends bytes old new answer → On old seen pending → On new seen pending
append_keeps_on bytes old new (At place) seen pending room appends on =
    let P : Log → Type 0 = λ l. On l seen pending in
    subst P (sym appends.2) (append_on old bytes seen pending appends.3 room appends.0 on)
append_keeps_on bytes old new NoRoom seen pending room appends on = (let P : Log → Type 0 = λ l. On l seen pending in subst P (sym appends.1) on)

pub append_keeps_turn : (bytes : List ℕ) (old new : Log) (answer : Appended) (seen : List ℕ) (pending : ℕ → Bool) → old.used < PLACES → Appends bytes old new answer → MayTurn old seen pending → MayTurn new seen pending
append_keeps_turn bytes old new (At place) seen pending room appends may =
    let P : Log → Type 0 = λ l. MayTurn l seen pending in
    subst P (sym appends.2) (append_may_turn old bytes seen pending appends.3 room appends.0 may)
append_keeps_turn bytes old new NoRoom seen pending room appends may = (let P : Log → Type 0 = λ l. MayTurn l seen pending in subst P (sym appends.1) may)

-- a log with a record more in the head is sound
put_first_sound : (extent : Extent) (used gated : ℕ) (flight filling tails bytes : List ℕ) → length flight + length bytes ≤ BODY_ROOM
    → IsSound (record { extent = extent; used = used; gated = gated; stage = Idle; turn = turn.Closed; flight = flight; filling = filling; tails = tails })
    → IsSound (record { extent = extent; used = used; gated = gated; stage = Idle; turn = turn.Closed; flight = flight ++ bytes; filling = filling; tails = tails })
put_first_sound extent used gated flight filling tails bytes fits sound = record {
  places = sound.places;
  few = sound.few;
  one = omega arith;
  some = omega arith;
  fits = omega (arith, length-append flight bytes);
  filled = sound.filled;
  room = sound.room;
  tails = sound.tails;
  batch = λ some. absurd (omega arith);
  head = λ some. absurd (omega arith);
}

-- a log with a record more in the head
put_first_on_at : (extent : Extent) (used gated : ℕ) (flight filling tails bytes seen : List ℕ) (pending : ℕ → Bool) → length flight + length bytes ≤ BODY_ROOM
    → On (record { extent = extent; used = used; gated = gated; stage = Idle; turn = turn.Closed; flight = flight; filling = filling; tails = tails }) seen pending
    → On (record { extent = extent; used = used; gated = gated; stage = Idle; turn = turn.Closed; flight = flight ++ bytes; filling = filling; tails = tails }) seen pending
put_first_on_at extent used gated flight filling tails bytes seen pending fits on = record {
  sound = put_first_sound extent used gated flight filling tails bytes fits on.sound;
  batches = on.batches;
  flight = tt;
  turn = on.turn;
  quiet = on.quiet;
  tails = on.tails;
}

put_first_turn_at : (extent : Extent) (used gated : ℕ) (flight filling tails bytes seen : List ℕ) (pending : ℕ → Bool) → length flight + length bytes ≤ BODY_ROOM
    → MayTurn (record { extent = extent; used = used; gated = gated; stage = Idle; turn = turn.Closed; flight = flight; filling = filling; tails = tails }) seen pending
    → MayTurn (record { extent = extent; used = used; gated = gated; stage = Idle; turn = turn.Closed; flight = flight ++ bytes; filling = filling; tails = tails }) seen pending
put_first_turn_at extent used gated flight filling tails bytes seen pending fits may = record {
  sound = put_first_sound extent used gated flight filling tails bytes fits may.sound;
  idle = refl;
  run = may.run;
  turn = may.turn;
  quiet = may.quiet;
  tails = may.tails;
}

-- the log at a stage, in a turn, with a head
abbrev headed : Log → Stage → Turn → List ℕ → Log
headed log stage turn flight = record { extent = log.extent; used = log.used; gated = log.gated; stage = stage; turn = turn; flight = flight; filling = log.filling; tails = log.tails }

pub put_first_on : (log : Log) (bytes seen : List ℕ) (pending : ℕ → Bool) → log.stage ≡ Idle → log.turn ≡ turn.Closed → length log.flight + length bytes ≤ BODY_ROOM → On log seen pending
    → On (record log { flight = log.flight ++ bytes }) seen pending
put_first_on log bytes seen pending idle still fits =
    let P : Stage → Type 0 = λ stage. On (headed log stage log.turn log.flight) seen pending → On (headed log stage log.turn (log.flight ++ bytes)) seen pending in
    let Q : Turn → Type 0 = λ turn. On (headed log Idle turn log.flight) seen pending → On (headed log Idle turn (log.flight ++ bytes)) seen pending in
    subst P (sym idle) (subst Q (sym still) (put_first_on_at log.extent log.used log.gated log.flight log.filling log.tails bytes seen pending fits))

put_first_turn : (log : Log) (bytes seen : List ℕ) (pending : ℕ → Bool) → log.stage ≡ Idle → log.turn ≡ turn.Closed → length log.flight + length bytes ≤ BODY_ROOM → MayTurn log seen pending
    → MayTurn (record log { flight = log.flight ++ bytes }) seen pending
put_first_turn log bytes seen pending idle still fits =
    let P : Stage → Type 0 = λ stage. MayTurn (headed log stage log.turn log.flight) seen pending → MayTurn (headed log stage log.turn (log.flight ++ bytes)) seen pending in
    let Q : Turn → Type 0 = λ turn. MayTurn (headed log Idle turn log.flight) seen pending → MayTurn (headed log Idle turn (log.flight ++ bytes)) seen pending in
    subst P (sym idle) (subst Q (sym still) (put_first_turn_at log.extent log.used log.gated log.flight log.filling log.tails bytes seen pending fits))

-- what a record put first keeps, whatever is answered
pub put_first_keeps_on : (bytes : List ℕ) (old new : Log) (answer : Appended) (seen : List ℕ) (pending : ℕ → Bool) → old.stage ≡ Idle → PutsFirst bytes old new answer → On old seen pending → On new seen pending
put_first_keeps_on bytes old new (At place) seen pending idle puts on =
    let P : Log → Type 0 = λ l. On l seen pending in
    subst P (sym puts.2) (put_first_on old bytes seen pending idle puts.3 puts.0 on)
put_first_keeps_on bytes old new NoRoom seen pending idle puts on = (let P : Log → Type 0 = λ l. On l seen pending in subst P (sym puts.1) on)

pub put_first_keeps_turn : (bytes : List ℕ) (old new : Log) (answer : Appended) (seen : List ℕ) (pending : ℕ → Bool) → old.stage ≡ Idle → PutsFirst bytes old new answer → MayTurn old seen pending → MayTurn new seen pending
put_first_keeps_turn bytes old new (At place) seen pending idle puts may =
    let P : Log → Type 0 = λ l. MayTurn l seen pending in
    subst P (sym puts.2) (put_first_turn old bytes seen pending idle puts.3 puts.0 may)
put_first_keeps_turn bytes old new NoRoom seen pending idle puts may = (let P : Log → Type 0 = λ l. MayTurn l seen pending in subst P (sym puts.1) may)
