-- A step of a turn keeps the log up.
use Rattle.std.proofs.Common.{◌≡◌, ◌∙◌, sym, ap, refl, subst, inr, ℕ, ◌+◌, ◌*◌, ◌<◌, ◌≤◌, false, List, [], ◌∷◌, take, Result, Ok, Err, arith}
use Rattle.std.proofs.lemmas.List.{append-nil}
use Rattle.gx_geom.specs.declared.refusal.Refusal.{Refusal}
use Rattle.gx_disk.specs.declared.layout.TheConstants.{LOG_AT, LOG_SECTORS, PAGES_AT}
use Rattle.gx_disk.specs.Sectors.{IsWithin, IsOutside}
use Rattle.gx_disk.specs.Device.{Device, Touches, Rests, Writes}
use Rattle.gx_glog.specs.declared.extent.TheConstants.{BODY_SECTORS, EXTENT_SECTORS, PLACES}
use Rattle.gx_glog.specs.declared.extent.Extent.{Extent}
use Rattle.gx_glog.specs.declared.stage.Stage.{Stage}
use Rattle.gx_glog.specs.declared.stage.Stage.TheVariants.{Idle}
use Rattle.gx_glog.specs.declared.stage.Turn.{Turn}
use Rattle.gx_glog.specs.declared.stage.Turn.TheVariants as turn
use Rattle.gx_glog.specs.Layout.{gates_of, bodies_of, other_of, body_of, batches_of}
use Rattle.gx_glog.specs.State.{Log, after_turn, turned}
use Rattle.gx_glog.specs.State as log_state
use Rattle.gx_glog.specs.Standing.{gated_of}
use Rattle.gx_glog.specs.Turning.{TurnCallFor, TurnCalls, Selects, TouchesIn}
use Rattle.gx_glog.specs.Tails.{tail_of}
use Rattle.gx_glog.proofs.Gates.{placed, other_outside}
use Rattle.gx_glog.proofs.Keeping.{touched_kept, rested_kept, body_kept}
use Rattle.gx_glog.specs.Cuts.{bodies_in}
use Rattle.gx_recovery.specs.Known.{Known, IsLawful}
use Rattle.gx_recovery.specs.Records.{Record}
use Rattle.gx_recovery.specs.Logged.{Logged}
use Rattle.gx_recovery.specs.Renewal.{renewed}
use Rattle.gx_recovery.proofs.Bodies.{renewed_undamaged}
use Rattle.gx_recovery.proofs.Moves.{checkpoint_healthy, checkpoint_stays}
use Rattle.gx_durable.specs.Spelled.{Reading, AreRecords}
use Rattle.gx_durable.specs.Bodies.{AreBodies}
use Rattle.gx_durable.specs.Area.{area_of, is_given, IsSettledBut}
use Rattle.gx_durable.specs.Standing.{batch_of, MayRenew, Carries}
use Rattle.gx_durable.specs.Steps.{bodies_turned, GoesOn}
use Rattle.gx_durable.specs.Steps as steps
use Rattle.gx_durable.proofs.Fitting.{renewed_fit}
use Rattle.gx_durable.proofs.Heads.{touched_head}
use Rattle.gx_durable.proofs.BodyLists.{bodies_same}
use Rattle.gx_durable.proofs.Moving.{area_elsewhere, settled_elsewhere, goes_nowhere, same_goes}

-- a body of the extent that a turn leads from lies outside what its calls write
body_apart : (extent : Extent) (first n j s : ℕ) → gates_of (other_of extent) ≤ first → first + n ≤ gates_of (other_of extent) + EXTENT_SECTORS → j < PLACES → IsWithin (bodies_of extent + BODY_SECTORS * j) BODY_SECTORS s
    → IsOutside first n s
body_apart extent first n j s from to less within =
    let at = placed extent in
    other_outside extent first n s from to (record { from = omega (arith, at.bodies, within.from); below = omega (arith, at.bodies, within.below) })

written_apart : {T : Type 0} → (extent : Extent) (first n : ℕ) (bytes : List ℕ) (before now : Device) (result : Result T Refusal) → gates_of (other_of extent) ≤ first
    → first + n ≤ gates_of (other_of extent) + EXTENT_SECTORS → Writes first n bytes before now result → (j : ℕ) → j < PLACES → body_of now.seen extent j ≡ body_of before.seen extent j
written_apart extent first n bytes before now result from to writes j less =
    body_kept before.seen now.seen before.pending now.pending extent j
    (λ s within. touched_kept first n s before now writes.touches (body_apart extent first n j s from to less within))

synced_apart : (extent : Extent) (before now : Device) → Rests before now → (j : ℕ) → body_of now.seen extent j ≡ body_of before.seen extent j
synced_apart extent before now rests j = body_kept before.seen now.seen before.pending now.pending extent j (λ s within. rested_kept s before now rests)

-- a call of a turn leaves the bodies of the extent that it leads from
turn_bodies : (t : Turn) (extent : Extent) (sectors : ℕ) (head : List ℕ) (before now : Device) (result : Result Turn Refusal) → TurnCalls t (other_of extent) sectors head before now result
    → (j : ℕ) → j < PLACES → body_of now.seen extent j ≡ body_of before.seen extent j
turn_bodies turn.Closed extent sectors head before now result call j less =
    written_apart extent (gates_of (other_of extent)) PLACES call.0 before now result (omega arith) (omega arith) call.2 j less
turn_bodies turn.Body extent sectors head before now result call j less =
    let at = placed (other_of extent) in
    written_apart extent (bodies_of (other_of extent) + BODY_SECTORS * 0) sectors (take (512 * sectors) call.0) before now result (omega (arith, at.bodies)) (omega (arith, at.bodies, call.2)) call.3 j less
turn_bodies turn.BodySync extent sectors head before now result call j less = synced_apart extent before now call.rests j
turn_bodies turn.Gate extent sectors head before now result call j less =
    written_apart extent (gates_of (other_of extent) + 0) 1 call.0 before now result (omega arith) (omega arith) call.2 j less
turn_bodies turn.GateSync extent sectors head before now result call j less = synced_apart extent before now call.rests j
turn_bodies turn.Selector extent sectors head before now result call j less =
    body_kept before.seen now.seen before.pending now.pending extent j
    (λ s within. touched_kept 2 1 s before now call.2.touches (inr (let at = placed extent in omega (arith, at.from, at.bodies, within.from))))
turn_bodies turn.Done extent sectors head before now result call j less = synced_apart extent before now call.rests j

-- the only body of the extent that is selected at last is the head
pub head_body : (extent : Extent) (seen head : List ℕ) → batches_of seen extent 1 ≡ head → bodies_in seen extent 1 ≡ head ∷ []
unfolding bodies_in batches_of
head_body extent seen head is = ap (λ (body : List ℕ). body ∷ []) is

-- the sectors of the log that a call of a turn touches
pub record Front (before now : Device) : Type 0 where
  pub first : ℕ
  pub n : ℕ
  pub behind : 2 ≤ first
  pub front : first + n ≤ PAGES_AT
  pub touches : Touches first n before now

pub front_of : (t : Turn) (before now : Device) → TouchesIn t before now → Front before now
front_of turn.Closed before now touches = record { first = LOG_AT; n = LOG_SECTORS; behind = omega arith; front = omega arith; touches = touches }
front_of turn.Body before now touches = record { first = LOG_AT; n = LOG_SECTORS; behind = omega arith; front = omega arith; touches = touches }
front_of turn.BodySync before now touches = record { first = LOG_AT; n = LOG_SECTORS; behind = omega arith; front = omega arith; touches = touches }
front_of turn.Gate before now touches = record { first = LOG_AT; n = LOG_SECTORS; behind = omega arith; front = omega arith; touches = touches }
front_of turn.GateSync before now touches = record { first = LOG_AT; n = LOG_SECTORS; behind = omega arith; front = omega arith; touches = touches }
front_of turn.Selector before now touches = record { first = 2; n = 1; behind = omega arith; front = omega arith; touches = touches }
front_of turn.Done before now touches = record { first = LOG_AT; n = LOG_SECTORS; behind = omega arith; front = omega arith; touches = touches }

module _ {E P : Type 0} (k : Known E P) (l : IsLawful k) (r : Reading E P) (log : Log) (before now : Device) (bodies : List (List (Record E P))) (s : Logged E P)
    (c : Carries k r log before.sectors before.seen before.pending bodies s) (may : MayRenew k r log.flight before.sectors before.pending s) (idle : log.stage ≡ Idle) (f : Front before now) where
  same_area : (p : ℕ) → s.area p ≡ area_of r k.pages now.seen p
  same_area p = c.area p ∙ sym (area_elsewhere r k.pages before.sectors c.has_pages f.first f.n before now f.front f.touches p)

  all_settled : IsSettledBut (λ p. false) before.sectors now.pending
  all_settled = settled_elsewhere f.first f.n before.sectors before now f.front f.touches (λ p. false) may.settled

  still_none : AreRecords r [] s.flight
  still_none = let A : Stage → Type 0 = λ t. AreRecords r (batch_of t log.flight) s.flight in subst A idle c.told.flight

  goes_turning : (t : Turn) (tails : List ℕ) → bodies_in now.seen log.extent log.gated ≡ bodies_in before.seen log.extent log.gated → Carries k r (record log { turn = t; tails = tails }) before.sectors now.seen now.pending bodies s
  goes_turning t tails same = record {
    told = record {
      gated_bodies = (let B : List (List ℕ) → Type 0 = λ b. AreBodies r b bodies in subst B (sym same) c.told.gated_bodies);
      gated = c.told.gated;
      flight = c.told.flight;
      filling = c.told.filling;
    };
    undamaged = c.undamaged;
    healthy = c.healthy;
    fit = c.fit;
    has_pages = c.has_pages;
    head = touched_head k.head f.first f.n before now f.behind f.touches c.head;
    area = same_area;
    settled = settled_elsewhere f.first f.n before.sectors before now f.front f.touches (is_given s.gated) c.settled;
    turn = λ turns. record {
      no_flight = may.no_flight;
      no_filling = may.no_filling;
      written = may.written;
      settled = all_settled;
      next = may.next;
      covers = may.covers;
      head_is = may.head_is;
    };
  }

  has_turned : bodies_in now.seen (other_of log.extent) 1 ≡ log.flight ∷ []
      → Carries k r (record log { extent = other_of log.extent; used = 1; gated = 1; turn = turn.Closed; flight = [] }) before.sectors now.seen now.pending
      (renewed k may.next s.gated ∷ []) (record s { gated = renewed k may.next s.gated })
  has_turned is = record {
    told = record {
      gated_bodies = (let B : List (List ℕ) → Type 0 = λ b. AreBodies r b (renewed k may.next s.gated ∷ []) in subst B (sym is) (may.head_is, tt));
      gated = append-nil (renewed k may.next s.gated);
      flight = (let A : Stage → Type 0 = λ t. AreRecords r (batch_of t []) s.flight in subst A (sym idle) still_none);
      filling = c.told.filling;
    };
    undamaged = renewed_undamaged k l may.next s.area s.gated c.healthy.gated;
    healthy = checkpoint_healthy k l s c.healthy may.no_flight may.no_filling may.written may.next;
    fit = renewed_fit k r l may.next s may.no_flight may.no_filling may.written c.healthy.gated c.fit;
    has_pages = c.has_pages;
    head = touched_head k.head f.first f.n before now f.behind f.touches c.head;
    area = same_area;
    settled = λ p n there unnamed within. all_settled p n there refl within;
    turn = λ turns. absurd (omega arith);
  }

  module _ (few : log.gated ≤ PLACES) where
    turn_same : (result : Result Turn Refusal) → TurnCallFor log.turn log before now result → bodies_in now.seen log.extent log.gated ≡ bodies_in before.seen log.extent log.gated
    turn_same result call =
        bodies_same now.seen before.seen log.extent log.gated (λ j less. turn_bodies log.turn log.extent (tail_of log.tails (other_of log.extent) 0) log.flight before now result call j (omega arith))

    by_turn : (t : Turn) → t ≡ log.turn → TurnCallFor log.turn log before now (Ok t) → (t ≡ turn.Done → batches_of now.seen (other_of log.extent) 1 ≡ log.flight)
        → Carries k r (after_turn t log) before.sectors now.seen now.pending (bodies_turned k may.next (Ok t) bodies s) (steps.turned k may.next (Ok t) s)
    by_turn turn.Closed is call head = goes_turning turn.Body (after_turn turn.Closed log).tails (turn_same (Ok turn.Closed) call)
    by_turn turn.Body is call head = goes_turning turn.BodySync (after_turn turn.Body log).tails (turn_same (Ok turn.Body) call)
    by_turn turn.BodySync is call head = goes_turning turn.Gate (after_turn turn.BodySync log).tails (turn_same (Ok turn.BodySync) call)
    by_turn turn.Gate is call head = goes_turning turn.GateSync (after_turn turn.Gate log).tails (turn_same (Ok turn.Gate) call)
    by_turn turn.GateSync is call head = goes_turning turn.Selector (after_turn turn.GateSync log).tails (turn_same (Ok turn.GateSync) call)
    by_turn turn.Selector is call head = goes_turning turn.Done (after_turn turn.Selector log).tails (turn_same (Ok turn.Selector) call)
    by_turn turn.Done is call head = has_turned (head_body (other_of log.extent) now.seen log.flight (head refl))

    selected_head : (t : Turn) (new : Log) → t ≡ turn.Done → new ≡ after_turn t log → Selects (gated_of log before.seen) log.flight (gated_of new now.seen) (Ok t)
        → batches_of now.seen (other_of log.extent) 1 ≡ log.flight
    selected_head t new is goes selects =
        let S : Turn → Type 0 = λ u. Selects (gated_of log before.seen) log.flight (gated_of new now.seen) (Ok u) in
        let there : new ≡ after_turn turn.Done log = goes ∙ ap (λ u. after_turn u log) is in
        sym (ap (λ (x : Log). gated_of x now.seen) there) ∙ subst S is selects

    -- the turn's call that was due was made, or failed
    pub turn_carries : (new : Log) (result : Result Turn Refusal) → log_state.Turns log new result → TurnCallFor log.turn log before now result
        → Selects (gated_of log before.seen) log.flight (gated_of new now.seen) result
        → Carries k r new before.sectors now.seen now.pending (bodies_turned k may.next result bodies s) (steps.turned k may.next result s)
    turn_carries new (Ok t) turns call selects =
        let L : Log → Type 0 = λ x. Carries k r x before.sectors now.seen now.pending (bodies_turned k may.next (Ok t) bodies s) (steps.turned k may.next (Ok t) s) in
        let goes : new ≡ after_turn t log = turns.1 ∙ ap (λ u. after_turn u log) (sym turns.0) in
        subst L (sym goes) (by_turn t turns.0 call (λ is. selected_head t new is goes selects))
    turn_carries new (Err refusal) turns call selects =
        let L : Log → Type 0 = λ x. Carries k r x before.sectors now.seen now.pending bodies s in
        subst L (sym turns.1) (goes_turning log.turn log.tails (turn_same (Err refusal) call))

  pub turn_goes : (result : Result Turn Refusal) → GoesOn k s (steps.turned k may.next result s)
  turn_goes (Ok turn.Done) = same_goes k s (record s { gated = renewed k may.next s.gated }) (checkpoint_stays k l s c.healthy may.no_flight may.no_filling may.written may.next)
  turn_goes (Ok turn.Closed) = goes_nowhere k s
  turn_goes (Ok turn.Body) = goes_nowhere k s
  turn_goes (Ok turn.BodySync) = goes_nowhere k s
  turn_goes (Ok turn.Gate) = goes_nowhere k s
  turn_goes (Ok turn.GateSync) = goes_nowhere k s
  turn_goes (Ok turn.Selector) = goes_nowhere k s
  turn_goes (Err refusal) = goes_nowhere k s
