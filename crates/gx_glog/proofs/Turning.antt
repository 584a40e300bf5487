-- What each device call of a turn keeps.
use Rattle.std.proofs.Common.{◌≡◌, ◌∙◌, sym, ap, refl, inl, inr, ℕ, ◌+◌, ◌*◌, ◌<◌, ◌≤◌, ◌==◌, List, [], length, take, drop, get_or, true, false, Bool, Result, Ok, Err, subst, if◌then◌else◌, arith}
use Rattle.std.proofs.lemmas.List.{get_or-take, get_or-drop}
use Rattle.gx_geom.specs.declared.refusal.Refusal.{Refusal}
use Rattle.gx_disk.specs.declared.layout.TheConstants.{LOG_AT, LOG_SECTORS, PAGES_AT}
use Rattle.gx_disk.specs.Sectors.{span_of, IsWithin}
use Rattle.gx_disk.specs.Device.{Device, MayLeave, Elapses, Touches, Syncs, IsWritten}
use Rattle.gx_disk.specs.Moments.{Leaves}
use Rattle.gx_disk.proofs.Leaving.{call_leaves, leaves_weaker, rested_touches}
use Rattle.gx_disk.proofs.Spans.{put_back}
use Rattle.gx_glog.specs.declared.turn.TheConstants.{GATES_SIZE}
use Rattle.gx_glog.specs.declared.extent.TheConstants.{BODY_SECTORS, EXTENT_SECTORS, PLACES}
use Rattle.gx_glog.specs.declared.extent.Extent.{Extent}
use Rattle.gx_glog.specs.declared.extent.Extent.TheVariants.{A, B}
use Rattle.gx_glog.specs.declared.stage.Stage.{Stage}
use Rattle.gx_glog.specs.declared.stage.Stage.TheVariants.{Idle}
use Rattle.gx_glog.specs.declared.stage.Turn.{Turn}
use Rattle.gx_glog.specs.declared.stage.Turn.TheVariants as turn
use Rattle.gx_glog.specs.Layout.{gates_of, bodies_of, other_of, selected_of, is_open, body_of, size_in}
use Rattle.gx_glog.specs.Cuts.{bodies_in, joined, gated_bodies, ShowsBodiesIn, SelectsBodies}
use Rattle.gx_glog.specs.Reading.{IsSize}
use Rattle.gx_glog.specs.Bodies.{IsOpenGate}
use Rattle.gx_glog.specs.State.{Log, IsSound, turning, turned}
use Rattle.gx_glog.specs.Standing.{IsGate, IsSelected, ReadsClosed, HasFirst, HasHead, Leads, On, MayTurn, gated_of, ShowsIn}
use Rattle.gx_glog.specs.Tails.{AreTails, HaveTails, sectors_of, tail_of, trimmed, widened}
use Rattle.gx_glog.specs.Turning.{AreClosedGates, selector_of, IsSelector, TurnCallFor, TurnCalls, Selects, TouchesIn, KeepsTurning, GoesOnTurning, KeepsMayTurn}
use Rattle.gx_glog.proofs.Cuts.{joined_bodies, shown_bytes_in, selects_bytes}
use Rattle.gx_glog.proofs.Gates.{placed, other_outside}
use Rattle.gx_glog.proofs.Images.{head_bodies, turn_shows_bodies}
use Rattle.gx_glog.proofs.Keeping.{KeptExtent, touched_kept, rested_kept, selected_kept, extent_batches, extent_run, extent_gated, closed_kept, first_kept, head_kept, leads_kept, rested_leaves, touched_wider, on_may_turn}
use Rattle.gx_glog.proofs.Stepping.{log_at}
use Rattle.gx_glog.proofs.Tails.{are_set, are_widened, body_tail, body_whole, gates_apart, have_set, have_widened, set_there, all_gates_apart, tails_kept, tails_written, widened_covers}

-- what was written is read
pub written_back : (first n : ℕ) (bytes : List ℕ) (before now : Device) → IsWritten first n bytes before now → 512 * first + length bytes ≤ length before.seen → take (length bytes) (drop (512 * first) now.seen) ≡ bytes
written_back first n bytes before now written fits = ap (λ seen. take (length bytes) (drop (512 * first) seen)) written.seen ∙ put_back (512 * first) bytes before.seen fits

-- the first byte of a sector that was written
pub first_read : (first k n : ℕ) (bytes seen : List ℕ) → length bytes ≡ n → 512 * k < n → take (length bytes) (drop (512 * first) seen) ≡ bytes → get_or (take 512 (drop (512 * (first + k)) seen)) 0 0 ≡ get_or bytes (512 * k) 0
first_read first k n bytes seen size less reads =
    let here : get_or (take 512 (drop (512 * (first + k)) seen)) 0 0 ≡ get_or seen (512 * (first + k) + 0) 0 = get_or-take 512 (drop (512 * (first + k)) seen) 0 0 (omega arith) ∙ get_or-drop (512 * (first + k)) seen 0 0 in
    let there : get_or (take (length bytes) (drop (512 * first) seen)) (512 * k) 0 ≡ get_or seen (512 * first + 512 * k) 0 = get_or-take (length bytes) (drop (512 * first) seen) (512 * k) 0 (omega arith) ∙ get_or-drop (512 * first) seen (512 * k) 0 in
    let place : 512 * (first + k) + 0 ≡ 512 * first + 512 * k = omega arith in
    here ∙ ap (λ j. get_or seen j 0) place ∙ sym there ∙ ap (λ (ys : List ℕ). get_or ys (512 * k) 0) reads

-- the gates that were written closed read closed
closed_read : (extent : Extent) (bytes : List ℕ) (before now : Device) → AreClosedGates bytes → 512 * PAGES_AT ≤ length before.seen → IsWritten (gates_of extent) PLACES bytes before now → ReadsClosed extent now.seen
unfolding is_open span_of
closed_read extent bytes before now closed size written k below =
    let at = placed extent in
    let reads = written_back (gates_of extent) PLACES bytes before now written (omega (arith, at.bodies, at.to, closed.whole)) in
    ap (λ byte. byte == 0xA7) (first_read (gates_of extent) k GATES_SIZE bytes now.seen closed.whole (omega arith) reads ∙ closed.zeros (512 * k))

-- the gate that was written open reads open
open_read : (extent : Extent) (bytes : List ℕ) (before now : Device) → IsOpenGate bytes → 512 * PAGES_AT ≤ length before.seen → IsWritten (gates_of extent + 0) 1 bytes before now → is_open now.seen extent 0 ≡ true
unfolding is_open span_of
open_read extent bytes before now gate size written =
    let at = placed extent in
    let reads = written_back (gates_of extent + 0) 1 bytes before now written (omega (arith, at.bodies, at.to, gate.whole)) in
    let here : take 512 (drop (512 * (gates_of extent + 0)) now.seen) ≡ bytes = ap (λ n. take n (drop (512 * (gates_of extent + 0)) now.seen)) (sym gate.whole) ∙ reads in
    ap (λ (sector : List ℕ). get_or sector 0 0 == 0xA7) here ∙ ap (λ byte. byte == 0xA7) gate.opens

-- the selector that was written selects its extent
selects_by : (extent : Extent) (sector : List ℕ) → get_or sector 0 0 ≡ selector_of extent → (if get_or sector 0 0 == 0x5A then B else A) ≡ extent
selects_by A sector byte = ap (λ b. if b == 0x5A then B else A) byte
selects_by B sector byte = ap (λ b. if b == 0x5A then B else A) byte

selector_read : (extent : Extent) (bytes : List ℕ) (before now : Device) → IsSelector extent bytes → 512 * PAGES_AT ≤ length before.seen → IsWritten 2 1 bytes before now → selected_of now.seen ≡ extent
unfolding selected_of span_of
selector_read extent bytes before now selector size written =
    let reads = written_back 2 1 bytes before now written (omega (arith, selector.whole)) in
    let here : take 512 (drop (512 * 2) now.seen) ≡ bytes = ap (λ n. take n (drop (512 * 2) now.seen)) (sym selector.whole) ∙ reads in
    selects_by extent (take 512 (drop (512 * 2) now.seen)) (ap (λ (sector : List ℕ). get_or sector 0 0) here ∙ selector.selects)

-- What a call of a turn leaves unchanged, even if it fails: the extent that it leads from, and what is known of the
-- other.
record Stays (t : Turn) (extent : Extent) (head : List ℕ) (before now : Device) : Type 0 where
  pub size : length now.seen ≡ length before.seen
  pub kept : KeptExtent before.seen now.seen before.pending now.pending extent
  pub leads : Leads t extent (other_of extent) head now.seen now.pending
  pub touches : TouchesIn t before now
  pub time : Elapses before now

-- a sync
rests : {T E : Type 0} (t : Turn) (extent : Extent) (head : List ℕ) (before now : Device) (result : Result T E) → Leads t extent (other_of extent) head before.seen before.pending → Syncs before now result
    → TouchesIn t before now → Stays t extent head before now
rests t extent head before now result leads syncs touches =
    let leaves = rested_leaves before now syncs.rests in
    record {
      size = leaves.size;
      kept = λ s within. rested_kept s before now syncs.rests;
      leads = leads_kept before.seen now.seen before.pending now.pending leaves.size (rested_kept 2 before now syncs.rests) t extent (other_of extent) head (λ s within. rested_kept s before now syncs.rests) leads;
      touches = touches;
      time = syncs.time;
    }

rested_within : (before now : Device) → {T E : Type 0} (result : Result T E) → Syncs before now result → Touches LOG_AT LOG_SECTORS before now
rested_within before now result syncs = touched_wider 8 0 before now (omega arith) (omega arith) (rested_touches 8 before now syncs.rests)

-- a span of the other extent
record IsOfOther (extent : Extent) (first n : ℕ) : Type 0 where
  pub from : gates_of (other_of extent) ≤ first
  pub to : first + n ≤ gates_of (other_of extent) + EXTENT_SECTORS

module _ (extent : Extent) (first n : ℕ) (before now : Device) (lies : IsOfOther extent first n) (touches : Touches first n before now) where
  other_kept : KeptExtent before.seen now.seen before.pending now.pending extent
  other_kept s within = touched_kept first n s before now touches (other_outside extent first n s lies.from lies.to within)

  other_selected : IsSelected extent before.seen before.pending → IsSelected extent now.seen now.pending
  other_selected selected =
      let at = placed (other_of extent) in
      selected_kept before.seen now.seen before.pending now.pending extent (touched_kept first n 2 before now touches (inl (omega (arith, at.from, lies.from)))) selected

  other_touches : Touches LOG_AT LOG_SECTORS before now
  other_touches = let at = placed (other_of extent) in touched_wider first n before now (omega (arith, at.from, lies.from)) (omega (arith, at.bodies, at.to, lies.to)) touches

-- what stays, by the call
turn_stays : (t : Turn) (extent : Extent) (sectors : ℕ) (head : List ℕ) (before now : Device) (result : Result Turn Refusal) → Leads t extent (other_of extent) head before.seen before.pending
    → TurnCalls t (other_of extent) sectors head before now result → Stays t extent head before now
turn_stays turn.Closed extent sectors head before now result leads (bytes, closed, writes) =
    let lies : IsOfOther extent (gates_of (other_of extent)) PLACES = record { from = omega arith; to = omega arith } in
    record {
      size = writes.touches.size;
      kept = other_kept extent (gates_of (other_of extent)) PLACES before now lies writes.touches;
      leads = other_selected extent (gates_of (other_of extent)) PLACES before now lies writes.touches leads;
      touches = other_touches extent (gates_of (other_of extent)) PLACES before now lies writes.touches;
      time = writes.time;
    }
turn_stays turn.Body extent sectors head before now result leads (bytes, is_body, few, writes) =
    let to = other_of extent in
    let at = placed to in
    let first = bodies_of to + BODY_SECTORS * 0 in
    let lies : IsOfOther extent first sectors = record { from = omega (arith, at.bodies); to = omega (arith, at.bodies, few) } in
    record {
      size = writes.touches.size;
      kept = other_kept extent first sectors before now lies writes.touches;
      leads = (
        other_selected extent first sectors before now lies writes.touches leads.0,
        closed_kept before.seen now.seen before.pending now.pending to (λ k below. touched_kept first sectors (gates_of to + k) before now writes.touches (inl (omega (arith, at.bodies)))) leads.1,
      );
      touches = other_touches extent first sectors before now lies writes.touches;
      time = writes.time;
    }
turn_stays turn.BodySync extent sectors head before now result leads syncs = rests turn.BodySync extent head before now result leads syncs (rested_within before now result syncs)
turn_stays turn.Gate extent sectors head before now result leads (bytes, is_gate, writes) =
    let to = other_of extent in
    let at = placed to in
    let first = gates_of to + 0 in
    let lies : IsOfOther extent first 1 = record { from = omega arith; to = omega arith } in
    record {
      size = writes.touches.size;
      kept = other_kept extent first 1 before now lies writes.touches;
      leads = (
        other_selected extent first 1 before now lies writes.touches leads.0,
        first_kept before.seen now.seen before.pending now.pending to head (λ k some below. touched_kept first 1 (gates_of to + k) before now writes.touches (inr (omega arith)))
            (λ s within. touched_kept first 1 s before now writes.touches (inr (omega (arith, at.bodies, within.from)))) leads.1,
      );
      touches = other_touches extent first 1 before now lies writes.touches;
      time = writes.time;
    }
turn_stays turn.GateSync extent sectors head before now result leads syncs = rests turn.GateSync extent head before now result leads syncs (rested_within before now result syncs)
turn_stays turn.Selector extent sectors head before now result leads (bytes, selector, writes) =
    let to = other_of extent in
    let at = placed to in
    let here = placed extent in
    record {
      size = writes.touches.size;
      kept = λ s within. touched_kept 2 1 s before now writes.touches (inr (omega (arith, here.from, within.from)));
      leads = head_kept before.seen now.seen before.pending now.pending to head writes.touches.size (λ s within. touched_kept 2 1 s before now writes.touches (inr (omega (arith, at.from, within.from)))) leads;
      touches = writes.touches;
      time = writes.time;
    }
turn_stays turn.Done extent sectors head before now result leads syncs = rests turn.Done extent head before now result leads syncs (rested_within before now result syncs)

-- the head is the first batch of the other extent, once its gate is synced
pub head_stands : (extent : Extent) (head seen : List ℕ) (pending : ℕ → Bool) → 512 * PAGES_AT ≤ length seen → IsSize (length head) → HasFirst extent head seen pending → IsGate true seen pending extent 0 → HasHead extent head seen pending
head_stands extent head seen pending size fits has gate =
    let zero_is : (k : ℕ) → k < 1 → 0 ≡ k = λ k less. omega arith in
    let G : ℕ → Type 0 = λ k. IsGate true seen pending extent k in
    let B : ℕ → Type 0 = λ k. (s : ℕ) → IsWithin (bodies_of extent + BODY_SECTORS * k) BODY_SECTORS s → pending s ≡ false in
    let S : ℕ → Type 0 = λ k. IsSize (size_in (body_of seen extent k)) in
    let first : S 0 = (let F : ℕ → Type 0 = IsSize in subst F (sym has.records.size) fits) in
    record {
      batches = record {
        size = size;
        opened = λ k less. subst G (zero_is k less) gate;
        bodies = λ k less. subst B (zero_is k less) has.body;
        sizes = λ k less. subst S (zero_is k less) first;
        closed = has.closed;
      };
      records = has.records;
    }

-- what is known once a call was made
abbrev LeadsNext : Turn → Extent → List ℕ → Device → Type 0
LeadsNext turn.Closed extent head now = Leads turn.Body extent (other_of extent) head now.seen now.pending
LeadsNext turn.Body extent head now = Leads turn.BodySync extent (other_of extent) head now.seen now.pending
LeadsNext turn.BodySync extent head now = Leads turn.Gate extent (other_of extent) head now.seen now.pending
LeadsNext turn.Gate extent head now = Leads turn.GateSync extent (other_of extent) head now.seen now.pending
LeadsNext turn.GateSync extent head now = Leads turn.Selector extent (other_of extent) head now.seen now.pending
LeadsNext turn.Selector extent head now = Leads turn.Done extent (other_of extent) head now.seen now.pending
LeadsNext turn.Done extent head now = HasHead (other_of extent) head now.seen now.pending × IsSelected (other_of extent) now.seen now.pending

-- the place of the head that a turn is to write has its tail after the head, as all places have theirs
record HaveHead (t : Turn) (extent : Extent) (head tails seen : List ℕ) (pending : ℕ → Bool) : Type 0 where
  pub are : AreTails tails
  pub covers : 1 ≤ turning t → sectors_of head ≤ tail_of tails (other_of extent) 0
  pub have : HaveTails tails seen pending

turn_leads : (t : Turn) (extent : Extent) (head tails : List ℕ) (before now : Device) → 512 * PAGES_AT ≤ length before.seen → IsSize (length head) → HaveHead t extent head tails before.seen before.pending
    → TurnCalls t (other_of extent) (tail_of tails (other_of extent) 0) head before now (Ok t) → Stays t extent head before now → LeadsNext t extent head now
turn_leads turn.Closed extent head tails before now size fits have (bytes, closed, writes) stay = (stay.leads, closed_read (other_of extent) bytes before now closed size writes.written)
turn_leads turn.Body extent head tails before now size fits have (bytes, is_body, few, writes) stay =
    (stay.leads.0, stay.leads.1, body_whole tails (other_of extent) 0 head bytes before now have.are (omega arith) (have.covers (omega arith)) is_body size have.have writes.written)
turn_leads turn.BodySync extent head tails before now size fits have syncs stay = (
  stay.leads.0,
  record {
    records = stay.leads.2.has;
    body = λ s within. syncs.settled s;
    closed = λ k from below. record { reads = stay.leads.1 k below; settled = syncs.settled (gates_of (other_of extent) + k) };
  },
)
turn_leads turn.Gate extent head tails before now size fits have (bytes, is_gate, writes) stay = (stay.leads.0, stay.leads.1, open_read (other_of extent) bytes before now is_gate size writes.written)
turn_leads turn.GateSync extent head tails before now size fits have syncs stay =
    head_stands (other_of extent) head now.seen now.pending (omega (arith, stay.size)) fits stay.leads.1 (record { reads = stay.leads.2; settled = syncs.settled (gates_of (other_of extent) + 0) })
turn_leads turn.Selector extent head tails before now size fits have (bytes, selector, writes) stay = (stay.leads, selector_read (other_of extent) bytes before now selector size writes.written)
turn_leads turn.Done extent head tails before now size fits have syncs stay = (stay.leads.0, record { reads = stay.leads.1; settled = syncs.settled 2 })

at_most_one : (turn : Turn) → turning turn ≤ 1
at_most_one turn.Closed = omega arith
at_most_one turn.Body = omega arith
at_most_one turn.BodySync = omega arith
at_most_one turn.Gate = omega arith
at_most_one turn.GateSync = omega arith
at_most_one turn.Selector = omega arith
at_most_one turn.Done = omega arith

-- a call of a turn leaves all tails
turn_tails : (t : Turn) (extent : Extent) (head tails : List ℕ) (before now : Device) (result : Result Turn Refusal) → AreTails tails → HaveTails tails before.seen before.pending
    → TurnCalls t (other_of extent) (tail_of tails (other_of extent) 0) head before now result → HaveTails tails now.seen now.pending
turn_tails turn.Closed extent head tails before now result are have (bytes, closed, writes) =
    tails_kept before.seen now.seen before.pending now.pending tails
    (λ other s within. touched_kept (gates_of (other_of extent)) PLACES s before now writes.touches (all_gates_apart (other_of extent) other s within)) have
turn_tails turn.Body extent head tails before now result are have (bytes, is_body, few, writes) =
    tails_written tails (other_of extent) 0 before now are (omega arith) writes.touches have
turn_tails turn.BodySync extent head tails before now result are have syncs = tails_kept before.seen now.seen before.pending now.pending tails (λ other s within. rested_kept s before now syncs.rests) have
turn_tails turn.Gate extent head tails before now result are have (bytes, is_gate, writes) =
    tails_kept before.seen now.seen before.pending now.pending tails
    (λ other s within. touched_kept (gates_of (other_of extent) + 0) 1 s before now writes.touches (gates_apart (other_of extent) other 0 1 s (omega arith) within)) have
turn_tails turn.GateSync extent head tails before now result are have syncs = tails_kept before.seen now.seen before.pending now.pending tails (λ other s within. rested_kept s before now syncs.rests) have
turn_tails turn.Selector extent head tails before now result are have (bytes, selector, writes) =
    tails_kept before.seen now.seen before.pending now.pending tails
    (λ other s within. touched_kept 2 1 s before now writes.touches (inr (let at = placed other in omega (arith, at.bodies, at.from, within.from)))) have
turn_tails turn.Done extent head tails before now result are have syncs = tails_kept before.seen now.seen before.pending now.pending tails (λ other s within. rested_kept s before now syncs.rests) have

-- the tails once a call was made
abbrev tails_after : Turn → Extent → List ℕ → List ℕ → List ℕ
tails_after turn.Closed extent head tails = widened (other_of extent) 0 (sectors_of head) tails
tails_after turn.Body extent head tails = tails
tails_after turn.BodySync extent head tails = trimmed (other_of extent) 0 (sectors_of head) tails
tails_after turn.Gate extent head tails = tails
tails_after turn.GateSync extent head tails = tails
tails_after turn.Selector extent head tails = tails
tails_after turn.Done extent head tails = tails

-- they begin after the head, and each place reads zero from its own on
record TailsNext (t : Turn) (extent : Extent) (head tails seen : List ℕ) (pending : ℕ → Bool) : Type 0 where
  pub are : AreTails (tails_after t extent head tails)
  pub covers : sectors_of head ≤ tail_of (tails_after t extent head tails) (other_of extent) 0
  pub have : HaveTails (tails_after t extent head tails) seen pending

module _ (extent : Extent) (head tails : List ℕ) (before now : Device) (fits : length head ≤ 32764) where
  head_few : sectors_of head ≤ BODY_SECTORS
  head_few = omega (arith, fits)

  same_tails : (t : Turn) → tails_after t extent head tails ≡ tails → turning t ≡ 1 → HaveHead t extent head tails before.seen before.pending → HaveTails tails now.seen now.pending
      → TailsNext t extent head tails now.seen now.pending
  same_tails t same turns have there =
      let A : List ℕ → Type 0 = AreTails in
      let C : List ℕ → Type 0 = λ xs. sectors_of head ≤ tail_of xs (other_of extent) 0 in
      let H : List ℕ → Type 0 = λ xs. HaveTails xs now.seen now.pending in
      record { are = subst A (sym same) have.are; covers = subst C (sym same) (have.covers (omega (arith, turns))); have = subst H (sym same) there }

  tails_next : (t : Turn) → HaveHead t extent head tails before.seen before.pending → HaveTails tails now.seen now.pending
      → TurnCalls t (other_of extent) (tail_of tails (other_of extent) 0) head before now (Ok t) → Stays t extent head before now → TailsNext t extent head tails now.seen now.pending
  tails_next turn.Closed have there calls stay = record {
    are = are_widened tails have.are (other_of extent) 0 (sectors_of head) (omega arith) head_few;
    covers = widened_covers tails have.are (other_of extent) 0 (sectors_of head) (omega arith);
    have = have_widened tails have.are (other_of extent) 0 (sectors_of head) (omega arith) now.seen now.pending there;
  }
  tails_next turn.Body have there calls stay = same_tails turn.Body refl refl have there
  tails_next turn.BodySync have there syncs stay = record {
    are = are_set tails have.are (other_of extent) 0 (sectors_of head) (omega arith) head_few;
    covers = omega (arith, set_there tails have.are (other_of extent) 0 (sectors_of head) (omega arith));
    have = have_set tails have.are (other_of extent) 0 (sectors_of head) (omega arith) now.seen now.pending there
        (body_tail (other_of extent) 0 head now.seen now.pending fits stay.leads.2 syncs.settled);
  }
  tails_next turn.Gate have there calls stay = same_tails turn.Gate refl refl have there
  tails_next turn.GateSync have there calls stay = same_tails turn.GateSync refl refl have there
  tails_next turn.Selector have there calls stay = same_tails turn.Selector refl refl have there
  tails_next turn.Done have there calls stay = same_tails turn.Done refl refl have there

-- the value of a log that waits for another call of its turn is sound
waits_sound : (t next : Turn) (extent : Extent) (used gated : ℕ) (head filling tails after : List ℕ) → 1 ≤ length head → AreTails after → (1 ≤ turning next → sectors_of head ≤ tail_of after (other_of extent) 0)
    → IsSound (log_at t extent used gated Idle head filling tails) → IsSound (log_at next extent used gated Idle head filling after)
waits_sound t next extent used gated head filling tails after some are covers sound = record {
  places = sound.places;
  few = sound.few;
  one = omega (arith, at_most_one next);
  some = omega (arith, at_most_one next);
  fits = sound.fits;
  filled = sound.filled;
  room = sound.room;
  tails = are;
  batch = λ flies. absurd (omega arith);
  head = covers;
}

-- a log in the extent that was turned to
arrived : (extent : Extent) (head seen : List ℕ) (pending : ℕ → Bool) (filling tails : List ℕ) → filling ≡ [] → HasHead extent head seen pending → IsSelected extent seen pending
    → AreTails tails → HaveTails tails seen pending
    → On (record { extent = extent; used = 1; gated = 1; stage = Idle; turn = turn.Closed; flight = []; filling = filling; tails = tails }) seen pending
arrived extent head seen pending filling tails none has selected are have = record {
  sound = record {
    places = omega arith;
    few = omega arith;
    one = omega arith;
    some = omega arith;
    fits = omega arith;
    filled = (let size : length filling ≡ 0 = ap length none in omega arith);
    room = λ full. none;
    tails = are;
    batch = λ flies. absurd (omega arith);
    head = λ turns. absurd (omega arith);
  };
  batches = has.batches;
  flight = tt;
  turn = selected;
  quiet = λ turns. none;
  tails = have;
}

-- what a call of a turn does to the bodies, and leaves on the device
record TurnMoves (old new : Log) (before now : Device) (result : Result Turn Refusal) : Type 0 where
  pub stands : GoesOnTurning new now.seen now.pending result
  pub gated : SelectsBodies (gated_bodies old before.seen) old.flight (gated_bodies new now.seen) result
  pub moments : Leaves (ShowsBodiesIn old.turn old.stage (gated_bodies old before.seen) old.flight) before now
  pub touches : TouchesIn old.turn before now
  pub time : Elapses before now

-- what it says of bodies it says of their bytes
keeps_turn : (old new : Log) (before now : Device) (result : Result Turn Refusal) → TurnMoves old new before now result → KeepsMayTurn old new before now result
keeps_turn old new before now result moves =
    let was : joined (gated_bodies old before.seen) ≡ gated_of old before.seen = joined_bodies before.seen old.extent old.gated in
    let is : joined (gated_bodies new now.seen) ≡ gated_of new now.seen = joined_bodies now.seen new.extent new.gated in
    let P : List ℕ → Type 0 = λ gated. Selects gated old.flight (gated_of new now.seen) result in
    let Q : List ℕ → Type 0 = λ gated. Selects (joined (gated_bodies old before.seen)) old.flight gated result in
    let R : List ℕ → Type 0 = λ gated. Leaves (ShowsIn old.turn old.stage gated old.flight) before now in
    record {
      stands = moves.stands;
      gated = subst P was (subst Q is (selects_bytes (gated_bodies old before.seen) old.flight (gated_bodies new now.seen) result moves.gated));
      moments = subst R was (leaves_weaker (ShowsBodiesIn old.turn old.stage (gated_bodies old before.seen) old.flight) (ShowsIn old.turn old.stage (joined (gated_bodies old before.seen)) old.flight) before now (shown_bytes_in old.turn old.stage (gated_bodies old before.seen) old.flight) moves.moments);
      bodies = record { gated = moves.gated; moments = moves.moments };
      touches = moves.touches;
      time = moves.time;
    }

module _ (extent : Extent) (used gated : ℕ) (head filling : List ℕ) (before now : Device) where
  abbrev at : List ℕ → Turn → Log
  at tails t = log_at t extent used gated Idle head filling tails

  -- if the log may turn, it still may, whichever call is due
  stays_turning : (t next : Turn) (tails after : List ℕ) → IsSound (at after next) → (1 ≤ turning next → filling ≡ []) → MayTurn (at tails t) before.seen before.pending → Stays t extent head before now
      → HaveTails after now.seen now.pending → Leads next extent (other_of extent) head now.seen now.pending → MayTurn (at after next) now.seen now.pending
  stays_turning t next tails after sound quiet may stay have leads = record {
    sound = sound;
    idle = refl;
    run = extent_run before.seen now.seen before.pending now.pending extent gated stay.size stay.kept (omega (arith, may.sound.places, may.sound.few)) may.run;
    turn = leads;
    quiet = quiet;
    tails = have;
  }

  -- if the log is on the device, it still is
  stays_on : (t next : Turn) (tails after : List ℕ) → IsSound (at after next) → (1 ≤ turning next → filling ≡ []) → On (at tails t) before.seen before.pending → Stays t extent head before now
      → HaveTails after now.seen now.pending → Leads next extent (other_of extent) head now.seen now.pending → On (at after next) now.seen now.pending
  stays_on t next tails after sound quiet on stay have leads = record {
    sound = sound;
    batches = extent_batches before.seen now.seen before.pending now.pending extent gated used stay.size stay.kept (omega (arith, on.sound.places, on.sound.few)) on.batches;
    flight = tt;
    turn = leads;
    quiet = quiet;
    tails = have;
  }

  -- the log after a call that was made
  turned_on : (t : Turn) (tails : List ℕ) → 1 ≤ length head → filling ≡ [] → On (at tails t) before.seen before.pending → Stays t extent head before now → TailsNext t extent head tails now.seen now.pending
      → LeadsNext t extent head now → On (turned (at tails t)) now.seen now.pending
  turned_on turn.Closed tails some none on stay next leads =
      let after = tails_after turn.Closed extent head tails in
      stays_on turn.Closed turn.Body tails after (waits_sound turn.Closed turn.Body extent used gated head filling tails after some next.are (λ turns. next.covers) on.sound) (λ turns. none) on stay next.have leads
  turned_on turn.Body tails some none on stay next leads =
      let after = tails_after turn.Body extent head tails in
      stays_on turn.Body turn.BodySync tails after (waits_sound turn.Body turn.BodySync extent used gated head filling tails after some next.are (λ turns. next.covers) on.sound) (λ turns. none) on stay next.have leads
  turned_on turn.BodySync tails some none on stay next leads =
      let after = tails_after turn.BodySync extent head tails in
      stays_on turn.BodySync turn.Gate tails after (waits_sound turn.BodySync turn.Gate extent used gated head filling tails after some next.are (λ turns. next.covers) on.sound) (λ turns. none) on stay next.have leads
  turned_on turn.Gate tails some none on stay next leads =
      let after = tails_after turn.Gate extent head tails in
      stays_on turn.Gate turn.GateSync tails after (waits_sound turn.Gate turn.GateSync extent used gated head filling tails after some next.are (λ turns. next.covers) on.sound) (λ turns. none) on stay next.have leads
  turned_on turn.GateSync tails some none on stay next leads =
      let after = tails_after turn.GateSync extent head tails in
      stays_on turn.GateSync turn.Selector tails after (waits_sound turn.GateSync turn.Selector extent used gated head filling tails after some next.are (λ turns. next.covers) on.sound) (λ turns. none) on stay next.have leads
  turned_on turn.Selector tails some none on stay next leads =
      let after = tails_after turn.Selector extent head tails in
      stays_on turn.Selector turn.Done tails after (waits_sound turn.Selector turn.Done extent used gated head filling tails after some next.are (λ turns. next.covers) on.sound) (λ turns. none) on stay next.have leads
  turned_on turn.Done tails some none on stay next leads = arrived (other_of extent) head now.seen now.pending filling tails none leads.0 leads.1 next.are next.have

  turned_goes : (t : Turn) (tails : List ℕ) → 1 ≤ length head → filling ≡ [] → MayTurn (at tails t) before.seen before.pending → Stays t extent head before now → TailsNext t extent head tails now.seen now.pending
      → LeadsNext t extent head now → GoesOnTurning (turned (at tails t)) now.seen now.pending (Ok t)
  turned_goes turn.Closed tails some none may stay next leads =
      let after = tails_after turn.Closed extent head tails in
      stays_turning turn.Closed turn.Body tails after (waits_sound turn.Closed turn.Body extent used gated head filling tails after some next.are (λ turns. next.covers) may.sound) (λ turns. none) may stay next.have leads
  turned_goes turn.Body tails some none may stay next leads =
      let after = tails_after turn.Body extent head tails in
      stays_turning turn.Body turn.BodySync tails after (waits_sound turn.Body turn.BodySync extent used gated head filling tails after some next.are (λ turns. next.covers) may.sound) (λ turns. none) may stay next.have leads
  turned_goes turn.BodySync tails some none may stay next leads =
      let after = tails_after turn.BodySync extent head tails in
      stays_turning turn.BodySync turn.Gate tails after (waits_sound turn.BodySync turn.Gate extent used gated head filling tails after some next.are (λ turns. next.covers) may.sound) (λ turns. none) may stay next.have leads
  turned_goes turn.Gate tails some none may stay next leads =
      let after = tails_after turn.Gate extent head tails in
      stays_turning turn.Gate turn.GateSync tails after (waits_sound turn.Gate turn.GateSync extent used gated head filling tails after some next.are (λ turns. next.covers) may.sound) (λ turns. none) may stay next.have leads
  turned_goes turn.GateSync tails some none may stay next leads =
      let after = tails_after turn.GateSync extent head tails in
      stays_turning turn.GateSync turn.Selector tails after (waits_sound turn.GateSync turn.Selector extent used gated head filling tails after some next.are (λ turns. next.covers) may.sound) (λ turns. none) may stay next.have leads
  turned_goes turn.Selector tails some none may stay next leads =
      let after = tails_after turn.Selector extent head tails in
      stays_turning turn.Selector turn.Done tails after (waits_sound turn.Selector turn.Done extent used gated head filling tails after some next.are (λ turns. next.covers) may.sound) (λ turns. none) may stay next.have leads
  turned_goes turn.Done tails some none may stay next leads = arrived (other_of extent) head now.seen now.pending filling tails none leads.0 leads.1 next.are next.have

  -- the gated bodies after it
  turn_selects : (t : Turn) (tails : List ℕ) → bodies_in now.seen extent gated ≡ bodies_in before.seen extent gated → LeadsNext t extent head now
      → SelectsBodies (bodies_in before.seen extent gated) head (gated_bodies (turned (at tails t)) now.seen) (Ok t)
  turn_selects turn.Closed tails same leads = same
  turn_selects turn.Body tails same leads = same
  turn_selects turn.BodySync tails same leads = same
  turn_selects turn.Gate tails same leads = same
  turn_selects turn.GateSync tails same leads = same
  turn_selects turn.Selector tails same leads = same
  turn_selects turn.Done tails same leads = head_bodies (other_of extent) head now.seen now.pending leads.0

  -- each image at each moment of a call
  stay_moments : (t : Turn) (tails : List ℕ) → Elapses before now → bodies_in now.seen extent gated ≡ bodies_in before.seen extent gated → MayTurn (at tails t) now.seen now.pending
      → Leaves (ShowsBodiesIn t Idle (bodies_in before.seen extent gated) head) before now
  stay_moments t tails time same may =
      let P : List (List ℕ) → Type 0 = λ bodies. (image : List ℕ) → MayLeave now image → ShowsBodiesIn t Idle bodies head image in
      call_leaves (ShowsBodiesIn t Idle (bodies_in before.seen extent gated) head) before now time (subst P same (λ image left. turn_shows_bodies (at tails t) now.seen now.pending image may left))

  module _ (t : Turn) (tails : List ℕ) (may : MayTurn (at tails t) before.seen before.pending) where
    abbrev sectors : ℕ
    sectors = tail_of tails (other_of extent) 0

    may_head : HaveHead t extent head tails before.seen before.pending
    may_head = record { are = may.sound.tails; covers = may.sound.head; have = may.tails }

    same_batches : Stays t extent head before now → bodies_in now.seen extent gated ≡ bodies_in before.seen extent gated
    same_batches stay = extent_gated before.seen now.seen before.pending now.pending extent gated stay.kept (omega (arith, may.sound.places, may.sound.few))

    still_turning : Stays t extent head before now → HaveTails tails now.seen now.pending → MayTurn (at tails t) now.seen now.pending
    still_turning stay have = stays_turning t t tails tails may.sound may.quiet may stay have stay.leads

    made_at_rest : 1 ≤ length head → filling ≡ [] → TurnCalls t (other_of extent) sectors head before now (Ok t) → TurnMoves (at tails t) (turned (at tails t)) before now (Ok t)
    made_at_rest some none calls =
        let stay : Stays t extent head before now = turn_stays t extent sectors head before now (Ok t) may.turn calls in
        let have : HaveTails tails now.seen now.pending = turn_tails t extent head tails before now (Ok t) may.sound.tails may.tails calls in
        let leads : LeadsNext t extent head now = turn_leads t extent head tails before now may.run.size (some, may.sound.fits) may_head calls stay in
        record {
          stands = turned_goes t tails some none may stay (tails_next extent head tails before now may.sound.fits t may_head have calls stay) leads;
          gated = turn_selects t tails (same_batches stay) leads;
          moments = stay_moments t tails stay.time (same_batches stay) (still_turning stay have);
          touches = stay.touches;
          time = stay.time;
        }

    failed_at_rest : (refusal : Refusal) → TurnCalls t (other_of extent) sectors head before now (Err refusal) → TurnMoves (at tails t) (at tails t) before now (Err refusal)
    failed_at_rest refusal calls =
        let stay : Stays t extent head before now = turn_stays t extent sectors head before now (Err refusal) may.turn calls in
        let have : HaveTails tails now.seen now.pending = turn_tails t extent head tails before now (Err refusal) may.sound.tails may.tails calls in
        record {
          stands = still_turning stay have;
          gated = same_batches stay;
          moments = stay_moments t tails stay.time (same_batches stay) (still_turning stay have);
          touches = stay.touches;
          time = stay.time;
        }

  module _ (t : Turn) (tails : List ℕ) (on : On (at tails t) before.seen before.pending) where
    on_head : HaveHead t extent head tails before.seen before.pending
    on_head = record { are = on.sound.tails; covers = on.sound.head; have = on.tails }

    made_on : 1 ≤ length head → filling ≡ [] → TurnCalls t (other_of extent) (tail_of tails (other_of extent) 0) head before now (Ok t) → On (turned (at tails t)) now.seen now.pending
    made_on some none calls =
        let stay : Stays t extent head before now = turn_stays t extent (tail_of tails (other_of extent) 0) head before now (Ok t) on.turn calls in
        let have : HaveTails tails now.seen now.pending = turn_tails t extent head tails before now (Ok t) on.sound.tails on.tails calls in
        turned_on t tails some none on stay (tails_next extent head tails before now on.sound.fits t on_head have calls stay)
        (turn_leads t extent head tails before now on.batches.size (some, on.sound.fits) on_head calls stay)

    failed_on : (refusal : Refusal) → TurnCalls t (other_of extent) (tail_of tails (other_of extent) 0) head before now (Err refusal) → On (at tails t) now.seen now.pending
    failed_on refusal calls =
        let stay : Stays t extent head before now = turn_stays t extent (tail_of tails (other_of extent) 0) head before now (Err refusal) on.turn calls in
        let have : HaveTails tails now.seen now.pending = turn_tails t extent head tails before now (Err refusal) on.sound.tails on.tails calls in
        stays_on t t tails tails on.sound on.quiet on stay have stay.leads

-- the log at a stage
abbrev staged : Log → Stage → Log
staged log stage = log_at log.turn log.extent log.used log.gated stage log.flight log.filling log.tails

-- what a call of a turn that was made keeps
module _ (log new : Log) (call : Turn) (before now : Device) (idle : log.stage ≡ Idle) (none : log.filling ≡ []) (some : 1 ≤ length log.flight) (is : call ≡ log.turn) (goes : new ≡ turned log)
    (calls : TurnCallFor log.turn log before now (Ok call)) where
  -- the same call, by the turn's name
  own_call : TurnCallFor log.turn log before now (Ok log.turn)
  own_call = (let C : Turn → Type 0 = λ c. TurnCallFor log.turn log before now (Ok c) in subst C is calls)

  pub turn_made_may : MayTurn log before.seen before.pending → KeepsMayTurn log new before now (Ok call)
  turn_made_may may =
      let C : Turn → Type 0 = λ c. TurnMoves log (turned log) before now (Ok c) in
      let L : Log → Type 0 = λ l. TurnMoves log l before now (Ok call) in
      let R : Stage → Type 0 = λ s. MayTurn (staged log s) before.seen before.pending → TurnMoves (staged log s) (turned (staged log s)) before now (Ok log.turn) in
      let rest : R log.stage = subst R (sym idle) (λ m. made_at_rest log.extent log.used log.gated log.flight log.filling before now log.turn log.tails m some none own_call) in
      keeps_turn log new before now (Ok call) (subst L (sym goes) (subst C (sym is) (rest may)))

  pub turn_made : On log before.seen before.pending → KeepsTurning log new before now (Ok call)
  turn_made on =
      let L : Log → Type 0 = λ l. On l now.seen now.pending in
      let R : Stage → Type 0 = λ s. On (staged log s) before.seen before.pending → On (turned (staged log s)) now.seen now.pending in
      let rest : R log.stage = subst R (sym idle) (λ o. made_on log.extent log.used log.gated log.flight log.filling before now log.turn log.tails o some none own_call) in
      let keeps : KeepsMayTurn log new before now (Ok call) = turn_made_may (on_may_turn log before.seen before.pending idle on) in
      record { on = subst L (sym goes) (rest on); gated = keeps.gated; moments = keeps.moments; bodies = keeps.bodies; touches = keeps.touches; time = keeps.time }

-- and one that failed
module _ (log new : Log) (refusal : Refusal) (before now : Device) (idle : log.stage ≡ Idle) (goes : new ≡ log) (calls : TurnCallFor log.turn log before now (Err refusal)) where
  pub turn_failed_may : MayTurn log before.seen before.pending → KeepsMayTurn log new before now (Err refusal)
  turn_failed_may may =
      let L : Log → Type 0 = λ l. TurnMoves log l before now (Err refusal) in
      let R : Stage → Type 0 = λ s. MayTurn (staged log s) before.seen before.pending → TurnMoves (staged log s) (staged log s) before now (Err refusal) in
      let rest : R log.stage = subst R (sym idle) (λ m. failed_at_rest log.extent log.used log.gated log.flight log.filling before now log.turn log.tails m refusal calls) in
      keeps_turn log new before now (Err refusal) (subst L (sym goes) (rest may))

  pub turn_failed : On log before.seen before.pending → KeepsTurning log new before now (Err refusal)
  turn_failed on =
      let L : Log → Type 0 = λ l. On l now.seen now.pending in
      let R : Stage → Type 0 = λ s. On (staged log s) before.seen before.pending → On (staged log s) now.seen now.pending in
      let rest : R log.stage = subst R (sym idle) (λ o. failed_on log.extent log.used log.gated log.flight log.filling before now log.turn log.tails o refusal calls) in
      let keeps : KeepsMayTurn log new before now (Err refusal) = turn_failed_may (on_may_turn log before.seen before.pending idle on) in
      record { on = subst L (sym goes) (rest on); gated = keeps.gated; moments = keeps.moments; bodies = keeps.bodies; touches = keeps.touches; time = keeps.time }
