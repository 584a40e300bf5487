-- The bodies that are read of an image say sizes that are in range.
use Rattle.std.proofs.Common.{◌≡◌, ◌∙◌, sym, subst, ap, refl, ⊎_elim, ℕ, ◌+◌, ◌<◌, ◌≤◌, Bool, true, false, List, length, below_more, arith}
use Rattle.gx_disk.specs.Device.{IsImage}
use Rattle.gx_glog.specs.declared.extent.TheConstants.{BODY_ROOM, PLACES}
use Rattle.gx_glog.specs.declared.extent.Extent.{Extent}
use Rattle.gx_glog.specs.declared.stage.Stage.{Stage}
use Rattle.gx_glog.specs.declared.stage.Stage.TheVariants.{Body, BodySync, Gate, GateSync, Idle}
use Rattle.gx_glog.specs.declared.stage.Turn.{Turn}
use Rattle.gx_glog.specs.declared.stage.Turn.TheVariants as turn
use Rattle.gx_glog.specs.Bodies.{HasRecords}
use Rattle.gx_glog.specs.Layout.{other_of, selected_of, is_open, body_of, size_in, open_run}
use Rattle.gx_glog.specs.Reading.{IsSize}
use Rattle.gx_glog.specs.Standing.{Flies, HasBatches, HasHead, IsBodySettled, Leads, MayTurn, On}
use Rattle.gx_glog.specs.State.{Log, in_flight}
use Rattle.gx_glog.proofs.Gates.{either_extent, run_is}
use Rattle.gx_glog.proofs.Images.{image_body, image_gate, image_selects}
use Rattle.gx_durable.specs.Fitting.{HasSizes}

-- an image with so many gates open in a row
run_sizes : (extent : Extent) (n : ℕ) (image : List ℕ) → selected_of image ≡ extent → n ≤ PLACES → ((k : ℕ) → k < n → is_open image extent k ≡ true) → (n < PLACES → is_open image extent n ≡ false)
    → ((k : ℕ) → k < n → IsSize (size_in (body_of image extent k))) → HasSizes image
run_sizes extent n image selects few opened closed sizes j less =
    let there : 0 + n ≡ n = omega arith in
    let run : open_run image extent 0 PLACES ≡ n = run_is extent PLACES 0 n image few (λ i from below. opened i (omega (arith, below))) (λ short. ap (λ i. is_open image extent i) there ∙ closed short) in
    let here : open_run image (selected_of image) 0 PLACES ≡ n = ap (λ (x : Extent). open_run image x 0 PLACES) selects ∙ run in
    subst (λ (x : Extent). IsSize (size_in (body_of image x j))) (sym selects) (sizes j (omega (arith, less, here)))

flight_size : (flight body : List ℕ) → HasRecords flight body → 1 ≤ length flight → length flight ≤ BODY_ROOM → IsSize (size_in body)
flight_size flight body has some few = let size = has.size in (omega (arith, size, some), omega (arith, size, few))

module _ (seen : List ℕ) (pending : ℕ → Bool) (extent : Extent) (gated used : ℕ) (image : List ℕ) (has : HasBatches extent gated used seen pending) (may : IsImage seen pending image)
    (selects : selected_of image ≡ extent) where
  opened_there : (k : ℕ) → k < gated → is_open image extent k ≡ true
  opened_there k less = image_gate true seen pending extent k image (has.opened k less) may

  size_there : (k : ℕ) → IsBodySettled pending extent k → IsSize (size_in (body_of seen extent k)) → IsSize (size_in (body_of image extent k))
  size_there k settled size = subst (λ (body : List ℕ). IsSize (size_in body)) (sym (image_body seen pending extent k image settled may)) size

  gated_sizes : (k : ℕ) → k < gated → IsSize (size_in (body_of image extent k))
  gated_sizes k less = size_there k (has.bodies k less) (has.sizes k less)

  -- the gate behind the gated ones is closed
  closed_sizes : gated ≤ PLACES → (gated < PLACES → is_open image extent gated ≡ false) → HasSizes image
  closed_sizes few closed = run_sizes extent gated image selects few opened_there closed gated_sizes

  -- or it is open, over a body that is settled
  open_sizes : gated < PLACES → used ≡ gated + 1 → IsSize (size_in (body_of seen extent gated)) → IsBodySettled pending extent gated → is_open image extent gated ≡ true → HasSizes image
  open_sizes few places size settled is_opened =
      run_sizes extent (gated + 1) image selects (omega (arith, few)) (below_more (λ k. is_open image extent k ≡ true) gated opened_there is_opened)
      (λ less. image_gate false seen pending extent (gated + 1) image (has.closed (gated + 1) (omega (arith, places)) less) may)
      (below_more (λ k. IsSize (size_in (body_of image extent k))) gated gated_sizes (size_there gated settled size))

  by_gate : (b : Bool) → is_open image extent gated ≡ b → gated < PLACES → used ≡ gated + 1 → IsSize (size_in (body_of seen extent gated)) → IsBodySettled pending extent gated → HasSizes image
  by_gate false gate few places size settled = closed_sizes (omega (arith, few)) (λ less. gate)
  by_gate true gate few places size settled = open_sizes few places size settled gate

  -- with the batch in flight or without
  by_stage : (stage : Stage) (flight : List ℕ) → used ≡ gated + in_flight stage → used ≤ PLACES → Flies stage extent gated flight seen pending → (1 ≤ in_flight stage → 1 ≤ length flight) → length flight ≤ BODY_ROOM → HasSizes image
  by_stage Idle flight places few flies some fits =
      closed_sizes (omega (arith, places, few)) (λ less. image_gate false seen pending extent gated image (has.closed gated (omega (arith, places)) less) may)
  by_stage Body flight places few flies some fits = closed_sizes (omega (arith, places, few)) (λ less. image_gate false seen pending extent gated image flies may)
  by_stage BodySync flight places few flies some fits = closed_sizes (omega (arith, places, few)) (λ less. image_gate false seen pending extent gated image flies.0 may)
  by_stage Gate flight places few flies some fits =
      by_gate (is_open image extent gated) refl (omega (arith, places, few)) places (flight_size flight (body_of seen extent gated) flies.0 (some (omega arith)) fits) flies.1
  by_stage GateSync flight places few flies some fits =
      by_gate (is_open image extent gated) refl (omega (arith, places, few)) places (flight_size flight (body_of seen extent gated) flies.0 (some (omega arith)) fits) flies.1

-- an image that selects the extent of a head
head_sizes : (extent : Extent) (head seen : List ℕ) (pending : ℕ → Bool) (image : List ℕ) → HasHead extent head seen pending → IsImage seen pending image → selected_of image ≡ extent → HasSizes image
head_sizes extent head seen pending image has may selects =
    closed_sizes seen pending extent 1 1 image has.batches may selects (omega arith) (λ less. image_gate false seen pending extent 1 image (has.batches.closed 1 (omega arith) less) may)

either_sizes : (extent : Extent) (head seen : List ℕ) (pending : ℕ → Bool) (image : List ℕ) → (selected_of image ≡ extent → HasSizes image) → HasHead (other_of extent) head seen pending
    → IsImage seen pending image → HasSizes image
either_sizes extent head seen pending image here has may =
    ⊎_elim here (λ (other : selected_of image ≡ other_of extent). head_sizes (other_of extent) head seen pending image has may other) (either_extent extent (selected_of image))

by_turn : (t : Turn) (extent : Extent) (head seen : List ℕ) (pending : ℕ → Bool) (image : List ℕ) → (selected_of image ≡ extent → HasSizes image) → Leads t extent (other_of extent) head seen pending
    → IsImage seen pending image → HasSizes image
by_turn turn.Closed extent head seen pending image here leads may = here (image_selects extent seen pending image leads may)
by_turn turn.Body extent head seen pending image here leads may = here (image_selects extent seen pending image leads.0 may)
by_turn turn.BodySync extent head seen pending image here leads may = here (image_selects extent seen pending image leads.0 may)
by_turn turn.Gate extent head seen pending image here leads may = here (image_selects extent seen pending image leads.0 may)
by_turn turn.GateSync extent head seen pending image here leads may = here (image_selects extent seen pending image leads.0 may)
by_turn turn.Selector extent head seen pending image here leads may = either_sizes extent head seen pending image here leads may
by_turn turn.Done extent head seen pending image here leads may = either_sizes extent head seen pending image here leads.0 may

-- of a device that a log is on
pub image_sizes : (log : Log) (seen : List ℕ) (pending : ℕ → Bool) (image : List ℕ) → On log seen pending → IsImage seen pending image → HasSizes image
image_sizes log seen pending image on may =
    by_turn log.turn log.extent log.flight seen pending image
    (λ selects. by_stage seen pending log.extent log.gated log.used image on.batches may selects log.stage log.flight on.sound.places on.sound.few on.flight
    (λ flies. (let some = on.sound.some in omega (arith, flies, some))) on.sound.fits) on.turn may

-- and of one that it may turn on
pub turn_sizes : (log : Log) (seen : List ℕ) (pending : ℕ → Bool) (image : List ℕ) → MayTurn log seen pending → IsImage seen pending image → HasSizes image
turn_sizes log seen pending image turns may =
    let few : log.gated ≤ PLACES = (let places = turns.sound.places in let all = turns.sound.few in omega (arith, places, all)) in
    let run = turns.run in
    by_turn log.turn log.extent log.flight seen pending image
    (λ selects. run_sizes log.extent log.gated image selects few (λ k less. image_gate true seen pending log.extent k image (run.opened k less) may)
    (λ less. image_gate false seen pending log.extent log.gated image (run.ends less) may)
    (λ k less. subst (λ (body : List ℕ). IsSize (size_in body)) (sym (image_body seen pending log.extent k image (run.bodies k less) may)) (run.sizes k less)))
    turns.turn may
