-- Which bodies and which log an image has, of a device that a log is on.
use Rattle.std.proofs.Common.{◌≡◌, ◌∙◌, sym, subst, ap, refl, ◌⊎◌, inl, inr, ⊎_elim, ℕ, ◌+◌, ◌<◌, ◌≤◌, List, [], ◌∷◌, ◌++◌, true, false, Bool, below_more, arith}
use Rattle.gx_disk.specs.Device.{IsImage}
use Rattle.gx_glog.specs.declared.extent.TheConstants.{PLACES}
use Rattle.gx_glog.specs.declared.extent.Extent.{Extent}
use Rattle.gx_glog.specs.declared.stage.Stage.{Stage}
use Rattle.gx_glog.specs.declared.stage.Stage.TheVariants.{Body, BodySync, Gate, GateSync, Idle}
use Rattle.gx_glog.specs.declared.stage.Turn.{Turn}
use Rattle.gx_glog.specs.declared.stage.Turn.TheVariants as turn
use Rattle.gx_glog.specs.Layout.{gates_of, other_of, selected_of, is_open, body_of, records_in, log_of}
use Rattle.gx_glog.specs.Cuts.{bodies_in, open_bodies, gated_bodies, AreBodiesOf, ShowsBodies, ShowsBodiesIn}
use Rattle.gx_glog.specs.Bodies.{HasRecords}
use Rattle.gx_glog.specs.State.{Log, in_flight, turning}
use Rattle.gx_glog.specs.Standing.{IsGate, IsBodySettled, IsSelected, HasBatches, HasRun, HasHead, Flies, Leads, On, MayTurn, gated_of, Shows, ShowsIn}
use Rattle.gx_glog.proofs.Cuts.{joined_bodies, shown_bytes, shown_bytes_in}
use Rattle.gx_glog.proofs.Gates.{either_extent, gate_same, selector_same, body_same, bodies_same, bodies_more, bodies_are}

pub image_gate : (state : Bool) (seen : List ℕ) (pending : ℕ → Bool) (extent : Extent) (k : ℕ) (image : List ℕ) → IsGate state seen pending extent k → IsImage seen pending image → is_open image extent k ≡ state
image_gate state seen pending extent k image gate may = gate_same extent k image seen (may.settled (gates_of extent + k) gate.settled) ∙ gate.reads

pub image_body : (seen : List ℕ) (pending : ℕ → Bool) (extent : Extent) (k : ℕ) (image : List ℕ) → IsBodySettled pending extent k → IsImage seen pending image → body_of image extent k ≡ body_of seen extent k
image_body seen pending extent k image settled may = body_same extent k image seen (λ s within. may.settled s (settled s within))

-- an image has the gated bodies
pub image_bodies : (seen : List ℕ) (pending : ℕ → Bool) (extent : Extent) (n : ℕ) (image : List ℕ) → ((k : ℕ) → k < n → IsBodySettled pending extent k) → IsImage seen pending image
    → bodies_in image extent n ≡ bodies_in seen extent n
image_bodies seen pending extent n image settled may = bodies_same extent n image seen (λ k less. image_body seen pending extent k image (settled k less) may)

-- the bodies of an image if so many gates in a row are open
pub run_log : (extent : Extent) (run : ℕ) (seen : List ℕ) (pending : ℕ → Bool) (image : List ℕ) → run ≤ PLACES → HasRun extent run seen pending → IsImage seen pending image → selected_of image ≡ extent
    → open_bodies image ≡ bodies_in seen extent run
run_log extent run seen pending image few has may selects =
    bodies_are extent run image selects few (λ k less. image_gate true seen pending extent k image (has.opened k less) may) (λ less. image_gate false seen pending extent run image (has.ends less) may)
    ∙ image_bodies seen pending extent run image has.bodies may

module _ (seen : List ℕ) (pending : ℕ → Bool) (extent : Extent) (gated used : ℕ) (image : List ℕ) (has : HasBatches extent gated used seen pending) (may : IsImage seen pending image)
    (selects : selected_of image ≡ extent) where
  image_opened : (k : ℕ) → k < gated → is_open image extent k ≡ true
  image_opened k less = image_gate true seen pending extent k image (has.opened k less) may

  -- the bodies of an image whose gate after the gated ones is closed
  pub closed_log : gated ≤ PLACES → (gated < PLACES → is_open image extent gated ≡ false) → open_bodies image ≡ bodies_in seen extent gated
  closed_log few closed = bodies_are extent gated image selects few image_opened closed ∙ image_bodies seen pending extent gated image has.bodies may

  -- the bodies of an image whose gate after the gated ones is open, over a body that has these records
  open_log : (flight : List ℕ) → gated < PLACES → used ≡ gated + 1 → HasRecords flight (body_of seen extent gated) → IsBodySettled pending extent gated → is_open image extent gated ≡ true
      → open_bodies image ≡ bodies_in seen extent gated ++ (flight ∷ [])
  open_log flight few places body settled is_opened =
      let opened : (k : ℕ) → k < gated + 1 → is_open image extent k ≡ true = below_more (λ k. is_open image extent k ≡ true) gated image_opened is_opened in
      let closed : gated + 1 < PLACES → is_open image extent (gated + 1) ≡ false = λ less. image_gate false seen pending extent (gated + 1) image (has.closed (gated + 1) (omega arith) less) may in
      let whole : open_bodies image ≡ bodies_in image extent (gated + 1) = bodies_are extent (gated + 1) image selects (omega arith) opened closed in
      let last : records_in (body_of image extent gated) ≡ flight = ap records_in (image_body seen pending extent gated image settled may) ∙ body.bytes in
      let before : bodies_in image extent gated ≡ bodies_in seen extent gated = image_bodies seen pending extent gated image has.bodies may in
      whole ∙ bodies_more extent gated image ∙ rw (before, last) refl

  by_gate : (flight : List ℕ) (b : Bool) → is_open image extent gated ≡ b → gated < PLACES → used ≡ gated + 1 → HasRecords flight (body_of seen extent gated) → IsBodySettled pending extent gated
      → AreBodiesOf (bodies_in seen extent gated) flight image
  by_gate flight false gate few places body settled = inl (closed_log (omega arith) (λ less. gate))
  by_gate flight true gate few places body settled = inr (open_log flight few places body settled gate)

  -- the bodies of an image if the one after the gated ones is settled: its gate decides
  pub either_log : (flight : List ℕ) → gated < PLACES → used ≡ gated + 1 → HasRecords flight (body_of seen extent gated) → IsBodySettled pending extent gated
      → AreBodiesOf (bodies_in seen extent gated) flight image
  either_log flight few places body settled = by_gate flight (is_open image extent gated) refl few places body settled

shows : (stage : Stage) (extent : Extent) (used gated : ℕ) (flight : List ℕ) (seen : List ℕ) (pending : ℕ → Bool) (image : List ℕ) → used ≡ gated + in_flight stage → used ≤ PLACES
    → HasBatches extent gated used seen pending → Flies stage extent gated flight seen pending → IsImage seen pending image → selected_of image ≡ extent
    → ShowsBodies stage (bodies_in seen extent gated) flight image
shows Idle extent used gated flight seen pending image places few has flies may selects =
    closed_log seen pending extent gated used image has may selects (omega arith)
    (λ less. image_gate false seen pending extent gated image (has.closed gated (omega arith) less) may)
shows Body extent used gated flight seen pending image places few has flies may selects =
    closed_log seen pending extent gated used image has may selects (omega arith) (λ less. image_gate false seen pending extent gated image flies may)
shows BodySync extent used gated flight seen pending image places few has flies may selects =
    closed_log seen pending extent gated used image has may selects (omega arith) (λ less. image_gate false seen pending extent gated image flies.0 may)
shows Gate extent used gated flight seen pending image places few has flies may selects =
    either_log seen pending extent gated used image has may selects flight (omega arith) places flies.0 flies.1
shows GateSync extent used gated flight seen pending image places few has flies may selects =
    either_log seen pending extent gated used image has may selects flight (omega arith) places flies.0 flies.1

-- an image that selects the log's extent has what is gated, with what is in flight or without
pub selected_shows_bodies : (log : Log) (seen : List ℕ) (pending : ℕ → Bool) (image : List ℕ) → On log seen pending → IsImage seen pending image → selected_of image ≡ log.extent
    → ShowsBodies log.stage (gated_bodies log seen) log.flight image
selected_shows_bodies log seen pending image on may selects =
    shows log.stage log.extent log.used log.gated log.flight seen pending image on.sound.places on.sound.few on.batches on.flight may selects

-- the bodies of an extent whose first one is the head's are that one
pub head_bodies : (extent : Extent) (head seen : List ℕ) (pending : ℕ → Bool) → HasHead extent head seen pending → bodies_in seen extent 1 ≡ head ∷ []
unfolding bodies_in
head_bodies extent head seen pending has = ap (λ (records : List ℕ). records ∷ []) has.records.bytes

-- an image that selects that extent has the head
pub head_shows_bodies : (extent : Extent) (head seen : List ℕ) (pending : ℕ → Bool) (image : List ℕ) → HasHead extent head seen pending → IsImage seen pending image → selected_of image ≡ extent → open_bodies image ≡ head ∷ []
head_shows_bodies extent head seen pending image has may selects =
    closed_log seen pending extent 1 1 image has.batches may selects (omega arith) (λ less. image_gate false seen pending extent 1 image (has.batches.closed 1 (omega arith) less) may)
    ∙ head_bodies extent head seen pending has

-- if the selector is settled, each image selects the extent
pub image_selects : (extent : Extent) (seen : List ℕ) (pending : ℕ → Bool) (image : List ℕ) → IsSelected extent seen pending → IsImage seen pending image → selected_of image ≡ extent
image_selects extent seen pending image selected may = selector_same image seen (may.settled 2 selected.settled) ∙ selected.reads

-- a log without a batch in flight shows the gated bodies
pub shows_gated_bodies : (stage : Stage) (gated : List (List ℕ)) (flight image : List ℕ) → in_flight stage ≡ 0 → ShowsBodies stage gated flight image → open_bodies image ≡ gated
shows_gated_bodies Idle gated flight image none has = has
shows_gated_bodies Body gated flight image none has = has
shows_gated_bodies BodySync gated flight image none has = has
shows_gated_bodies Gate gated flight image none has = absurd (omega arith)
shows_gated_bodies GateSync gated flight image none has = absurd (omega arith)

-- from the selector's write on, the image's selector decides
turned_shows : (extent : Extent) (stage : Stage) (gated : List (List ℕ)) (head seen : List ℕ) (pending : ℕ → Bool) (image : List ℕ) → in_flight stage ≡ 0 → (selected_of image ≡ extent → ShowsBodies stage gated head image)
    → HasHead (other_of extent) head seen pending → IsImage seen pending image → (open_bodies image ≡ gated) ⊎ (open_bodies image ≡ head ∷ [])
turned_shows extent stage gated head seen pending image none has_gated has may =
    ⊎_elim (λ (same : selected_of image ≡ extent). inl (shows_gated_bodies stage gated head image none (has_gated same)))
    (λ (other : selected_of image ≡ other_of extent). inr (head_shows_bodies (other_of extent) head seen pending image has may other))
    (either_extent extent (selected_of image))

shows_in : (turn : Turn) (stage : Stage) (extent : Extent) (gated : List (List ℕ)) (head seen : List ℕ) (pending : ℕ → Bool) (image : List ℕ) → in_flight stage + turning turn ≤ 1 → (selected_of image ≡ extent → ShowsBodies stage gated head image)
    → Leads turn extent (other_of extent) head seen pending → IsImage seen pending image → ShowsBodiesIn turn stage gated head image
shows_in turn.Closed stage extent gated head seen pending image one has_gated leads may = has_gated (image_selects extent seen pending image leads may)
shows_in turn.Body stage extent gated head seen pending image one has_gated leads may = has_gated (image_selects extent seen pending image leads.0 may)
shows_in turn.BodySync stage extent gated head seen pending image one has_gated leads may = has_gated (image_selects extent seen pending image leads.0 may)
shows_in turn.Gate stage extent gated head seen pending image one has_gated leads may = has_gated (image_selects extent seen pending image leads.0 may)
shows_in turn.GateSync stage extent gated head seen pending image one has_gated leads may = has_gated (image_selects extent seen pending image leads.0 may)
shows_in turn.Selector stage extent gated head seen pending image one has_gated leads may = turned_shows extent stage gated head seen pending image (omega arith) has_gated leads may
shows_in turn.Done stage extent gated head seen pending image one has_gated leads may = turned_shows extent stage gated head seen pending image (omega arith) has_gated leads.0 may

-- of a device that a log is on, each image's bodies are the gated ones, with the one in flight or without; or what a turn leads to
pub image_shows_bodies : (log : Log) (seen : List ℕ) (pending : ℕ → Bool) (image : List ℕ) → On log seen pending → IsImage seen pending image → ShowsBodiesIn log.turn log.stage (gated_bodies log seen) log.flight image
image_shows_bodies log seen pending image on may =
    shows_in log.turn log.stage log.extent (gated_bodies log seen) log.flight seen pending image on.sound.one (λ selects. selected_shows_bodies log seen pending image on may selects) on.turn may

-- the same of a log that may turn: its first closed gate ends what is read
pub turn_shows_bodies : (log : Log) (seen : List ℕ) (pending : ℕ → Bool) (image : List ℕ) → MayTurn log seen pending → IsImage seen pending image → ShowsBodiesIn log.turn log.stage (gated_bodies log seen) log.flight image
turn_shows_bodies log seen pending image turns may =
    let P : Stage → Type 0 = λ stage. ShowsBodies stage (gated_bodies log seen) log.flight image in
    let few : log.gated ≤ PLACES = omega (arith, turns.sound.places, turns.sound.few) in
    shows_in log.turn log.stage log.extent (gated_bodies log seen) log.flight seen pending image turns.sound.one
    (λ selects. subst P (sym turns.idle) (run_log log.extent log.gated seen pending image few turns.run may selects)) turns.turn may

-- the same of their bytes
module _ (log : Log) (seen : List ℕ) (pending : ℕ → Bool) (image : List ℕ) where
  pub selected_shows : On log seen pending → IsImage seen pending image → selected_of image ≡ log.extent → Shows log.stage (gated_of log seen) log.flight image
  selected_shows on may selects =
      let P : List ℕ → Type 0 = λ gated. Shows log.stage gated log.flight image in
      subst P (joined_bodies seen log.extent log.gated) (shown_bytes log.stage (gated_bodies log seen) log.flight image (selected_shows_bodies log seen pending image on may selects))

  pub image_shows : On log seen pending → IsImage seen pending image → ShowsIn log.turn log.stage (gated_of log seen) log.flight image
  image_shows on may =
      let P : List ℕ → Type 0 = λ gated. ShowsIn log.turn log.stage gated log.flight image in
      subst P (joined_bodies seen log.extent log.gated) (shown_bytes_in log.turn log.stage (gated_bodies log seen) log.flight image (image_shows_bodies log seen pending image on may))

  pub turn_shows : MayTurn log seen pending → IsImage seen pending image → ShowsIn log.turn log.stage (gated_of log seen) log.flight image
  turn_shows turns may =
      let P : List ℕ → Type 0 = λ gated. ShowsIn log.turn log.stage gated log.flight image in
      subst P (joined_bodies seen log.extent log.gated) (shown_bytes_in log.turn log.stage (gated_bodies log seen) log.flight image (turn_shows_bodies log seen pending image turns may))

-- a log without a batch in flight shows what is gated
pub shows_gated : (stage : Stage) (gated flight image : List ℕ) → in_flight stage ≡ 0 → Shows stage gated flight image → log_of image ≡ gated
shows_gated Idle gated flight image none has = has
shows_gated Body gated flight image none has = has
shows_gated BodySync gated flight image none has = has
shows_gated Gate gated flight image none has = absurd (omega arith)
shows_gated GateSync gated flight image none has = absurd (omega arith)
