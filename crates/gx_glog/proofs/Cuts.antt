-- The bodies of a log one by one, and their bytes in a row.
use Rattle.std.proofs.Common.{◌≡◌, ◌∙◌, sym, ap, refl, ◌⊎◌, inl, inr, ℕ, zero, suc, List, [], ◌∷◌, ◌++◌, append-nil, append_assoc, Result, Ok, Err}
use Rattle.gx_geom.specs.declared.refusal.Refusal.{Refusal}
use Rattle.gx_glog.specs.declared.extent.TheConstants.{PLACES}
use Rattle.gx_glog.specs.declared.extent.Extent.{Extent}
use Rattle.gx_glog.specs.declared.stage.Stage.{Stage}
use Rattle.gx_glog.specs.declared.stage.Stage.TheVariants.{Body, BodySync, Gate, GateSync, Idle}
use Rattle.gx_glog.specs.declared.stage.Turn.{Turn}
use Rattle.gx_glog.specs.declared.stage.Turn.TheVariants as turn
use Rattle.gx_glog.specs.Layout.{selected_of, body_of, records_in, open_run, batches_of, log_of}
use Rattle.gx_glog.specs.Cuts.{bodies_in, open_bodies, joined, AreBodiesOf, ShowsBodies, ShowsBodiesIn, GatesBodies, SelectsBodies}
use Rattle.gx_glog.specs.Standing.{IsLogOf, Shows, ShowsIn}
use Rattle.gx_glog.specs.Steps.{Gates}
use Rattle.gx_glog.specs.Turning.{Selects}

-- one body more is its bytes more
pub joined_more : (bodies : List (List ℕ)) (body : List ℕ) → joined (bodies ++ (body ∷ [])) ≡ joined bodies ++ body
joined_more [] body = append-nil body
joined_more (first ∷ bodies) body = ap (λ (rest : List ℕ). first ++ rest) (joined_more bodies body) ∙ sym (append_assoc first (joined bodies) body)

-- the bytes of an extent's first bodies in a row
pub joined_bodies : (bytes : List ℕ) (extent : Extent) (n : ℕ) → joined (bodies_in bytes extent n) ≡ batches_of bytes extent n
unfolding bodies_in batches_of
joined_bodies bytes extent zero = refl
joined_bodies bytes extent (suc n) = joined_more (bodies_in bytes extent n) (records_in (body_of bytes extent n)) ∙ ap (λ (before : List ℕ). before ++ records_in (body_of bytes extent n)) (joined_bodies bytes extent n)

-- the log of an image is its bodies in a row
pub joined_log : (image : List ℕ) → joined (open_bodies image) ≡ log_of image
unfolding open_bodies log_of
joined_log image = joined_bodies image (selected_of image) (open_run image (selected_of image) 0 PLACES)

log_is_joined : (bodies : List (List ℕ)) (image : List ℕ) → open_bodies image ≡ bodies → log_of image ≡ joined bodies
log_is_joined bodies image is = sym (joined_log image) ∙ ap joined is

either_joined : (gated : List (List ℕ)) (flight image : List ℕ) → AreBodiesOf gated flight image → IsLogOf (joined gated) flight image
either_joined gated flight image (inl is) = inl (log_is_joined gated image is)
either_joined gated flight image (inr is) = inr (log_is_joined (gated ++ (flight ∷ [])) image is ∙ joined_more gated flight)

-- what bodies an image has says which bytes
pub shown_bytes : (stage : Stage) (gated : List (List ℕ)) (flight image : List ℕ) → ShowsBodies stage gated flight image → Shows stage (joined gated) flight image
shown_bytes Idle gated flight image is = log_is_joined gated image is
shown_bytes Body gated flight image is = log_is_joined gated image is
shown_bytes BodySync gated flight image is = log_is_joined gated image is
shown_bytes Gate gated flight image is = either_joined gated flight image is
shown_bytes GateSync gated flight image is = either_joined gated flight image is

or_head : (gated : List (List ℕ)) (head image : List ℕ) → (open_bodies image ≡ gated) ⊎ (open_bodies image ≡ head ∷ []) → (log_of image ≡ joined gated) ⊎ (log_of image ≡ head)
or_head gated head image (inl is) = inl (log_is_joined gated image is)
or_head gated head image (inr is) = inr (log_is_joined (head ∷ []) image is ∙ joined_more [] head)

pub shown_bytes_in : (t : Turn) (stage : Stage) (gated : List (List ℕ)) (flight image : List ℕ) → ShowsBodiesIn t stage gated flight image → ShowsIn t stage (joined gated) flight image
shown_bytes_in turn.Closed stage gated flight image is = shown_bytes stage gated flight image is
shown_bytes_in turn.Body stage gated flight image is = shown_bytes stage gated flight image is
shown_bytes_in turn.BodySync stage gated flight image is = shown_bytes stage gated flight image is
shown_bytes_in turn.Gate stage gated flight image is = shown_bytes stage gated flight image is
shown_bytes_in turn.GateSync stage gated flight image is = shown_bytes stage gated flight image is
shown_bytes_in turn.Selector stage gated flight image is = or_head gated flight image is
shown_bytes_in turn.Done stage gated flight image is = or_head gated flight image is

-- and which bodies are gated says which records
pub gates_bytes : (gated : List (List ℕ)) (flight : List ℕ) (new : List (List ℕ)) (result : Result Stage Refusal) → GatesBodies gated flight new result → Gates (joined gated) flight (joined new) result
gates_bytes gated flight new (Ok GateSync) is = ap joined is ∙ joined_more gated flight
gates_bytes gated flight new (Ok Body) is = ap joined is
gates_bytes gated flight new (Ok BodySync) is = ap joined is
gates_bytes gated flight new (Ok Gate) is = ap joined is
gates_bytes gated flight new (Ok Idle) is = ap joined is
gates_bytes gated flight new (Err refusal) is = ap joined is

pub selects_bytes : (gated : List (List ℕ)) (head : List ℕ) (new : List (List ℕ)) (result : Result Turn Refusal) → SelectsBodies gated head new result → Selects (joined gated) head (joined new) result
selects_bytes gated head new (Ok turn.Done) is = ap joined is ∙ joined_more [] head
selects_bytes gated head new (Ok turn.Closed) is = ap joined is
selects_bytes gated head new (Ok turn.Body) is = ap joined is
selects_bytes gated head new (Ok turn.BodySync) is = ap joined is
selects_bytes gated head new (Ok turn.Gate) is = ap joined is
selects_bytes gated head new (Ok turn.GateSync) is = ap joined is
selects_bytes gated head new (Ok turn.Selector) is = ap joined is
selects_bytes gated head new (Err refusal) is = ap joined is
