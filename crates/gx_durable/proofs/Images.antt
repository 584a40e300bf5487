-- Which bodies an image has, of a device that a log is on.
use Rattle.std.proofs.Common.{◌≡◌, ap, refl, ◌⊎◌, inl, inr, ℕ, ◌≤◌, List, [], ◌∷◌, ◌++◌, arith}
use Rattle.gx_glog.specs.declared.stage.Stage.{Stage}
use Rattle.gx_glog.specs.declared.stage.Stage.TheVariants.{Body, BodySync, Gate, GateSync, Idle}
use Rattle.gx_glog.specs.declared.stage.Turn.{Turn}
use Rattle.gx_glog.specs.declared.stage.Turn.TheVariants as turn
use Rattle.gx_glog.specs.State.{Log, in_flight, turning}
use Rattle.gx_glog.specs.Cuts.{open_bodies, gated_bodies, ShowsBodies, ShowsBodiesIn}

-- the gated bodies alone, or with the batch in flight
abbrev pub Batches : Stage → List (List ℕ) → List ℕ → List ℕ → Type 0
Batches stage gated flight image = (open_bodies image ≡ gated) ⊎ ((in_flight stage ≡ 1) × (open_bodies image ≡ gated ++ flight ∷ []))

-- or, while a turn is under way, the head alone
abbrev pub BodiesShown : Log → List ℕ → List ℕ → Type 0
BodiesShown log seen image = Batches log.stage (gated_bodies log seen) log.flight image ⊎ ((1 ≤ turning log.turn) × (open_bodies image ≡ log.flight ∷ []))

by_stage : (stage : Stage) (gated : List (List ℕ)) (flight image : List ℕ) → ShowsBodies stage gated flight image → Batches stage gated flight image
by_stage Idle gated flight image shown = inl shown
by_stage Body gated flight image shown = inl shown
by_stage BodySync gated flight image shown = inl shown
by_stage Gate gated flight image (inl is) = inl is
by_stage Gate gated flight image (inr is) = inr (refl, is)
by_stage GateSync gated flight image (inl is) = inl is
by_stage GateSync gated flight image (inr is) = inr (refl, is)

module _ (log : Log) (seen image : List ℕ) where
  by_turn : (t : Turn) → t ≡ log.turn → ShowsBodiesIn t log.stage (gated_bodies log seen) log.flight image → BodiesShown log seen image
  by_turn turn.Closed is shown = inl (by_stage log.stage (gated_bodies log seen) log.flight image shown)
  by_turn turn.Body is shown = inl (by_stage log.stage (gated_bodies log seen) log.flight image shown)
  by_turn turn.BodySync is shown = inl (by_stage log.stage (gated_bodies log seen) log.flight image shown)
  by_turn turn.Gate is shown = inl (by_stage log.stage (gated_bodies log seen) log.flight image shown)
  by_turn turn.GateSync is shown = inl (by_stage log.stage (gated_bodies log seen) log.flight image shown)
  by_turn turn.Selector is (inl gated) = inl (inl gated)
  by_turn turn.Selector is (inr head) = inr (let turns : turning turn.Selector ≡ turning log.turn = ap turning is in omega (arith, turns), head)
  by_turn turn.Done is (inl gated) = inl (inl gated)
  by_turn turn.Done is (inr head) = inr (let turns : turning turn.Done ≡ turning log.turn = ap turning is in omega (arith, turns), head)

  -- an image has the gated bodies, with what is in flight or without; or what a turn leads to
  pub bodies_shown : ShowsBodiesIn log.turn log.stage (gated_bodies log seen) log.flight image → BodiesShown log seen image
  bodies_shown shown = by_turn log.turn refl shown
