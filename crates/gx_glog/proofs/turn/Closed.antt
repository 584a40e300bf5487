-- What the write of an extent's closed gates comes to.
use Rattle.std.proofs.Common.{◌≡◌, subst, ℕ, ◌/◌, List, [], length, Result, Ok, Err, arith}
use Rattle.gx_geom.specs.declared.refusal.Refusal.{Refusal}
use Rattle.gx_disk.specs.Device.{Device, Writes}
use Rattle.gx_glog.specs.declared.extent.TheConstants.{PLACES}
use Rattle.gx_glog.specs.declared.extent.Extent.{Extent}
use Rattle.gx_glog.specs.declared.stage.Turn.TheVariants as turn
use Rattle.gx_glog.specs.Layout.{gates_of}
use Rattle.gx_glog.specs.Turning.{AreClosedGates, TurnCalls}

module _ {T E : Type 0} (to : Extent) (at : ℕ) (gates : List ℕ) (old new : Device) (closed : AreClosedGates gates) (place : at ≡ gates_of to) where
  -- it is one of all its gates
  all_gates : (result : Result T E) → Writes at (length gates / 512) gates old new result → Writes (gates_of to) PLACES gates old new result
  all_gates result writes =
      let count : length gates / 512 ≡ PLACES = omega (arith, closed.whole) in
      let F : ℕ → Type 0 = λ first. Writes {T = T} {E = E} first PLACES gates old new result in
      let N : ℕ → Type 0 = λ n. Writes {T = T} {E = E} at n gates old new result in
      subst F place (subst N count writes)

  pub gates_made : (x : T) → Writes {T = T} {E = E} at (length gates / 512) gates old new (Ok x) → TurnCalls turn.Closed to 0 [] old new (Ok turn.Closed)
  gates_made x writes =
      let all = all_gates (Ok x) writes in
      (gates, closed, record { touches = all.touches; written = all.written; torn = all.torn; pending = all.pending; time = all.time })

  pub gates_failed : (x : E) (why : Refusal) → Writes {T = T} {E = E} at (length gates / 512) gates old new (Err x) → TurnCalls turn.Closed to 0 [] old new (Err why)
  gates_failed x why writes =
      let all = all_gates (Err x) writes in
      (gates, closed, record { touches = all.touches; written = tt; torn = all.torn; pending = all.pending; time = all.time })
