-- Two events, each to its end.
use Rattle.std.proofs.Common.{inr}
use Rattle.std.specs.Prelude.{Result, Ok, Err}
use Rattle.gx_geom.specs.declared.refusal.Refusal.{Refusal}
use Rattle.gx_events.specs.declared.event.Event.{Event}
use Rattle.gx_events.specs.declared.event.Event.TheVariants.{CheckpointStep, LogStep}
use Rattle.gx_events.specs.declared.outcome.Outcome.{Outcome}
use Rattle.gx_engine.specs.States.{Parts}
use Rattle.gx_restart.specs.Settled.{IsExhausted, SettlesOn}

module _ {B D : Type 0} (makes : Parts B D → Event B → Outcome B → Parts B D → Type 0) where
  -- the checkpoint's steps to their end, and then the log's
  pub settles_then : (old middle : Parts B D) (done : Unit {0}) (result : Result (Unit {0}) Refusal) (new : Parts B D)
      → IsExhausted makes CheckpointStep old (Ok done) middle → IsExhausted makes LogStep middle result new → SettlesOn makes old result new
  settles_then old middle done (Ok last) new first second = (middle, first, second)
  settles_then old middle done (Err why) new first second = inr (middle, first, second)
