-- What a settling does.
use Rattle.std.specs.Prelude.{◌≡◌, ◌⊎◌, Bool, true, false, Result, Ok, Err}
use Rattle.gx_geom.specs.declared.refusal.Refusal.{Refusal}
use Rattle.gx_geom.specs.declared.refusal.Refusal.TheVariants.{Failed}
use Rattle.gx_events.specs.declared.event.Event.{Event}
use Rattle.gx_events.specs.declared.event.Event.TheVariants.{CheckpointStep, LogStep}
use Rattle.gx_events.specs.declared.outcome.Outcome.{Outcome}
use Rattle.gx_engine.specs.States.{Parts}
use Rattle.gx_engine.specs.Repeated.{IsRepeated, last_of}
use Rattle.gx_restart.specs.States.{State}

module _ {B D : Type 0} (makes : Parts B D → Event B → Outcome B → Parts B D → Type 0) where
  -- an event was repeated until there was nothing to do, or it was refused; this is the result
  abbrev pub IsExhausted : Event B → Parts B D → Result (Unit {0}) Refusal → Parts B D → Type 0
  IsExhausted event old result new = IsRepeated makes event old (last_of result) new

  -- the checkpoint's steps, and then the log's
  abbrev pub SettlesOn : Parts B D → Result (Unit {0}) Refusal → Parts B D → Type 0
  SettlesOn old (Ok done) new = (middle : Parts B D) × IsExhausted CheckpointStep old (Ok done) middle × IsExhausted LogStep middle (Ok done) new
  SettlesOn old (Err why) new =
      IsExhausted CheckpointStep old (Err why) new ⊎ ((middle : Parts B D) × IsExhausted CheckpointStep old (Ok tt) middle × IsExhausted LogStep middle (Err why) new)

  -- by whether the bound on a call's events was passed before
  abbrev pub SettlesBy : Bool → State B D → Result (Unit {0}) Refusal → State B D → Type 0
  SettlesBy true old result new = (result ≡ Err Failed) × (new ≡ old)
  SettlesBy false old result new = SettlesOn old.engine result new.engine × (new.ended ≡ false)

  abbrev pub Settles : State B D → Result (Unit {0}) Refusal → State B D → Type 0
  Settles old result new = SettlesBy old.ended old result new
