-- A call that is run to its end, and one event.
use Rattle.std.specs.Prelude.{ℕ, ◌≡◌, ◌⊎◌, Bool, true, false, List}
use Rattle.gx_class.specs.Traits.{Traits}
use Rattle.gx_disk.specs.Device.{Device}
use Rattle.gx_geom.specs.declared.refusal.Refusal.TheVariants.{Damaged, Failed}
use Rattle.gx_machine.specs.declared.call.Call.{Call}
use Rattle.gx_machine.specs.declared.entry.Entry.{Entry}
use Rattle.gx_machine.specs.Keys.{Members}
use Rattle.gx_machine.specs.declared.reply.Reply.{Reply}
use Rattle.gx_machine.specs.declared.reply.Reply.TheVariants.{Refused}
use Rattle.gx_events.specs.declared.event.Event.{Event}
use Rattle.gx_events.specs.declared.event.Event.TheVariants.{Ask}
use Rattle.gx_events.specs.declared.outcome.Outcome.{Outcome}
use Rattle.gx_events.specs.declared.outcome.Outcome.TheVariants as outcome
use Rattle.gx_recovery.specs.Known.{Limits}
use Rattle.gx_recovery.specs.Records.{Record}
use Rattle.gx_index_laws.specs.Classes.{Page}
use Rattle.gx_index_laws.specs.States as index
use Rattle.gx_engine.specs.States.{Parts}
use Rattle.gx_engine.specs.Driven.{IsDriven, IsGivenUp}
use Rattle.gx_engine.specs.Helping.{HoldsIndex}
use Rattle.gx_restart.specs.States.{State}

module _ {B D : Type 0} (makes : Parts B D → Event B → Outcome B → Parts B D → Type 0) where
  -- by whether the bound was passed before
  abbrev pub CallsBy : Bool → State B D → ℕ → Call B → Reply B → State B D → Type 0
  CallsBy true old s call reply new = (reply ≡ Refused Failed) × (new ≡ old)
  CallsBy false old s call reply new =
      (IsDriven makes s (Ask s call) old.engine reply new.engine × (new.ended ≡ false))
      ⊎ (IsGivenUp makes s (Ask s call) old.engine new.engine × (reply ≡ Refused Damaged) × (new.ended ≡ true))

  -- A session's call of an index is given this reply: the call's; or Damaged, where it did not end within the bound; and from then
  -- on Failed, and nothing changes.
  abbrev pub CallsIndex : State B D → ℕ → Call B → Reply B → State B D → Type 0
  CallsIndex old s call reply new = CallsBy old.ended old s call reply new

  -- of one event, by the same
  abbrev pub StepsBy : Bool → State B D → Event B → Outcome B → State B D → Type 0
  StepsBy true old event given new = (given ≡ outcome.Refused Failed) × (new ≡ old)
  StepsBy false old event given new = makes old.engine event given new.engine × (new.ended ≡ false)

  -- An index makes an event with this outcome: the engine's; or it is refused with Failed once a call was given up, and nothing changes.
  abbrev pub StepsIndex : State B D → Event B → Outcome B → State B D → Type 0
  StepsIndex old event given new = StepsBy old.ended old event given new

-- where the engine holds an index of the class, no call is given up
module _ {B D : Type 0} (shape : Members B) (traits : Traits B) (state : D → Device) (l : Limits) where
  abbrev pub EndsWhereHeld : State B D → State B D → Type 0
  EndsWhereHeld old new = (bodies : List (List (Record (Entry B) (Page B)))) (i : index.State B) → HoldsIndex shape traits state l old.engine bodies i → new.ended ≡ old.ended
